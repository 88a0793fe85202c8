-- Runs of the machine over bytes of one class.
use Rattle.std.proofs.Common.{◌≡◌, ◌≢◌, ℕ, ◌&&◌, not, Bool, true, false, if◌then◌else◌, List, [], ◌∷◌, ◌++◌, Option, Some, None, refl, ap, ◌∙◌, sym, append_assoc, append-nil}
use Rattle.sq_syntax.specs.Bytes.{class_of}
use Rattle.sq_syntax.specs.Classes.{each, is_digit}
use Rattle.sq_syntax.specs.declared.class.ByteClass.{ByteClass}
use Rattle.sq_syntax.specs.declared.item.ItemKind.{ItemKind}
use Rattle.sq_lexer.specs.Machine.{step, accepts, run, start, line_start, begin}
use Rattle.sq_lexer.specs.declared.machine.State.{State}
use Rattle.sq_lexer.specs.declared.machine.State.TheVariants as at

abbrev pub verdict : ItemKind → Bool → Option ItemKind
verdict k true = Some k
verdict k false = None

pub run-dead : (bytes seen : List ℕ) → run seen at.Dead bytes ≡ at.Dead
run-dead [] seen = refl
run-dead (b ∷ bytes) seen = run-dead bytes (seen ++ b ∷ [])

pub dead_none : (bytes seen : List ℕ) (next : Option ByteClass) → accepts (run seen at.Dead bytes) next ≡ None
dead_none bytes seen next = ap (λ s. accepts s next) (run-dead bytes seen)

pub dead : (bytes seen : List ℕ) (next : Option ByteClass) (k : ItemKind) → accepts (run seen at.Dead bytes) next ≡ Some k → ⊥
dead bytes seen next k h = let clash : None ≡ Some k = sym (dead_none bytes seen next) ∙ h in cc

pub and_left : (a b : Bool) → (a && b) ≡ true → a ≡ true
and_left true b h = refl
and_left false b h = cc

pub and_right : (a b : Bool) → (a && b) ≡ true → b ≡ true
and_right true b h = h
and_right false b h = cc

pub not_true : (a : Bool) → not a ≡ true → a ≡ false
not_true true h = cc
not_true false h = refl

-- the state goes on while the bytes pass the test
pub span : (state : State) (test : ByteClass → Bool) → ((seen : List ℕ) (b : ℕ) → step seen state b ≡ (if test (class_of b) then state else at.Dead))
    → (bytes seen : List ℕ) (next : Option ByteClass) → accepts (run seen state bytes) next ≡ (if each test bytes then accepts state next else None)
span state test same [] seen next = refl
span state test same (b ∷ bytes) seen next =
    ap (λ s. accepts (run (seen ++ b ∷ []) s bytes) next) (same seen b) ∙ by_test (test (class_of b)) (span state test same bytes (seen ++ b ∷ []) next)
  where
    by_test : (t : Bool) → accepts (run (seen ++ b ∷ []) state bytes) next ≡ (if each test bytes then accepts state next else None)
        → accepts (run (seen ++ b ∷ []) (if t then state else at.Dead) bytes) next ≡ (if t && each test bytes then accepts state next else None)
    by_test true more = more
    by_test false more = dead_none bytes (seen ++ b ∷ []) next

-- the same, from another state
pub span_from : (state later : State) (test : ByteClass → Bool) → ((seen : List ℕ) (b : ℕ) → step seen state b ≡ (if test (class_of b) then later else at.Dead))
    → ((seen : List ℕ) (b : ℕ) → step seen later b ≡ (if test (class_of b) then later else at.Dead))
    → (b : ℕ) (bytes seen : List ℕ) (next : Option ByteClass) → accepts (run seen state (b ∷ bytes)) next ≡ (if each test (b ∷ bytes) then accepts later next else None)
span_from state later test first same b bytes seen next =
    ap (λ s. accepts (run (seen ++ b ∷ []) s bytes) next) (first seen b ∙ sym (same seen b)) ∙ span later test same (b ∷ bytes) seen next

pub said : (test : Bool) (x : Option ItemKind) (k : ItemKind) → (if test then x else None) ≡ Some k → (test ≡ true) × (x ≡ Some k)
said true x k h = (refl, h)
said false x k h = cc

pub said_one : (test : Bool) (one k : ItemKind) → (if test then Some one else None) ≡ Some k → (test ≡ true) × (k ≡ one)
said_one true one k h = (refl, cc)
said_one false one k h = cc

-- digits, at which the state stays
pub stays : (state : State) → ((seen : List ℕ) (b : ℕ) → is_digit (class_of b) ≡ true → step seen state b ≡ state)
    → (bytes rest seen : List ℕ) → each is_digit bytes ≡ true → run seen state (bytes ++ rest) ≡ run (seen ++ bytes) state rest
stays state same [] rest seen each = ap (λ x. run x state rest) (sym (append-nil seen))
stays state same (b ∷ bytes) rest seen each =
    ap (λ s. run (seen ++ b ∷ []) s (bytes ++ rest)) (same seen b (and_left _ _ each)) ∙ stays state same bytes rest (seen ++ b ∷ []) (and_right _ _ each)
    ∙ ap (λ x. run x state rest) (append_assoc seen (b ∷ []) bytes)

-- one or more of them
pub enters : (state later : State) → ((seen : List ℕ) (b : ℕ) → is_digit (class_of b) ≡ true → step seen state b ≡ later)
    → ((seen : List ℕ) (b : ℕ) → is_digit (class_of b) ≡ true → step seen later b ≡ later)
    → (bytes rest seen : List ℕ) → bytes ≢ [] → each is_digit bytes ≡ true → run seen state (bytes ++ rest) ≡ run (seen ++ bytes) later rest
enters state later first same [] rest seen some each = absurd (some refl)
enters state later first same (b ∷ bytes) rest seen some each =
    ap (λ s. run (seen ++ b ∷ []) s (bytes ++ rest)) (first seen b (and_left _ _ each)) ∙ stays later same bytes rest (seen ++ b ∷ []) (and_right _ _ each)
    ∙ ap (λ x. run x later rest) (append_assoc seen (b ∷ []) bytes)

-- the first byte
pub begin_step : (first : Bool) (b : ℕ) (c : ByteClass) → class_of b ≡ c → line_start c ≡ start c → step [] (begin first) b ≡ start c
begin_step true b c is same = ap line_start is ∙ same
begin_step false b c is same = ap start is
