-- Dollar quotes: the machine counts the bytes of the mark.
use Rattle.std.proofs.Common.{◌≡◌, ℕ, ◌+◌, ◌<◌, ◌==◌, ◌&&◌, Bool, true, false, List, [], ◌∷◌, ◌++◌, length, nat_lt, if◌then◌else◌, Option, Some, None, refl, ap, ◌∙◌, sym, arith, append_assoc, append-nil}
use Rattle.std.proofs.lemmas.List.{get_or_append_left, length_push}
use Rattle.std.proofs.lemmas.Bool.Decides.{nat_tests}
use Rattle.sq_syntax.specs.Bytes.{class_of}
use Rattle.sq_syntax.specs.Classes.{IsDollar, IsMark, is_tag, begins_word, continues_tag, each}
use Rattle.sq_syntax.specs.declared.class.ByteClass.{ByteClass}
use Rattle.sq_syntax.specs.declared.class.ByteClass.TheVariants as class
use Rattle.sq_syntax.specs.declared.item.ItemKind.{ItemKind}
use Rattle.sq_syntax.specs.declared.item.ItemKind.TheVariants as kind
use Rattle.sq_lexer.specs.Machine.{step, accepts, run, dollar_sign, tag, matched_after, begin}
use Rattle.sq_lexer.specs.declared.machine.State.{State}
use Rattle.sq_lexer.specs.declared.machine.State.TheVariants as at
use Rattle.sq_lexer.proofs.QuoteMarks.{class_of_dollar, only_dollar}
use Rattle.sq_lexer.proofs.FirstMark.{counts_whole, first_mark}
use Rattle.sq_lexer.proofs.Runs.{verdict, dead_none, dead, and_left, and_right, begin_step}

whole_verdict : (test : Bool) → (if test then Some kind.Dollar else None) ≡ verdict kind.Dollar test
whole_verdict true = refl
whole_verdict false = refl

less : (m n : ℕ) → nat_lt m n ≡ true → m < n
less m n h = grind (arith, nat_tests)

-- behind a mark
pub dollar_verdict : (bytes mark extra : List ℕ) (matched : ℕ) (next : Option ByteClass)
    → accepts (run (mark ++ extra) (at.Dollar (length mark) matched) bytes) next ≡ verdict kind.Dollar (counts_whole mark matched bytes)
dollar_verdict [] mark extra matched next = whole_verdict (matched == length mark)
dollar_verdict (b ∷ bytes) mark extra matched next =
    ap (λ x. accepts (run x (step (mark ++ extra) (at.Dollar (length mark) matched) b) bytes) next) (append_assoc mark extra (b ∷ []))
    ∙ by_test (nat_lt matched (length mark)) refl (dollar_verdict bytes mark (extra ++ b ∷ []) (matched_after mark matched b) next)
  where
    by_test : (test : Bool) → nat_lt matched (length mark) ≡ test
        → accepts (run (mark ++ (extra ++ b ∷ [])) (at.Dollar (length mark) (matched_after mark matched b)) bytes) next ≡ verdict kind.Dollar (counts_whole mark (matched_after mark matched b) bytes)
        → accepts (run (mark ++ (extra ++ b ∷ [])) (if test then at.Dollar (length mark) (matched_after (mark ++ extra) matched b) else at.Dead) bytes) next
        ≡ verdict kind.Dollar (test && counts_whole mark (matched_after mark matched b) bytes)
    by_test true is more =
        ap (λ x. accepts (run (mark ++ (extra ++ b ∷ [])) (at.Dollar (length mark) (if b == x then matched + 1 else (if b == 36 then 1 else 0))) bytes) next)
        (get_or_append_left mark extra 0 matched (less matched (length mark) is)) ∙ more
    by_test false is more = dead_none bytes (mark ++ (extra ++ b ∷ [])) next

-- the mark has come whole
pub opened_verdict : (bytes mark : List ℕ) (next : Option ByteClass) → accepts (run mark (at.Dollar (length mark) 0) bytes) next ≡ verdict kind.Dollar (counts_whole mark 0 bytes)
opened_verdict bytes mark next = ap (λ x. accepts (run x (at.Dollar (length mark) 0) bytes) next) (sym (append-nil mark)) ∙ dollar_verdict bytes mark [] 0 next

tag_steps : (size : ℕ) (c : ByteClass) → continues_tag c ≡ true → tag size c ≡ at.Tag
tag_steps size class.Letter h = refl
tag_steps size class.LetterE h = refl
tag_steps size class.Zero h = refl
tag_steps size class.Digit h = refl
tag_steps size _ h = cc

sign_steps : (size : ℕ) (c : ByteClass) → begins_word c ≡ true → dollar_sign size c ≡ at.Tag
sign_steps size class.Letter h = refl
sign_steps size class.LetterE h = refl
sign_steps size _ h = cc

-- the closing dollar of the mark
mark_closed : (seen mark : List ℕ) (state : State) (inside : List ℕ) → mark ≡ seen ++ 36 ∷ [] → step seen state 36 ≡ at.Dollar (length seen + 1) 0
    → run seen state (36 ∷ inside) ≡ run mark (at.Dollar (length mark) 0) inside
mark_closed seen mark state inside is steps =
    ap (λ s. run (seen ++ 36 ∷ []) s inside) (steps ∙ ap (λ n. at.Dollar n 0) (sym (length_push seen 36))) ∙ ap (λ x. run x (at.Dollar (length x) 0) inside) (sym is)

tag_runs : (rest seen mark inside : List ℕ) → mark ≡ seen ++ (rest ++ 36 ∷ []) → each continues_tag rest ≡ true
    → run seen at.Tag (rest ++ 36 ∷ inside) ≡ run mark (at.Dollar (length mark) 0) inside
tag_runs [] seen mark inside is each = mark_closed seen mark at.Tag inside is (ap (tag (length seen + 1)) class_of_dollar)
tag_runs (b ∷ rest) seen mark inside is each =
    ap (λ s. run (seen ++ b ∷ []) s (rest ++ 36 ∷ inside)) (tag_steps (length seen + 1) (class_of b) (and_left _ _ each))
    ∙ tag_runs rest (seen ++ b ∷ []) mark inside (is ∙ sym (append_assoc seen (b ∷ []) (rest ++ 36 ∷ []))) (and_right _ _ each)

mark_runs : (rest mark inside : List ℕ) → mark ≡ 36 ∷ (rest ++ 36 ∷ []) → is_tag rest ≡ true
    → run (36 ∷ []) at.DollarSign (rest ++ 36 ∷ inside) ≡ run mark (at.Dollar (length mark) 0) inside
mark_runs [] mark inside is each = mark_closed (36 ∷ []) mark at.DollarSign inside is (ap (dollar_sign 2) class_of_dollar)
mark_runs (b ∷ rest) mark inside is each =
    ap (λ s. run (36 ∷ b ∷ []) s (rest ++ 36 ∷ inside)) (sign_steps 2 (class_of b) (and_left _ _ each))
    ∙ tag_runs rest (36 ∷ b ∷ []) mark inside is (and_right _ _ each)

pub dollar_accepted : (first : Bool) (next : Option ByteClass) (bytes : List ℕ) → IsDollar bytes → accepts (run [] (begin first) bytes) next ≡ Some kind.Dollar
dollar_accepted first next bytes is =
    let mark = is.0 in
    let inside = is.1 in
    let tagged = is.2.0 in
    ap (λ x. accepts (run [] (begin first) x) next) (is.3 ∙ ap (λ m. m ++ inside) is.2.1 ∙ ap (λ x. 36 ∷ x) (append_assoc tagged (36 ∷ []) inside))
    ∙ ap (λ s. accepts (run (36 ∷ []) s (tagged ++ 36 ∷ inside)) next) (begin_step first 36 class.Dollar class_of_dollar refl)
    ∙ ap (λ s. accepts s next) (mark_runs tagged mark inside is.2.1 is.2.2)
    ∙ opened_verdict inside mark next ∙ ap (verdict kind.Dollar) (first_mark mark inside is.2 ∙ is.4)

-- a tag's byte, its closing dollar, or another byte
pub data TagByte (c : ByteClass) : Type 0 where
  closing : c ≡ class.Dollar → TagByte c
  more : continues_tag c ≡ true → TagByte c
  other : ((size : ℕ) → tag size c ≡ at.Dead) → TagByte c

tag_byte : (c : ByteClass) → TagByte c
tag_byte class.Dollar = closing refl
tag_byte class.Letter = more refl
tag_byte class.LetterE = more refl
tag_byte class.Zero = more refl
tag_byte class.Digit = more refl
tag_byte _ = other (λ size. refl)

-- the rest of a tag, and what stands behind the mark
pub record Tagged (seen bytes : List ℕ) (k : ItemKind) : Type 0 where
  pub rest : List ℕ
  pub inside : List ℕ
  pub whole : bytes ≡ rest ++ 36 ∷ inside
  pub each : each continues_tag rest ≡ true
  pub is_dollar : k ≡ kind.Dollar
  pub ends : counts_whole (seen ++ (rest ++ 36 ∷ [])) 0 inside ≡ true

verdict_true : (test : Bool) (k : ItemKind) → verdict kind.Dollar test ≡ Some k → (k ≡ kind.Dollar) × (test ≡ true)
verdict_true true k h = (cc, refl)
verdict_true false k h = cc

closed_tag : (b : ℕ) (bytes seen : List ℕ) (state : State) (next : Option ByteClass) (k : ItemKind) → class_of b ≡ class.Dollar → step seen state b ≡ at.Dollar (length seen + 1) 0
    → accepts (run seen state (b ∷ bytes)) next ≡ Some k → Tagged seen (b ∷ bytes) k
closed_tag b bytes seen state next k is steps h =
    let dollar : b ≡ 36 = only_dollar b is in
    let state_is : step seen state b ≡ at.Dollar (length (seen ++ b ∷ [])) 0 = steps ∙ ap (λ n. at.Dollar n 0) (sym (length_push seen b)) in
    let r = verdict_true (counts_whole (seen ++ b ∷ []) 0 bytes) k
    (sym (opened_verdict bytes (seen ++ b ∷ []) next) ∙ ap (λ s. accepts (run (seen ++ b ∷ []) s bytes) next) (sym state_is) ∙ h) in
    record {
      rest = [];
      inside = bytes;
      whole = ap (λ x. x ∷ bytes) dollar;
      each = refl;
      is_dollar = r.0;
      ends = ap (λ x. counts_whole (seen ++ x ∷ []) 0 bytes) (sym dollar) ∙ r.1;
    }

longer_tag : (b : ℕ) (bytes seen : List ℕ) (k : ItemKind) → continues_tag (class_of b) ≡ true → Tagged (seen ++ b ∷ []) bytes k → Tagged seen (b ∷ bytes) k
longer_tag b bytes seen k is t = record {
  rest = b ∷ t.rest;
  inside = t.inside;
  whole = ap (λ x. b ∷ x) t.whole;
  each = ap (λ x. x && each continues_tag t.rest) is ∙ t.each;
  is_dollar = t.is_dollar;
  ends = ap (λ x. counts_whole x 0 t.inside) (sym (append_assoc seen (b ∷ []) (t.rest ++ 36 ∷ []))) ∙ t.ends;
}

pub from_tag : (bytes seen : List ℕ) (next : Option ByteClass) (k : ItemKind) → accepts (run seen at.Tag bytes) next ≡ Some k → Tagged seen bytes k
from_tag [] seen next k h = cc
from_tag (b ∷ bytes) seen next k h = by_byte (tag_byte (class_of b)) (from_tag bytes (seen ++ b ∷ []) next k)
  where
    by_byte : TagByte (class_of b) → (accepts (run (seen ++ b ∷ []) at.Tag bytes) next ≡ Some k → Tagged (seen ++ b ∷ []) bytes k) → Tagged seen (b ∷ bytes) k
    by_byte (closing is) later = closed_tag b bytes seen at.Tag next k is (ap (tag (length seen + 1)) is) h
    by_byte (more is) later =
        longer_tag b bytes seen k is (later (ap (λ s. accepts (run (seen ++ b ∷ []) s bytes) next) (sym (tag_steps (length seen + 1) (class_of b) is)) ∙ h))
    by_byte (other is) later =
        absurd (dead bytes (seen ++ b ∷ []) next k (ap (λ s. accepts (run (seen ++ b ∷ []) s bytes) next) (sym (is (length seen + 1))) ∙ h))

-- a dollar, and what completes a dollar quote
pub is_dollar_quote : (b : ℕ) (bytes : List ℕ) (k : ItemKind) → class_of b ≡ class.Dollar → (t : Tagged (b ∷ []) bytes k) → is_tag t.rest ≡ true → IsDollar (b ∷ bytes)
is_dollar_quote b bytes k is t tagged =
    let dollar : b ≡ 36 = only_dollar b is in
    let mark = 36 ∷ (t.rest ++ 36 ∷ []) in
    let is_mark : IsMark mark = (t.rest, refl, tagged) in (
      mark,
      t.inside,
      is_mark,
      ap (λ x. x ∷ bytes) dollar ∙ ap (λ x. 36 ∷ x) (t.whole ∙ sym (append_assoc t.rest (36 ∷ []) t.inside)),
      sym (first_mark mark t.inside is_mark) ∙ ap (λ x. counts_whole (x ∷ (t.rest ++ 36 ∷ [])) 0 t.inside) (sym dollar) ∙ t.ends,
    )

pub empty_tag : (b d : ℕ) (bytes : List ℕ) (next : Option ByteClass) (k : ItemKind) → class_of b ≡ class.Dollar → class_of d ≡ class.Dollar
    → accepts (run (b ∷ []) at.DollarSign (d ∷ bytes)) next ≡ Some k → (k ≡ kind.Dollar) × IsDollar (b ∷ d ∷ bytes)
unfolding closed_tag
empty_tag b d bytes next k is closes h =
    let t = closed_tag d bytes (b ∷ []) at.DollarSign next k closes (ap (dollar_sign 2) closes) h in
    (t.is_dollar, is_dollar_quote b (d ∷ bytes) k is t refl)

pub word_tag : (b d : ℕ) (bytes : List ℕ) (next : Option ByteClass) (k : ItemKind) → class_of b ≡ class.Dollar → begins_word (class_of d) ≡ true → continues_tag (class_of d) ≡ true
    → accepts (run (b ∷ d ∷ []) at.Tag bytes) next ≡ Some k → (k ≡ kind.Dollar) × IsDollar (b ∷ d ∷ bytes)
unfolding longer_tag
word_tag b d bytes next k is begins goes_on h =
    let inner = from_tag bytes (b ∷ d ∷ []) next k h in
    let t = longer_tag d bytes (b ∷ []) k goes_on inner in
    (inner.is_dollar, is_dollar_quote b (d ∷ bytes) k is t (ap (λ x. x && each continues_tag inner.rest) begins ∙ inner.each))
