-- What the machine accepts is an item.
use Rattle.std.proofs.Common.{◌≡◌, ◌≢◌, ℕ, ◌==◌, ◌&&◌, Bool, true, false, List, [], ◌∷◌, ◌++◌, if◌then◌else◌, Option, Some, None, refl, ap, ◌∙◌, sym, subst, eqb-true, eq-eqb, append_assoc, ◌⊎◌, inl, inr}
use Rattle.std.specs.List.{flat_map}
use Rattle.sq_syntax.specs.Bytes.{class_of}
use Rattle.sq_syntax.specs.Classes.{next_class, each, IsQuoted, doubled, IsNumber, IsExponent, IsDigits, is_operator, begins_word, continues_word, continues_tag, is_digit, in_operator, is_special, is_blank, is_no_newline, is_sign, is_lone_punct, is_lone_e, begins_escape, breaks_off, closes, closes_escaped}
use Rattle.sq_syntax.specs.Classes.IsExponent.{absent, unsigned, signed}
use Rattle.sq_syntax.specs.Classes.IsNumber.{integer, decimal}
use Rattle.sq_syntax.specs.Items.{IsItem}
use Rattle.sq_syntax.specs.declared.class.ByteClass.{ByteClass}
use Rattle.sq_syntax.specs.declared.class.ByteClass.TheVariants as class
use Rattle.sq_syntax.specs.declared.item.ItemKind.{ItemKind}
use Rattle.sq_syntax.specs.declared.item.ItemKind.TheVariants as kind
use Rattle.sq_lexer.specs.Machine.{accepts, run, start, line_start, begin, after_whole, after_fraction, point, letter_e, word, opened, operator, unless_double, unless_single, colon, dollar_sign}
use Rattle.sq_lexer.specs.declared.machine.State.{State}
use Rattle.sq_lexer.specs.declared.machine.State.TheVariants as at
use Rattle.sq_lexer.proofs.Complete.{Quoting, double_quoting, single_quoting, word_goes_on}
use Rattle.sq_lexer.proofs.Runs.{verdict, dead, span, said, said_one, and_left, and_right}
use Rattle.sq_lexer.proofs.Verdicts.{only_verdict, first_verdict, comment_verdict, escaped_verdict}
use Rattle.sq_lexer.proofs.Dollars.{empty_tag, word_tag}

-- numbers, from the end
from_exponent : (bytes seen : List ℕ) (next : Option ByteClass) (k : ItemKind) → accepts (run seen at.Exponent bytes) next ≡ Some k → (each is_digit bytes ≡ true) × (k ≡ kind.Number)
from_exponent bytes seen next k h = said_one (each is_digit bytes) kind.Number k (sym (span at.Exponent is_digit (λ s b. refl) bytes seen next) ∙ h)

one_digit : (b : ℕ) (bytes : List ℕ) → is_digit (class_of b) ≡ true → each is_digit bytes ≡ true → IsDigits (b ∷ bytes)
one_digit b bytes one more = (λ none. cc, ap (λ t. t && each is_digit bytes) one ∙ more)

from_exponent_sign : (bytes seen : List ℕ) (next : Option ByteClass) (k : ItemKind) → accepts (run seen at.ExponentSign bytes) next ≡ Some k → IsDigits bytes × (k ≡ kind.Number)
from_exponent_sign [] seen next k h = cc
from_exponent_sign (b ∷ bytes) seen next k h = by_test (is_digit (class_of b)) refl h
  where
    by_test : (test : Bool) → is_digit (class_of b) ≡ test → accepts (run (seen ++ b ∷ []) (if test then at.Exponent else at.Dead) bytes) next ≡ Some k → IsDigits (b ∷ bytes) × (k ≡ kind.Number)
    by_test true is h = let r = from_exponent bytes (seen ++ b ∷ []) next k h in (one_digit b bytes is r.0, r.1)
    by_test false is h = absurd (dead bytes (seen ++ b ∷ []) next k h)

from_exponent_mark : (bytes seen : List ℕ) (next : Option ByteClass) (k : ItemKind) → accepts (run seen at.ExponentMark bytes) next ≡ Some k
    → ((mark : ℕ) → class_of mark ≡ class.LetterE → IsExponent (mark ∷ bytes)) × (k ≡ kind.Number)
from_exponent_mark [] seen next k h = cc
from_exponent_mark (b ∷ bytes) seen next k h = by_test (is_digit (class_of b)) (is_sign (class_of b)) refl refl h
  where
    by_test : (test other : Bool) → is_digit (class_of b) ≡ test → is_sign (class_of b) ≡ other
        → accepts (run (seen ++ b ∷ []) (if test then at.Exponent else (if other then at.ExponentSign else at.Dead)) bytes) next ≡ Some k
        → ((mark : ℕ) → class_of mark ≡ class.LetterE → IsExponent (mark ∷ b ∷ bytes)) × (k ≡ kind.Number)
    by_test true other is signs h =
        let r = from_exponent bytes (seen ++ b ∷ []) next k h in (λ mark letter. unsigned mark (b ∷ bytes) letter (one_digit b bytes is r.0), r.1)
    by_test false true is signs h =
        let r = from_exponent_sign bytes (seen ++ b ∷ []) next k h in (λ mark letter. signed mark b bytes letter signs r.0, r.1)
    by_test false false is signs h = absurd (dead bytes (seen ++ b ∷ []) next k h)

-- more digits, and then an exponent
pub record Fraction (bytes : List ℕ) : Type 0 where
  pub digits : List ℕ
  pub exponent : List ℕ
  pub is : bytes ≡ digits ++ exponent
  pub all : each is_digit digits ≡ true
  pub after : IsExponent exponent

one_more : (b : ℕ) (bytes : List ℕ) → is_digit (class_of b) ≡ true → Fraction bytes → Fraction (b ∷ bytes)
one_more b bytes is f = record { digits = b ∷ f.digits; exponent = f.exponent; is = ap (λ x. b ∷ x) f.is; all = ap (λ t. t && each is_digit f.digits) is ∙ f.all; after = f.after }

from_fraction : (bytes seen : List ℕ) (next : Option ByteClass) (k : ItemKind) → accepts (run seen at.Fraction bytes) next ≡ Some k → Fraction bytes × (k ≡ kind.Number)
from_fraction [] seen next k h = (record { digits = []; exponent = []; is = refl; all = refl; after = absent }, cc)
from_fraction (b ∷ bytes) seen next k h = by_test (is_digit (class_of b)) refl h (from_fraction bytes (seen ++ b ∷ []) next k)
  where
    at_class : (c : ByteClass) → class_of b ≡ c → accepts (run (seen ++ b ∷ []) (after_fraction c) bytes) next ≡ Some k → Fraction (b ∷ bytes) × (k ≡ kind.Number)
    at_class class.LetterE is h =
        let r = from_exponent_mark bytes (seen ++ b ∷ []) next k h in (record { digits = []; exponent = b ∷ bytes; is = refl; all = refl; after = r.0 b is }, r.1)
    at_class _ is h = absurd (dead bytes (seen ++ b ∷ []) next k h)

    by_test : (test : Bool) → is_digit (class_of b) ≡ test → accepts (run (seen ++ b ∷ []) (if test then at.Fraction else after_fraction (class_of b)) bytes) next ≡ Some k
        → (accepts (run (seen ++ b ∷ []) at.Fraction bytes) next ≡ Some k → Fraction bytes × (k ≡ kind.Number)) → Fraction (b ∷ bytes) × (k ≡ kind.Number)
    by_test true is h more = let r = more h in (one_more b bytes is r.0, r.1)
    by_test false is h more = at_class (class_of b) refl h

-- what may stand behind a point
pub record AfterPoint (bytes : List ℕ) : Type 0 where
  pub part : List ℕ
  pub exponent : List ℕ
  pub is : bytes ≡ part ++ exponent
  pub digits : IsDigits part
  pub after : IsExponent exponent

from_point : (b : ℕ) (bytes seen : List ℕ) (next : Option ByteClass) (k : ItemKind) → accepts (run (seen ++ b ∷ []) (point (class_of b)) bytes) next ≡ Some k → AfterPoint (b ∷ bytes) × (k ≡ kind.Number)
from_point b bytes seen next k h = by_test (is_digit (class_of b)) refl h
  where
    by_test : (test : Bool) → is_digit (class_of b) ≡ test → accepts (run (seen ++ b ∷ []) (if test then at.Fraction else at.Dead) bytes) next ≡ Some k → AfterPoint (b ∷ bytes) × (k ≡ kind.Number)
    by_test true is h =
        let r = from_fraction bytes (seen ++ b ∷ []) next k h in
        (record { part = b ∷ r.0.digits; exponent = r.0.exponent; is = ap (λ x. b ∷ x) r.0.is; digits = one_digit b r.0.digits is r.0.all; after = r.0.after }, r.1)
    by_test false is h = absurd (dead bytes (seen ++ b ∷ []) next k h)

from_whole_point : (bytes seen : List ℕ) (next : Option ByteClass) (k : ItemKind) → accepts (run seen at.WholePoint bytes) next ≡ Some k → AfterPoint bytes × (k ≡ kind.Number)
from_whole_point [] seen next k h = cc
from_whole_point (b ∷ bytes) seen next k h = from_point b bytes seen next k h

-- what stands behind the digits so far completes a number
pub Completes : List ℕ → Type 0
Completes bytes = (digits : List ℕ) → IsDigits digits → IsNumber (digits ++ bytes)

completes_more : (b : ℕ) (bytes : List ℕ) → is_digit (class_of b) ≡ true → Completes bytes → Completes (b ∷ bytes)
unfolding Completes
completes_more b bytes is more digits front =
    subst IsNumber (append_assoc digits (b ∷ []) bytes) (more (digits ++ b ∷ []) (λ none. no_end digits b none, pushed digits b front.1 is))
  where
    no_end : (xs : List ℕ) (y : ℕ) → xs ++ y ∷ [] ≡ [] → ⊥
    no_end [] y e = cc
    no_end (x ∷ xs) y e = cc

    pushed : (xs : List ℕ) (y : ℕ) → each is_digit xs ≡ true → is_digit (class_of y) ≡ true → each is_digit (xs ++ y ∷ []) ≡ true
    pushed [] y all is = ap (λ t. t && true) is
    pushed (x ∷ xs) y all is = ap (λ t. t && each is_digit (xs ++ y ∷ [])) (and_left _ _ all) ∙ pushed xs y (and_right (is_digit (class_of x)) _ all) is

from_whole : (bytes seen : List ℕ) (next : Option ByteClass) (k : ItemKind) → accepts (run seen at.Whole bytes) next ≡ Some k → Completes bytes × (k ≡ kind.Number)
unfolding Completes
from_whole [] seen next k h = (λ digits is. integer digits [] is absent, cc)
from_whole (b ∷ bytes) seen next k h = by_test (is_digit (class_of b)) refl h (from_whole bytes (seen ++ b ∷ []) next k)
  where
    at_class : (c : ByteClass) → class_of b ≡ c → accepts (run (seen ++ b ∷ []) (after_whole c) bytes) next ≡ Some k → Completes (b ∷ bytes) × (k ≡ kind.Number)
    at_class class.Point is h =
        let r = from_whole_point bytes (seen ++ b ∷ []) next k h in
        (λ digits front. subst (λ x. IsNumber (digits ++ b ∷ x)) (sym r.0.is) (decimal digits b r.0.part r.0.exponent front.1 is r.0.digits r.0.after), r.1)
    at_class class.LetterE is h =
        let r = from_exponent_mark bytes (seen ++ b ∷ []) next k h in (λ digits front. integer digits (b ∷ bytes) front (r.0 b is), r.1)
    at_class _ is h = absurd (dead bytes (seen ++ b ∷ []) next k h)

    by_test : (test : Bool) → is_digit (class_of b) ≡ test → accepts (run (seen ++ b ∷ []) (if test then at.Whole else after_whole (class_of b)) bytes) next ≡ Some k
        → (accepts (run (seen ++ b ∷ []) at.Whole bytes) next ≡ Some k → Completes bytes × (k ≡ kind.Number)) → Completes (b ∷ bytes) × (k ≡ kind.Number)
    by_test true is h more = let r = more h in (completes_more b bytes is r.0, r.1)
    by_test false is h more = at_class (class_of b) refl h

whole_number : (b : ℕ) (bytes : List ℕ) → is_digit (class_of b) ≡ true → Completes bytes → IsNumber (b ∷ bytes)
unfolding Completes
whole_number b bytes is more = more (b ∷ []) (one_digit b [] is refl)

-- quoted forms
module _ (mark : ℕ) (c : ByteClass) (inside after : State) (q : Quoting mark c inside after) where
  pub Closed : List ℕ → Type 0
  Closed bytes = (name : List ℕ) × (bytes ≡ flat_map (doubled mark) name ++ mark ∷ [])

  closed_mark : (b : ℕ) → b ≡ mark → Closed (b ∷ [])
  unfolding Closed
  closed_mark b is = ([], ap (λ x. x ∷ []) is)

  two_same : (name : List ℕ) (test : Bool) → (mark == mark) ≡ test → mark ∷ mark ∷ (flat_map (doubled mark) name ++ mark ∷ []) ≡ ((if test then mark ∷ mark ∷ [] else mark ∷ []) ++ flat_map (doubled mark) name) ++ mark ∷ []
  two_same name true e = refl
  two_same name false e = let same : (mark == mark) ≡ true = eq-eqb mark mark refl in cc

  closed_double : (b d : ℕ) (bytes : List ℕ) → b ≡ mark → d ≡ mark → Closed bytes → Closed (b ∷ d ∷ bytes)
  unfolding Closed
  closed_double b d bytes is_mark is_too closed =
      (mark ∷ closed.0, ap (λ x. x ∷ d ∷ bytes) is_mark ∙ ap (λ x. mark ∷ x ∷ bytes) is_too ∙ ap (λ x. mark ∷ mark ∷ x) closed.1 ∙ two_same closed.0 (mark == mark) refl)

  one_same : (b : ℕ) (name : List ℕ) (test : Bool) → test ≡ false → b ∷ (flat_map (doubled mark) name ++ mark ∷ []) ≡ ((if test then b ∷ b ∷ [] else b ∷ []) ++ flat_map (doubled mark) name) ++ mark ∷ []
  one_same b name true e = cc
  one_same b name false e = refl

  closed_other : (b : ℕ) (bytes : List ℕ) → (b == mark) ≡ false → Closed bytes → Closed (b ∷ bytes)
  unfolding Closed
  closed_other b bytes apart closed = (b ∷ closed.0, ap (λ x. b ∷ x) closed.1 ∙ one_same b closed.0 (b == mark) apart)

  step_mark : (b : ℕ) → (b == mark) ≡ true → class_of b ≡ c
  step_mark b same = ap class_of (eqb-true b mark same) ∙ q.named

  apart_class : (b : ℕ) → (b == mark) ≡ false → class_of b ≡ c → ⊥
  apart_class b apart is = let clash : false ≡ true = sym apart ∙ eq-eqb b mark (q.only b is) in cc

  from_inside : (next : Option ByteClass) (k : ItemKind) (refuses : accepts inside next ≡ None) (bytes seen : List ℕ)
      → accepts (run seen inside bytes) next ≡ Some k → Closed bytes × (accepts after next ≡ Some k)
  from_inside next k refuses [] seen h = let clash : None ≡ Some k = sym refuses ∙ h in cc
  from_inside next k refuses (b ∷ []) seen h = by_test (b == mark) refl
    where
      by_test : (test : Bool) → (b == mark) ≡ test → Closed (b ∷ []) × (accepts after next ≡ Some k)
      by_test true same = (closed_mark b (eqb-true b mark same), ap (λ s. accepts s next) (sym (q.closes seen b (step_mark b same))) ∙ h)
      by_test false apart = let clash : None ≡ Some k = sym refuses ∙ ap (λ s. accepts s next) (sym (q.keeps seen b (apart_class b apart))) ∙ h in cc
  from_inside next k refuses (b ∷ d ∷ bytes) seen h =
      by_test (b == mark) refl (from_inside next k refuses (d ∷ bytes) (seen ++ b ∷ [])) (from_inside next k refuses bytes ((seen ++ b ∷ []) ++ d ∷ []))
    where
      by_next : (test : Bool) → (d == mark) ≡ test → b ≡ mark → accepts (run (seen ++ b ∷ []) after (d ∷ bytes)) next ≡ Some k
          → (accepts (run ((seen ++ b ∷ []) ++ d ∷ []) inside bytes) next ≡ Some k → Closed bytes × (accepts after next ≡ Some k)) → Closed (b ∷ d ∷ bytes) × (accepts after next ≡ Some k)
      by_next true same is_mark g more =
          let r = more (ap (λ s. accepts (run ((seen ++ b ∷ []) ++ d ∷ []) s bytes) next) (sym (q.doubles (seen ++ b ∷ []) d (step_mark d same))) ∙ g) in
          (closed_double b d bytes is_mark (eqb-true d mark same) r.0, r.1)
      by_next false apart is_mark g more =
          absurd (dead bytes ((seen ++ b ∷ []) ++ d ∷ []) next k (ap (λ s. accepts (run ((seen ++ b ∷ []) ++ d ∷ []) s bytes) next) (sym (q.ends (seen ++ b ∷ []) d (apart_class d apart))) ∙ g))

      by_test : (test : Bool) → (b == mark) ≡ test
          → (accepts (run (seen ++ b ∷ []) inside (d ∷ bytes)) next ≡ Some k → Closed (d ∷ bytes) × (accepts after next ≡ Some k))
          → (accepts (run ((seen ++ b ∷ []) ++ d ∷ []) inside bytes) next ≡ Some k → Closed bytes × (accepts after next ≡ Some k)) → Closed (b ∷ d ∷ bytes) × (accepts after next ≡ Some k)
      by_test true same one two =
          by_next (d == mark) refl (eqb-true b mark same) (ap (λ s. accepts (run (seen ++ b ∷ []) s (d ∷ bytes)) next) (sym (q.closes seen b (step_mark b same))) ∙ h) two
      by_test false apart one two =
          let r = one (ap (λ s. accepts (run (seen ++ b ∷ []) s (d ∷ bytes)) next) (sym (q.keeps seen b (apart_class b apart))) ∙ h) in
          (closed_other b (d ∷ bytes) apart r.0, r.1)

  pub from_mark : (next : Option ByteClass) (k : ItemKind) → accepts inside next ≡ None → (b : ℕ) (bytes : List ℕ) → class_of b ≡ c
      → accepts (run (b ∷ []) inside bytes) next ≡ Some k → IsQuoted mark (b ∷ bytes) × (accepts after next ≡ Some k)
  unfolding Closed
  from_mark next k refuses b bytes is h =
      let r = from_inside next k refuses bytes (b ∷ []) h in
      ((r.0.0, ap (λ x. x ∷ bytes) (q.only b is) ∙ ap (λ x. mark ∷ x) r.0.1), r.1)

ended_double : (one k : ItemKind) (next : Option ByteClass) → unless_double one next ≡ Some k → (k ≡ one) × (next ≢ Some class.DoubleQuote)
ended_double one k None h = (cc, λ e. cc)
ended_double one k (Some class.DoubleQuote) h = cc
ended_double one k (Some _) h = (cc, λ e. cc)

ended_single : (one k : ItemKind) (next : Option ByteClass) → unless_single one next ≡ Some k → (k ≡ one) × (next ≢ Some class.SingleQuote)
ended_single one k None h = (cc, λ e. cc)
ended_single one k (Some class.SingleQuote) h = cc
ended_single one k (Some _) h = (cc, λ e. cc)

of_kind : (first : Bool) (k one : ItemKind) (bytes rest : List ℕ) → k ≡ one → IsItem first one bytes rest → IsItem first k bytes rest
of_kind first k one bytes rest same is = subst (λ x. IsItem first x bytes rest) (sym same) is

-- behind `E` or `e`
behind_e : (first : Bool) (b : ℕ) (bytes rest : List ℕ) (k : ItemKind) → class_of b ≡ class.LetterE → accepts (run (b ∷ []) at.LetterE bytes) (next_class rest) ≡ Some k → IsItem first k (b ∷ bytes) rest
behind_e first b [] rest k is h =
    let e = ended_single kind.Word k (next_class rest) h in
    of_kind first k kind.Word (b ∷ []) rest e.0 ((ap begins_word is, refl), λ single. absurd (e.1 single))
behind_e first b (d ∷ bytes) rest k is h = by_class (class_of d) refl h
  where
    a_word : accepts (run (b ∷ d ∷ []) (word (class_of d)) bytes) (next_class rest) ≡ Some k → IsItem first k (b ∷ d ∷ bytes) rest
    a_word g =
        let r = said_one (each continues_word (d ∷ bytes)) kind.Word k (sym (word_goes_on (d ∷ bytes) (b ∷ []) (next_class rest)) ∙ g) in
        of_kind first k kind.Word (b ∷ d ∷ bytes) rest r.1 ((ap begins_word is, r.0), λ single. refl)

    by_class : (c : ByteClass) → class_of d ≡ c → accepts (run (b ∷ d ∷ []) (letter_e c) bytes) (next_class rest) ≡ Some k → IsItem first k (b ∷ d ∷ bytes) rest
    by_class class.SingleQuote single g =
        let r = said (closes_escaped bytes) (unless_single kind.EText (next_class rest)) k (sym (escaped_verdict bytes (b ∷ d ∷ []) (next_class rest)) ∙ g) in
        let e = ended_single kind.EText k (next_class rest) r.1 in
        of_kind first k kind.EText (b ∷ d ∷ bytes) rest e.0 ((is, single, r.0), e.1)
    by_class _ other g = a_word (ap (λ x. accepts (run (b ∷ d ∷ []) (word x) bytes) (next_class rest)) other ∙ g)

-- operators, comments and what begins with `@`
said_verdict : (k one : ItemKind) (test : Bool) → verdict one test ≡ Some k → (k ≡ one) × (test ≡ true)
said_verdict k one true h = (cc, refl)
said_verdict k one false h = cc

-- where an operator breaks off
pub data Breaks (c d : ByteClass) : Type 0 where
  dashes : c ≡ class.Dash → d ≡ class.Dash → Breaks c d
  opens : c ≡ class.Slash → d ≡ class.Star → Breaks c d
  names : c ≡ class.At → begins_word d ≡ true → Breaks c d

breaks : (c d : ByteClass) → breaks_off c (Some d) ≡ true → Breaks c d
breaks class.Dash class.Dash h = dashes refl refl
breaks class.Dash _ h = cc
breaks class.Slash class.Star h = opens refl refl
breaks class.Slash _ h = cc
breaks class.At d h = names refl h
breaks _ d h = cc

lone_item : (first : Bool) (b : ℕ) (bytes rest : List ℕ) (k : ItemKind) → in_operator (class_of b) ≡ true → accepts (run (b ∷ []) (at.Lone (class_of b)) bytes) (next_class rest) ≡ Some k → IsItem first k (b ∷ bytes) rest
lone_item first b [] rest k inside h =
    let r = said_verdict k kind.Operator (is_operator (b ∷ []) (next_class rest)) (sym (only_verdict b (next_class rest) inside) ∙ h) in
    of_kind first k kind.Operator (b ∷ []) rest r.0 r.1
lone_item first b (d ∷ bytes) rest k inside h = by_test (breaks_off (class_of b) (Some (class_of d))) refl
  where
    by_break : Breaks (class_of b) (class_of d) → accepts (run (b ∷ d ∷ []) (opened (class_of b)) bytes) (next_class rest) ≡ Some k → IsItem first k (b ∷ d ∷ bytes) rest
    by_break (dashes one two) g =
        let r = said_one (each is_no_newline bytes) kind.LineComment k
        (sym (span at.LineComment is_no_newline (λ s e. refl) bytes (b ∷ d ∷ []) (next_class rest)) ∙ ap (λ c. accepts (run (b ∷ d ∷ []) (opened c) bytes) (next_class rest)) (sym one) ∙ g) in
        of_kind first k kind.LineComment (b ∷ d ∷ bytes) rest r.1 (one, two, r.0)
    by_break (opens one two) g =
        let r = said_verdict k kind.BlockComment (closes 0 bytes)
        (sym (comment_verdict bytes (b ∷ d ∷ []) 0 (next_class rest)) ∙ ap (λ c. accepts (run (b ∷ d ∷ []) (opened c) bytes) (next_class rest)) (sym one) ∙ g) in
        of_kind first k kind.BlockComment (b ∷ d ∷ bytes) rest r.0 (one, two, r.1)
    by_break (names one two) g =
        let r = said_one (each continues_word bytes) kind.Named k
        (sym (span at.Named continues_word (λ s e. refl) bytes (b ∷ d ∷ []) (next_class rest)) ∙ ap (λ c. accepts (run (b ∷ d ∷ []) (opened c) bytes) (next_class rest)) (sym one) ∙ g) in
        of_kind first k kind.Named (b ∷ d ∷ bytes) rest r.1 (one, (two, r.0))

    by_test : (test : Bool) → breaks_off (class_of b) (Some (class_of d)) ≡ test → IsItem first k (b ∷ d ∷ bytes) rest
    by_test true is =
        by_break (breaks (class_of b) (class_of d) is)
        (ap (λ t. accepts (run (b ∷ d ∷ []) (if t then opened (class_of b) else operator (is_special (class_of b)) (class_of b) (class_of d)) bytes) (next_class rest)) (sym is) ∙ h)
    by_test false apart =
        let r = said_verdict k kind.Operator (is_operator (b ∷ d ∷ bytes) (next_class rest)) (sym (first_verdict b d bytes (b ∷ []) (next_class rest) inside apart) ∙ h) in
        of_kind first k kind.Operator (b ∷ d ∷ bytes) rest r.0 r.1

from_punct : (first : Bool) (b : ℕ) (bytes rest : List ℕ) (k : ItemKind) → is_lone_punct (class_of b) ≡ true → accepts (run (b ∷ []) at.Punct bytes) (next_class rest) ≡ Some k → IsItem first k (b ∷ bytes) rest
from_punct first b [] rest k is h = of_kind first k kind.Punct (b ∷ []) rest (cc) is
from_punct first b (d ∷ bytes) rest k is h = absurd (dead bytes (b ∷ d ∷ []) (next_class rest) k h)

from_colon : (first : Bool) (b : ℕ) (bytes rest : List ℕ) (k : ItemKind) → class_of b ≡ class.Colon → accepts (run (b ∷ []) at.Colon bytes) (next_class rest) ≡ Some k → IsItem first k (b ∷ bytes) rest
from_colon first b [] rest k is h = cc
from_colon first b (d ∷ bytes) rest k is h = by_class (class_of d) refl bytes h
  where
    by_class : (c : ByteClass) → class_of d ≡ c → (bytes : List ℕ) → accepts (run (b ∷ d ∷ []) (colon c) bytes) (next_class rest) ≡ Some k → IsItem first k (b ∷ d ∷ bytes) rest
    by_class class.Colon two [] g = of_kind first k kind.Punct (b ∷ d ∷ []) rest (cc) (is, two)
    by_class class.Colon two (e ∷ bytes) g = absurd (dead bytes (b ∷ d ∷ e ∷ []) (next_class rest) k g)
    by_class _ two bytes g = absurd (dead bytes (b ∷ d ∷ []) (next_class rest) k g)

from_dollar : (first : Bool) (b : ℕ) (bytes rest : List ℕ) (k : ItemKind) → class_of b ≡ class.Dollar → accepts (run (b ∷ []) at.DollarSign bytes) (next_class rest) ≡ Some k → IsItem first k (b ∷ bytes) rest
from_dollar first b [] rest k is h = cc
from_dollar first b (d ∷ bytes) rest k is h = by_class (class_of d) refl h
  where
    by_class : (c : ByteClass) → class_of d ≡ c → accepts (run (b ∷ d ∷ []) (dollar_sign 2 c) bytes) (next_class rest) ≡ Some k → IsItem first k (b ∷ d ∷ bytes) rest
    by_class class.Dollar two g =
        let r = empty_tag b d bytes (next_class rest) k is two h in of_kind first k kind.Dollar (b ∷ d ∷ bytes) rest r.0 r.1
    by_class class.Digit two g =
        let r = said_one (each is_digit bytes) kind.Parameter k (sym (span at.Parameter is_digit (λ s e. refl) bytes (b ∷ d ∷ []) (next_class rest)) ∙ g) in
        of_kind first k kind.Parameter (b ∷ d ∷ bytes) rest r.1 (is, two, r.0)
    by_class class.Letter two g =
        let r = word_tag b d bytes (next_class rest) k is (ap begins_word two) (ap continues_tag two) g in of_kind first k kind.Dollar (b ∷ d ∷ bytes) rest r.0 r.1
    by_class class.LetterE two g =
        let r = word_tag b d bytes (next_class rest) k is (ap begins_word two) (ap continues_tag two) g in of_kind first k kind.Dollar (b ∷ d ∷ bytes) rest r.0 r.1
    by_class _ two g = absurd (dead bytes (b ∷ d ∷ []) (next_class rest) k g)

from_leading_point : (first : Bool) (b : ℕ) (bytes rest : List ℕ) (k : ItemKind) → class_of b ≡ class.Point → accepts (run (b ∷ []) at.LeadingPoint bytes) (next_class rest) ≡ Some k → IsItem first k (b ∷ bytes) rest
from_leading_point first b [] rest k is h = of_kind first k kind.Punct (b ∷ []) rest (cc) (ap is_lone_punct is)
from_leading_point first b (d ∷ bytes) rest k is h =
    let r = from_point d bytes (b ∷ []) (next_class rest) k h in
    of_kind first k kind.Number (b ∷ d ∷ bytes) rest r.1 (subst (λ x. IsNumber (b ∷ x)) (sym r.0.is) (decimal [] b r.0.part r.0.exponent refl is r.0.digits r.0.after))

from_blank : (first : Bool) (b : ℕ) (bytes rest : List ℕ) (k : ItemKind) → is_blank (class_of b) ≡ true → accepts (run (b ∷ []) at.Blank bytes) (next_class rest) ≡ Some k → IsItem first k (b ∷ bytes) rest
from_blank first b bytes rest k is h =
    let r = said_one (each is_blank bytes) kind.Blank k (sym (span at.Blank is_blank (λ s d. refl) bytes (b ∷ []) (next_class rest)) ∙ h) in
    of_kind first k kind.Blank (b ∷ bytes) rest r.1 (λ none. cc, ap (λ t. t && each is_blank bytes) is ∙ r.0)

from_digits : (first : Bool) (b : ℕ) (bytes rest : List ℕ) (k : ItemKind) → is_digit (class_of b) ≡ true → accepts (run (b ∷ []) at.Whole bytes) (next_class rest) ≡ Some k → IsItem first k (b ∷ bytes) rest
from_digits first b bytes rest k is h =
    let r = from_whole bytes (b ∷ []) (next_class rest) k h in of_kind first k kind.Number (b ∷ bytes) rest r.1 (whole_number b bytes is r.0)

from_start : (first : Bool) (b : ℕ) (bytes rest : List ℕ) (k : ItemKind) (c : ByteClass) → class_of b ≡ c → accepts (run (b ∷ []) (start c) bytes) (next_class rest) ≡ Some k → IsItem first k (b ∷ bytes) rest
from_start first b bytes rest k class.Blank is h = from_blank first b bytes rest k (ap is_blank is) h
from_start first b bytes rest k class.Newline is h = from_blank first b bytes rest k (ap is_blank is) h
from_start first b bytes rest k class.LetterE is h = behind_e first b bytes rest k is h
from_start first b bytes rest k class.Letter is h =
    let r = said_one (each continues_word bytes) kind.Word k (sym (word_goes_on bytes (b ∷ []) (next_class rest)) ∙ h) in
    of_kind first k kind.Word (b ∷ bytes) rest r.1 ((ap begins_word is, r.0), λ single. no_e bytes is)
  where
    no_e : (bytes : List ℕ) → class_of b ≡ class.Letter → is_lone_e (b ∷ bytes) ≡ false
    no_e [] letter = ap begins_escape letter
    no_e (d ∷ bytes) letter = refl
from_start first b bytes rest k class.Zero is h = from_digits first b bytes rest k (ap is_digit is) h
from_start first b bytes rest k class.Digit is h = from_digits first b bytes rest k (ap is_digit is) h
from_start first b bytes rest k class.Point is h = from_leading_point first b bytes rest k is h
from_start first b bytes rest k class.DoubleQuote is h =
    let r = from_mark 34 class.DoubleQuote at.InsideDouble at.AfterDouble double_quoting (next_class rest) k refl b bytes is h in
    let e = ended_double kind.Quoted k (next_class rest) r.1 in of_kind first k kind.Quoted (b ∷ bytes) rest e.0 (r.0, e.1)
from_start first b bytes rest k class.SingleQuote is h =
    let r = from_mark 39 class.SingleQuote at.InsideSingle at.AfterSingle single_quoting (next_class rest) k refl b bytes is h in
    let e = ended_single kind.Text k (next_class rest) r.1 in of_kind first k kind.Text (b ∷ bytes) rest e.0 (r.0, e.1)
from_start first b bytes rest k class.Plus is h = lone_item first b bytes rest k (ap in_operator is) (ap (λ c. accepts (run (b ∷ []) (at.Lone c) bytes) (next_class rest)) is ∙ h)
from_start first b bytes rest k class.Dash is h = lone_item first b bytes rest k (ap in_operator is) (ap (λ c. accepts (run (b ∷ []) (at.Lone c) bytes) (next_class rest)) is ∙ h)
from_start first b bytes rest k class.Slash is h = lone_item first b bytes rest k (ap in_operator is) (ap (λ c. accepts (run (b ∷ []) (at.Lone c) bytes) (next_class rest)) is ∙ h)
from_start first b bytes rest k class.Star is h = lone_item first b bytes rest k (ap in_operator is) (ap (λ c. accepts (run (b ∷ []) (at.Lone c) bytes) (next_class rest)) is ∙ h)
from_start first b bytes rest k class.At is h = lone_item first b bytes rest k (ap in_operator is) (ap (λ c. accepts (run (b ∷ []) (at.Lone c) bytes) (next_class rest)) is ∙ h)
from_start first b bytes rest k class.Dollar is h = from_dollar first b bytes rest k is h
from_start first b bytes rest k class.Colon is h = from_colon first b bytes rest k is h
from_start first b bytes rest k class.Backslash is h = absurd (dead bytes (b ∷ []) (next_class rest) k h)
from_start first b bytes rest k class.Plain is h = lone_item first b bytes rest k (ap in_operator is) (ap (λ c. accepts (run (b ∷ []) (at.Lone c) bytes) (next_class rest)) is ∙ h)
from_start first b bytes rest k class.Special is h = lone_item first b bytes rest k (ap in_operator is) (ap (λ c. accepts (run (b ∷ []) (at.Lone c) bytes) (next_class rest)) is ∙ h)
from_start first b bytes rest k class.Bracket is h = from_punct first b bytes rest k (ap is_lone_punct is) h
from_start first b bytes rest k class.Other is h = absurd (dead bytes (b ∷ []) (next_class rest) k h)

line_or_start : (c : ByteClass) → (c ≡ class.Backslash) ⊎ (line_start c ≡ start c)
line_or_start class.Backslash = inl refl
line_or_start _ = inr refl

pub accepted_item : (first : Bool) (bytes rest : List ℕ) (k : ItemKind) → accepts (run [] (begin first) bytes) (next_class rest) ≡ Some k → IsItem first k bytes rest
accepted_item true [] rest k h = cc
accepted_item false [] rest k h = cc
accepted_item false (b ∷ bytes) rest k h = from_start false b bytes rest k (class_of b) refl h
accepted_item true (b ∷ bytes) rest k h = by_class (line_or_start (class_of b))
  where
    by_class : (class_of b ≡ class.Backslash) ⊎ (line_start (class_of b) ≡ start (class_of b)) → IsItem true k (b ∷ bytes) rest
    by_class (inl is) =
        let r = said_one (each is_no_newline bytes) kind.BackslashLine k
        (sym (span at.BackslashLine is_no_newline (λ s d. refl) bytes (b ∷ []) (next_class rest)) ∙ ap (λ c. accepts (run (b ∷ []) (line_start c) bytes) (next_class rest)) (sym is) ∙ h) in
        of_kind true k kind.BackslashLine (b ∷ bytes) rest r.1 (refl, (is, r.0))
    by_class (inr same) = from_start true b bytes rest k (class_of b) refl (ap (λ s. accepts (run (b ∷ []) s bytes) (next_class rest)) (sym same) ∙ h)
