-- What is an item is accepted by the machine.
use Rattle.std.proofs.Common.{◌≡◌, ℕ, ◌==◌, Bool, true, false, List, [], ◌∷◌, ◌++◌, if◌then◌else◌, Option, Some, None, refl, ap, ◌∙◌, sym, append_assoc, append-nil, eq-eqb}
use Rattle.std.proofs.lemmas.Bool.{eqb-true}
use Rattle.std.specs.List.{flat_map}
use Rattle.sq_syntax.specs.Bytes.{class_of}
use Rattle.sq_syntax.specs.Classes.{next_class, each, IsBlank, IsLineComment, IsBlockComment, IsBackslashLine, IsWord, is_lone_e, begins_escape, IsQuoted, doubled, IsEText, IsNumber, IsExponent, IsDigits, IsParameter, IsNamed, is_operator, IsPunct, is_blank, is_no_newline, begins_word, continues_word, is_digit, in_operator, is_sign, is_lone_punct, breaks_off}
use Rattle.sq_syntax.specs.Classes.IsExponent.{absent, unsigned, signed}
use Rattle.sq_syntax.specs.Classes.IsNumber.{integer, decimal}
use Rattle.sq_syntax.specs.Items.{IsItem}
use Rattle.sq_syntax.specs.declared.class.ByteClass.{ByteClass}
use Rattle.sq_syntax.specs.declared.class.ByteClass.TheVariants as class
use Rattle.sq_syntax.specs.declared.item.ItemKind.{ItemKind}
use Rattle.sq_syntax.specs.declared.item.ItemKind.TheVariants as kind
use Rattle.sq_lexer.specs.Machine.{step, accepts, run, start, line_start, begin, whole, after_whole, fraction, after_fraction, exponent_mark, exponent, point, letter_e, lone, opened, operator, unless_double, unless_single, inside_double, after_double, inside_single, after_single, colon, dollar_sign}
use Rattle.sq_lexer.specs.declared.machine.State.{State}
use Rattle.sq_lexer.specs.declared.machine.State.TheVariants as at
use Rattle.sq_lexer.proofs.QuoteMarks.{class_of_double, class_of_single, only_double, only_single}
use Rattle.sq_lexer.proofs.Runs.{verdict, span, and_left, and_right, not_true, stays, enters, begin_step}
use Rattle.sq_lexer.proofs.Verdicts.{only_verdict, first_verdict, comment_verdict, escaped_verdict}
use Rattle.sq_lexer.proofs.Dollars.{dollar_accepted}

-- the state stays what it was found to be, whether a line begins or not
pub same_if : (first : Bool) (one : State) → (if first then one else one) ≡ one
same_if true one = refl
same_if false one = refl

-- blanks
blank_begins : (c : ByteClass) → is_blank c ≡ true → (start c ≡ at.Blank) × (line_start c ≡ at.Blank)
blank_begins class.Blank h = (refl, refl)
blank_begins class.Newline h = (refl, refl)
blank_begins _ h = cc

-- a first step that is the same where a line begins
pub first_step : (first : Bool) (b : ℕ) (one : State) → (start (class_of b) ≡ one) × (line_start (class_of b) ≡ one) → step [] (begin first) b ≡ one
first_step true b one is = is.1
first_step false b one is = is.0

taken : (test : Bool) (x : Option ItemKind) → test ≡ true → (if test then x else None) ≡ x
taken true x is = refl
taken false x is = cc

blank_accepted : (first : Bool) (next : Option ByteClass) (bytes : List ℕ) → IsBlank bytes → accepts (run [] (begin first) bytes) next ≡ Some kind.Blank
blank_accepted first next [] is = absurd (is.0 refl)
blank_accepted first next (b ∷ bytes) is =
    ap (λ s. accepts (run (b ∷ []) s bytes) next) (first_step first b at.Blank (blank_begins (class_of b) (and_left _ _ is.1)))
    ∙ span at.Blank is_blank (λ seen d. refl) bytes (b ∷ []) next ∙ taken _ _ (and_right _ _ is.1)

backslash_accepted : (first : Bool) (next : Option ByteClass) (bytes : List ℕ) → first ≡ true → IsBackslashLine bytes → accepts (run [] (begin first) bytes) next ≡ Some kind.BackslashLine
backslash_accepted first next [] line is = absurd is
backslash_accepted first next (b ∷ bytes) line is =
    ap (λ t. accepts (run [] (begin t) (b ∷ bytes)) next) line ∙ ap (λ c. accepts (run (b ∷ []) (line_start c) bytes) next) is.0
    ∙ span at.BackslashLine is_no_newline (λ seen d. refl) bytes (b ∷ []) next ∙ taken _ _ is.1

line_accepted : (first : Bool) (next : Option ByteClass) (bytes : List ℕ) → IsLineComment bytes → accepts (run [] (begin first) bytes) next ≡ Some kind.LineComment
line_accepted first next [] is = absurd is
line_accepted first next (b ∷ []) is = absurd is
line_accepted first next (b ∷ d ∷ bytes) is =
    ap (λ s. accepts (run (b ∷ []) s (d ∷ bytes)) next) (begin_step first b class.Dash is.0 refl)
    ∙ ap (λ c. accepts (run (b ∷ d ∷ []) (lone class.Dash c) bytes) next) is.1
    ∙ span at.LineComment is_no_newline (λ seen e. refl) bytes (b ∷ d ∷ []) next ∙ taken _ _ is.2

block_accepted : (first : Bool) (next : Option ByteClass) (bytes : List ℕ) → IsBlockComment bytes → accepts (run [] (begin first) bytes) next ≡ Some kind.BlockComment
block_accepted first next [] is = absurd is
block_accepted first next (b ∷ []) is = absurd is
block_accepted first next (b ∷ d ∷ bytes) is =
    ap (λ s. accepts (run (b ∷ []) s (d ∷ bytes)) next) (begin_step first b class.Slash is.0 refl)
    ∙ ap (λ c. accepts (run (b ∷ d ∷ []) (lone class.Slash c) bytes) next) is.1
    ∙ comment_verdict bytes (b ∷ d ∷ []) 0 next ∙ ap (verdict kind.BlockComment) is.2

-- words
letter_e_word : (c : ByteClass) → continues_word c ≡ true → letter_e c ≡ at.Word
letter_e_word class.Letter h = refl
letter_e_word class.LetterE h = refl
letter_e_word class.Zero h = refl
letter_e_word class.Digit h = refl
letter_e_word class.Dollar h = refl
letter_e_word _ h = cc

pub word_goes_on : (bytes seen : List ℕ) (next : Option ByteClass) → accepts (run seen at.Word bytes) next ≡ (if each continues_word bytes then Some kind.Word else None)
word_goes_on bytes seen next = span at.Word continues_word (λ s d. refl) bytes seen next

pub single_apart : (k : ItemKind) (next : Option ByteClass) → (next ≡ Some class.SingleQuote → ⊥) → unless_single k next ≡ Some k
single_apart k (Some class.SingleQuote) apart = absurd (apart refl)
single_apart k _ apart = refl

double_apart : (k : ItemKind) (next : Option ByteClass) → (next ≡ Some class.DoubleQuote → ⊥) → unless_double k next ≡ Some k
double_apart k (Some class.DoubleQuote) apart = absurd (apart refl)
double_apart k _ apart = refl

word_accepted : (first : Bool) (next : Option ByteClass) (bytes : List ℕ) → IsWord bytes → (next ≡ Some class.SingleQuote → is_lone_e bytes ≡ false)
    → accepts (run [] (begin first) bytes) next ≡ Some kind.Word
word_accepted first next [] is apart = absurd is
word_accepted first next (b ∷ bytes) is apart = at_class (class_of b) refl is.0
  where
    behind_e : (rest : List ℕ) → bytes ≡ rest → class_of b ≡ class.LetterE → accepts (run (b ∷ []) at.LetterE rest) next ≡ Some kind.Word
    behind_e [] all is_e =
        single_apart kind.Word next (λ single. let clash : true ≡ false = ap begins_escape (sym is_e) ∙ ap (λ x. is_lone_e (b ∷ x)) (sym all) ∙ apart single in cc)
    behind_e (d ∷ rest) all is_e =
        let goes_on : each continues_word (d ∷ rest) ≡ true = ap (each continues_word) (sym all) ∙ is.1 in
        ap (λ s. accepts (run (b ∷ d ∷ []) s rest) next) (letter_e_word (class_of d) (and_left _ _ goes_on)) ∙ word_goes_on rest (b ∷ d ∷ []) next ∙ taken _ _ (and_right _ _ goes_on)

    at_class : (c : ByteClass) → class_of b ≡ c → begins_word c ≡ true → accepts (run (b ∷ []) (step [] (begin first) b) bytes) next ≡ Some kind.Word
    at_class class.Letter letter h =
        ap (λ s. accepts (run (b ∷ []) s bytes) next) (begin_step first b class.Letter letter refl) ∙ word_goes_on bytes (b ∷ []) next ∙ taken _ _ is.1
    at_class class.LetterE letter h =
        ap (λ s. accepts (run (b ∷ []) s bytes) next) (begin_step first b class.LetterE letter refl) ∙ behind_e bytes refl letter
    at_class _ letter h = cc

-- numbers
digit_begins : (c : ByteClass) → is_digit c ≡ true → (start c ≡ at.Whole) × (line_start c ≡ at.Whole)
digit_begins class.Zero h = (refl, refl)
digit_begins class.Digit h = (refl, refl)
digit_begins _ h = cc

to_exponent : (b : ℕ) → is_digit (class_of b) ≡ true → exponent (class_of b) ≡ at.Exponent
to_exponent b h = ap (λ t. if t then at.Exponent else at.Dead) h

no_digit : (c : ByteClass) → is_sign c ≡ true → is_digit c ≡ false
no_digit class.Plus h = refl
no_digit class.Dash h = refl
no_digit _ h = cc

sign_steps : (c : ByteClass) → is_sign c ≡ true → exponent_mark c ≡ at.ExponentSign
sign_steps c h = ap (λ t. if t then at.Exponent else (if is_sign c then at.ExponentSign else at.Dead)) (no_digit c h) ∙ ap (λ t. if t then at.ExponentSign else at.Dead) h

exponent_digits : (state : State) → ((seen : List ℕ) (b : ℕ) → is_digit (class_of b) ≡ true → step seen state b ≡ at.Exponent)
    → (digits seen : List ℕ) (next : Option ByteClass) → IsDigits digits → accepts (run seen state digits) next ≡ Some kind.Number
exponent_digits state first digits seen next is =
    ap (λ x. accepts (run seen state x) next) (sym (append-nil digits))
    ∙ ap (λ s. accepts s next) (enters state at.Exponent first (λ s b. to_exponent b) digits [] seen is.0 is.1)

exponent_accepted : (state : State) (next : Option ByteClass) → ((seen : List ℕ) (b : ℕ) → class_of b ≡ class.LetterE → step seen state b ≡ at.ExponentMark) → accepts state next ≡ Some kind.Number
    → (bytes seen : List ℕ) → IsExponent bytes → accepts (run seen state bytes) next ≡ Some kind.Number
exponent_accepted state next enter here _ seen absent = here
exponent_accepted state next enter here _ seen (unsigned mark digits letter is) =
    ap (λ s. accepts (run (seen ++ mark ∷ []) s digits) next) (enter seen mark letter)
    ∙ exponent_digits at.ExponentMark (λ s b h. ap (λ t. if t then at.Exponent else (if is_sign (class_of b) then at.ExponentSign else at.Dead)) h) digits (seen ++ mark ∷ []) next is
exponent_accepted state next enter here _ seen (signed mark sign digits letter signs is) =
    ap (λ s. accepts (run ((seen ++ mark ∷ []) ++ sign ∷ []) (step (seen ++ mark ∷ []) s sign) digits) next) (enter seen mark letter)
    ∙ ap (λ s. accepts (run ((seen ++ mark ∷ []) ++ sign ∷ []) s digits) next) (sign_steps (class_of sign) signs)
    ∙ exponent_digits at.ExponentSign (λ s b. to_exponent b) digits ((seen ++ mark ∷ []) ++ sign ∷ []) next is

to_whole : (b : ℕ) → is_digit (class_of b) ≡ true → whole (class_of b) ≡ at.Whole
to_whole b h = ap (λ t. if t then at.Whole else after_whole (class_of b)) h

to_fraction : (b : ℕ) → is_digit (class_of b) ≡ true → fraction (class_of b) ≡ at.Fraction
to_fraction b h = ap (λ t. if t then at.Fraction else after_fraction (class_of b)) h

past_point : (b : ℕ) → is_digit (class_of b) ≡ true → point (class_of b) ≡ at.Fraction
past_point b h = ap (λ t. if t then at.Fraction else at.Dead) h

begin_digits : (first : Bool) (b : ℕ) (digits rest : List ℕ) → is_digit (class_of b) ≡ true → each is_digit digits ≡ true → run [] (begin first) (b ∷ (digits ++ rest)) ≡ run (b ∷ digits) at.Whole rest
begin_digits first b digits rest one more =
    ap (λ s. run (b ∷ []) s (digits ++ rest)) (first_step first b at.Whole (digit_begins (class_of b) one)) ∙ stays at.Whole (λ seen d. to_whole d) digits rest (b ∷ []) more

number_accepted : (first : Bool) (next : Option ByteClass) (bytes : List ℕ) → IsNumber bytes → accepts (run [] (begin first) bytes) next ≡ Some kind.Number
number_accepted first next _ (integer [] exponent is after) = absurd (is.0 refl)
number_accepted first next _ (integer (b ∷ digits) exponent is after) =
    ap (λ s. accepts s next) (begin_digits first b digits exponent (and_left _ _ is.1) (and_right _ _ is.1))
    ∙ exponent_accepted at.Whole next (λ seen d letter. ap whole letter) refl exponent (b ∷ digits) after
number_accepted first next _ (decimal [] mark part exponent each is_point is after) =
    ap (λ s. accepts (run (mark ∷ []) s (part ++ exponent)) next) (begin_step first mark class.Point is_point refl)
    ∙ ap (λ s. accepts s next) (enters at.LeadingPoint at.Fraction (λ seen d. past_point d) (λ seen d. to_fraction d) part exponent (mark ∷ []) is.0 is.1)
    ∙ exponent_accepted at.Fraction next (λ seen d letter. ap fraction letter) refl exponent (mark ∷ part) after
number_accepted first next _ (decimal (b ∷ digits) mark part exponent each is_point is after) =
    ap (λ s. accepts s next) (begin_digits first b digits (mark ∷ (part ++ exponent)) (and_left _ _ each) (and_right _ _ each))
    ∙ ap (λ c. accepts (run ((b ∷ digits) ++ mark ∷ []) (whole c) (part ++ exponent)) next) is_point
    ∙ ap (λ s. accepts s next) (enters at.WholePoint at.Fraction (λ seen d. past_point d) (λ seen d. to_fraction d) part exponent ((b ∷ digits) ++ mark ∷ []) is.0 is.1)
    ∙ exponent_accepted at.Fraction next (λ seen d letter. ap fraction letter) refl exponent (((b ∷ digits) ++ mark ∷ []) ++ part) after

parameter_accepted : (first : Bool) (next : Option ByteClass) (bytes : List ℕ) → IsParameter bytes → accepts (run [] (begin first) bytes) next ≡ Some kind.Parameter
parameter_accepted first next [] is = absurd is
parameter_accepted first next (b ∷ []) is = absurd is
parameter_accepted first next (b ∷ d ∷ bytes) is =
    ap (λ s. accepts (run (b ∷ []) s (d ∷ bytes)) next) (begin_step first b class.Dollar is.0 refl)
    ∙ ap (λ c. accepts (run (b ∷ d ∷ []) (dollar_sign 2 c) bytes) next) is.1
    ∙ span at.Parameter is_digit (λ seen e. refl) bytes (b ∷ d ∷ []) next ∙ taken _ _ is.2

-- quoted forms: the states of one kind of quotes
pub record Quoting (mark : ℕ) (c : ByteClass) (inside after : State) : Type 0 where
  pub opens : (first : Bool) (b : ℕ) → class_of b ≡ c → step [] (begin first) b ≡ inside
  pub closes : (seen : List ℕ) (b : ℕ) → class_of b ≡ c → step seen inside b ≡ after
  pub doubles : (seen : List ℕ) (b : ℕ) → class_of b ≡ c → step seen after b ≡ inside
  pub keeps : (seen : List ℕ) (b : ℕ) → (class_of b ≡ c → ⊥) → step seen inside b ≡ inside
  pub ends : (seen : List ℕ) (b : ℕ) → (class_of b ≡ c → ⊥) → step seen after b ≡ at.Dead
  pub named : class_of mark ≡ c
  pub only : (b : ℕ) → class_of b ≡ c → b ≡ mark

double_keeps : (d : ByteClass) → (d ≡ class.DoubleQuote → ⊥) → inside_double d ≡ at.InsideDouble
double_keeps class.DoubleQuote apart = absurd (apart refl)
double_keeps _ apart = refl

double_ends : (d : ByteClass) → (d ≡ class.DoubleQuote → ⊥) → after_double d ≡ at.Dead
double_ends class.DoubleQuote apart = absurd (apart refl)
double_ends _ apart = refl

single_keeps : (d : ByteClass) → (d ≡ class.SingleQuote → ⊥) → inside_single d ≡ at.InsideSingle
single_keeps class.SingleQuote apart = absurd (apart refl)
single_keeps _ apart = refl

single_ends : (d : ByteClass) → (d ≡ class.SingleQuote → ⊥) → after_single d ≡ at.Dead
single_ends class.SingleQuote apart = absurd (apart refl)
single_ends _ apart = refl

pub double_quoting : Quoting 34 class.DoubleQuote at.InsideDouble at.AfterDouble
double_quoting = record {
  opens = λ first b is. begin_step first b class.DoubleQuote is refl;
  closes = λ seen b is. ap inside_double is;
  doubles = λ seen b is. ap after_double is;
  keeps = λ seen b. double_keeps (class_of b);
  ends = λ seen b. double_ends (class_of b);
  named = class_of_double;
  only = only_double;
}

pub single_quoting : Quoting 39 class.SingleQuote at.InsideSingle at.AfterSingle
single_quoting = record {
  opens = λ first b is. begin_step first b class.SingleQuote is refl;
  closes = λ seen b is. ap inside_single is;
  doubles = λ seen b is. ap after_single is;
  keeps = λ seen b. single_keeps (class_of b);
  ends = λ seen b. single_ends (class_of b);
  named = class_of_single;
  only = only_single;
}

module _ (mark : ℕ) (c : ByteClass) (inside after : State) (q : Quoting mark c inside after) where
  Closes : List ℕ → Type 0
  Closes bytes = (seen : List ℕ) → run seen inside bytes ≡ after

  doubled_runs : (b : ℕ) (rest : List ℕ) (test : Bool) → (b == mark) ≡ test → Closes rest → Closes ((if test then b ∷ b ∷ [] else b ∷ []) ++ rest)
  unfolding Closes
  doubled_runs b rest true same closes seen =
      let is : class_of b ≡ c = ap class_of (eqb-true b mark same) ∙ q.named in
      ap (λ s. run ((seen ++ b ∷ []) ++ b ∷ []) (step (seen ++ b ∷ []) s b) rest) (q.closes seen b is)
      ∙ ap (λ s. run ((seen ++ b ∷ []) ++ b ∷ []) s rest) (q.doubles (seen ++ b ∷ []) b is) ∙ closes ((seen ++ b ∷ []) ++ b ∷ [])
  doubled_runs b rest false apart closes seen =
      ap (λ s. run (seen ++ b ∷ []) s rest) (q.keeps seen b (λ is. let clash : false ≡ true = sym apart ∙ eq-eqb b mark (q.only b is) in cc)) ∙ closes (seen ++ b ∷ [])

  inside_runs : (name : List ℕ) → Closes (flat_map (doubled mark) name ++ mark ∷ [])
  unfolding Closes
  inside_runs [] seen = q.closes seen mark q.named
  inside_runs (b ∷ name) seen =
      ap (run seen inside) (append_assoc (doubled mark b) (flat_map (doubled mark) name) (mark ∷ []))
      ∙ doubled_runs b (flat_map (doubled mark) name ++ mark ∷ []) (b == mark) refl (inside_runs name) seen

  pub quoted_runs : (first : Bool) (bytes : List ℕ) → IsQuoted mark bytes → run [] (begin first) bytes ≡ after
  unfolding Closes
  quoted_runs first bytes is =
      ap (run [] (begin first)) is.1 ∙ ap (λ s. run (mark ∷ []) s (flat_map (doubled mark) is.0 ++ mark ∷ [])) (q.opens first mark q.named) ∙ inside_runs is.0 (mark ∷ [])

etext_accepted : (first : Bool) (next : Option ByteClass) (bytes : List ℕ) → IsEText bytes → (next ≡ Some class.SingleQuote → ⊥) → accepts (run [] (begin first) bytes) next ≡ Some kind.EText
etext_accepted first next [] is apart = absurd is
etext_accepted first next (b ∷ []) is apart = absurd is
etext_accepted first next (b ∷ d ∷ bytes) is apart =
    ap (λ s. accepts (run (b ∷ []) s (d ∷ bytes)) next) (begin_step first b class.LetterE is.0 refl)
    ∙ ap (λ c. accepts (run (b ∷ d ∷ []) (letter_e c) bytes) next) is.1
    ∙ escaped_verdict bytes (b ∷ d ∷ []) next ∙ taken _ _ is.2 ∙ single_apart kind.EText next apart

-- operators, and what begins with `@`
lone_begins : (c : ByteClass) → in_operator c ≡ true → (start c ≡ at.Lone c) × (line_start c ≡ at.Lone c)
lone_begins class.Plus h = (refl, refl)
lone_begins class.Dash h = (refl, refl)
lone_begins class.Slash h = (refl, refl)
lone_begins class.Star h = (refl, refl)
lone_begins class.Plain h = (refl, refl)
lone_begins class.Special h = (refl, refl)
lone_begins class.At h = (refl, refl)
lone_begins _ h = cc

operator_accepted : (first : Bool) (next : Option ByteClass) (bytes : List ℕ) → is_operator bytes next ≡ true → accepts (run [] (begin first) bytes) next ≡ Some kind.Operator
operator_accepted first next [] is = cc
operator_accepted first next (b ∷ []) is =
    let inside : in_operator (class_of b) ≡ true = and_left _ _ (and_left _ _ is) in
    ap (λ s. accepts s next) (first_step first b (at.Lone (class_of b)) (lone_begins (class_of b) inside)) ∙ only_verdict b next inside ∙ ap (verdict kind.Operator) is
operator_accepted first next (b ∷ d ∷ bytes) is =
    let inside : in_operator (class_of b) ≡ true = and_left _ _ (and_left _ _ is) in
    let apart : breaks_off (class_of b) (Some (class_of d)) ≡ false = not_true _ (and_left _ _ (and_left _ _ (and_right _ _ is))) in
    ap (λ s. accepts (run (b ∷ []) s (d ∷ bytes)) next) (first_step first b (at.Lone (class_of b)) (lone_begins (class_of b) inside))
    ∙ first_verdict b d bytes (b ∷ []) next inside apart ∙ ap (verdict kind.Operator) is

named_begins : (c : ByteClass) → begins_word c ≡ true → lone class.At c ≡ at.Named
named_begins c h = ap (λ t. if t then opened class.At else operator true class.At c) h

named_accepted : (first : Bool) (next : Option ByteClass) (bytes : List ℕ) → IsNamed bytes → accepts (run [] (begin first) bytes) next ≡ Some kind.Named
named_accepted first next [] is = absurd is
named_accepted first next (b ∷ []) is = absurd is.1
named_accepted first next (b ∷ d ∷ bytes) is =
    ap (λ s. accepts (run (b ∷ []) s (d ∷ bytes)) next) (begin_step first b class.At is.0 refl)
    ∙ ap (λ s. accepts (run (b ∷ d ∷ []) s bytes) next) (named_begins (class_of d) is.1.0)
    ∙ span at.Named continues_word (λ seen e. refl) bytes (b ∷ d ∷ []) next ∙ taken _ _ is.1.1

lone_punct : (first : Bool) (next : Option ByteClass) (b : ℕ) (c : ByteClass) → class_of b ≡ c → is_lone_punct c ≡ true → accepts (step [] (begin first) b) next ≡ Some kind.Punct
lone_punct first next b class.Bracket is h = ap (λ s. accepts s next) (begin_step first b class.Bracket is refl)
lone_punct first next b class.Point is h = ap (λ s. accepts s next) (begin_step first b class.Point is refl)
lone_punct first next b _ is h = cc

punct_accepted : (first : Bool) (next : Option ByteClass) (bytes : List ℕ) → IsPunct bytes → accepts (run [] (begin first) bytes) next ≡ Some kind.Punct
punct_accepted first next [] is = absurd is
punct_accepted first next (b ∷ []) is = lone_punct first next b (class_of b) refl is
punct_accepted first next (b ∷ d ∷ []) is =
    ap (λ s. accepts (step (b ∷ []) s d) next) (begin_step first b class.Colon is.0 refl) ∙ ap (λ c. accepts (colon c) next) is.1
punct_accepted first next (b ∷ d ∷ e ∷ bytes) is = absurd is

pub item_accepted : (first : Bool) (k : ItemKind) (bytes rest : List ℕ) → IsItem first k bytes rest → accepts (run [] (begin first) bytes) (next_class rest) ≡ Some k
item_accepted first kind.Blank bytes rest is = blank_accepted first (next_class rest) bytes is
item_accepted first kind.LineComment bytes rest is = line_accepted first (next_class rest) bytes is
item_accepted first kind.BlockComment bytes rest is = block_accepted first (next_class rest) bytes is
item_accepted first kind.BackslashLine bytes rest is = backslash_accepted first (next_class rest) bytes is.0 is.1
item_accepted first kind.Word bytes rest is = word_accepted first (next_class rest) bytes is.0 is.1
item_accepted first kind.Quoted bytes rest is =
    ap (λ s. accepts s (next_class rest)) (quoted_runs 34 class.DoubleQuote at.InsideDouble at.AfterDouble double_quoting first bytes is.0) ∙ double_apart kind.Quoted (next_class rest) is.1
item_accepted first kind.Text bytes rest is =
    ap (λ s. accepts s (next_class rest)) (quoted_runs 39 class.SingleQuote at.InsideSingle at.AfterSingle single_quoting first bytes is.0) ∙ single_apart kind.Text (next_class rest) is.1
item_accepted first kind.EText bytes rest is = etext_accepted first (next_class rest) bytes is.0 is.1
item_accepted first kind.Dollar bytes rest is = dollar_accepted first (next_class rest) bytes is
item_accepted first kind.Number bytes rest is = number_accepted first (next_class rest) bytes is
item_accepted first kind.Parameter bytes rest is = parameter_accepted first (next_class rest) bytes is
item_accepted first kind.Named bytes rest is = named_accepted first (next_class rest) bytes is
item_accepted first kind.Operator bytes rest is = operator_accepted first (next_class rest) bytes is
item_accepted first kind.Punct bytes rest is = punct_accepted first (next_class rest) bytes is
