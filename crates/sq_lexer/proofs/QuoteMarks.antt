-- The bytes of the quote marks and of the dollar.
use Rattle.std.proofs.Common.{◌≡◌, ℕ, ◌==◌, Bool, true, false, if◌then◌else◌, refl, ap, ◌∙◌, sym}
use Rattle.std.proofs.lemmas.Bool.{eqb-true}
use Rattle.sq_syntax.specs.Bytes.{class_of, plain_class, is_blank_byte, is_letter_e, is_letter, is_nonzero_digit, is_plain, is_special, is_bracket}
use Rattle.sq_syntax.specs.declared.class.ByteClass.{ByteClass}
use Rattle.sq_syntax.specs.declared.class.ByteClass.TheVariants.{Blank, Newline, LetterE, Letter, Zero, Digit, Point, DoubleQuote, SingleQuote, Plus, Dash, Slash, Star, At, Dollar, Colon, Backslash, Plain, Special, Bracket, Other}

pub class_of_double : class_of 34 ≡ DoubleQuote
unfolding class_of
class_of_double = refl

pub class_of_single : class_of 39 ≡ SingleQuote
unfolding class_of
class_of_single = refl

pub class_of_dollar : class_of 36 ≡ Dollar
unfolding class_of
class_of_dollar = refl

abbrev is_mark : ByteClass → Bool
is_mark DoubleQuote = true
is_mark SingleQuote = true
is_mark Dollar = true
is_mark _ = false

if_plain : (test : Bool) (one rest : ByteClass) → is_mark one ≡ false → is_mark rest ≡ false → is_mark (if test then one else rest) ≡ false
if_plain true one rest a b = a
if_plain false one rest a b = b

plain : (b : ℕ) → is_mark (plain_class b) ≡ false
unfolding plain_class
plain b =
    if_plain (is_blank_byte b) Blank _ refl (if_plain (b == 10) Newline _ refl (if_plain (is_letter_e b) LetterE _ refl (if_plain (is_letter b) Letter _ refl
    (if_plain (b == 48) Zero _ refl (if_plain (is_nonzero_digit b) Digit _ refl (if_plain (b == 46) Point _ refl (if_plain (b == 43) Plus _ refl
    (if_plain (b == 45) Dash _ refl (if_plain (b == 47) Slash _ refl (if_plain (b == 42) Star _ refl (if_plain (b == 64) At _ refl
    (if_plain (b == 58) Colon _ refl (if_plain (b == 92) Backslash _ refl (if_plain (is_plain b) Plain _ refl (if_plain (is_special b) Special _ refl
    (if_plain (is_bracket b) Bracket Other refl refl))))))))))))))))

-- what the first three tests chose
abbrev chosen : Bool → Bool → Bool → ByteClass → ByteClass
chosen double single dollar rest = if double then DoubleQuote else (if single then SingleQuote else (if dollar then Dollar else rest))

chose_double : (double single dollar : Bool) (rest : ByteClass) → is_mark rest ≡ false → chosen double single dollar rest ≡ DoubleQuote → double ≡ true
chose_double true single dollar rest apart e = refl
chose_double false true dollar rest apart e = cc
chose_double false false true rest apart e = cc
chose_double false false false rest apart e = let clash : true ≡ false = ap is_mark (sym e) ∙ apart in cc

chose_single : (double single dollar : Bool) (rest : ByteClass) → is_mark rest ≡ false → chosen double single dollar rest ≡ SingleQuote → single ≡ true
chose_single true single dollar rest apart e = cc
chose_single false true dollar rest apart e = refl
chose_single false false true rest apart e = cc
chose_single false false false rest apart e = let clash : true ≡ false = ap is_mark (sym e) ∙ apart in cc

chose_dollar : (double single dollar : Bool) (rest : ByteClass) → is_mark rest ≡ false → chosen double single dollar rest ≡ Dollar → dollar ≡ true
chose_dollar true single dollar rest apart e = cc
chose_dollar false true dollar rest apart e = cc
chose_dollar false false true rest apart e = refl
chose_dollar false false false rest apart e = let clash : true ≡ false = ap is_mark (sym e) ∙ apart in cc

pub only_double : (b : ℕ) → class_of b ≡ DoubleQuote → b ≡ 34
unfolding class_of
only_double b e = eqb-true b 34 (chose_double (b == 34) (b == 39) (b == 36) (plain_class b) (plain b) e)

pub only_single : (b : ℕ) → class_of b ≡ SingleQuote → b ≡ 39
unfolding class_of
only_single b e = eqb-true b 39 (chose_single (b == 34) (b == 39) (b == 36) (plain_class b) (plain b) e)

pub only_dollar : (b : ℕ) → class_of b ≡ Dollar → b ≡ 36
unfolding class_of
only_dollar b e = eqb-true b 36 (chose_dollar (b == 34) (b == 39) (b == 36) (plain_class b) (plain b) e)
