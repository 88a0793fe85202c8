-- Identifiers are texts of ASCII.
use Rattle.std.proofs.Common.{◌≡◌, ◌<◌, ℕ, Bool, true, false, List, [], ◌∷◌, ◌++◌, refl, subst, sym, ◌∙◌, suc, arith, if◌then◌else◌}
use Rattle.std.specs.Prelude.{IsUtf8, IsAscii, IfOk, Result, Ok, Err, flat_map, codes, bytes_eq}
use Rattle.std.specs.Char.{is_ascii_alphanumeric, is_ascii_digit, to_ascii_uppercase}
use Rattle.std.proofs.lemmas.Str.{IsUtf8-from_ascii, IsAscii-append}
use Rattle.std.proofs.lemmas.Str.Ascii.{IsAscii-nil, IsAscii-cons, IsAscii-push, uppercase_ascii}
use Rattle.std.proofs.lemmas.Bool.Decides.{nat_tests}
use Rattle.sq_shown.specs.Lines.{Text}
use Rattle.sq_shown.specs.Identifiers.{ended, words_after, words, raised, pascal_word, with_letter, pascal}

-- a fact of both branches is a fact of a choice
pub either : {A : Type 0} (P : A → Type 0) (test : Bool) (x y : A) → (test ≡ true → P x) → (test ≡ false → P y) → P (if test then x else y)
either P true x y here there = here refl
either P false x y here there = there refl

abbrev AreAscii : List Text → Type 0
AreAscii [] = Unit {0}
AreAscii (text ∷ texts) = IsAscii text × AreAscii texts

AreAscii-append : (some more : List Text) → AreAscii some → AreAscii more → AreAscii (some ++ more)
AreAscii-append [] more h k = k
AreAscii-append (text ∷ some) more h k = (h.0, AreAscii-append some more h.1 k)

AreAscii-ended : (word : Text) → IsAscii word → AreAscii (ended word)
AreAscii-ended [] h = tt
AreAscii-ended (byte ∷ bytes) h = (h, tt)

alphanumeric_ascii : (b : ℕ) → is_ascii_alphanumeric b ≡ true → b < 128
alphanumeric_ascii b h = grind (arith, nat_tests)

AreAscii-words_after : (bytes begun : Text) → IsAscii begun → AreAscii (words_after begun bytes)
AreAscii-words_after [] begun h = AreAscii-ended begun h
AreAscii-words_after (byte ∷ bytes) begun h = either AreAscii (is_ascii_alphanumeric byte) _ _
    (λ test. AreAscii-words_after bytes (begun ++ byte ∷ []) (IsAscii-push begun byte h (alphanumeric_ascii byte test)))
    (λ test. AreAscii-append (ended begun) (words_after [] bytes) (AreAscii-ended begun h) (AreAscii-words_after bytes [] IsAscii-nil))

IsAscii-raised : (word : Text) → IsAscii word → IsAscii (raised word)
IsAscii-raised [] h = h
IsAscii-raised (byte ∷ bytes) h = IsAscii-cons (to_ascii_uppercase byte) bytes (uppercase_ascii byte (h 0)) (λ i. h (suc i))

IsAscii-ID : IsAscii (codes "ID")
IsAscii-ID = IsAscii-cons 73 (68 ∷ []) (omega arith) (IsAscii-cons 68 [] (omega arith) IsAscii-nil)

IsAscii-pascal_word : (word : Text) → IsAscii word → IsAscii (pascal_word word)
IsAscii-pascal_word word h = either IsAscii (bytes_eq word (codes "id")) (codes "ID") (raised word) (λ test. IsAscii-ID) (λ test. IsAscii-raised word h)

IsAscii-joined : (words : List Text) → AreAscii words → IsAscii (flat_map pascal_word words)
IsAscii-joined [] h = IsAscii-nil
IsAscii-joined (word ∷ words) h = IsAscii-append (pascal_word word) (flat_map pascal_word words) (IsAscii-pascal_word word h.0) (IsAscii-joined words h.1)

IsAscii-with_letter : (text : Text) → IsAscii text → IsAscii (with_letter 88 text)
IsAscii-with_letter [] h = IsAscii-cons 88 [] (omega arith) h
IsAscii-with_letter (byte ∷ bytes) h = either IsAscii (is_ascii_digit byte) (88 ∷ byte ∷ bytes) (byte ∷ bytes) (λ test. IsAscii-cons 88 (byte ∷ bytes) (omega arith) h) (λ test. h)

-- so an identifier is a text
pub is_utf8_pascal : (name : Text) → IsUtf8 (pascal name)
unfolding pascal
is_utf8_pascal name = IsUtf8-from_ascii _ (IsAscii-with_letter _ (IsAscii-joined (words name) (AreAscii-words_after name [] IsAscii-nil)))

-- what is made of the bytes of an identifier, if they are a text, is the identifier
pub identifier_text : {E : Type 0} (made : Result Text E) (bytes identifier : Text) → bytes ≡ identifier → IsUtf8 identifier → IfOk made (λ text. IsUtf8 bytes → text ≡ bytes) → IfOk made (λ text. text ≡ identifier)
identifier_text (Ok text) bytes identifier e is_text read = read (subst IsUtf8 (sym e) is_text) ∙ e
identifier_text (Err fault) bytes identifier e is_text read = tt
