-- The name of a package is a word, and so a text.
use Rattle.std.proofs.Common.{◌≡◌, ◌<◌, ℕ, true, [], ◌∷◌, ◌++◌, map, refl, arith}
use Rattle.std.specs.Prelude.{IsUtf8, IsAscii, codes}
use Rattle.std.specs.List.{list_all}
use Rattle.std.specs.Char.{is_ascii_digit}
use Rattle.std.proofs.lemmas.Bool.Decides.{nat_tests}
use Rattle.std.proofs.lemmas.Str.{IsUtf8-from_ascii}
use Rattle.std.proofs.lemmas.Str.Ascii.{IsAscii-nil, IsAscii-cons}
use Rattle.sq_shown.specs.Lines.{Text}
use Rattle.sq_shown.specs.Identifiers.{is_keyword, keyword_freed, last_part, package_name, with_letter, word_byte}
use Rattle.sq_shown.specs.Words.{is_word, is_word_byte}
use Rattle.sq_shown.proofs.Ascii.{either}
use Rattle.sq_shown.proofs.Bools.{and_left, and_right}
use Rattle.sq_shown.proofs.WordLemmas.{and_both, word-append}

stands-word_byte : (byte : ℕ) → is_word_byte (word_byte byte) ≡ true
stands-word_byte byte = either (λ made. is_word_byte made ≡ true) (is_word_byte byte) byte 95 (λ test. test) (λ test. refl)

stand-word_bytes : (text : Text) → list_all is_word_byte (map word_byte text) ≡ true
stand-word_bytes [] = refl
stand-word_bytes (byte ∷ bytes) = and_both (is_word_byte (word_byte byte)) _ (stands-word_byte byte) (stand-word_bytes bytes)

word-begun : (text : Text) → list_all is_word_byte text ≡ true → is_word (with_letter 95 text) ≡ true
word-begun [] h = refl
word-begun (byte ∷ bytes) h = either (λ made. is_word made ≡ true) (is_ascii_digit byte) (95 ∷ byte ∷ bytes) (byte ∷ bytes) (λ test. h) (λ test. h)

word-keyword_freed : (text : Text) → is_word text ≡ true → is_word (keyword_freed text) ≡ true
word-keyword_freed text h = either (λ made. is_word made ≡ true) (is_keyword text) (text ++ codes "_") text (λ test. word-append text (codes "_") h refl) (λ test. h)

pub package-word : (out : Text) → is_word (package_name out) ≡ true
unfolding package_name
package-word out = word-keyword_freed (with_letter 95 (map word_byte (last_part out))) (word-begun (map word_byte (last_part out)) (stand-word_bytes (last_part out)))

ascii-word_byte : (b : ℕ) → is_word_byte b ≡ true → b < 128
ascii-word_byte b h = grind (arith, nat_tests)

ascii-word_bytes : (text : Text) → list_all is_word_byte text ≡ true → IsAscii text
ascii-word_bytes [] h = IsAscii-nil
ascii-word_bytes (byte ∷ bytes) h = IsAscii-cons byte bytes (ascii-word_byte byte (and_left _ _ h)) (ascii-word_bytes bytes (and_right (is_word_byte byte) _ h))

ascii-word : (text : Text) → is_word text ≡ true → IsAscii text
ascii-word [] h = IsAscii-nil
ascii-word (byte ∷ bytes) h = ascii-word_bytes (byte ∷ bytes) h

pub is_utf8_package : (out : Text) → IsUtf8 (package_name out)
is_utf8_package out = IsUtf8-from_ascii _ (ascii-word (package_name out) (package-word out))
