-- Identifiers are words, and those of fields hold no `_`.
use Rattle.std.proofs.Common.{◌≡◌, ℕ, Bool, true, ◌&&◌, List, [], ◌∷◌, ◌++◌, refl, ◌∙◌, arith}
use Rattle.std.specs.Prelude.{◌==◌, flat_map, codes, bytes_eq}
use Rattle.std.specs.List.{list_all}
use Rattle.std.specs.Char.{is_ascii_alphanumeric, is_ascii_digit, to_ascii_uppercase, to_ascii_lowercase}
use Rattle.std.proofs.lemmas.Bool.Decides.{nat_tests}
use Rattle.std.proofs.lemmas.List.Folds.{list_all-append}
use Rattle.sq_shown.specs.Lines.{Text}
use Rattle.sq_shown.specs.Identifiers.{ended, words_after, words, raised, lowered, pascal_word, with_letter, pascal, in_schema, singular, model_identifier, is_taken, freed, constant_name}
use Rattle.sq_shown.specs.Words.{is_word_byte, is_word}
use Rattle.sq_shown.proofs.Ascii.{either}
use Rattle.sq_shown.proofs.Bools.{and_left, and_right, or_left}

pub and_both : (a b : Bool) → a ≡ true → b ≡ true → (a && b) ≡ true
and_both a b left right = rw (left, right)

-- ASCII letters and digits alone
abbrev pub IsPlain : Text → Type 0
IsPlain text = list_all is_ascii_alphanumeric text ≡ true

abbrev ArePlain : List Text → Type 0
ArePlain [] = Unit {0}
ArePlain (text ∷ texts) = IsPlain text × ArePlain texts

pub all-append : (p : ℕ → Bool) (xs ys : Text) → list_all p xs ≡ true → list_all p ys ≡ true → list_all p (xs ++ ys) ≡ true
all-append p xs ys h k = list_all-append p xs ys ∙ and_both (list_all p xs) (list_all p ys) h k

ArePlain-append : (some more : List Text) → ArePlain some → ArePlain more → ArePlain (some ++ more)
ArePlain-append [] more h k = k
ArePlain-append (text ∷ some) more h k = (h.0, ArePlain-append some more h.1 k)

ArePlain-ended : (word : Text) → IsPlain word → ArePlain (ended word)
ArePlain-ended [] h = tt
ArePlain-ended (byte ∷ bytes) h = (h, tt)

ArePlain-words_after : (bytes begun : Text) → IsPlain begun → ArePlain (words_after begun bytes)
ArePlain-words_after [] begun h = ArePlain-ended begun h
ArePlain-words_after (byte ∷ bytes) begun h = either ArePlain (is_ascii_alphanumeric byte) _ _
    (λ test. ArePlain-words_after bytes (begun ++ byte ∷ []) (all-append is_ascii_alphanumeric begun (byte ∷ []) h (and_both (is_ascii_alphanumeric byte) true test refl)))
    (λ test. ArePlain-append (ended begun) (words_after [] bytes) (ArePlain-ended begun h) (ArePlain-words_after bytes [] refl))

upper-plain : (b : ℕ) → is_ascii_alphanumeric b ≡ true → is_ascii_alphanumeric (to_ascii_uppercase b) ≡ true
upper-plain b h = grind (arith, nat_tests)

lower-word : (b : ℕ) → is_word_byte b ≡ true → is_word_byte (to_ascii_lowercase b) ≡ true
lower-word b h = grind (arith, nat_tests)

plain-raised : (word : Text) → IsPlain word → IsPlain (raised word)
plain-raised [] h = h
plain-raised (byte ∷ bytes) h = and_both (is_ascii_alphanumeric (to_ascii_uppercase byte)) _ (upper-plain byte (and_left _ _ h)) (and_right (is_ascii_alphanumeric byte) _ h)

plain-pascal_word : (word : Text) → IsPlain word → IsPlain (pascal_word word)
plain-pascal_word word h = either IsPlain (bytes_eq word (codes "id")) (codes "ID") (raised word) (λ test. refl) (λ test. plain-raised word h)

plain-joined : (words : List Text) → ArePlain words → IsPlain (flat_map pascal_word words)
plain-joined [] h = refl
plain-joined (word ∷ words) h = all-append is_ascii_alphanumeric (pascal_word word) (flat_map pascal_word words) (plain-pascal_word word h.0) (plain-joined words h.1)

-- letters and digits stand in words
pub plain-bytes : (text : Text) → IsPlain text → list_all is_word_byte text ≡ true
plain-bytes [] h = refl
plain-bytes (byte ∷ bytes) h = and_both (is_word_byte byte) _ (or_left (is_ascii_alphanumeric byte) (byte == 95) (and_left (is_ascii_alphanumeric byte) (list_all is_ascii_alphanumeric bytes) h)) (plain-bytes bytes (and_right (is_ascii_alphanumeric byte) _ h))

plain-with_letter : (text : Text) → IsPlain text → IsPlain (with_letter 88 text)
plain-with_letter [] h = refl
plain-with_letter (byte ∷ bytes) h = either IsPlain (is_ascii_digit byte) (88 ∷ byte ∷ bytes) (byte ∷ bytes) (λ test. h) (λ test. h)

word-with_letter : (text : Text) → IsPlain text → is_word (with_letter 88 text) ≡ true
word-with_letter [] h = refl
word-with_letter (byte ∷ bytes) h = either (λ made. is_word made ≡ true) (is_ascii_digit byte) (88 ∷ byte ∷ bytes) (byte ∷ bytes) (λ test. plain-bytes (byte ∷ bytes) h) (λ test. plain-bytes (byte ∷ bytes) h)

-- the identifier of a field holds letters and digits alone
pub pascal-plain : (name : Text) → IsPlain (pascal name)
unfolding pascal
pascal-plain name = plain-with_letter (flat_map pascal_word (words name)) (plain-joined (words name) (ArePlain-words_after name [] refl))

pub pascal-word : (name : Text) → is_word (pascal name) ≡ true
unfolding pascal
pascal-word name = word-with_letter (flat_map pascal_word (words name)) (plain-joined (words name) (ArePlain-words_after name [] refl))

pub model-word : (schema name : Text) → is_word (model_identifier schema name) ≡ true
unfolding model_identifier
model-word schema name = pascal-word (in_schema schema (singular name))

-- a word with more bytes of words behind it is a word
pub word-append : (text more : Text) → is_word text ≡ true → list_all is_word_byte more ≡ true → is_word (text ++ more) ≡ true
word-append [] more h k = cc
word-append (byte ∷ bytes) more h k = all-append is_word_byte (byte ∷ bytes) more h k

word-lowered : (text : Text) → is_word text ≡ true → is_word (lowered text) ≡ true
word-lowered [] h = h
word-lowered (byte ∷ bytes) h = and_both (is_word_byte (to_ascii_lowercase byte)) _ (lower-word byte (and_left _ _ h)) (and_right (is_word_byte byte) _ h)

word-freed : (text : Text) → is_word text ≡ true → is_word (freed text) ≡ true
word-freed text h = either (λ made. is_word made ≡ true) (is_taken text) (text ++ codes "_") text (λ test. word-append text (codes "_") h refl) (λ test. h)

pub constant-word : (query : Text) → is_word query ≡ true → is_word (constant_name query) ≡ true
unfolding constant_name
constant-word query h = word-freed (lowered query) (word-lowered query h)

pub row-word : (query : Text) → is_word query ≡ true → is_word (query ++ codes "Row") ≡ true
row-word query h = word-append query (codes "Row") h refl
