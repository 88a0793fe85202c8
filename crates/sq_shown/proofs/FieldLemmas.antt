-- The names of the fields of one struct are words, and no two are equal.
use Rattle.std.proofs.Common.{◌≡◌, ◌+◌, ◌<◌, ◌≤◌, ◌/◌, ◌%◌, ◌^◌, ℕ, zero, suc, Bool, true, false, ◌||◌, List, [], ◌∷◌, ◌++◌, length, map, refl, sym, subst, ◌∙◌, arith, length-append, append_assoc}
use Rattle.std.proofs.lemmas.Bool.Decides.{nat_tests}
use Rattle.std.proofs.lemmas.Fmt.{decimal_injective}
use Rattle.std.proofs.lemmas.List.Sums.{sum_by-append, count_by-le-length}
use Rattle.std.proofs.lemmas.Slice.Eq.{bytes_eq-Decides}
use Rattle.std.specs.Char.{is_ascii_alphanumeric}
use Rattle.std.specs.Fmt.{digit_glyph, digits_onto, digits, decimal}
use Rattle.std.specs.List.{list_all, list_any}
use Rattle.std.specs.Prelude.{◌==◌, codes, bytes_eq, count_by}
use Rattle.sq_shown.specs.declared.signature.Output.{Output}
use Rattle.sq_shown.specs.declared.signature.ShownField.{ShownField}
use Rattle.sq_shown.specs.Identifiers.{pascal, with_number, numbered}
use Rattle.sq_shown.specs.Lines.{Text}
use Rattle.sq_shown.specs.Names.{has_equal}
use Rattle.sq_shown.specs.Signature.{field, fields_after, fields, shown_columns}
use Rattle.sq_shown.specs.Words.{is_word}
use Rattle.sq_shown.proofs.Ascii.{either}
use Rattle.sq_shown.proofs.Bools.{and_left, and_right, bytes_eq-same}
use Rattle.sq_shown.proofs.WordLemmas.{IsPlain, and_both, plain-bytes, word-append, pascal-plain, pascal-word}

glyph-plain : (digit : ℕ) → digit < 10 → is_ascii_alphanumeric (digit_glyph false digit) ≡ true
glyph-plain digit small = grind (arith, nat_tests)

plain-digits_onto : (k n : ℕ) (after : Text) → IsPlain after → IsPlain (digits_onto k 10 false n after)
plain-digits_onto zero n after h = h
plain-digits_onto (suc k) n after h =
    let last : IsPlain (digit_glyph false (n % 10) ∷ after) = and_both (is_ascii_alphanumeric (digit_glyph false (n % 10))) (list_all is_ascii_alphanumeric after) (glyph-plain (n % 10) (omega arith)) h in
    either IsPlain (n / 10 == 0) (digit_glyph false (n % 10) ∷ after) (digits_onto k 10 false (n / 10) (digit_glyph false (n % 10) ∷ after))
    (λ test. last) (λ test. plain-digits_onto k (n / 10) (digit_glyph false (n % 10) ∷ after) last)

plain-decimal : (n : ℕ) → IsPlain (decimal n)
unfolding digits
plain-decimal n = plain-digits_onto 64 n [] refl

word-with_number : (identifier : Text) (earlier : ℕ) → is_word identifier ≡ true → is_word (with_number identifier earlier) ≡ true
word-with_number identifier earlier h = either (λ name. is_word name ≡ true) (earlier == 0) identifier (identifier ++ codes "_" ++ decimal (earlier + 1))
    (λ test. h) (λ test. word-append (identifier ++ codes "_") (decimal (earlier + 1)) (word-append identifier (codes "_") h refl) (plain-bytes (decimal (earlier + 1)) (plain-decimal (earlier + 1))))

word-numbered : (earlier : List Text) (identifier : Text) → is_word identifier ≡ true → is_word (numbered earlier identifier) ≡ true
unfolding numbered
word-numbered earlier identifier h = word-with_number identifier (count_by (λ other. bytes_eq other identifier) earlier) h

word-field : (name : Text) (column : Output) → is_word name ≡ true → is_word (field name column).name ≡ true
unfolding field
word-field name column h = h

-- each field is named by a word
pub fields-words : (columns : List Output) (earlier : List Text) → list_all (λ (field : ShownField). is_word field.name) (fields_after earlier columns) ≡ true
fields-words [] earlier = refl
fields-words (column ∷ columns) earlier =
    and_both (is_word (field (numbered earlier (pascal column.name)) column).name) (list_all (λ (field : ShownField). is_word field.name) (fields_after (earlier ++ pascal column.name ∷ []) columns))
    (word-field (numbered earlier (pascal column.name)) column (word-numbered earlier (pascal column.name) (pascal-word column.name)))
    (fields-words columns (earlier ++ pascal column.name ∷ []))

pub columns-words : (columns : List Output) → list_all (λ (field : ShownField). is_word field.name) (shown_columns columns) ≡ true
columns-words [] = refl
columns-words (column ∷ []) = and_both (is_word (field (codes "_") column).name) true (word-field (codes "_") column refl) refl
columns-words (column ∷ second ∷ columns) = fields-words (column ∷ second ∷ columns) []

-- a plain text holds no `_`
marked : (before after : Text) → IsPlain (before ++ (95 ∷ after)) → ⊥
marked [] after h = cc
marked (byte ∷ before) after h = marked before after (and_right (is_ascii_alphanumeric byte) (list_all is_ascii_alphanumeric (before ++ (95 ∷ after))) h)

unmarked : (plain before after : Text) → IsPlain plain → plain ≡ before ++ (95 ∷ after) → ⊥
unmarked plain before after h e = marked before after (subst IsPlain e h)

-- so its first `_` splits a text in one way
same_split : (some other after behind : Text) → IsPlain some → IsPlain other → some ++ (95 ∷ after) ≡ other ++ (95 ∷ behind) → (some ≡ other) × (after ≡ behind)
same_split [] [] after behind p q e = (refl, cc)
same_split [] (byte ∷ other) after behind p q e =
    let same : byte ≡ 95 = cc in
    let first : is_ascii_alphanumeric byte ≡ true = and_left (is_ascii_alphanumeric byte) (list_all is_ascii_alphanumeric other) q in
    let never : false ≡ true = subst (λ b. is_ascii_alphanumeric b ≡ true) same first in
    absurd cc
same_split (byte ∷ some) [] after behind p q e =
    let same : byte ≡ 95 = cc in
    let first : is_ascii_alphanumeric byte ≡ true = and_left (is_ascii_alphanumeric byte) (list_all is_ascii_alphanumeric some) p in
    let never : false ≡ true = subst (λ b. is_ascii_alphanumeric b ≡ true) same first in
    absurd cc
same_split (byte ∷ some) (second ∷ other) after behind p q e =
    let later : some ++ (95 ∷ after) ≡ other ++ (95 ∷ behind) = cc in
    let split : (some ≡ other) × (after ≡ behind) = same_split some other after behind (and_right (is_ascii_alphanumeric byte) (list_all is_ascii_alphanumeric some) p) (and_right (is_ascii_alphanumeric second) (list_all is_ascii_alphanumeric other) q) later in
    let rest : some ≡ other = split.0 in
    (cc, split.1)

-- a name with a number is the identifier, `_` and the number
numbered_is : (identifier : Text) (n : ℕ) → (identifier ++ codes "_") ++ decimal n ≡ identifier ++ (95 ∷ decimal n)
numbered_is identifier n = append_assoc identifier (codes "_") (decimal n)

not_same : (test : Bool) → (test ≡ true → ⊥) → test ≡ false
not_same true h = absurd (h refl)
not_same false h = refl

-- an identifier and how many equal ones stand before it are told by the name that is made of them
same_number : (some other : Text) (j k : ℕ) → IsPlain some → IsPlain other → j + 1 < 2 ^ 64 → k + 1 < 2 ^ 64
    → (some ++ codes "_") ++ decimal (j + 1) ≡ (other ++ codes "_") ++ decimal (k + 1) → (some ≡ other) × (j ≡ k)
same_number some other j k p q s t e =
    let split : (some ≡ other) × (decimal (j + 1) ≡ decimal (k + 1)) =
    same_split some other (decimal (j + 1)) (decimal (k + 1)) p q (sym (numbered_is some (j + 1)) ∙ e ∙ numbered_is other (k + 1)) in
    let numbers : j + 1 ≡ k + 1 = decimal_injective (j + 1) (k + 1) s t split.1 in
    (split.0, omega arith)

not_zero : (k : ℕ) → (suc k == 0) ≡ false
not_zero k = grind (arith, nat_tests)

with_number_is : (identifier : Text) (k : ℕ) → with_number identifier (suc k) ≡ (identifier ++ codes "_") ++ decimal (suc k + 1)
with_number_is identifier k = rw not_zero

same_name : (some other : Text) (j k : ℕ) → IsPlain some → IsPlain other → j + 1 < 2 ^ 64 → k + 1 < 2 ^ 64
    → with_number some j ≡ with_number other k → (some ≡ other) × (j ≡ k)
same_name some other zero zero p q s t e = (e, refl)
same_name some other zero (suc k) p q s t e = absurd (unmarked some other (decimal (suc k + 1)) p (e ∙ with_number_is other k ∙ numbered_is other (suc k + 1)))
same_name some other (suc j) zero p q s t e = absurd (unmarked other some (decimal (suc j + 1)) q (sym e ∙ with_number_is some j ∙ numbered_is some (suc j + 1)))
same_name some other (suc j) (suc k) p q s t e = same_number some other (suc j) (suc k) p q s t (sym (with_number_is some j) ∙ e ∙ with_number_is other k)

-- how many of these are this one
abbrev count : Text → List Text → ℕ
count identifier earlier = count_by (λ other. bytes_eq other identifier) earlier

count-append : (identifier : Text) (earlier more : List Text) → count identifier (earlier ++ more) ≡ count identifier earlier + count identifier more
count-append identifier earlier more = sum_by-append _ earlier more

count-own : (identifier : Text) → count identifier (identifier ∷ []) ≡ 1
count-own identifier = rw (bytes_eq-same identifier)

count-le : (identifier : Text) (earlier : List Text) → count identifier earlier ≤ length earlier
count-le identifier earlier = count_by-le-length (λ other. bytes_eq other identifier) earlier

or_both : (a b : Bool) → a ≡ false → b ≡ false → (a || b) ≡ false
or_both a b left right = rw (left, right)

abbrev names : List ShownField → List Text
names fields = map (λ (field : ShownField). field.name) fields

-- a field's name
field_name : (earlier : List Text) (identifier : Text) (column : Output) → (field (numbered earlier identifier) column).name ≡ with_number identifier (count identifier earlier)
unfolding field numbered
field_name earlier identifier column = refl

-- a name that is made of an identifier and a count is no later field's, where more such identifiers stand before that
later-apart : (columns : List Output) (earlier : List Text) (identifier : Text) (k : ℕ)
    → IsPlain identifier → k < count identifier earlier → length earlier + length columns < 2 ^ 64
    → list_any (bytes_eq (with_number identifier k)) (names (fields_after earlier columns)) ≡ false
later-apart [] earlier identifier k plain below small = refl
later-apart (column ∷ columns) earlier identifier k plain below small =
    let own = pascal column.name in
    let grown : count identifier (earlier ++ own ∷ []) ≡ count identifier earlier + count identifier (own ∷ []) = count-append identifier earlier (own ∷ []) in
    let longer : length (earlier ++ own ∷ []) ≡ length earlier + 1 = length-append earlier (own ∷ []) in
    or_both (bytes_eq (with_number identifier k) (field (numbered earlier own) column).name) (list_any (bytes_eq (with_number identifier k)) (names (fields_after (earlier ++ own ∷ []) columns)))
    (subst (λ name. bytes_eq (with_number identifier k) name ≡ false) (sym (field_name earlier own column)) (other-name identifier own earlier k columns plain (pascal-plain column.name) below small))
    (later-apart columns (earlier ++ own ∷ []) identifier k plain (omega arith) (omega arith))
  where
    other-name : (identifier own : Text) (earlier : List Text) (k : ℕ) (columns : List Output) → IsPlain identifier → IsPlain own → k < count identifier earlier → length earlier + suc (length columns) < 2 ^ 64
        → bytes_eq (with_number identifier k) (with_number own (count own earlier)) ≡ false
    other-name identifier own earlier k columns p q below small = not_same _ (λ test.
        let within : count identifier earlier ≤ length earlier = count-le identifier earlier in
        let own_within : count own earlier ≤ length earlier = count-le own earlier in
        let same : (identifier ≡ own) × (k ≡ count own earlier) =
        same_name identifier own k (count own earlier) p q (omega arith) (omega arith) ((bytes_eq-Decides (with_number identifier k) (with_number own (count own earlier))).0 test) in
        let counts : k < count own earlier = subst (λ text. k < count text earlier) same.0 below in
        omega arith)

-- no two names of later fields are equal
apart-after : (columns : List Output) (earlier : List Text) → length earlier + length columns < 2 ^ 64 → has_equal (names (fields_after earlier columns)) ≡ false
apart-after [] earlier small = refl
apart-after (column ∷ columns) earlier small =
    let own = pascal column.name in
    let grown : count own (earlier ++ own ∷ []) ≡ count own earlier + count own (own ∷ []) = count-append own earlier (own ∷ []) in
    let one : count own (own ∷ []) ≡ 1 = count-own own in
    let longer : length (earlier ++ own ∷ []) ≡ length earlier + 1 = length-append earlier (own ∷ []) in
    or_both (list_any (bytes_eq (field (numbered earlier own) column).name) (names (fields_after (earlier ++ own ∷ []) columns))) (has_equal (names (fields_after (earlier ++ own ∷ []) columns)))
    (subst (λ name. list_any (bytes_eq name) (names (fields_after (earlier ++ own ∷ []) columns)) ≡ false) (sym (field_name earlier own column))
    (later-apart columns (earlier ++ own ∷ []) own (count own earlier) (pascal-plain column.name) (omega arith) (omega arith)))
    (apart-after columns (earlier ++ own ∷ []) (omega arith))

pub fields-apart : (columns : List Output) → length columns < 2 ^ 64 → has_equal (names (fields columns)) ≡ false
fields-apart columns small = apart-after columns [] (omega arith)

pub columns-apart : (columns : List Output) → length columns < 2 ^ 64 → has_equal (names (shown_columns columns)) ≡ false
columns-apart [] small = refl
columns-apart (column ∷ []) small = refl
columns-apart (column ∷ second ∷ columns) small = fields-apart (column ∷ second ∷ columns) small
