-- Words that expressions and queries do not know are read as they are spelled, and are spelled as they are read.
use Rattle.std.proofs.Common.{◌≡◌, ℕ, suc, true, false, List, [], ◌∷◌, Some, refl, sym, ap, ◌∙◌, inl, inr}
use Rattle.std.specs.Prelude.{bytes_eq}
use Rattle.std.proofs.lemmas.Option.{some_pair_parts}
use Rattle.std.proofs.lemmas.Slice.Eq.{bytes_eq-Decides}
use Rattle.sq_base.specs.declared.place.Place.{Place}
use Rattle.sq_syntax.specs.declared.symbol.Symbol.{Symbol}
use Rattle.sq_syntax.specs.declared.symbol.Reading.{Reading}
use Rattle.sq_syntax.specs.declared.symbol.Reading.TheVariants as reading
use Rattle.sq_syntax.specs.Facts.{Stream, Says}
use Rattle.sq_syntax.specs.Statements.{word as key_word}
use Rattle.sq_grammar.specs.Reading.{sees}
use Rattle.sq_grammar.specs.Ahead.{Lexemes}
use Rattle.sq_grammar.specs.Statements.{is_word, begins_word, sees_word, take_word, expect_word}
use Rattle.sq_grammar.proofs.Complete.{says_begins}
use Rattle.sq_grammar.proofs.Takes.{Took, said, chosen}

same_word : (letters : List ℕ) → bytes_eq letters letters ≡ true
same_word letters = (bytes_eq-Decides letters letters).1 refl

-- ---- forwards

says_take : (letters : List ℕ) (n : ℕ) (tokens : Lexemes) (place : Place) (next : Stream) → tokens ≡ record { reading = reading.Word letters; place = place } ∷ next.tokens → next.at ≡ suc n → take_word letters n tokens ≡ Some (tt, next)
says_take letters n tokens place next h c = rw (h, same_word letters, sym c) refl

pub says_word : (letters : List ℕ) (now next : Stream) → Says (reading.Word letters) now next → expect_word letters now ≡ Some (tt, next)
unfolding expect_word
says_word letters now next h = says_take letters now.at now.tokens h.place next h.first h.counted

-- what is asked of the tokens ahead is answered by the first
pub word_begins : (letters : List ℕ) (r : Reading) (now next : Stream) → Says r now next → sees_word letters now ≡ is_word letters r
word_begins letters r now next h = ap (λ tokens. begins_word letters tokens) h.first

pub that_word : (letters : List ℕ) (now next : Stream) → Says (reading.Word letters) now next → sees_word letters now ≡ true
that_word letters now next h = word_begins letters (reading.Word letters) now next h ∙ same_word letters

pub symbol_no_word : (letters : List ℕ) (k : Symbol) (now next : Stream) → Says (reading.Symbol k) now next → sees_word letters now ≡ false
symbol_no_word letters k now next h = word_begins letters (reading.Symbol k) now next h

pub word_no_symbol : (k : Symbol) (letters : List ℕ) (now next : Stream) → Says (reading.Word letters) now next → sees k now ≡ false
word_no_symbol k letters now next h = says_begins k (reading.Word letters) now next h

-- ---- backwards

is_that_word : (letters : List ℕ) (r : Reading) → is_word letters r ≡ true → r ≡ reading.Word letters
is_that_word letters (reading.Word word) h = ap (λ w. reading.Word w) ((bytes_eq-Decides word letters).0 h)
is_that_word letters _ h = absurd (cc)

word_says : (letters : List ℕ) (n : ℕ) (tokens : Lexemes) (next : Stream) (u : Unit {0}) → take_word letters n tokens ≡ Some (u, next) → Says (reading.Word letters) (record { at = n; tokens = tokens }) next
word_says letters n [] next u h = absurd (cc)
word_says letters n (y ∷ rest) next u h = elim (chosen {b = is_word letters y.reading} h) [
  | inl (b, e) ↦
      let parts = some_pair_parts tt u _ next e in
      record {
        place = y.place;
        first = ap (λ r. record { reading = r; place = y.place } ∷ rest) (is_that_word letters y.reading b) ∙ ap (λ (v : Stream). record { reading = reading.Word letters; place = y.place } ∷ v.tokens) parts.1;
        counted = ap (λ (v : Stream). v.at) (sym parts.1);
      }
  | inr (b, e) ↦ absurd (cc)
]

pub word_says_of : (letters : List ℕ) (now next : Stream) (u : Unit {0}) → expect_word letters now ≡ Some (u, next) → Says (reading.Word letters) now next
unfolding expect_word
word_says_of letters now next u h = word_says letters now.at now.tokens next u h

pub word_expected : {letters : List ℕ} {now next : Stream} {u : Unit {0}} → expect_word letters now ≡ Some (u, next) → Took (key_word letters ∷ []) now next
unfolding expect_word
word_expected {letters} {now} {next} {u} h = said (reading.Word letters) now next (word_says letters now.at now.tokens next u h)
