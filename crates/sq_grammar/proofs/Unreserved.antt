-- No expression that is read begins with a reserved word that the grammar of expressions does not know.
use Rattle.std.proofs.Common.{◌≡◌, Bool, true, false, [], ◌∷◌, Some, None, refl, ap}
use Rattle.std.specs.Prelude.{ℕ, ◌||◌, if◌then◌else◌}
use Rattle.sq_base.specs.declared.place.Place.{Place}
use Rattle.sq_syntax.specs.declared.symbol.Symbol.{Symbol}
use Rattle.sq_syntax.specs.declared.symbol.Symbol.TheVariants as s
use Rattle.sq_syntax.specs.declared.symbol.Reading.{Reading}
use Rattle.sq_syntax.specs.declared.symbol.Reading.TheVariants as reading
use Rattle.sq_syntax.specs.declared.name.Identifier.{Identifier}
use Rattle.sq_syntax.specs.declared.name.TypeWord.{TypeWord}
use Rattle.sq_syntax.specs.declared.name.TypeWord.TheVariants as type_word
use Rattle.sq_syntax.specs.declared.expr.Expression.TheVariants as e
use Rattle.sq_syntax.specs.declared.query.Query.{Query}
use Rattle.sq_syntax.specs.Facts.{Stream}
use Rattle.sq_syntax.specs.Symbols.{is_name}
use Rattle.sq_syntax.specs.ExpressionPieces.{is_call_reading}
use Rattle.sq_grammar.specs.Reading.{Outcome, Parser, choose, is, begins, begins_both, expect, take_symbol, take_as, token, after, and_rest}
use Rattle.sq_grammar.specs.Ahead.{Lexemes, types_text}
use Rattle.sq_grammar.specs.Levels.{Expr, converted, signed, collated, zoned, operation, negated, conjunction, disjunction}
use Rattle.sq_grammar.specs.Names.{word_of, only, call_of, name, qualified_name, column_name, two_words, named_type, type_words, type, call_name}
use Rattle.sq_grammar.specs.Tests.{ranged, related, testing}
use Rattle.sq_grammar.specs.Primaries.{typed_text, column, calls, call, named, by_reading, primary_of, primary, subscripted, above_tests, expression}
use Rattle.sq_grammar.proofs.Begins.{part_of, none_some, head_fits, Starts, chain_starts, prefix_starts}
use Rattle.sq_grammar.proofs.OutputStarts.{name_first}
use Rattle.sq_grammar.proofs.Unstarred.{symbol_is}

-- a word is a name
abbrev pub unreserved : Reading → Bool
unreserved (reading.Word word) = is_name (reading.Word word)
unreserved _ = true

-- what is read begins so
abbrev pub Unreserved : {A : Type 0} → Parser A → Type 0
Unreserved {A} p = (now next : Stream) (x : A) → p now ≡ Some (x, next) → head_fits unreserved now.tokens ≡ true

-- ---- single tokens

name_unreserved : (r : Reading) → is_name r ≡ true → unreserved r ≡ true
name_unreserved (reading.Word word) h = h
name_unreserved _ h = refl

call_unreserved : (r : Reading) → is_call_reading r ≡ true → unreserved r ≡ true
call_unreserved (reading.Word word) h = h
call_unreserved _ h = refl

symbol_unreserved : (k : Symbol) (r : Reading) → is k r ≡ true → unreserved r ≡ true
symbol_unreserved k r h = ap unreserved (symbol_is k r h)

head_name : (tokens : Lexemes) → head_fits is_name tokens ≡ true → head_fits unreserved tokens ≡ true
head_name [] h = absurd (cc)
head_name (x ∷ rest) h = name_unreserved x.reading h

pub head_symbol : (k : Symbol) (tokens : Lexemes) → begins k tokens ≡ true → head_fits unreserved tokens ≡ true
head_symbol k [] h = absurd (cc)
head_symbol k (x ∷ rest) h = symbol_unreserved k x.reading h

either_symbol : (j k : Symbol) (tokens : Lexemes) → begins j tokens || begins k tokens ≡ true → head_fits unreserved tokens ≡ true
either_symbol j k tokens h = by_first (begins j tokens) refl h
  where
    by_first : (b : Bool) → begins j tokens ≡ b → b || begins k tokens ≡ true → head_fits unreserved tokens ≡ true
    by_first true w g = head_symbol j tokens w
    by_first false w g = head_symbol k tokens g

taken : (k : Symbol) (n : ℕ) (tokens : Lexemes) (u : Unit {0}) (next : Stream) → take_symbol k n tokens ≡ Some (u, next) → begins k tokens ≡ true
taken k n [] u next h = absurd (none_some h)
taken k n (x ∷ rest) u next h = by_seen (is k x.reading) h
  where
    by_seen : (c : Bool) → ◌≡◌ {A = Outcome (Unit {0})} (if c then Some (tt, after n rest) else None) (Some (u, next)) → c ≡ true
    by_seen true g = refl
    by_seen false g = absurd (none_some g)

pub expect_begins : (k : Symbol) (now next : Stream) (u : Unit {0}) → expect k now ≡ Some (u, next) → begins k now.tokens ≡ true
unfolding expect
expect_begins k now next u h = taken k now.at now.tokens u next h

-- ---- names, types and calls

name_begins : Unreserved name
name_begins now next x h = head_name now.tokens (name_first now.at now.tokens x next h)

qualified_begins : Unreserved qualified_name
unfolding qualified_name
qualified_begins now next x h = let q = part_of (name now) _ (x, next) h in name_begins now q.next q.value q.is

column_begins : Unreserved column_name
unfolding column_name
column_begins now next x h = let q = part_of (name now) _ (x, next) h in name_begins now q.next q.value q.is

either : {A : Type 0} (test : Stream → Bool) (this other : Parser A) → Unreserved this → Unreserved other → Unreserved (choose test this other)
either test this other m k now next x h = by_test (test now) h
  where
    by_test : (c : Bool) → (if c then this now else other now) ≡ Some (x, next) → head_fits unreserved now.tokens ≡ true
    by_test true g = m now next x g
    by_test false g = k now next x g

words_begin : (j k : Symbol) (made : Place → TypeWord) → Unreserved (two_words j k made)
words_begin j k made now next x h = let q = part_of (expect j now) _ (x, next) h in head_symbol j now.tokens (expect_begins j now q.next q.value q.is)

named_type_begins : Unreserved named_type
named_type_begins now next x h = let q = part_of (qualified_name now) _ (x, next) h in qualified_begins now q.next q.value q.is

type_words_begin : Unreserved type_words
unfolding type_words
type_words_begin =
    either (λ now. begins_both s.Double s.Precision now.tokens) (two_words s.Double s.Precision type_word.DoublePrecision)
    (choose (λ now. begins_both s.Character s.Varying now.tokens) (two_words s.Character s.Varying type_word.CharacterVarying) named_type) (words_begin s.Double s.Precision type_word.DoublePrecision)
    (either (λ now. begins_both s.Character s.Varying now.tokens) (two_words s.Character s.Varying type_word.CharacterVarying) named_type (words_begin s.Character s.Varying type_word.CharacterVarying) named_type_begins)

type_begins : Unreserved type
unfolding type
type_begins now next x h = let q = part_of (type_words now) _ (x, next) h in type_words_begin now q.next q.value q.is

call_first : (n : ℕ) (tokens : Lexemes) (y : Identifier) (next : Stream) → take_as call_of n tokens ≡ Some (y, next) → head_fits unreserved tokens ≡ true
call_first n [] y next h = absurd (none_some h)
call_first n (x ∷ rest) y next h = by_call (is_call_reading x.reading) refl h
  where
    by_call : (c : Bool) → is_call_reading x.reading ≡ c → and_rest (only c (word_of x.reading x.place)) (after n rest) ≡ Some (y, next) → unreserved x.reading ≡ true
    by_call true k g = call_unreserved x.reading k
    by_call false k g = absurd (none_some g)

call_name_begins : Unreserved call_name
unfolding call_name
call_name_begins now next x h = let q = part_of (token call_of now) _ (x, next) h in call_first now.at now.tokens q.value q.next q.is

module _ (nested : Parser Expr) (inner : Parser Query) where
  typed_text_begins : Unreserved typed_text
  unfolding typed_text
  typed_text_begins now next x h = let q = part_of (type now) _ (x, next) h in type_begins now q.next q.value q.is

  column_node_begins : Unreserved column
  unfolding column
  column_node_begins now next x h = let q = part_of (column_name now) _ (x, next) h in column_begins now q.next q.value q.is

  call_begins : Unreserved (call nested inner)
  unfolding call
  call_begins now next x h = let q = part_of (call_name now) _ (x, next) h in call_name_begins now q.next q.value q.is

  named_begins : Unreserved (named nested inner)
  named_begins =
      either (λ now. types_text now.tokens) typed_text (choose (λ now. calls now.tokens) (call nested inner) column) typed_text_begins
      (either (λ now. calls now.tokens) (call nested inner) column call_begins column_node_begins)

  -- ---- all levels

  read_begins : (r : Reading) (now next : Stream) (y : Expr) → by_reading nested inner r now ≡ Some (y, next) → (head_fits unreserved now.tokens ≡ true → unreserved r ≡ true) → unreserved r ≡ true
  read_begins (reading.Word word) now next y h back = back (named_begins now next y h)
  read_begins _ now next y h back = refl

  primary_at : (n : ℕ) (tokens : Lexemes) (next : Stream) (y : Expr) → primary_of nested inner tokens (record { at = n; tokens = tokens }) ≡ Some (y, next) → head_fits unreserved tokens ≡ true
  primary_at n [] next y h = absurd (none_some h)
  primary_at n (x ∷ rest) next y h = read_begins x.reading (record { at = n; tokens = x ∷ rest }) next y h (λ k. k)

  primary_begins : Unreserved (primary nested inner)
  unfolding primary
  primary_begins now next x h = primary_at now.at now.tokens next x h

  subscripted_begins : Starts unreserved (subscripted nested inner)
  unfolding subscripted
  subscripted_begins now next x h = let q = part_of (primary nested inner now) _ (x, next) h in primary_begins now q.next q.value q.is

  converted_begins : Starts unreserved (converted (subscripted nested inner))
  unfolding converted
  converted_begins = chain_starts unreserved _ _ _ e.Converted (subscripted nested inner) subscripted_begins

  signed_begins : Starts unreserved (signed (converted (subscripted nested inner)))
  unfolding signed
  signed_begins = prefix_starts unreserved _ _ _ e.Signed (converted (subscripted nested inner)) (λ now h. either_symbol s.Minus s.Plus now.tokens h) converted_begins

  collated_begins : (p : Parser Expr) → Starts unreserved p → Starts unreserved (collated p)
  unfolding collated
  collated_begins p st = chain_starts unreserved _ _ _ e.Collated p st

  zoned_begins : (p : Parser Expr) → Starts unreserved p → Starts unreserved (zoned p)
  unfolding zoned
  zoned_begins p st = chain_starts unreserved _ _ _ e.AtTimeZone p st

  operation_begins : (n : ℕ) (p : Parser Expr) → Starts unreserved p → Starts unreserved (operation n p)
  unfolding operation
  operation_begins n p st = chain_starts unreserved _ _ _ e.Operation p st

  above_begins : Starts unreserved (above_tests nested inner)
  above_begins = operation_begins 6 _ (operation_begins 7 _ (operation_begins 8 _ (operation_begins 9 _ (zoned_begins _ (collated_begins _ signed_begins)))))

  ranged_begins : (p : Parser Expr) → Starts unreserved p → Starts unreserved (ranged nested inner p)
  unfolding ranged
  ranged_begins p st now next x h = let q = part_of (p now) _ (x, next) h in st now q.next q.value q.is

  related_begins : (p : Parser Expr) → Starts unreserved p → Starts unreserved (related nested inner p)
  unfolding related
  related_begins p st now next x h = let q = part_of (p now) _ (x, next) h in st now q.next q.value q.is

  testing_begins : (p : Parser Expr) → Starts unreserved p → Starts unreserved (testing p)
  unfolding testing
  testing_begins p st now next x h = let q = part_of (p now) _ (x, next) h in st now q.next q.value q.is

  negated_begins : Starts unreserved (negated (testing (related nested inner (ranged nested inner (above_tests nested inner)))))
  unfolding negated
  negated_begins = prefix_starts unreserved _ _ _ e.Not _ (λ now h. head_symbol s.Not now.tokens h) (testing_begins _ (related_begins _ (ranged_begins _ above_begins)))

  pub expression_unreserved : Starts unreserved (expression nested inner)
  unfolding expression conjunction disjunction
  expression_unreserved = chain_starts unreserved _ _ _ e.Or _ (chain_starts unreserved _ _ _ e.And _ negated_begins)
