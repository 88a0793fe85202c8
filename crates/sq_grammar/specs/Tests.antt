-- Comparisons and tests, which do not chain.
use Rattle.std.specs.Prelude.{Bool, true, false, ◌||◌, List, [], ◌∷◌, Option, Some, None}
use Rattle.sq_base.specs.declared.place.Place.{Place}
use Rattle.sq_syntax.specs.declared.symbol.Symbol.{Symbol}
use Rattle.sq_syntax.specs.declared.symbol.Symbol.TheVariants as s
use Rattle.sq_syntax.specs.declared.symbol.Reading.{Reading}
use Rattle.sq_syntax.specs.declared.symbol.Reading.TheVariants as reading
use Rattle.sq_syntax.specs.declared.expr.Operator.{Operator}
use Rattle.sq_syntax.specs.declared.expr.Operator.TheVariants as operator
use Rattle.sq_syntax.specs.declared.expr.Comparison.{Comparison}
use Rattle.sq_syntax.specs.declared.expr.Matching.{Matching}
use Rattle.sq_syntax.specs.declared.expr.Matching.TheVariants as matching
use Rattle.sq_syntax.specs.declared.expr.Quantifier.{Quantifier}
use Rattle.sq_syntax.specs.declared.expr.Quantifier.TheVariants as quantifier
use Rattle.sq_syntax.specs.declared.expr.Test.{Test}
use Rattle.sq_syntax.specs.declared.expr.Test.TheVariants as test
use Rattle.sq_syntax.specs.declared.expr.Expression.TheVariants as e
use Rattle.sq_syntax.specs.declared.query.Query.{Query}
use Rattle.sq_syntax.specs.Facts.{Stream}
use Rattle.sq_grammar.specs.Reading.{Parser, ◌>>=◌, ◌>>◌, pure, choose, begins, begins_both, sees, expect, optional, token, here, node, many}
use Rattle.sq_grammar.specs.Ahead.{Lexemes, holds_query, operator_of, begins_quantifier, is_some}
use Rattle.sq_grammar.specs.Levels.{Expr, an_operator}

-- ---- comparisons and tests, which do not chain

abbrev pub sees_range : Symbol → Stream → Bool
sees_range word now = begins word now.tokens || begins_both s.Not word now.tokens

abbrev pub test_of : Bool → Reading → Place → Option Test
test_of false (reading.Symbol s.Null) place = Some test.Null
test_of true (reading.Symbol s.Null) place = Some test.NotNull
test_of false (reading.Symbol s.True) place = Some test.True
test_of true (reading.Symbol s.True) place = Some test.NotTrue
test_of false (reading.Symbol s.False) place = Some test.False
test_of true (reading.Symbol s.False) place = Some test.NotFalse
test_of false (reading.Symbol s.Unknown) place = Some test.Unknown
test_of true (reading.Symbol s.Unknown) place = Some test.NotUnknown
test_of _ _ place = None

abbrev pub tested : Stream → Place → Expr → Bool → Parser Expr
tested start place left negated = do
  found ← token (test_of negated)
  node start place (e.Tested left found)

abbrev pub distinct : Parser Expr → Stream → Place → Expr → Bool → Parser Expr
distinct operand start place left negated = do
  expect s.Distinct
  expect s.From
  right ← operand
  node start place (e.Distinct left negated right)

abbrev pub is_after : Parser Expr → Stream → Place → Expr → Parser Expr
is_after operand start place left = do
  expect s.Is
  negated ← optional s.Not
  choose (sees s.Distinct) (distinct operand start place left negated) (tested start place left negated)

abbrev pub null_word : Stream → Place → Expr → Parser Expr
null_word start place left = expect s.IsNull >> node start place (e.Tested left test.NullWord)

abbrev pub not_null_word : Stream → Place → Expr → Parser Expr
not_null_word start place left = expect s.NotNull >> node start place (e.Tested left test.NotNullWord)

abbrev pub not_null_after : Stream → Place → Expr → Parser Expr
not_null_after start place left = choose (sees s.NotNull) (not_null_word start place left) (pure left)

abbrev pub null_after : Stream → Place → Expr → Parser Expr
null_after start place left = choose (sees s.IsNull) (null_word start place left) (not_null_after start place left)

abbrev pub test_after : Parser Expr → Stream → Place → Expr → Parser Expr
test_after operand start place left = choose (sees s.Is) (is_after operand start place left) (null_after start place left)

unfoldable pub testing : Parser Expr → Parser Expr
testing operand start = (operand >>= (λ left now. test_after operand start (here now) left now)) start

abbrev pub between_after : Parser Expr → Stream → Place → Expr → Parser Expr
between_after operand start place left = do
  negated ← optional s.Not
  expect s.Between
  symmetric ← optional s.Symmetric
  low ← operand
  expect s.And
  high ← operand
  node start place (e.Between left negated symmetric low high)

abbrev pub like_after : Symbol → Matching → Parser Expr → Stream → Place → Expr → Parser Expr
like_after word matching operand start place left = do
  negated ← optional s.Not
  expect word
  right ← operand
  node start place (e.Like left negated matching right)

-- an operator before ANY, SOME or ALL
abbrev pub is_quantified : Option Operator → Lexemes → Bool
is_quantified None rest = false
is_quantified (Some x) rest = begins_quantifier rest

abbrev pub begins_quantified : Lexemes → Bool
begins_quantified [] = false
begins_quantified (x ∷ rest) = is_quantified (operator_of x.reading) rest

abbrev pub quantifier_of : Reading → Place → Option Quantifier
quantifier_of (reading.Symbol s.Any) place = Some quantifier.Any
quantifier_of (reading.Symbol s.Some) place = Some quantifier.Some
quantifier_of (reading.Symbol s.All) place = Some quantifier.All
quantifier_of _ place = None

unfoldable pub a_quantifier : Parser Quantifier
a_quantifier = token quantifier_of

abbrev pub as_comparison : Option Operator → Option Comparison
as_comparison (Some (operator.Comparison x)) = Some x
as_comparison _ = None

abbrev pub comparison_of : Reading → Place → Option Comparison
comparison_of r place = as_comparison (operator_of r)

unfoldable pub a_comparison : Parser Comparison
a_comparison = token comparison_of

abbrev pub begins_comparison : Lexemes → Bool
begins_comparison [] = false
begins_comparison (x ∷ rest) = is_some (as_comparison (operator_of x.reading))

abbrev pub comparison_after : Parser Expr → Stream → Place → Expr → Parser Expr
comparison_after operand start place left = do
  by ← a_comparison
  right ← operand
  node start place (e.Compared left by right)

module _ (nested : Parser Expr) (inner : Parser Query) where
  abbrev pub next_of_list : Parser Expr
  next_of_list = expect s.Comma >> nested

  unfoldable pub list : Parser (List Expr)
  list = do
    first ← nested
    more ← many (sees s.Comma) next_of_list
    pure (first ∷ more)

  abbrev pub in_query : Stream → Place → Expr → Bool → Parser Expr
  in_query start place left negated = do
    expect s.Open
    query ← inner
    expect s.Close
    node start place (e.InQuery left negated query)

  abbrev pub in_list : Stream → Place → Expr → Bool → Parser Expr
  in_list start place left negated = do
    expect s.Open
    xs ← list
    expect s.Close
    node start place (e.InList left negated xs)

  abbrev pub in_after : Stream → Place → Expr → Parser Expr
  in_after start place left = do
    negated ← optional s.Not
    expect s.In
    choose (λ now. holds_query now.tokens) (in_query start place left negated) (in_list start place left negated)

  abbrev pub ilike_or : Parser Expr → Stream → Place → Expr → Parser Expr
  ilike_or operand start place left = choose (sees_range s.Ilike) (like_after s.Ilike matching.Ilike operand start place left) (pure left)

  abbrev pub like_or : Parser Expr → Stream → Place → Expr → Parser Expr
  like_or operand start place left = choose (sees_range s.Like) (like_after s.Like matching.Like operand start place left) (ilike_or operand start place left)

  abbrev pub in_or : Parser Expr → Stream → Place → Expr → Parser Expr
  in_or operand start place left = choose (sees_range s.In) (in_after start place left) (like_or operand start place left)

  abbrev pub range_after : Parser Expr → Stream → Place → Expr → Parser Expr
  range_after operand start place left = choose (sees_range s.Between) (between_after operand start place left) (in_or operand start place left)

  unfoldable pub ranged : Parser Expr → Parser Expr
  ranged operand start = (operand >>= (λ left now. range_after operand start (here now) left now)) start

  abbrev pub any_query : Stream → Place → Expr → Operator → Quantifier → Parser Expr
  any_query start place left by word = do
    expect s.Open
    query ← inner
    expect s.Close
    node start place (e.AnyQuery left by word query)

  abbrev pub any_array : Stream → Place → Expr → Operator → Quantifier → Parser Expr
  any_array start place left by word = do
    expect s.Open
    right ← nested
    expect s.Close
    node start place (e.AnyArray left by word right)

  abbrev pub quantified_after : Stream → Place → Expr → Parser Expr
  quantified_after start place left = do
    by ← an_operator
    word ← a_quantifier
    choose (λ now. holds_query now.tokens) (any_query start place left by word) (any_array start place left by word)

  abbrev pub compared_or : Parser Expr → Stream → Place → Expr → Parser Expr
  compared_or operand start place left = choose (λ now. begins_comparison now.tokens) (comparison_after operand start place left) (pure left)

  abbrev pub relation_after : Parser Expr → Stream → Place → Expr → Parser Expr
  relation_after operand start place left = choose (λ now. begins_quantified now.tokens) (quantified_after start place left) (compared_or operand start place left)

  unfoldable pub related : Parser Expr → Parser Expr
  related operand start = (operand >>= (λ left now. relation_after operand start (here now) left now)) start
