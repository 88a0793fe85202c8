-- Primaries and subscripts, and with them all expressions.
use Rattle.std.specs.Prelude.{ℕ, Bool, true, false, ◌&&◌, ◌||◌, not, if◌then◌else◌, List, [], ◌∷◌, Option, Some, None}
use Rattle.sq_base.specs.declared.place.Place.{Place}
use Rattle.sq_syntax.specs.declared.symbol.Symbol.{Symbol}
use Rattle.sq_syntax.specs.declared.symbol.Symbol.TheVariants as s
use Rattle.sq_syntax.specs.declared.symbol.Reading.{Reading}
use Rattle.sq_syntax.specs.declared.symbol.Reading.TheVariants as reading
use Rattle.sq_syntax.specs.declared.name.Identifier.{Identifier}
use Rattle.sq_syntax.specs.declared.expr.Constant.{Constant}
use Rattle.sq_syntax.specs.declared.expr.Constant.TheVariants as constant
use Rattle.sq_syntax.specs.declared.expr.Parameter.{Parameter}
use Rattle.sq_syntax.specs.declared.expr.Parameter.TheVariants as parameter
use Rattle.sq_syntax.specs.declared.expr.Purpose.{Purpose}
use Rattle.sq_syntax.specs.declared.expr.Purpose.TheVariants as purpose
use Rattle.sq_syntax.specs.declared.expr.ParameterName.{ParameterName}
use Rattle.sq_syntax.specs.declared.expr.ParameterName.TheVariants as parameter_name
use Rattle.sq_syntax.specs.declared.expr.Arm.{Arm}
use Rattle.sq_syntax.specs.declared.expr.Pool.{Pool}
use Rattle.sq_syntax.specs.declared.expr.Pool.TheVariants as pool
use Rattle.sq_syntax.specs.declared.expr.Moment.{Moment}
use Rattle.sq_syntax.specs.declared.expr.Moment.TheVariants as moment
use Rattle.sq_syntax.specs.declared.expr.Arguments.{Arguments}
use Rattle.sq_syntax.specs.declared.expr.Arguments.TheVariants as arguments
use Rattle.sq_syntax.specs.declared.expr.Sort.{Sort}
use Rattle.sq_syntax.specs.declared.expr.Direction.{Direction}
use Rattle.sq_syntax.specs.declared.expr.Direction.TheVariants as direction
use Rattle.sq_syntax.specs.declared.expr.Nulls.{Nulls}
use Rattle.sq_syntax.specs.declared.expr.Nulls.TheVariants as nulls
use Rattle.sq_syntax.specs.declared.expr.Index.{Index}
use Rattle.sq_syntax.specs.declared.expr.Expression.{Expression, out-Expression}
use Rattle.sq_syntax.specs.declared.expr.Expression.TheOpen.{Expression-F}
use Rattle.sq_syntax.specs.declared.expr.Expression.TheVariants as e
use Rattle.sq_syntax.specs.declared.query.Query.{Query}
use Rattle.sq_syntax.specs.declared.query.Factor.{Factor}
use Rattle.sq_syntax.specs.declared.query.Join.{Join}
use Rattle.sq_syntax.specs.declared.query.Source.{Source}
use Rattle.sq_syntax.specs.declared.query.From.{From}
use Rattle.sq_syntax.specs.declared.query.Select.{Select}
use Rattle.sq_syntax.specs.Facts.{Stream}
use Rattle.sq_syntax.specs.Symbols.{text, is_free, among}
use Rattle.sq_syntax.specs.ExpressionPieces.{aggregates, asks_aggregate, pool_symbol, moment_symbol, is_field}
use Rattle.sq_grammar.specs.declared.start.Start.{Start}
use Rattle.sq_grammar.specs.declared.start.Start.TheVariants as start
use Rattle.sq_grammar.specs.Reading.{Parser, ◌>>=◌, ◌>>◌, pure, fail, choose, is, begins, sees, expect, optional, token, here, node, many}
use Rattle.sq_grammar.specs.Ahead.{Lexemes, holds_query, types_text, is_some}
use Rattle.sq_grammar.specs.Names.{name, call_name, column_name, type}
use Rattle.sq_grammar.specs.Levels.{Expr, chained, zoned, operation, conjunction, disjunction, collated, converted, signed, negated}
use Rattle.sq_grammar.specs.Tests.{list, ranged, related, testing}

abbrev pub ExpressionLayer : Type 0
ExpressionLayer = Expression-F Expression Factor Join Source From Query Select

-- ---- primaries, over the parsers of what stands in brackets and in CASE

-- how a primary that begins with this symbol goes on
abbrev pub start_of : Symbol → Start
start_of s.True = start.True
start_of s.False = start.False
start_of s.Null = start.Null
start_of s.CurrentDate = start.Moment moment.CurrentDate
start_of s.CurrentTimestamp = start.Moment moment.CurrentTimestamp
start_of s.LocalTimestamp = start.Moment moment.LocalTimestamp
start_of s.Open = start.Brackets
start_of s.Exists = start.Exists
start_of s.Array = start.Array
start_of s.Case = start.Case
start_of s.Cast = start.Cast
start_of s.Coalesce = start.Pooled pool.Coalesce
start_of s.Greatest = start.Pooled pool.Greatest
start_of s.Least = start.Pooled pool.Least
start_of s.NullIf = start.NullIf
start_of s.Extract = start.Extract
start_of s.Sqlc = start.Sqlc
start_of s.Left = start.Side
start_of s.Right = start.Side
start_of x = if is_free x then start.Named else start.Nothing

abbrev pub purpose_of : Reading → Place → Option Purpose
purpose_of (reading.Symbol s.Arg) place = Some purpose.Arg
purpose_of (reading.Symbol s.Narg) place = Some purpose.Narg
purpose_of (reading.Symbol s.Slice) place = Some purpose.Slice
purpose_of _ place = None

-- `sqlc.arg(` and its like stand here
abbrev pub begins_purpose : Lexemes → Bool
begins_purpose (x ∷ y ∷ z ∷ rest) = is s.Dot y.reading && (is_some (purpose_of z.reading z.place) && begins s.Open rest)
begins_purpose _ = false

abbrev pub text_of : Reading → Place → Option (List ℕ)
text_of (reading.Text bytes) place = Some bytes
text_of _ place = None

unfoldable pub a_text : Parser (List ℕ)
a_text = token text_of

abbrev pub begins_text : Lexemes → Bool
begins_text [] = false
begins_text (x ∷ rest) = is_some (text_of x.reading x.place)

abbrev pub word_text : Reading → Option (List ℕ)
word_text (reading.Symbol x) = Some (text x)
word_text (reading.Word word) = Some word
word_text _ = None

abbrev pub field_of : Reading → Place → Option (List ℕ)
field_of r place = if is_field r then word_text r else None

unfoldable pub a_field : Parser (List ℕ)
a_field = token field_of

-- a bracket stands behind the first token
abbrev pub calls : Lexemes → Bool
calls [] = false
calls (x ∷ rest) = begins s.Open rest

abbrev pub constant_at : Constant → Parser Expr
constant_at x begun = (token (λ r place. Some x) >>= (λ y. node begun (here begun) (e.Constant y))) begun

abbrev pub parameter_at : Parameter → Parser Expr
parameter_at x begun = (token (λ r place. Some x) >>= (λ y. node begun (here begun) (e.Parameter y))) begun

abbrev pub text_name : Parser ParameterName
text_name = do
  x ← a_text
  pure (parameter_name.Text x)

abbrev pub word_name : Parser ParameterName
word_name = do
  x ← name
  pure (parameter_name.Identifier x)

unfoldable pub purposed : Parser Expr
purposed begun = (do
  expect s.Sqlc
  expect s.Dot
  found ← token purpose_of
  expect s.Open
  x ← choose (λ now. begins_text now.tokens) text_name word_name
  expect s.Close
  node begun (here begun) (e.Parameter (parameter.Called found x))) begun

unfoldable pub typed_text : Parser Expr
typed_text begun = (do
  to ← type
  x ← a_text
  node begun (here begun) (e.TypedText to x)) begun

unfoldable pub column : Parser Expr
column begun = (do
  x ← column_name
  node begun (here begun) (e.Column x)) begun

abbrev pub moment_at : Moment → Parser Expr
moment_at x begun = (do
  expect (moment_symbol x)
  node begun (here begun) (e.Moment x)) begun

-- a subscript stands behind a column, a parameter or an expression in brackets
abbrev pub layer_takes_index : ExpressionLayer → Bool
layer_takes_index (Expression-F.Parameter x) = true
layer_takes_index (Expression-F.Column x) = true
layer_takes_index (Expression-F.Bracketed x) = true
layer_takes_index _ = false

unfoldable pub takes_index : Expression → Bool
takes_index x = layer_takes_index (out-Expression x)

module _ (nested : Parser Expr) (inner : Parser Query) where
  unfoldable pub scalar : Parser Expr
  scalar begun = (do
    expect s.Open
    x ← inner
    expect s.Close
    node begun (here begun) (e.Scalar x)) begun

  unfoldable pub bracketed : Parser Expr
  bracketed begun = (do
    expect s.Open
    x ← nested
    expect s.Close
    node begun (here begun) (e.Bracketed x)) begun

  abbrev pub brackets : Parser Expr
  brackets = choose (λ now. holds_query now.tokens) scalar bracketed

  unfoldable pub exists : Parser Expr
  exists begun = (do
    expect s.Exists
    expect s.Open
    x ← inner
    expect s.Close
    node begun (here begun) (e.Exists x)) begun

  abbrev pub array_query : Stream → Parser Expr
  array_query begun = do
    expect s.Open
    x ← inner
    expect s.Close
    node begun (here begun) (e.ArrayQuery x)

  abbrev pub array_list : Stream → Parser Expr
  array_list begun = do
    expect s.OpenSquare
    xs ← list nested inner
    expect s.CloseSquare
    node begun (here begun) (e.ArrayList xs)

  unfoldable pub array : Parser Expr
  array begun = (do
    expect s.Array
    choose (sees s.Open) (array_query begun) (array_list begun)) begun

  abbrev pub some_expression : Parser (Option Expr)
  some_expression = do
    x ← nested
    pure (Some x)

  unfoldable pub arm : Parser (Arm Expr)
  arm = do
    expect s.When
    condition ← nested
    expect s.Then
    value ← nested
    pure (record { condition = condition; value = value })

  unfoldable pub otherwise : Parser (Option Expr)
  otherwise = choose (sees s.Else) (expect s.Else >> some_expression) (pure None)

  unfoldable pub case : Parser Expr
  case begun = (do
    expect s.Case
    x ← choose (sees s.When) (pure None) some_expression
    first ← arm
    more ← many (sees s.When) arm
    last ← otherwise
    expect s.End
    node begun (here begun) (e.Case x (first ∷ more) last)) begun

  unfoldable pub cast : Parser Expr
  cast begun = (do
    expect s.Cast
    expect s.Open
    x ← nested
    expect s.As
    to ← type
    expect s.Close
    node begun (here begun) (e.Cast x to)) begun

  unfoldable pub pooled : Pool → Parser Expr
  pooled word begun = (do
    expect (pool_symbol word)
    expect s.Open
    xs ← list nested inner
    expect s.Close
    node begun (here begun) (e.Pooled word xs)) begun

  unfoldable pub null_if : Parser Expr
  null_if begun = (do
    expect s.NullIf
    expect s.Open
    x ← nested
    expect s.Comma
    y ← nested
    expect s.Close
    node begun (here begun) (e.NullIf x y)) begun

  unfoldable pub extract : Parser Expr
  extract begun = (do
    expect s.Extract
    expect s.Open
    word ← a_field
    expect s.From
    x ← nested
    expect s.Close
    node begun (here begun) (e.Extract word x)) begun

  -- ---- calls

  abbrev pub direction_of : Parser Direction
  direction_of = choose (sees s.Asc) (expect s.Asc >> pure direction.Ascending)
      (choose (sees s.Desc) (expect s.Desc >> pure direction.Descending) (pure direction.Unsaid))

  abbrev pub nulls_word : Reading → Place → Option Nulls
  nulls_word (reading.Symbol s.First) place = Some nulls.First
  nulls_word (reading.Symbol s.Last) place = Some nulls.Last
  nulls_word _ place = None

  abbrev pub nulls_of : Parser Nulls
  nulls_of = choose (sees s.Nulls) (expect s.Nulls >> token nulls_word) (pure nulls.Unsaid)

  unfoldable pub sort : Parser (Sort Expr)
  sort = do
    key ← nested
    direction ← direction_of
    nulls ← nulls_of
    pure (record { key = key; direction = direction; nulls = nulls })

  abbrev pub next_sort : Parser (Sort Expr)
  next_sort = expect s.Comma >> sort

  unfoldable pub order_items : Parser (List (Sort Expr))
  order_items = do
    expect s.Order
    expect s.By
    first ← sort
    more ← many (sees s.Comma) next_sort
    pure (first ∷ more)

  unfoldable pub order : Parser (List (Sort Expr))
  order = choose (sees s.Order) order_items (pure [])

  abbrev pub argument_list : Bool → Parser (Arguments Expr)
  argument_list distinct = do
    xs ← list nested inner
    items ← order
    pure (arguments.List distinct xs items)

  unfoldable pub within_call : Parser (Arguments Expr)
  within_call = choose (sees s.Times) (expect s.Times >> pure arguments.Star)
      (choose (sees s.Close) (pure (arguments.List false [] []))
      (optional s.Distinct >>= argument_list))

  abbrev pub filtered : Parser (Option Expr)
  filtered = do
    expect s.Filter
    expect s.Open
    expect s.Where
    x ← nested
    expect s.Close
    pure (Some x)

  unfoldable pub filter : Parser (Option Expr)
  filter = choose (sees s.Filter) filtered (pure None)

  -- DISTINCT, ORDER BY and FILTER stand in a call of an aggregate alone
  abbrev pub if_aggregate : Stream → Identifier → Arguments Expr → Option Expr → Parser Expr
  if_aggregate begun x within last =
      if among aggregates x.name || not (asks_aggregate within || is_some last) then node begun (here begun) (e.Call x within last) else fail

  unfoldable pub call : Parser Expr
  call begun = (do
    x ← call_name
    expect s.Open
    within ← within_call
    expect s.Close
    last ← filter
    if_aggregate begun x within last) begun

  -- ---- all kinds

  abbrev pub named : Parser Expr
  named = choose (λ now. types_text now.tokens) typed_text (choose (λ now. calls now.tokens) call column)

  abbrev pub called_or : Parser Expr → Parser Expr
  called_or special = choose (λ now. calls now.tokens) special named

  abbrev pub by_start : Start → Parser Expr
  by_start start.True = constant_at constant.True
  by_start start.False = constant_at constant.False
  by_start start.Null = constant_at constant.Null
  by_start (start.Moment x) = moment_at x
  by_start start.Brackets = brackets
  by_start start.Exists = exists
  by_start start.Array = array
  by_start start.Case = case
  by_start start.Cast = cast
  by_start (start.Pooled word) = called_or (pooled word)
  by_start start.NullIf = called_or null_if
  by_start start.Extract = called_or extract
  by_start start.Sqlc = choose (λ now. begins_purpose now.tokens) purposed named
  by_start start.Side = choose (λ now. calls now.tokens) call fail
  by_start start.Named = named
  by_start start.Nothing = fail

  abbrev pub by_reading : Reading → Parser Expr
  by_reading (reading.Symbol x) = by_start (start_of x)
  by_reading (reading.Word word) = named
  by_reading (reading.Quoted word) = named
  by_reading (reading.Text bytes) = constant_at (constant.Text bytes)
  by_reading (reading.EText bytes) = constant_at (constant.EText bytes)
  by_reading (reading.Dollar bytes) = constant_at (constant.Dollar bytes)
  by_reading (reading.Number bytes) = constant_at (constant.Number bytes)
  by_reading (reading.Parameter bytes) = parameter_at (parameter.Numbered bytes)
  by_reading (reading.Named word) = parameter_at (parameter.Named word)
  by_reading (reading.Operator bytes) = fail
  by_reading reading.Note = fail

  abbrev pub primary_of : Lexemes → Parser Expr
  primary_of [] = fail
  primary_of (x ∷ rest) = by_reading x.reading

  unfoldable pub primary : Parser Expr
  primary now = primary_of now.tokens now

  -- ---- subscripts

  unfoldable pub index : Parser (Index Expr)
  index now = (do
    expect s.OpenSquare
    x ← nested
    expect s.CloseSquare
    pure (record { place = here now; index = x })) now

  abbrev pub index_place : Index Expr → Place
  index_place x = x.place

  unfoldable pub subscripted : Parser Expr
  subscripted begun = (do
    first ← primary
    choose (λ now. takes_index first.form) (many (sees s.OpenSquare) index >>= chained begun index_place e.Subscript first) (pure first)) begun

  -- ---- all levels

  abbrev pub above_tests : Parser Expr
  above_tests = operation 6 (operation 7 (operation 8 (operation 9 (zoned (collated (signed (converted subscripted)))))))

  unfoldable pub expression : Parser Expr
  expression = disjunction (conjunction (negated (testing (related nested inner (ranged nested inner above_tests)))))
