-- The grammar of expressions (PostgreSQL manual, section 4.2): the pieces of each production, with the least level of each
-- operand, the level at which the whole stands, and how much higher it is than its highest part.
use Rattle.std.specs.Prelude.{ℕ, ◌+◌, Bool, true, false, ◌&&◌, ◌||◌, ◌==◌, not, if◌then◌else◌, List, [], ◌∷◌, ◌++◌, length, map, flat_map, codes, Option, Some, None}
use Rattle.sq_base.specs.declared.place.Place.{Place}
use Rattle.sq_syntax.specs.declared.symbol.Symbol.{Symbol}
use Rattle.sq_syntax.specs.declared.symbol.Symbol.TheVariants as s
use Rattle.sq_syntax.specs.declared.symbol.Reading.{Reading}
use Rattle.sq_syntax.specs.declared.symbol.Reading.TheVariants as reading
use Rattle.sq_syntax.specs.declared.name.Identifier.{Identifier}
use Rattle.sq_syntax.specs.declared.expr.Constant.{Constant}
use Rattle.sq_syntax.specs.declared.expr.Constant.TheVariants as constant
use Rattle.sq_syntax.specs.declared.expr.Parameter.{Parameter}
use Rattle.sq_syntax.specs.declared.expr.Parameter.TheVariants as parameter
use Rattle.sq_syntax.specs.declared.expr.Purpose.{Purpose}
use Rattle.sq_syntax.specs.declared.expr.Purpose.TheVariants as purpose
use Rattle.sq_syntax.specs.declared.expr.ParameterName.{ParameterName}
use Rattle.sq_syntax.specs.declared.expr.ParameterName.TheVariants as parameter_name
use Rattle.sq_syntax.specs.declared.expr.Arm.{Arm}
use Rattle.sq_syntax.specs.declared.expr.Pool.{Pool}
use Rattle.sq_syntax.specs.declared.expr.Pool.TheVariants as pool
use Rattle.sq_syntax.specs.declared.expr.Moment.{Moment}
use Rattle.sq_syntax.specs.declared.expr.Moment.TheVariants as moment
use Rattle.sq_syntax.specs.declared.expr.Arguments.{Arguments}
use Rattle.sq_syntax.specs.declared.expr.Arguments.TheVariants as arguments
use Rattle.sq_syntax.specs.declared.expr.Sort.{Sort}
use Rattle.sq_syntax.specs.declared.expr.Direction.{Direction}
use Rattle.sq_syntax.specs.declared.expr.Direction.TheVariants as direction
use Rattle.sq_syntax.specs.declared.expr.Nulls.{Nulls}
use Rattle.sq_syntax.specs.declared.expr.Nulls.TheVariants as nulls
use Rattle.sq_syntax.specs.declared.expr.Index.{Index}
use Rattle.sq_syntax.specs.declared.expr.Conversion.{Conversion}
use Rattle.sq_syntax.specs.declared.expr.Sign.{Sign}
use Rattle.sq_syntax.specs.declared.expr.Collation.{Collation}
use Rattle.sq_syntax.specs.declared.expr.Joint.{Joint}
use Rattle.sq_syntax.specs.declared.expr.Link.{Link}
use Rattle.sq_syntax.specs.declared.expr.Operator.{Operator}
use Rattle.sq_syntax.specs.declared.expr.Operator.TheVariants as operator
use Rattle.sq_syntax.specs.declared.expr.Comparison.{Comparison}
use Rattle.sq_syntax.specs.declared.expr.Comparison.TheVariants as comparison
use Rattle.sq_syntax.specs.declared.expr.Matching.{Matching}
use Rattle.sq_syntax.specs.declared.expr.Matching.TheVariants as matching
use Rattle.sq_syntax.specs.declared.expr.Quantifier.{Quantifier}
use Rattle.sq_syntax.specs.declared.expr.Quantifier.TheVariants as quantifier
use Rattle.sq_syntax.specs.declared.expr.Test.{Test}
use Rattle.sq_syntax.specs.declared.expr.Test.TheVariants as test
use Rattle.sq_syntax.specs.declared.expr.Expression.TheOpen.{Expression-F}
use Rattle.sq_syntax.specs.Symbols.{identifier_reading, word_reading, is_name, among}
use Rattle.sq_syntax.specs.Facts.{Facts, Piece, built, sorted}
use Rattle.sq_syntax.specs.Facts as facts
use Rattle.sq_syntax.specs.Pieces.{Pieces, say, sym, at, when, is_empty, some, listed, Placed, Operand, operand_facts, part, whole, list, name, column_name, type}

-- ---- parts of expressions

abbrev pub constant_reading : Constant → Reading
constant_reading (constant.Number bytes) = reading.Number bytes
constant_reading (constant.Text bytes) = reading.Text bytes
constant_reading (constant.EText bytes) = reading.EText bytes
constant_reading (constant.Dollar bytes) = reading.Dollar bytes
constant_reading constant.True = reading.Symbol s.True
constant_reading constant.False = reading.Symbol s.False
constant_reading constant.Null = reading.Symbol s.Null

abbrev pub purpose_symbol : Purpose → Symbol
purpose_symbol purpose.Arg = s.Arg
purpose_symbol purpose.Narg = s.Narg
purpose_symbol purpose.Slice = s.Slice

abbrev pub name_of_parameter : ParameterName → Pieces
name_of_parameter (parameter_name.Identifier x) = name x
name_of_parameter (parameter_name.Text bytes) = say (reading.Text bytes) ∷ []

abbrev pub parameter_pieces : Parameter → Pieces
parameter_pieces (parameter.Numbered bytes) = say (reading.Parameter bytes) ∷ []
parameter_pieces (parameter.Named x) = say (reading.Named x) ∷ []
parameter_pieces (parameter.Called purpose x) = sym s.Sqlc ∷ sym s.Dot ∷ sym (purpose_symbol purpose) ∷ sym s.Open ∷ name_of_parameter x ++ sym s.Close ∷ []

abbrev pub pool_symbol : Pool → Symbol
pool_symbol pool.Coalesce = s.Coalesce
pool_symbol pool.Greatest = s.Greatest
pool_symbol pool.Least = s.Least

abbrev pub moment_symbol : Moment → Symbol
moment_symbol moment.CurrentDate = s.CurrentDate
moment_symbol moment.CurrentTimestamp = s.CurrentTimestamp
moment_symbol moment.LocalTimestamp = s.LocalTimestamp

abbrev pub case_operand : Option Operand → Pieces
case_operand None = []
case_operand (Some x) = part 0 x ∷ []

abbrev pub arm : Arm Operand → Pieces
arm x = sym s.When ∷ part 0 x.condition ∷ sym s.Then ∷ part 0 x.value ∷ []

abbrev pub otherwise : Option Operand → Pieces
otherwise None = []
otherwise (Some x) = sym s.Else ∷ part 0 x ∷ []

-- the names of aggregates (PostgreSQL manual, section 9.21)
abbrev pub aggregates : List (List ℕ)
aggregates = codes "count" ∷ codes "sum" ∷ codes "avg" ∷ codes "min" ∷ codes "max" ∷ codes "bool_and" ∷ codes "bool_or" ∷ codes "every" ∷
    codes "string_agg" ∷ codes "array_agg" ∷ codes "json_agg" ∷ codes "json_object_agg" ∷ codes "jsonb_agg" ∷ codes "jsonb_object_agg" ∷ []

-- words before a bracket that are no calls
abbrev pub other_calls : List (List ℕ)
other_calls = codes "coalesce" ∷ codes "nullif" ∷ codes "greatest" ∷ codes "least" ∷ codes "exists" ∷ codes "extract" ∷ []

-- left and right are names directly before a bracket
abbrev pub is_call_reading : Reading → Bool
is_call_reading (reading.Symbol s.Left) = true
is_call_reading (reading.Symbol s.Right) = true
is_call_reading r = is_name r

abbrev pub call_name : Identifier → Pieces
call_name x = Piece.need (is_call_reading (identifier_reading x) && not (among other_calls x.name)) ∷ at x.place ∷ say (identifier_reading x) ∷ []

-- the word of EXTRACT is any word but CASE and END, which would leave brackets unbalanced
abbrev pub is_field_symbol : Symbol → Bool
is_field_symbol s.Open = false
is_field_symbol s.Close = false
is_field_symbol s.OpenSquare = false
is_field_symbol s.CloseSquare = false
is_field_symbol s.Comma = false
is_field_symbol s.Semicolon = false
is_field_symbol s.Dot = false
is_field_symbol s.Colons = false
is_field_symbol s.Power = false
is_field_symbol s.Times = false
is_field_symbol s.Divide = false
is_field_symbol s.Modulo = false
is_field_symbol s.Plus = false
is_field_symbol s.Minus = false
is_field_symbol s.Less = false
is_field_symbol s.Greater = false
is_field_symbol s.Equal = false
is_field_symbol s.LessEqual = false
is_field_symbol s.GreaterEqual = false
is_field_symbol s.NotEqual = false
is_field_symbol s.Case = false
is_field_symbol s.End = false
is_field_symbol _ = true

abbrev pub is_field : Reading → Bool
is_field (reading.Symbol x) = is_field_symbol x
is_field (reading.Word word) = true
is_field _ = false

abbrev pub sort_direction : Direction → Pieces
sort_direction direction.Unsaid = []
sort_direction direction.Ascending = sym s.Asc ∷ []
sort_direction direction.Descending = sym s.Desc ∷ []

abbrev pub sort_nulls : Nulls → Pieces
sort_nulls nulls.Unsaid = []
sort_nulls nulls.First = sym s.Nulls ∷ sym s.First ∷ []
sort_nulls nulls.Last = sym s.Nulls ∷ sym s.Last ∷ []

abbrev pub sort : Sort Operand → Pieces
sort x = part 0 x.key ∷ sort_direction x.direction ++ sort_nulls x.nulls

abbrev pub order : List (Sort Operand) → Pieces
order [] = []
order (x ∷ xs) = sym s.Order ∷ sym s.By ∷ listed (map sort (x ∷ xs))

-- what stands in the brackets of a call; DISTINCT and ORDER BY need an argument
abbrev pub argument_pieces : Arguments Operand → Pieces
argument_pieces arguments.Star = sym s.Times ∷ []
argument_pieces (arguments.List distinct xs items) = Piece.need (not (is_empty xs) || (not distinct && is_empty items)) ∷ when distinct s.Distinct ++ list xs ++ order items

-- DISTINCT or ORDER BY is written
abbrev pub asks_aggregate : {A : Type 0} → Arguments A → Bool
asks_aggregate arguments.Star = false
asks_aggregate (arguments.List distinct xs items) = distinct || not (is_empty items)

abbrev pub filter : Option Operand → Pieces
filter None = []
filter (Some x) = sym s.Filter ∷ sym s.Open ∷ sym s.Where ∷ part 0 x ∷ sym s.Close ∷ []

abbrev pub is_some : {A : Type 0} → Option A → Bool
is_some None = false
is_some (Some x) = true

abbrev pub comparison_symbol : Comparison → Symbol
comparison_symbol comparison.Less = s.Less
comparison_symbol comparison.Greater = s.Greater
comparison_symbol comparison.Equal = s.Equal
comparison_symbol comparison.LessEqual = s.LessEqual
comparison_symbol comparison.GreaterEqual = s.GreaterEqual
comparison_symbol comparison.NotEqual = s.NotEqual

abbrev pub operator_reading : Operator → Reading
operator_reading operator.Power = reading.Symbol s.Power
operator_reading operator.Times = reading.Symbol s.Times
operator_reading operator.Divide = reading.Symbol s.Divide
operator_reading operator.Modulo = reading.Symbol s.Modulo
operator_reading operator.Plus = reading.Symbol s.Plus
operator_reading operator.Minus = reading.Symbol s.Minus
operator_reading (operator.Comparison x) = reading.Symbol (comparison_symbol x)
operator_reading (operator.Other bytes) = reading.Operator bytes

-- the level of a chain of this operator; comparisons make no chains
abbrev pub chain_level : Operator → Option ℕ
chain_level operator.Power = Some 9
chain_level operator.Times = Some 8
chain_level operator.Divide = Some 8
chain_level operator.Modulo = Some 8
chain_level operator.Plus = Some 7
chain_level operator.Minus = Some 7
chain_level (operator.Comparison x) = None
chain_level (operator.Other bytes) = Some 6

abbrev pub is_level : ℕ → Option ℕ → Bool
is_level level None = false
is_level level (Some found) = found == level

abbrev pub link : ℕ → Link Operand → Pieces
link level x = Piece.need (is_level level (chain_level x.operator)) ∷ at x.place ∷ say (operator_reading x.operator) ∷ part (level + 1) x.operand ∷ []

abbrev pub or_none : Option ℕ → ℕ
or_none None = 0
or_none (Some level) = level

-- the level of the first operator decides
abbrev pub links_level : List (Link Operand) → ℕ
links_level [] = 0
links_level (x ∷ xs) = or_none (chain_level x.operator)

abbrev pub joint : Pieces → ℕ → Joint Operand → Pieces
joint words least x = at x.place ∷ words ++ part least x.operand ∷ []

abbrev pub sign : Sign → Pieces
sign x = at x.place ∷ sym (if x.is_minus then s.Minus else s.Plus) ∷ []

abbrev pub index : Index Operand → Pieces
index x = at x.place ∷ sym s.OpenSquare ∷ part 0 x.index ∷ sym s.CloseSquare ∷ []

abbrev pub conversion : Conversion → Pieces
conversion x = at x.place ∷ sym s.Colons ∷ type x.to

abbrev pub collation : Collation → Pieces
collation x = at x.place ∷ sym s.Collate ∷ name x.name

abbrev pub negation : Place → Pieces
negation place = at place ∷ sym s.Not ∷ []

abbrev pub matching_symbol : Matching → Symbol
matching_symbol matching.Like = s.Like
matching_symbol matching.Ilike = s.Ilike

abbrev pub quantifier_symbol : Quantifier → Symbol
quantifier_symbol quantifier.Any = s.Any
quantifier_symbol quantifier.Some = s.Some
quantifier_symbol quantifier.All = s.All

abbrev pub test_words : Test → Pieces
test_words test.Null = sym s.Is ∷ sym s.Null ∷ []
test_words test.NotNull = sym s.Is ∷ sym s.Not ∷ sym s.Null ∷ []
test_words test.True = sym s.Is ∷ sym s.True ∷ []
test_words test.NotTrue = sym s.Is ∷ sym s.Not ∷ sym s.True ∷ []
test_words test.False = sym s.Is ∷ sym s.False ∷ []
test_words test.NotFalse = sym s.Is ∷ sym s.Not ∷ sym s.False ∷ []
test_words test.Unknown = sym s.Is ∷ sym s.Unknown ∷ []
test_words test.NotUnknown = sym s.Is ∷ sym s.Not ∷ sym s.Unknown ∷ []
test_words test.NullWord = sym s.IsNull ∷ []
test_words test.NotNullWord = sym s.NotNull ∷ []

abbrev pub is_scalar : Facts → Bool
is_scalar x = facts.same_sort facts.Sort.scalar x.sort

abbrev pub is_indexable : Facts → Bool
is_indexable x = facts.same_sort facts.Sort.indexable x.sort

-- brackets round a bracketed query belong to the query
abbrev pub no_scalar : Operand → Piece
no_scalar x = Piece.need (not (is_scalar (operand_facts x)))

abbrev pub lone_scalar : List Operand → Bool
lone_scalar (x ∷ []) = is_scalar (operand_facts x)
lone_scalar _ = false

-- ---- expressions

abbrev pub expression_layer : Expression-F Placed Facts Facts Facts Facts Facts Facts → Place → Facts
expression_layer (Expression-F.Constant x) p = built 15 1 (at p ∷ say (constant_reading x) ∷ [])
expression_layer (Expression-F.Parameter x) p = sorted facts.Sort.indexable (built 15 1 (at p ∷ parameter_pieces x))
expression_layer (Expression-F.Column x) p = sorted facts.Sort.indexable (built 15 1 (at p ∷ column_name x))
expression_layer (Expression-F.Bracketed x) p = sorted facts.Sort.indexable (built 15 1 (at p ∷ sym s.Open ∷ no_scalar x ∷ part 0 x ∷ sym s.Close ∷ []))
expression_layer (Expression-F.Scalar x) p = sorted facts.Sort.scalar (built 15 1 (at p ∷ sym s.Open ∷ whole x ∷ sym s.Close ∷ []))
expression_layer (Expression-F.Exists x) p = built 15 1 (at p ∷ sym s.Exists ∷ sym s.Open ∷ whole x ∷ sym s.Close ∷ [])
expression_layer (Expression-F.ArrayList xs) p = built 15 1 (at p ∷ sym s.Array ∷ sym s.OpenSquare ∷ some xs ∷ list xs ++ sym s.CloseSquare ∷ [])
expression_layer (Expression-F.ArrayQuery x) p = built 15 1 (at p ∷ sym s.Array ∷ sym s.Open ∷ whole x ∷ sym s.Close ∷ [])
expression_layer (Expression-F.Case x arms last) p = built 15 1 (at p ∷ sym s.Case ∷ some arms ∷ case_operand x ++ flat_map arm arms ++ otherwise last ++ sym s.End ∷ [])
expression_layer (Expression-F.Cast x to) p = built 15 1 (at p ∷ sym s.Cast ∷ sym s.Open ∷ part 0 x ∷ sym s.As ∷ type to ++ sym s.Close ∷ [])
expression_layer (Expression-F.TypedText to text) p = built 15 1 (at p ∷ type to ++ say (reading.Text text) ∷ [])
expression_layer (Expression-F.Pooled word xs) p = built 15 1 (at p ∷ sym (pool_symbol word) ∷ sym s.Open ∷ some xs ∷ list xs ++ sym s.Close ∷ [])
expression_layer (Expression-F.NullIf x y) p = built 15 1 (at p ∷ sym s.NullIf ∷ sym s.Open ∷ part 0 x ∷ sym s.Comma ∷ part 0 y ∷ sym s.Close ∷ [])
expression_layer (Expression-F.Extract word x) p = built 15 1 (at p ∷ sym s.Extract ∷ sym s.Open ∷ Piece.need (is_field (word_reading word)) ∷ say (word_reading word) ∷ sym s.From ∷ part 0 x ∷ sym s.Close ∷ [])
expression_layer (Expression-F.Moment x) p = built 15 1 (at p ∷ sym (moment_symbol x) ∷ [])
expression_layer (Expression-F.Call x within last) p = built 15 1 (at p ∷ Piece.need (among aggregates x.name || not (asks_aggregate within || is_some last)) ∷ call_name x ++ sym s.Open ∷ argument_pieces within ++ sym s.Close ∷ filter last)
expression_layer (Expression-F.Subscript x links) p = built 14 (length links) (Piece.need (is_indexable (operand_facts x)) ∷ some links ∷ part 15 x ∷ at p ∷ flat_map index links)
expression_layer (Expression-F.Converted x links) p = built 13 (length links) (some links ∷ part 14 x ∷ at p ∷ flat_map conversion links)
expression_layer (Expression-F.Signed signs x) p = built 12 (length signs) (some signs ∷ at p ∷ flat_map sign signs ++ part 13 x ∷ [])
expression_layer (Expression-F.Collated x links) p = built 11 (length links) (some links ∷ part 12 x ∷ at p ∷ flat_map collation links)
expression_layer (Expression-F.AtTimeZone x links) p = built 10 (length links) (some links ∷ part 11 x ∷ at p ∷ flat_map (joint (sym s.At ∷ sym s.Time ∷ sym s.Zone ∷ []) 11) links)
expression_layer (Expression-F.Operation x links) p = built (links_level links) (length links) (some links ∷ part (links_level links + 1) x ∷ at p ∷ flat_map (link (links_level links)) links)
expression_layer (Expression-F.Between x negated symmetric low high) p = built 5 1 (part 6 x ∷ at p ∷ when negated s.Not ++ sym s.Between ∷ when symmetric s.Symmetric ++ part 6 low ∷ sym s.And ∷ part 6 high ∷ [])
expression_layer (Expression-F.InList x negated xs) p = built 5 1 (part 6 x ∷ at p ∷ when negated s.Not ++ sym s.In ∷ sym s.Open ∷ some xs ∷ Piece.need (not (lone_scalar xs)) ∷ list xs ++ sym s.Close ∷ [])
expression_layer (Expression-F.InQuery x negated query) p = built 5 1 (part 6 x ∷ at p ∷ when negated s.Not ++ sym s.In ∷ sym s.Open ∷ whole query ∷ sym s.Close ∷ [])
expression_layer (Expression-F.Like x negated word y) p = built 5 1 (part 6 x ∷ at p ∷ when negated s.Not ++ sym (matching_symbol word) ∷ part 6 y ∷ [])
expression_layer (Expression-F.Compared x by y) p = built 4 1 (part 5 x ∷ at p ∷ sym (comparison_symbol by) ∷ part 5 y ∷ [])
expression_layer (Expression-F.AnyArray x by word y) p = built 4 1 (part 5 x ∷ at p ∷ say (operator_reading by) ∷ sym (quantifier_symbol word) ∷ sym s.Open ∷ no_scalar y ∷ part 0 y ∷ sym s.Close ∷ [])
expression_layer (Expression-F.AnyQuery x by word query) p = built 4 1 (part 5 x ∷ at p ∷ say (operator_reading by) ∷ sym (quantifier_symbol word) ∷ sym s.Open ∷ whole query ∷ sym s.Close ∷ [])
expression_layer (Expression-F.Tested x test) p = built 3 1 (part 4 x ∷ at p ∷ test_words test)
expression_layer (Expression-F.Distinct x negated y) p = built 3 1 (part 4 x ∷ at p ∷ sym s.Is ∷ when negated s.Not ++ sym s.Distinct ∷ sym s.From ∷ part 4 y ∷ [])
expression_layer (Expression-F.Not places x) p = built 2 (length places) (some places ∷ at p ∷ flat_map negation places ++ part 3 x ∷ [])
expression_layer (Expression-F.And x links) p = built 1 1 (some links ∷ part 2 x ∷ at p ∷ flat_map (joint (sym s.And ∷ []) 2) links)
expression_layer (Expression-F.Or x links) p = built 0 1 (some links ∷ part 1 x ∷ at p ∷ flat_map (joint (sym s.Or ∷ []) 1) links)
