-- No part stands in a name, in a type or in the words of expressions.
use Rattle.std.proofs.Common.{ℕ, Bool, true, false, List, [], ◌∷◌, ◌++◌, Option, Some, None, map}
use Rattle.std.specs.Prelude.{flat_map, ◌&&◌}
use Rattle.sq_syntax.specs.declared.symbol.Symbol.{Symbol}
use Rattle.sq_syntax.specs.declared.symbol.Symbol.TheVariants as s
use Rattle.sq_syntax.specs.declared.symbol.Reading.TheVariants as reading
use Rattle.sq_syntax.specs.declared.name.Identifier.{Identifier}
use Rattle.sq_syntax.specs.declared.name.QualifiedName.{QualifiedName}
use Rattle.sq_syntax.specs.declared.name.ColumnName.{ColumnName}
use Rattle.sq_syntax.specs.declared.name.ColumnName.TheVariants as column
use Rattle.sq_syntax.specs.declared.name.TypeWord.{TypeWord}
use Rattle.sq_syntax.specs.declared.name.TypeWord.TheVariants as type_word
use Rattle.sq_syntax.specs.declared.name.TimeZone.{TimeZone}
use Rattle.sq_syntax.specs.declared.name.TimeZone.TheVariants as zone
use Rattle.sq_syntax.specs.declared.name.TypeName.{TypeName}
use Rattle.sq_syntax.specs.declared.expr.Parameter.{Parameter}
use Rattle.sq_syntax.specs.declared.expr.Parameter.TheVariants as parameter
use Rattle.sq_syntax.specs.declared.expr.ParameterName.{ParameterName}
use Rattle.sq_syntax.specs.declared.expr.ParameterName.TheVariants as parameter_name
use Rattle.sq_syntax.specs.declared.expr.Test.{Test}
use Rattle.sq_syntax.specs.declared.expr.Test.TheVariants as test
use Rattle.sq_syntax.specs.declared.expr.Direction.{Direction}
use Rattle.sq_syntax.specs.declared.expr.Direction.TheVariants as direction
use Rattle.sq_syntax.specs.declared.expr.Nulls.{Nulls}
use Rattle.sq_syntax.specs.declared.expr.Nulls.TheVariants as nulls
use Rattle.sq_syntax.specs.Symbols.{identifier_reading, is_name, is_bare_label}
use Rattle.sq_syntax.specs.Pieces as p
use Rattle.sq_syntax.specs.Pieces.{sym as word, say}
use Rattle.sq_syntax.specs.ExpressionPieces as g
use Rattle.sq_syntax.specs.Facts.{Piece}
use Rattle.sq_measures.specs.Parts.{Groups}
use Rattle.sq_measures.proofs.Weights.{Weighs, nil, token, placed, asked, append, all, listed_all}

abbrev pub says : {ps : List Piece} {gs : Groups} (x : Symbol) → Weighs ps gs → Weighs (word x ∷ ps) gs
says x f = token (reading.Symbol x) f

pub a_name : {ps : List Piece} {gs : Groups} (x : Identifier) → Weighs ps gs → Weighs (p.name x ++ ps) gs
a_name x f = asked (is_name (identifier_reading x)) (placed x.place (token (identifier_reading x) f))

pub bare_name : (x : Identifier) → Weighs (p.bare_name x) []
bare_name x = asked (is_bare_label (identifier_reading x)) (placed x.place (token (identifier_reading x) nil))

pub name : (x : Identifier) → Weighs (p.name x) []
name x = a_name x nil

pub names : (xs : List Identifier) → Weighs (p.names xs) []
names xs = listed_all p.name name xs

pub bracketed_names : (xs : List Identifier) → Weighs (p.bracketed_names xs) []
bracketed_names [] = nil
bracketed_names (x ∷ xs) = token (reading.Symbol s.Open) (append (p.names (x ∷ xs)) (word s.Close ∷ []) (names (x ∷ xs)) (token (reading.Symbol s.Close) nil))

schema : (x : Option Identifier) → Weighs (p.schema_name x) []
schema None = nil
schema (Some x) = a_name x (says s.Dot nil)

pub qualified : (x : QualifiedName) → Weighs (p.qualified_name x) []
qualified x = append (p.schema_name x.schema) (p.name x.name) (schema x.schema) (name x.name)

pub column_name : (x : ColumnName) → Weighs (p.column_name x) []
column_name (column.Bare x) = name x
column_name (column.OfRange x y) = a_name x (says s.Dot (name y))
column_name (column.OfTable x y z) = a_name x (says s.Dot (a_name y (says s.Dot (name z))))

type_words : (x : TypeWord) → Weighs (p.type_words x) []
type_words (type_word.Named x) = qualified x
type_words (type_word.DoublePrecision place) = placed place (says s.Double (says s.Precision nil))
type_words (type_word.CharacterVarying place) = placed place (says s.Character (says s.Varying nil))

size : (xs : List (List ℕ)) → Weighs (p.size xs) []
size [] = nil
size (n ∷ ns) = token (reading.Symbol s.Open)
    (append (p.listed (map (λ b. say (reading.Number b) ∷ []) (n ∷ ns))) (word s.Close ∷ []) (listed_all (λ b. say (reading.Number b) ∷ []) (λ b. token (reading.Number b) nil) (n ∷ ns))
    (token (reading.Symbol s.Close) nil))

time_zone : (x : TimeZone) → Weighs (p.time_zone x) []
time_zone zone.Unsaid = nil
time_zone zone.With = says s.With (says s.Time (says s.Zone nil))
time_zone zone.Without = says s.Without (says s.Time (says s.Zone nil))

array : (x : List ℕ) → Weighs (p.array x) []
array [] = token (reading.Symbol s.OpenSquare) (token (reading.Symbol s.CloseSquare) nil)
array (n ∷ ns) = token (reading.Symbol s.OpenSquare) (token (reading.Number (n ∷ ns)) (token (reading.Symbol s.CloseSquare) nil))

pub type : (x : TypeName) → Weighs (p.type x) []
type x = asked (p.size_fits (p.plain_type x.word) x.size && p.zone_fits (p.plain_type x.word) x.zone)
    (append ((p.type_words x.word ++ p.size x.size) ++ p.time_zone x.zone) (flat_map p.array x.arrays)
    (append (p.type_words x.word ++ p.size x.size) (p.time_zone x.zone) (append (p.type_words x.word) (p.size x.size) (type_words x.word) (size x.size)) (time_zone x.zone)) (all p.array array x.arrays))

name_of_parameter : (x : ParameterName) → Weighs (g.name_of_parameter x) []
name_of_parameter (parameter_name.Identifier x) = name x
name_of_parameter (parameter_name.Text bytes) = token (reading.Text bytes) nil

pub parameter_pieces : (x : Parameter) → Weighs (g.parameter_pieces x) []
parameter_pieces (parameter.Numbered bytes) = token (reading.Parameter bytes) nil
parameter_pieces (parameter.Named x) = token (reading.Named x) nil
parameter_pieces (parameter.Called found x) = says s.Sqlc (says s.Dot (says (g.purpose_symbol found) (token (reading.Symbol s.Open)
    (append (g.name_of_parameter x) (word s.Close ∷ []) (name_of_parameter x) (token (reading.Symbol s.Close) nil)))))

pub maybe : {ps : List Piece} {gs : Groups} (b : Bool) (x : Symbol) → Weighs ps gs → Weighs (p.when b x ++ ps) gs
maybe true x f = says x f
maybe false x f = f

pub test_words : (x : Test) → Weighs (g.test_words x) []
test_words test.Null = says s.Is (says s.Null nil)
test_words test.NotNull = says s.Is (says s.Not (says s.Null nil))
test_words test.True = says s.Is (says s.True nil)
test_words test.NotTrue = says s.Is (says s.Not (says s.True nil))
test_words test.False = says s.Is (says s.False nil)
test_words test.NotFalse = says s.Is (says s.Not (says s.False nil))
test_words test.Unknown = says s.Is (says s.Unknown nil)
test_words test.NotUnknown = says s.Is (says s.Not (says s.Unknown nil))
test_words test.NullWord = says s.IsNull nil
test_words test.NotNullWord = says s.NotNull nil

pub direction_words : (x : Direction) → Weighs (g.sort_direction x) []
direction_words direction.Unsaid = nil
direction_words direction.Ascending = says s.Asc nil
direction_words direction.Descending = says s.Desc nil

pub nulls_words : (x : Nulls) → Weighs (g.sort_nulls x) []
nulls_words nulls.Unsaid = nil
nulls_words nulls.First = says s.Nulls (says s.First nil)
nulls_words nulls.Last = says s.Nulls (says s.Last nil)
