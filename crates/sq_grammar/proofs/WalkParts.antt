-- Names, types and the words of expressions are balanced.
use Rattle.std.proofs.Common.{◌≡◌, ℕ, Bool, true, false, List, [], ◌∷◌, ◌++◌, Option, Some, None, refl, map}
use Rattle.std.specs.Prelude.{flat_map, ◌&&◌}
use Rattle.sq_syntax.specs.declared.symbol.Symbol.{Symbol}
use Rattle.sq_syntax.specs.declared.symbol.Symbol.TheVariants as s
use Rattle.sq_syntax.specs.declared.symbol.Reading.{Reading}
use Rattle.sq_syntax.specs.declared.symbol.Reading.TheVariants as reading
use Rattle.sq_syntax.specs.declared.name.Identifier.{Identifier}
use Rattle.sq_syntax.specs.declared.name.QualifiedName.{QualifiedName}
use Rattle.sq_syntax.specs.declared.name.ColumnName.{ColumnName}
use Rattle.sq_syntax.specs.declared.name.ColumnName.TheVariants as column
use Rattle.sq_syntax.specs.declared.name.TypeWord.{TypeWord}
use Rattle.sq_syntax.specs.declared.name.TypeWord.TheVariants as type_word
use Rattle.sq_syntax.specs.declared.name.TimeZone.{TimeZone}
use Rattle.sq_syntax.specs.declared.name.TimeZone.TheVariants as zone
use Rattle.sq_syntax.specs.declared.name.TypeName.{TypeName}
use Rattle.sq_syntax.specs.declared.expr.Constant.{Constant}
use Rattle.sq_syntax.specs.declared.expr.Constant.TheVariants as constant
use Rattle.sq_syntax.specs.declared.expr.Parameter.{Parameter}
use Rattle.sq_syntax.specs.declared.expr.Parameter.TheVariants as parameter
use Rattle.sq_syntax.specs.declared.expr.Purpose.{Purpose}
use Rattle.sq_syntax.specs.declared.expr.Purpose.TheVariants as purpose
use Rattle.sq_syntax.specs.declared.expr.ParameterName.{ParameterName}
use Rattle.sq_syntax.specs.declared.expr.ParameterName.TheVariants as parameter_name
use Rattle.sq_syntax.specs.declared.expr.Pool.{Pool}
use Rattle.sq_syntax.specs.declared.expr.Pool.TheVariants as pool
use Rattle.sq_syntax.specs.declared.expr.Moment.{Moment}
use Rattle.sq_syntax.specs.declared.expr.Moment.TheVariants as moment
use Rattle.sq_syntax.specs.declared.expr.Test.{Test}
use Rattle.sq_syntax.specs.declared.expr.Test.TheVariants as test
use Rattle.sq_syntax.specs.declared.expr.Matching.{Matching}
use Rattle.sq_syntax.specs.declared.expr.Matching.TheVariants as matching
use Rattle.sq_syntax.specs.declared.expr.Direction.{Direction}
use Rattle.sq_syntax.specs.declared.expr.Direction.TheVariants as direction
use Rattle.sq_syntax.specs.declared.expr.Nulls.{Nulls}
use Rattle.sq_syntax.specs.declared.expr.Nulls.TheVariants as nulls
use Rattle.sq_syntax.specs.Symbols.{identifier_reading, is_name, is_bare_label}
use Rattle.sq_syntax.specs.Facts.{Piece, Turn, turn}
use Rattle.sq_syntax.specs.Pieces as p
use Rattle.sq_syntax.specs.Pieces.{sym as word, say, at}
use Rattle.sq_syntax.specs.ExpressionPieces as g
use Rattle.sq_grammar.specs.Ahead.{Lexemes}
use Rattle.sq_grammar.proofs.ReadNames.{name_turn}
use Rattle.sq_grammar.proofs.Walks.{Counts, Flat, nil, token, opening, closing, placed, needed, asked, append, all, list_of}

pub label_turn : (r : Reading) → is_bare_label r ≡ true → turn r ≡ Turn.neither
label_turn (reading.Symbol s.Open) h = absurd (cc)
label_turn (reading.Symbol s.OpenSquare) h = absurd (cc)
label_turn (reading.Symbol s.Case) h = absurd (cc)
label_turn (reading.Symbol s.Close) h = absurd (cc)
label_turn (reading.Symbol s.CloseSquare) h = absurd (cc)
label_turn (reading.Symbol s.End) h = absurd (cc)
label_turn (reading.Symbol _) h = refl
label_turn _ h = refl

pub call_turn : (r : Reading) → g.is_call_reading r ≡ true → turn r ≡ Turn.neither
call_turn (reading.Symbol s.Left) h = refl
call_turn (reading.Symbol s.Right) h = refl
call_turn (reading.Symbol s.Open) h = absurd (cc)
call_turn (reading.Symbol s.OpenSquare) h = absurd (cc)
call_turn (reading.Symbol s.Case) h = absurd (cc)
call_turn (reading.Symbol s.Close) h = absurd (cc)
call_turn (reading.Symbol s.CloseSquare) h = absurd (cc)
call_turn (reading.Symbol s.End) h = absurd (cc)
call_turn (reading.Symbol _) h = refl
call_turn _ h = refl

pub field_turn : (r : Reading) → g.is_field r ≡ true → turn r ≡ Turn.neither
field_turn (reading.Symbol s.Open) h = absurd (cc)
field_turn (reading.Symbol s.OpenSquare) h = absurd (cc)
field_turn (reading.Symbol s.Case) h = absurd (cc)
field_turn (reading.Symbol s.Close) h = absurd (cc)
field_turn (reading.Symbol s.CloseSquare) h = absurd (cc)
field_turn (reading.Symbol s.End) h = absurd (cc)
field_turn (reading.Symbol _) h = refl
field_turn _ h = refl

pub constant_turn : (x : Constant) → turn (g.constant_reading x) ≡ Turn.neither
constant_turn (constant.Number bytes) = refl
constant_turn (constant.Text bytes) = refl
constant_turn (constant.EText bytes) = refl
constant_turn (constant.Dollar bytes) = refl
constant_turn constant.True = refl
constant_turn constant.False = refl
constant_turn constant.Null = refl

pub purpose_turn : (x : Purpose) → turn (reading.Symbol (g.purpose_symbol x)) ≡ Turn.neither
purpose_turn purpose.Arg = refl
purpose_turn purpose.Narg = refl
purpose_turn purpose.Slice = refl

pub pool_turn : (x : Pool) → turn (reading.Symbol (g.pool_symbol x)) ≡ Turn.neither
pool_turn pool.Coalesce = refl
pool_turn pool.Greatest = refl
pool_turn pool.Least = refl

pub moment_turn : (x : Moment) → turn (reading.Symbol (g.moment_symbol x)) ≡ Turn.neither
moment_turn moment.CurrentDate = refl
moment_turn moment.CurrentTimestamp = refl
moment_turn moment.LocalTimestamp = refl

pub matching_turn : (x : Matching) → turn (reading.Symbol (g.matching_symbol x)) ≡ Turn.neither
matching_turn matching.Like = refl
matching_turn matching.Ilike = refl

module _ {A : Type 0} (w : Lexemes → ℕ → A) (counts : Counts w) (m : ℕ) where
  abbrev pub says : {i j : ℕ} {ps : List Piece} (x : Symbol) → turn (reading.Symbol x) ≡ Turn.neither → Flat w m i j ps → Flat w m i j (word x ∷ ps)
  says x t f = token w counts m (reading.Symbol x) t f

  pub a_name : {i j : ℕ} {ps : List Piece} (x : Identifier) → Flat w m i j ps → Flat w m i j (p.name x ++ ps)
  a_name x f = needed w counts m (is_name (identifier_reading x)) (λ h. placed w counts m x.place (token w counts m (identifier_reading x) (name_turn (identifier_reading x) h) f))

  pub bare_name : {i : ℕ} (x : Identifier) → Flat w m i i (p.bare_name x)
  bare_name x = needed w counts m (is_bare_label (identifier_reading x)) (λ h. placed w counts m x.place (token w counts m (identifier_reading x) (label_turn (identifier_reading x) h) (nil w counts m)))

  pub name : {i : ℕ} (x : Identifier) → Flat w m i i (p.name x)
  name x = a_name x (nil w counts m)

  pub names : {i : ℕ} (xs : List Identifier) → Flat w m i i (p.names xs)
  names xs = list_of w counts m p.name name xs

  pub bracketed_names : {i : ℕ} (xs : List Identifier) → Flat w m i i (p.bracketed_names xs)
  bracketed_names [] = nil w counts m
  bracketed_names (x ∷ xs) = opening w counts m (reading.Symbol s.Open) refl (append w counts m (p.names (x ∷ xs)) (word s.Close ∷ []) (names (x ∷ xs)) (closing w counts m (reading.Symbol s.Close) refl (nil w counts m)))

  schema : {i : ℕ} (x : Option Identifier) → Flat w m i i (p.schema_name x)
  schema None = nil w counts m
  schema (Some x) = a_name x (says s.Dot refl (nil w counts m))

  pub qualified : {i : ℕ} (x : QualifiedName) → Flat w m i i (p.qualified_name x)
  qualified x = append w counts m (p.schema_name x.schema) (p.name x.name) (schema x.schema) (name x.name)

  pub column_name : {i : ℕ} (x : ColumnName) → Flat w m i i (p.column_name x)
  column_name (column.Bare x) = name x
  column_name (column.OfRange x y) = a_name x (says s.Dot refl (name y))
  column_name (column.OfTable x y z) = a_name x (says s.Dot refl (a_name y (says s.Dot refl (name z))))

  type_words : {i : ℕ} (x : TypeWord) → Flat w m i i (p.type_words x)
  type_words (type_word.Named x) = qualified x
  type_words (type_word.DoublePrecision place) = placed w counts m place (says s.Double refl (says s.Precision refl (nil w counts m)))
  type_words (type_word.CharacterVarying place) = placed w counts m place (says s.Character refl (says s.Varying refl (nil w counts m)))

  size : {i : ℕ} (xs : List (List ℕ)) → Flat w m i i (p.size xs)
  size [] = nil w counts m
  size (n ∷ ns) = opening w counts m (reading.Symbol s.Open) refl
      (append w counts m (p.listed (map (λ b. say (reading.Number b) ∷ []) (n ∷ ns))) (word s.Close ∷ []) (list_of w counts m (λ b. say (reading.Number b) ∷ []) (λ b. token w counts m (reading.Number b) refl (nil w counts m)) (n ∷ ns))
      (closing w counts m (reading.Symbol s.Close) refl (nil w counts m)))

  time_zone : {i : ℕ} (x : TimeZone) → Flat w m i i (p.time_zone x)
  time_zone zone.Unsaid = nil w counts m
  time_zone zone.With = says s.With refl (says s.Time refl (says s.Zone refl (nil w counts m)))
  time_zone zone.Without = says s.Without refl (says s.Time refl (says s.Zone refl (nil w counts m)))

  array : {i : ℕ} (x : List ℕ) → Flat w m i i (p.array x)
  array [] = opening w counts m (reading.Symbol s.OpenSquare) refl (closing w counts m (reading.Symbol s.CloseSquare) refl (nil w counts m))
  array (n ∷ ns) = opening w counts m (reading.Symbol s.OpenSquare) refl (token w counts m (reading.Number (n ∷ ns)) refl (closing w counts m (reading.Symbol s.CloseSquare) refl (nil w counts m)))

  pub type : {i : ℕ} (x : TypeName) → Flat w m i i (p.type x)
  type x = asked w counts m (p.size_fits (p.plain_type x.word) x.size && p.zone_fits (p.plain_type x.word) x.zone)
      (append w counts m ((p.type_words x.word ++ p.size x.size) ++ p.time_zone x.zone) (flat_map p.array x.arrays)
      (append w counts m (p.type_words x.word ++ p.size x.size) (p.time_zone x.zone) (append w counts m (p.type_words x.word) (p.size x.size) (type_words x.word) (size x.size)) (time_zone x.zone)) (all w counts m p.array array x.arrays))

  name_of_parameter : {i : ℕ} (x : ParameterName) → Flat w m i i (g.name_of_parameter x)
  name_of_parameter (parameter_name.Identifier x) = name x
  name_of_parameter (parameter_name.Text bytes) = token w counts m (reading.Text bytes) refl (nil w counts m)

  pub parameter_pieces : {i : ℕ} (x : Parameter) → Flat w m i i (g.parameter_pieces x)
  parameter_pieces (parameter.Numbered bytes) = token w counts m (reading.Parameter bytes) refl (nil w counts m)
  parameter_pieces (parameter.Named x) = token w counts m (reading.Named x) refl (nil w counts m)
  parameter_pieces (parameter.Called found x) = says s.Sqlc refl (says s.Dot refl (says (g.purpose_symbol found) (purpose_turn found) (opening w counts m (reading.Symbol s.Open) refl
      (append w counts m (g.name_of_parameter x) (word s.Close ∷ []) (name_of_parameter x) (closing w counts m (reading.Symbol s.Close) refl (nil w counts m))))))

  pub maybe : {i j : ℕ} {ps : List Piece} (b : Bool) (x : Symbol) → turn (reading.Symbol x) ≡ Turn.neither → Flat w m i j ps → Flat w m i j (p.when b x ++ ps)
  maybe true x t f = says x t f
  maybe false x t f = f

  pub test_words : {i : ℕ} (x : Test) → Flat w m i i (g.test_words x)
  test_words test.Null = says s.Is refl (says s.Null refl (nil w counts m))
  test_words test.NotNull = says s.Is refl (says s.Not refl (says s.Null refl (nil w counts m)))
  test_words test.True = says s.Is refl (says s.True refl (nil w counts m))
  test_words test.NotTrue = says s.Is refl (says s.Not refl (says s.True refl (nil w counts m)))
  test_words test.False = says s.Is refl (says s.False refl (nil w counts m))
  test_words test.NotFalse = says s.Is refl (says s.Not refl (says s.False refl (nil w counts m)))
  test_words test.Unknown = says s.Is refl (says s.Unknown refl (nil w counts m))
  test_words test.NotUnknown = says s.Is refl (says s.Not refl (says s.Unknown refl (nil w counts m)))
  test_words test.NullWord = says s.IsNull refl (nil w counts m)
  test_words test.NotNullWord = says s.NotNull refl (nil w counts m)

  pub direction_words : {i : ℕ} (x : Direction) → Flat w m i i (g.sort_direction x)
  direction_words direction.Unsaid = nil w counts m
  direction_words direction.Ascending = says s.Asc refl (nil w counts m)
  direction_words direction.Descending = says s.Desc refl (nil w counts m)

  pub nulls_words : {i : ℕ} (x : Nulls) → Flat w m i i (g.sort_nulls x)
  nulls_words nulls.Unsaid = nil w counts m
  nulls_words nulls.First = says s.Nulls refl (says s.First refl (nil w counts m))
  nulls_words nulls.Last = says s.Nulls refl (says s.Last refl (nil w counts m))
