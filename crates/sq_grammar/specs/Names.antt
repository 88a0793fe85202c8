-- Names and types are read.
use Rattle.std.specs.Prelude.{ℕ, Bool, true, false, ◌&&◌, if◌then◌else◌, List, [], ◌∷◌, Option, Some, None}
use Rattle.sq_base.specs.declared.place.Place.{Place}
use Rattle.sq_syntax.specs.declared.symbol.Symbol.{Symbol}
use Rattle.sq_syntax.specs.declared.symbol.Symbol.TheVariants as s
use Rattle.sq_syntax.specs.declared.symbol.Reading.{Reading}
use Rattle.sq_syntax.specs.declared.symbol.Reading.TheVariants as reading
use Rattle.sq_syntax.specs.declared.name.Identifier.{Identifier}
use Rattle.sq_syntax.specs.declared.name.QualifiedName.{QualifiedName}
use Rattle.sq_syntax.specs.declared.name.ColumnName.{ColumnName}
use Rattle.sq_syntax.specs.declared.name.ColumnName.TheVariants as column
use Rattle.sq_syntax.specs.declared.name.TypeWord.{TypeWord}
use Rattle.sq_syntax.specs.declared.name.TypeWord.TheVariants as type_word
use Rattle.sq_syntax.specs.declared.name.TimeZone.{TimeZone}
use Rattle.sq_syntax.specs.declared.name.TimeZone.TheVariants as zone
use Rattle.sq_syntax.specs.declared.name.TypeName.{TypeName}
use Rattle.sq_syntax.specs.Symbols.{text, is_name, among}
use Rattle.sq_syntax.specs.Pieces.{size_fits, zone_fits, plain_type}
use Rattle.sq_syntax.specs.ExpressionPieces.{is_call_reading, other_calls}
use Rattle.sq_grammar.specs.Reading.{Parser, ◌>>=◌, ◌>>◌, pure, fail, choose, begins_both, sees, expect, token, here, many}

abbrev pub identifier : List ℕ → Bool → Place → Identifier
identifier name is_quoted place = record { name = name; is_quoted = is_quoted; place = place }

abbrev pub word_of : Reading → Place → Option Identifier
word_of (reading.Symbol x) place = Some (identifier (text x) false place)
word_of (reading.Word word) place = Some (identifier word false place)
word_of (reading.Quoted name) place = Some (identifier name true place)
word_of _ place = None

abbrev pub only : Bool → Option Identifier → Option Identifier
only holds x = if holds then x else None

abbrev pub name_of : Reading → Place → Option Identifier
name_of r place = only (is_name r) (word_of r place)

unfoldable pub name : Parser Identifier
name = token name_of

abbrev pub call_of : Reading → Place → Option Identifier
call_of r place = only (is_call_reading r) (word_of r place)

abbrev pub if_call : Identifier → Parser Identifier
if_call x = if among other_calls x.name then fail else pure x

unfoldable pub call_name : Parser Identifier
call_name = token call_of >>= if_call

-- ---- names of several parts

abbrev pub in_schema : Identifier → Parser QualifiedName
in_schema x = do
  expect s.Dot
  y ← name
  pure (record { schema = Some x; name = y })

unfoldable pub qualified_name : Parser QualifiedName
qualified_name = do
  x ← name
  choose (sees s.Dot) (in_schema x) (pure (record { schema = None; name = x }))

abbrev pub third_part : Identifier → Identifier → Parser ColumnName
third_part x y = do
  expect s.Dot
  z ← name
  pure (column.OfTable x y z)

abbrev pub second_part : Identifier → Parser ColumnName
second_part x = do
  expect s.Dot
  y ← name
  choose (sees s.Dot) (third_part x y) (pure (column.OfRange x y))

unfoldable pub column_name : Parser ColumnName
column_name = do
  x ← name
  choose (sees s.Dot) (second_part x) (pure (column.Bare x))

-- ---- types

abbrev pub number_of : Reading → Place → Option (List ℕ)
number_of (reading.Number bytes) place = Some bytes
number_of _ place = None

unfoldable pub number : Parser (List ℕ)
number = token number_of

unfoldable pub next_number : Parser (List ℕ)
next_number = do
  expect s.Comma
  number

unfoldable pub numbers : Parser (List (List ℕ))
numbers = do
  expect s.Open
  first ← number
  more ← many (sees s.Comma) next_number
  expect s.Close
  pure (first ∷ more)

unfoldable pub size : Parser (List (List ℕ))
size = choose (sees s.Open) numbers (pure [])

abbrev pub zone_words : Symbol → TimeZone → Parser TimeZone
zone_words word found = do
  expect word
  expect s.Time
  expect s.Zone
  pure found

unfoldable pub time_zone : Parser TimeZone
time_zone = choose (sees s.With) (zone_words s.With zone.With) (choose (sees s.Without) (zone_words s.Without zone.Without) (pure zone.Unsaid))

-- a number of no bytes would not be told from no number
abbrev pub digits_of : Reading → Place → Option (List ℕ)
digits_of (reading.Number (n ∷ ns)) place = Some (n ∷ ns)
digits_of _ place = None

unfoldable pub digits : Parser (List ℕ)
digits = token digits_of

abbrev pub square_number : Parser (List ℕ)
square_number = do
  n ← digits
  expect s.CloseSquare
  pure n

unfoldable pub square : Parser (List ℕ)
square = do
  expect s.OpenSquare
  choose (sees s.CloseSquare) (expect s.CloseSquare >> pure []) square_number

abbrev pub two_words : Symbol → Symbol → (Place → TypeWord) → Parser TypeWord
two_words first second made now = (expect first >> (expect second >> pure (made (here now)))) now

abbrev pub named_type : Parser TypeWord
named_type = do
  x ← qualified_name
  pure (type_word.Named x)

unfoldable pub type_words : Parser TypeWord
type_words = choose (λ now. begins_both s.Double s.Precision now.tokens) (two_words s.Double s.Precision type_word.DoublePrecision)
    (choose (λ now. begins_both s.Character s.Varying now.tokens) (two_words s.Character s.Varying type_word.CharacterVarying) named_type)

abbrev pub fitting : TypeName → Parser TypeName
fitting x = if size_fits (plain_type x.word) x.size && zone_fits (plain_type x.word) x.zone then pure x else fail

unfoldable pub type : Parser TypeName
type = do
  word ← type_words
  sizes ← size
  zone ← time_zone
  arrays ← many (sees s.OpenSquare) square
  fitting (record { word = word; size = sizes; zone = zone; arrays = arrays })
