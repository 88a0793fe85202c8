-- The pieces that productions are made of, names and types (PostgreSQL manual, section 4.1.1 and chapter 8).
use Rattle.std.specs.Prelude.{ℕ, Bool, true, false, ◌&&◌, not, if◌then◌else◌, List, [], ◌∷◌, ◌++◌, map, flat_map, codes, bytes_eq, Option, Some, None}
use Rattle.sq_base.specs.declared.place.Place.{Place}
use Rattle.sq_syntax.specs.declared.symbol.Symbol.{Symbol}
use Rattle.sq_syntax.specs.declared.symbol.Symbol.TheVariants as s
use Rattle.sq_syntax.specs.declared.symbol.Reading.{Reading}
use Rattle.sq_syntax.specs.declared.symbol.Reading.TheVariants as reading
use Rattle.sq_syntax.specs.declared.name.Identifier.{Identifier}
use Rattle.sq_syntax.specs.declared.name.QualifiedName.{QualifiedName}
use Rattle.sq_syntax.specs.declared.name.ColumnName.{ColumnName}
use Rattle.sq_syntax.specs.declared.name.ColumnName.TheVariants as column
use Rattle.sq_syntax.specs.declared.name.TypeWord.{TypeWord}
use Rattle.sq_syntax.specs.declared.name.TypeWord.TheVariants as type_word
use Rattle.sq_syntax.specs.declared.name.TimeZone.{TimeZone}
use Rattle.sq_syntax.specs.declared.name.TimeZone.TheVariants as zone
use Rattle.sq_syntax.specs.declared.name.TypeName.{TypeName}
use Rattle.sq_syntax.specs.declared.expr.Node.{Node}
use Rattle.sq_syntax.specs.Symbols.{identifier_reading, is_name, is_bare_label, among}
use Rattle.sq_syntax.specs.Facts.{Mark, Facts, Piece, numbered}

abbrev pub Pieces : Type 0
Pieces = List Piece

-- a token of this reading
abbrev pub say : Reading → Piece
say r = Piece.mark (Mark.says r)

abbrev pub sym : Symbol → Piece
sym x = say (reading.Symbol x)

-- the next token stands at this place
abbrev pub at : Place → Piece
at place = Piece.mark (Mark.stands_at place)

abbrev pub when : Bool → Symbol → Pieces
when true x = sym x ∷ []
when false x = []

abbrev pub is_empty : {A : Type 0} → List A → Bool
is_empty [] = true
is_empty (x ∷ xs) = false

abbrev pub some : {A : Type 0} → List A → Piece
some xs = Piece.need (not (is_empty xs))

-- items with commas between
abbrev pub listed : List Pieces → Pieces
listed [] = []
listed (first ∷ more) = first ++ flat_map (λ item. sym s.Comma ∷ item) more

-- an expression's facts, by the place of its node
abbrev pub Placed : Type 0
Placed = Place → Facts

abbrev pub Operand : Type 0
Operand = Node Placed

abbrev pub operand_facts : Operand → Facts
operand_facts x = numbered x.first x.last (x.form x.place)

-- an expression at this level or a higher one
abbrev pub part : ℕ → Operand → Piece
part least x = Piece.part least (operand_facts x)

-- a whole that has no level of its own
abbrev pub whole : Facts → Piece
whole x = Piece.part 0 x

abbrev pub list : List Operand → Pieces
list xs = listed (map (λ x. part 0 x ∷ []) xs)

-- ---- names

abbrev pub name : Identifier → Pieces
name x = Piece.need (is_name (identifier_reading x)) ∷ at x.place ∷ say (identifier_reading x) ∷ []

-- a name that has no AS before it
abbrev pub bare_name : Identifier → Pieces
bare_name x = Piece.need (is_bare_label (identifier_reading x)) ∷ at x.place ∷ say (identifier_reading x) ∷ []

abbrev pub names : List Identifier → Pieces
names xs = listed (map name xs)

-- names in brackets, where there are some
abbrev pub bracketed_names : List Identifier → Pieces
bracketed_names [] = []
bracketed_names (x ∷ xs) = sym s.Open ∷ names (x ∷ xs) ++ sym s.Close ∷ []

abbrev pub schema_name : Option Identifier → Pieces
schema_name None = []
schema_name (Some x) = name x ++ sym s.Dot ∷ []

abbrev pub qualified_name : QualifiedName → Pieces
qualified_name x = schema_name x.schema ++ name x.name

abbrev pub column_name : ColumnName → Pieces
column_name (column.Bare x) = name x
column_name (column.OfRange range x) = name range ++ sym s.Dot ∷ name x
column_name (column.OfTable schema table x) = name schema ++ sym s.Dot ∷ name table ++ sym s.Dot ∷ name x

-- ---- types

abbrev pub type_words : TypeWord → Pieces
type_words (type_word.Named x) = qualified_name x
type_words (type_word.DoublePrecision place) = at place ∷ sym s.Double ∷ sym s.Precision ∷ []
type_words (type_word.CharacterVarying place) = at place ∷ sym s.Character ∷ sym s.Varying ∷ []

-- the names whose types may have one number behind them
abbrev pub sized_types : List (List ℕ)
sized_types = codes "numeric" ∷ codes "decimal" ∷ codes "dec" ∷ codes "varchar" ∷ codes "character" ∷ codes "bpchar" ∷ codes "char" ∷
    codes "time" ∷ codes "timestamp" ∷ codes "timestamptz" ∷ codes "interval" ∷ []

-- the names whose types may have two
abbrev pub scaled_types : List (List ℕ)
scaled_types = codes "numeric" ∷ codes "decimal" ∷ codes "dec" ∷ []

-- a built-in type has no schema, or this one
abbrev pub is_built_in : Option Identifier → Bool
is_built_in None = true
is_built_in (Some schema) = bytes_eq schema.name (codes "pg_catalog")

-- the name of a type where it may be a built-in one
abbrev pub plain_type : TypeWord → Option (List ℕ)
plain_type (type_word.Named x) = if is_built_in x.schema then Some x.name.name else None
plain_type (type_word.DoublePrecision place) = None
plain_type (type_word.CharacterVarying place) = Some (codes "varchar")

abbrev pub named_among : List (List ℕ) → Option (List ℕ) → Bool
named_among words None = false
named_among words (Some word) = among words word

-- these many numbers in brackets stand behind the type only where its name takes them
abbrev pub size_fits : Option (List ℕ) → List (List ℕ) → Bool
size_fits of [] = true
size_fits of (n ∷ []) = named_among sized_types of
size_fits of (n ∷ m ∷ []) = named_among scaled_types of
size_fits of _ = false

abbrev pub zone_fits : Option (List ℕ) → TimeZone → Bool
zone_fits of zone.Unsaid = true
zone_fits of zone.With = named_among (codes "timestamp" ∷ []) of
zone_fits of zone.Without = named_among (codes "time" ∷ codes "timestamp" ∷ []) of

abbrev pub size : List (List ℕ) → Pieces
size [] = []
size (n ∷ ns) = sym s.Open ∷ listed (map (λ m. say (reading.Number m) ∷ []) (n ∷ ns)) ++ sym s.Close ∷ []

abbrev pub time_zone : TimeZone → Pieces
time_zone zone.Unsaid = []
time_zone zone.With = sym s.With ∷ sym s.Time ∷ sym s.Zone ∷ []
time_zone zone.Without = sym s.Without ∷ sym s.Time ∷ sym s.Zone ∷ []

abbrev pub array : List ℕ → Pieces
array [] = sym s.OpenSquare ∷ sym s.CloseSquare ∷ []
array (n ∷ ns) = sym s.OpenSquare ∷ say (reading.Number (n ∷ ns)) ∷ sym s.CloseSquare ∷ []

abbrev pub type : TypeName → Pieces
type x = Piece.need (size_fits (plain_type x.word) x.size && zone_fits (plain_type x.word) x.zone) ∷ type_words x.word ++ size x.size ++ time_zone x.zone ++ flat_map array x.arrays
