-- The rules that a catalogue keeps, whatever change is made.
use Rattle.std.specs.Prelude.{ℕ, ◌≡◌, ◌≢◌, ◌≤◌, ◌<◌, ⊤, true, false, List, [], ◌∷◌, ◌++◌, map, length, slice_get, Option, None, Some}
use Rattle.std.specs.List.{AllByRecursion}
use Rattle.sq_base.specs.declared.types.PgType.{PgType}
use Rattle.sq_base.specs.declared.types.Scalar.TheVariants.{Opaque, Enum, Domain, Unknown}
use Rattle.sq_catalog.specs.declared.change.Action.{Action}
use Rattle.sq_catalog.specs.declared.change.Action.TheVariants.{AddColumn, SetType}
use Rattle.sq_catalog.specs.declared.change.Change.{Change}
use Rattle.sq_catalog.specs.declared.change.Change.TheVariants.{CreateTable, AlterTable, CreateDomain}
use Rattle.sq_catalog.specs.declared.table.Column.{Column}
use Rattle.sq_catalog.specs.declared.table.DomainType.{DomainType}
use Rattle.sq_catalog.specs.declared.table.EnumType.{EnumType}
use Rattle.sq_catalog.specs.declared.table.Key.{Key}
use Rattle.sq_catalog.specs.declared.table.Table.{Table}
use Rattle.sq_catalog.specs.Contents.{Contents}
use Rattle.sq_catalog.specs.Catalogue.{repeated_column}
use Rattle.sq_catalog.specs.Dropping.{has_id, id_of}
use Rattle.sq_catalog.specs.UserTypes.{repeated_label}

-- the ids of tables
abbrev pub table_ids : List Table → List ℕ
table_ids tables = map (λ (table : Table). table.id) tables

-- the ids of enumerations
abbrev pub enum_ids : List EnumType → List ℕ
enum_ids enums = map (λ (of : EnumType). of.id) enums

-- the ids of domains
abbrev pub domain_ids : List DomainType → List ℕ
domain_ids domains = map (λ (of : DomainType). of.id) domains

-- the ids of enumerations and domains
abbrev pub type_ids : Contents → List ℕ
type_ids c = enum_ids c.enums ++ domain_ids c.domains

-- no two of these are equal
abbrev pub are_apart : {A : Type 0} → List A → Type 0
are_apart [] = ⊤
are_apart (x ∷ xs) = AllByRecursion (λ other. x ≢ other) xs × are_apart xs

-- the schema and the name of each table
abbrev pub table_names : List Table → List (List ℕ × List ℕ)
table_names tables = map (λ (table : Table). (table.schema, table.name)) tables

-- the column at a place, where there is one, is NOT NULL
abbrev pub IsNotNullAt : List Column → ℕ → Type 0
IsNotNullAt columns place = elim (slice_get columns place) [
  | None ↦ ⊤
  | Some column ↦ column.not_null ≡ true
]

-- the places of a key, where there is one, are such places
abbrev pub HasPlaces : (ℕ → Type 0) → Option Key → Type 0
HasPlaces Is None = ⊤
HasPlaces Is (Some key) = AllByRecursion Is key.columns

-- no two columns have one name, there are at most 1,600, and the key is made of them: they are NOT NULL
pub record IsTable (table : Table) : Type 0 where
  pub distinct : repeated_column table.columns ≡ None
  pub few : length table.columns ≤ 1600
  pub keyed : HasPlaces (λ place. place < length table.columns) table.key
  pub not_null : HasPlaces (IsNotNullAt table.columns) table.key

-- the ids of the enumerations and domains have been given, each once, and to no table
pub record HasTypes (c : Contents) : Type 0 where
  pub given : AllByRecursion (λ id. id < c.given) (type_ids c)
  pub apart : are_apart (type_ids c)
  pub beside : AllByRecursion (λ id. AllByRecursion (λ other. id ≢ other) (type_ids c)) (table_ids c.tables)

-- how many types there are of which nothing is known but their name
abbrev pub opaque_types : ℕ
opaque_types = 10

-- a type that a column or a domain can have: it is known, an enumeration or a domain is one that the
-- catalogue holds, and there is no array of a domain
abbrev pub IsHeld : Contents → PgType → Type 0
IsHeld c of = elim of.scalar [
  | Enum id ↦ has_id (enum_ids c.enums) id ≡ true
  | Domain id ↦ (has_id (domain_ids c.domains) id ≡ true) × (of.array ≡ false)
  | Opaque place ↦ place < opaque_types
  | Unknown ↦ ⊥
  | other ↦ ⊤
]

-- the types of a table's columns are held
abbrev pub HasHeldTypes : Contents → Table → Type 0
HasHeldTypes c table = AllByRecursion (λ (column : Column). IsHeld c column.of) table.columns

-- a domain was made after its base
abbrev pub IsAfterBase : DomainType → Type 0
IsAfterBase of = elim (id_of of.base.scalar) [
  | None ↦ ⊤
  | Some base ↦ base < of.id
]

-- these ids stand in the order in which they were given
abbrev pub are_in_order : List ℕ → Type 0
are_in_order [] = ⊤
are_in_order (id ∷ ids) = AllByRecursion (λ other. id < other) ids × are_in_order ids

-- the types of the columns and the bases of the domains are held, and the domains stand in the
-- order in which they were made, each after its base
pub record HoldsTypes (c : Contents) : Type 0 where
  pub columns : AllByRecursion (HasHeldTypes c) c.tables
  pub bases : AllByRecursion (λ (of : DomainType). IsHeld c of.base) c.domains
  pub later : AllByRecursion IsAfterBase c.domains
  pub ordered : are_in_order (domain_ids c.domains)

-- the ids of the tables have been given, each once, and so have those of the types; no two tables of a
-- schema have one name, no two labels of an enumeration are equal, and the types of columns and the
-- bases of domains are held
pub record IsCatalogue (c : Contents) : Type 0 where
  pub given : AllByRecursion (λ id. id < c.given) (table_ids c.tables)
  pub apart : are_apart (table_ids c.tables)
  pub named : are_apart (table_names c.tables)
  pub labels : AllByRecursion (λ (of : EnumType). repeated_label of.labels ≡ None) c.enums
  pub tables : AllByRecursion IsTable c.tables
  pub types : HasTypes c
  pub held : HoldsTypes c

-- the type that an action gives to a column is such a type
abbrev pub TypesColumn : (PgType → Type 0) → Action → Type 0
TypesColumn Is (AddColumn column if_not_exists keys) = Is column.of
TypesColumn Is (SetType column of) = Is of
TypesColumn Is other = ⊤

-- the types that a change gives are held
abbrev pub BringsHeld : Contents → Change → Type 0
BringsHeld c (CreateTable schema name if_not_exists columns keys) = AllByRecursion (λ (column : Column). IsHeld c column.of) columns
BringsHeld c (AlterTable table action) = TypesColumn (IsHeld c) action
BringsHeld c (CreateDomain schema name base) = IsHeld c base
BringsHeld c other = ⊤
