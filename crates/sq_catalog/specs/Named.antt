-- Names that fit, in a catalogue and in what changes it (PostgreSQL manual, section 4.1.1).
use Rattle.std.specs.Prelude.{ℕ, ◌<◌, ◌≤◌, ⊤, List, length}
use Rattle.std.specs.List.{AllByRecursion}
use Rattle.sq_catalog.specs.Contents.{Contents}
use Rattle.sq_catalog.specs.declared.change.Action.{Action}
use Rattle.sq_catalog.specs.declared.change.Action.TheVariants.{AddColumn, RenameColumn}
use Rattle.sq_catalog.specs.declared.change.Change.{Change}
use Rattle.sq_catalog.specs.declared.change.Change.TheVariants.{CreateSchema, CreateTable, AlterTable, RenameTable, SetTableSchema, CreateEnum, CreateDomain, RenameType, SetTypeSchema}
use Rattle.sq_catalog.specs.declared.table.Column.{Column}
use Rattle.sq_catalog.specs.declared.table.DomainType.{DomainType}
use Rattle.sq_catalog.specs.declared.table.EnumType.{EnumType}
use Rattle.sq_catalog.specs.declared.table.Table.{Table}

-- a name is not empty, and has at most 63 bytes: a longer one is cut when it is read
pub record IsName (name : List ℕ) : Type 0 where
  pub some : 0 < length name
  pub few : length name ≤ 63

-- a name in a schema, which has a name too
pub record IsNamed (schema name : List ℕ) : Type 0 where
  pub within : IsName schema
  pub called : IsName name

-- a column has a name
abbrev pub HasName : Column → Type 0
HasName column = IsName column.name

-- a table and its columns have names
abbrev pub IsNamedTable : Table → Type 0
IsNamedTable table = IsNamed table.schema table.name × AllByRecursion HasName table.columns

-- an enumeration has a name
abbrev pub IsNamedEnum : EnumType → Type 0
IsNamedEnum of = IsNamed of.schema of.name

-- a domain has a name
abbrev pub IsNamedDomain : DomainType → Type 0
IsNamedDomain of = IsNamed of.schema of.name

-- the schemas, the tables with their columns, the enumerations and the domains have names
pub record HasNames (c : Contents) : Type 0 where
  pub schemas : AllByRecursion IsName c.schemas
  pub tables : AllByRecursion IsNamedTable c.tables
  pub enums : AllByRecursion IsNamedEnum c.enums
  pub domains : AllByRecursion IsNamedDomain c.domains

-- the name that an action gives to a column is one
abbrev pub NamesColumn : Action → Type 0
NamesColumn (AddColumn column if_not_exists keys) = IsName column.name
NamesColumn (RenameColumn from to) = IsName to
NamesColumn other = ⊤

-- the names that a change gives are names
abbrev pub BringsNames : Change → Type 0
BringsNames (CreateSchema name if_not_exists) = IsName name
BringsNames (CreateTable schema name if_not_exists columns keys) = IsNamed schema name × AllByRecursion HasName columns
BringsNames (AlterTable table action) = NamesColumn action
BringsNames (RenameTable table to) = IsName to
BringsNames (SetTableSchema table to) = IsName to
BringsNames (CreateEnum schema name labels) = IsNamed schema name
BringsNames (CreateDomain schema name base) = IsNamed schema name
BringsNames (RenameType schema name to) = IsName to
BringsNames (SetTypeSchema schema name to) = IsName to
BringsNames other = ⊤
