-- The catalogue's step: what a change makes of it.
use Rattle.std.specs.Prelude.{ℕ, ◌+◌, ◌&&◌, ◌||◌, Bool, if◌then◌else◌, List, [], ◌∷◌, ◌++◌, Option, None, Some, find, position, Result, Ok, Err, codes}
use Rattle.std.specs.List.{list_any, remove}
use Rattle.std.specs.Str.{bytes_eq}
use Rattle.sq_catalog.specs.Actions.{acted}
use Rattle.sq_catalog.specs.Answers.{Answers, and_then}
pub use Rattle.sq_catalog.specs.Schemas.{has_schema}
use Rattle.sq_catalog.specs.Dropping.{absent, schema_dropped, type_dropped, domain_dropped}
pub use Rattle.sq_catalog.specs.Columns.{placed, place_of_column, placed_column}
use Rattle.sq_catalog.specs.Columns.{change_at}
use Rattle.sq_catalog.specs.Contents.{Contents}
use Rattle.sq_catalog.specs.Keys.{completed}
use Rattle.sq_catalog.specs.UserTypes.{enum_created, domain_created, value_added, value_renamed, type_renamed, type_moved}
use Rattle.sq_catalog.specs.declared.table.Column.{Column}
use Rattle.sq_catalog.specs.declared.table.Table.{Table}
use Rattle.sq_catalog.specs.declared.change.Action.{Action}
use Rattle.sq_catalog.specs.declared.change.Change.{Change}
use Rattle.sq_catalog.specs.declared.change.Change.TheVariants.{CreateSchema, CreateTable, DropTable, AlterTable, RenameTable, SetTableSchema, CreateEnum, CreateDomain, AddValue, RenameValue, RenameType, SetTypeSchema, DropSchema, DropType, DropDomain}
use Rattle.sq_catalog.specs.declared.change.Cause.{Cause}
use Rattle.sq_catalog.specs.declared.change.ChangeFault.{ChangeFault}
use Rattle.sq_catalog.specs.declared.change.Cause.TheVariants.{Exists}
use Rattle.sq_catalog.specs.declared.change.Keys.{Keys}
use Rattle.sq_catalog.specs.declared.change.Target.{Target}

-- the schema that every catalogue begins with
abbrev pub public : List ℕ
public = codes "public"

-- nothing has been made yet
abbrev pub empty : Contents
empty = record { schemas = public ∷ []; tables = []; enums = []; domains = []; given = 0 }

-- whether a table has this schema and this name
abbrev pub is_named : Table → List ℕ → List ℕ → Bool
is_named table schema name = bytes_eq table.schema schema && bytes_eq table.name name

-- the table of this name in this schema
abbrev pub table_named : Contents → List ℕ → List ℕ → Option Table
table_named c schema name = find (λ (table : Table). is_named table schema name) c.tables

-- the place of the table of this name in this schema
abbrev pub place_of_table : Contents → List ℕ → List ℕ → Option ℕ
place_of_table c schema name = position (λ (table : Table). is_named table schema name) c.tables

-- the table of this name in this schema, with its place
abbrev pub placed_table : Contents → List ℕ → List ℕ → Option (ℕ × Table)
placed_table c schema name = placed c.tables (place_of_table c schema name)

-- a new schema; "public" is always accepted
abbrev pub schema_created : Contents → List ℕ → Bool → Result Contents Cause
schema_created c name if_not_exists =
    if has_schema c name then (if if_not_exists || bytes_eq name public then Ok c else Err (Exists name))
    else Ok (record c { schemas = c.schemas ++ name ∷ [] })

-- whether one of these columns has the name of this one
abbrev pub is_repeated : Column → List Column → Bool
is_repeated column columns = list_any (λ (other : Column). bytes_eq other.name column.name) columns

-- the first name of a column that a later column has too
abbrev pub repeated_column : List Column → Option (List ℕ)
repeated_column [] = None
repeated_column (column ∷ columns) = if is_repeated column columns then Some column.name else repeated_column columns

-- a table that has this id and no key
abbrev pub bare : ℕ → List ℕ → List ℕ → List Column → Table
bare id schema name columns = record { id = id; schema = schema; name = name; columns = columns; key = None }

-- two columns of one name are refused
abbrev pub distinct : List Column → Result (Unit {0}) Cause
distinct columns = elim (repeated_column columns) [
  | Some name ↦ Err (Exists name)
  | None ↦ Ok tt
]

-- a new table, whose columns have different names, with the key that a statement asks for
abbrev pub new_table : Table → Keys → Result Table Cause
new_table table keys = and_then (distinct table.columns) (λ done. completed table keys)

-- the catalogue with one more table, which has the next id
abbrev pub with_new : Contents → Table → Contents
with_new c table = record c { tables = c.tables ++ table ∷ []; given = c.given + 1 }

-- the catalogue with one more table without a key
abbrev pub with_table : Contents → List ℕ → List ℕ → List Column → Contents
with_table c schema name columns = with_new c (bare c.given schema name columns)

-- the catalogue with a new table, which has the next id
abbrev pub table_made : Contents → List ℕ → List ℕ → List Column → Keys → Result Contents Cause
table_made c schema name columns keys = and_then (new_table (bare c.given schema name columns) keys) (λ table. Ok (with_new c table))

-- a new table, whose name must be free
abbrev pub table_created : Contents → List ℕ → List ℕ → Bool → List Column → Keys → Result Contents Cause
table_created c schema name if_not_exists columns keys = elim (place_of_table c schema name) [
  | Some at ↦ if if_not_exists then Ok c else Err (Exists name)
  | None ↦ table_made c schema name columns keys
]

-- a table goes
abbrev pub table_dropped : Contents → Target → Result Contents Cause
table_dropped c target = elim (place_of_table c target.schema target.name) [
  | None ↦ absent c target
  | Some at ↦ Ok (record c { tables = remove c.tables at })
]

-- the catalogue where the table at a place is changed
abbrev pub with_table_at : (Table → Table) → Contents → ℕ → Contents
with_table_at f c at = record c { tables = change_at f c.tables at }

-- another table in the place of one
abbrev pub instead : Table → Table → Table
instead new old = new

-- a table under another name
abbrev pub titled : List ℕ → Table → Table
titled name table = record table { name = name }

-- a table in another schema
abbrev pub housed : List ℕ → Table → Table
housed schema table = record table { schema = schema }

-- what is found is changed in its place
abbrev pub altered : Contents → Target → Action → Option (ℕ × Table) → Result Contents Cause
altered c target action None = absent c target
altered c target action (Some found) = and_then (acted found.1 action) (λ changed. Ok (with_table_at (instead changed) c found.0))

-- a table is changed
abbrev pub table_altered : Contents → Target → Action → Result Contents Cause
table_altered c target action = altered c target action (placed_table c target.schema target.name)

-- the table at a place gets a name that is free in its schema
abbrev pub renamed_at : Contents → ℕ → List ℕ → List ℕ → Result Contents Cause
renamed_at c at schema to = elim (place_of_table c schema to) [
  | Some taken ↦ Err (Exists to)
  | None ↦ Ok (with_table_at (titled to) c at)
]

-- a table gets a name that is free in its schema, and keeps its place
abbrev pub table_renamed : Contents → Target → List ℕ → Result Contents Cause
table_renamed c target to = elim (place_of_table c target.schema target.name) [
  | None ↦ absent c target
  | Some at ↦ renamed_at c at target.schema to
]

-- the table at a place comes into a schema where its name is free
abbrev pub moved_at : Contents → ℕ → List ℕ → List ℕ → Result Contents Cause
moved_at c at name to = elim (place_of_table c to name) [
  | Some taken ↦ Err (Exists name)
  | None ↦ Ok (with_table_at (housed to) c at)
]

-- a table comes into a schema where its name is free, and keeps its place
abbrev pub table_moved : Contents → Target → List ℕ → Result Contents Cause
table_moved c target to = elim (place_of_table c target.schema target.name) [
  | None ↦ absent c target
  | Some at ↦ moved_at c at target.name to
]

-- what a change makes of a catalogue, or why it is refused
abbrev pub step : Contents → Change → Result Contents Cause
step c (CreateSchema name if_not_exists) = schema_created c name if_not_exists
step c (DropSchema name if_exists cascade) = schema_dropped c name if_exists cascade
step c (CreateTable schema name if_not_exists columns keys) = table_created c schema name if_not_exists columns keys
step c (DropTable table) = table_dropped c table
step c (AlterTable table action) = table_altered c table action
step c (RenameTable table to) = table_renamed c table to
step c (SetTableSchema table to) = table_moved c table to
step c (CreateEnum schema name labels) = enum_created c schema name labels
step c (CreateDomain schema name base) = domain_created c schema name base
step c (AddValue schema name label if_not_exists beside) = value_added c schema name label if_not_exists beside
step c (RenameValue schema name from to) = value_renamed c schema name from to
step c (RenameType schema name to) = type_renamed c schema name to
step c (SetTypeSchema schema name to) = type_moved c schema name to
step c (DropType of cascade) = type_dropped c of cascade
step c (DropDomain of cascade) = domain_dropped c of cascade

-- what an answer says of the step
abbrev pub Steps : Contents → Change → Contents → Result (Unit {0}) ChangeFault → Type 0
Steps old change new result = Answers old (step old change) new result
