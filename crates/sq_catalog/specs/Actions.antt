-- What a change of one table makes of it (PostgreSQL manual, ALTER TABLE).
use Rattle.std.specs.Prelude.{ℕ, Bool, true, false, if◌then◌else◌, List, [], ◌∷◌, ◌++◌, Option, None, Some, Result, Ok, Err}
use Rattle.std.specs.Str.{bytes_eq}
use Rattle.sq_base.specs.declared.types.PgType.{PgType}
use Rattle.sq_catalog.specs.Answers.{and_then}
use Rattle.sq_catalog.specs.Columns.{place_of_column, with_column_at, named, marked, typed}
use Rattle.sq_catalog.specs.Keys.{new_key, with_key, completed, in_key, without_column}
use Rattle.sq_catalog.specs.declared.table.Column.{Column}
use Rattle.sq_catalog.specs.declared.table.Key.{Key}
use Rattle.sq_catalog.specs.declared.table.Table.{Table}
use Rattle.sq_catalog.specs.declared.change.Keys.{Keys}
use Rattle.sq_catalog.specs.declared.change.Action.{Action}
use Rattle.sq_catalog.specs.declared.change.Action.TheVariants.{AddColumn, DropColumn, RenameColumn, SetNotNull, DropNotNull, SetType, AddPrimaryKey, DropConstraint, RenameConstraint}
use Rattle.sq_catalog.specs.declared.change.Cause.{Cause}
use Rattle.sq_catalog.specs.declared.change.Cause.TheVariants.{Exists, Missing, InPrimaryKey}

-- a table with one more column
abbrev pub with_column : Table → Column → Table
with_column table column = record table { columns = table.columns ++ column ∷ [] }

-- a new column, whose name must be free, and the key that it makes
abbrev pub column_added : Table → Column → Bool → Keys → Result Table Cause
column_added table column if_not_exists keys = elim (place_of_column table column.name) [
  | Some at ↦ if if_not_exists then Ok table else Err (Exists column.name)
  | None ↦ completed (with_column table column) keys
]

-- a column goes
abbrev pub column_dropped : Table → List ℕ → Bool → Result Table Cause
column_dropped table name if_exists = elim (place_of_column table name) [
  | Some at ↦ Ok (without_column table at)
  | None ↦ if if_exists then Ok table else Err (Missing name)
]

-- a column gets a name that is free, in its place
abbrev pub column_renamed : Table → List ℕ → List ℕ → Result Table Cause
column_renamed table from to = elim (place_of_column table from) [
  | None ↦ Err (Missing from)
  | Some at ↦ elim (place_of_column table to) [
    | Some taken ↦ Err (Exists to)
    | None ↦ Ok (with_column_at (named to) table at)
  ]
]

-- a column gets NOT NULL
abbrev pub column_marked : Table → List ℕ → Result Table Cause
column_marked table name = elim (place_of_column table name) [
  | None ↦ Err (Missing name)
  | Some at ↦ Ok (with_column_at (marked true) table at)
]

-- a column that is not in the key loses NOT NULL
abbrev pub column_unmarked : Table → List ℕ → Result Table Cause
column_unmarked table name = elim (place_of_column table name) [
  | None ↦ Err (Missing name)
  | Some at ↦ if in_key table at then Err (InPrimaryKey name) else Ok (with_column_at (marked false) table at)
]

-- a column gets another type
abbrev pub column_typed : Table → List ℕ → PgType → Result Table Cause
column_typed table name of = elim (place_of_column table name) [
  | None ↦ Err (Missing name)
  | Some at ↦ Ok (with_column_at (typed of) table at)
]

-- the key goes where it has this name; its columns stay NOT NULL
abbrev pub key_dropped : List ℕ → Option Key → Option Key
key_dropped name None = None
key_dropped name (Some key) = if bytes_eq key.name name then None else Some key

-- the key gets another name where it has this one
abbrev pub key_renamed : List ℕ → List ℕ → Option Key → Option Key
key_renamed from to None = None
key_renamed from to (Some key) = if bytes_eq key.name from then Some (record key { name = to }) else Some key

-- what an action makes of a table
abbrev pub acted : Table → Action → Result Table Cause
acted table (AddColumn column if_not_exists keys) = column_added table column if_not_exists keys
acted table (DropColumn name if_exists) = column_dropped table name if_exists
acted table (RenameColumn from to) = column_renamed table from to
acted table (SetNotNull column) = column_marked table column
acted table (DropNotNull column) = column_unmarked table column
acted table (SetType column of) = column_typed table column of
acted table (AddPrimaryKey key) = and_then (new_key table key) (λ made. Ok (with_key table made))
acted table (DropConstraint name) = Ok (record table { key = key_dropped name table.key })
acted table (RenameConstraint from to) = Ok (record table { key = key_renamed from to table.key })
