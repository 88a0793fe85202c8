-- Primary keys (PostgreSQL manual, CREATE TABLE).
use Rattle.std.specs.Prelude.{ℕ, ◌-◌, ◌++◌, ◌==◌, Bool, false, true, if◌then◌else◌, List, [], ◌∷◌, Option, None, Some, Result, Ok, Err, codes, map, nat_lt, length}
use Rattle.std.specs.List.{list_any, remove}
use Rattle.sq_catalog.specs.Answers.{and_then}
use Rattle.sq_catalog.specs.Columns.{place_of_column, change_at, marked}
use Rattle.sq_catalog.specs.declared.table.Column.{Column}
use Rattle.sq_catalog.specs.declared.table.Key.{Key}
use Rattle.sq_catalog.specs.declared.table.Table.{Table}
use Rattle.sq_catalog.specs.declared.change.NewKey.{NewKey}
use Rattle.sq_catalog.specs.declared.change.Keys.{Keys}
use Rattle.sq_catalog.specs.declared.change.Keys.TheVariants.{Nothing, One, Several}
use Rattle.sq_catalog.specs.declared.change.Cause.{Cause}
use Rattle.sq_catalog.specs.declared.change.Cause.TheVariants.{Exists, Missing, TooManyColumns}

-- what a second primary key is refused with
abbrev pub primary_key : List ℕ
primary_key = codes "PRIMARY KEY"

-- the name of a new key in a table of this name: by default that of the table and "_pkey"
abbrev pub key_name : List ℕ → Option (List ℕ) → List ℕ
key_name table None = table ++ codes "_pkey"
key_name table (Some name) = name

-- the places of the columns of these names, behind those that are found already
abbrev pub places_of : Table → List ℕ → List (List ℕ) → Result (List ℕ) Cause
places_of table found [] = Ok found
places_of table found (name ∷ names) = elim (place_of_column table name) [
  | None ↦ Err (Missing name)
  | Some at ↦ places_of table (found ++ at ∷ []) names
]

-- a new key of a table, which may have no other
abbrev pub new_key : Table → NewKey → Result Key Cause
new_key table new = elim table.key [
  | Some key ↦ Err (Exists primary_key)
  | None ↦ and_then (places_of table [] new.columns) (λ places. Ok (record { name = key_name table.name new.name; columns = places }))
]

-- the new key among those that a statement asks for
abbrev pub key_of : Table → Keys → Result (Option Key) Cause
key_of table Nothing = Ok None
key_of table (One new) = and_then (new_key table new) (λ key. Ok (Some key))
key_of table Several = Err (Exists primary_key)

-- columns with NOT NULL at these places
abbrev pub all_marked : List Column → List ℕ → List Column
all_marked columns [] = columns
all_marked columns (at ∷ places) = all_marked (change_at (marked true) columns at) places

-- a table with a key, whose columns are NOT NULL
abbrev pub with_key : Table → Key → Table
with_key table key = record table { columns = all_marked table.columns key.columns; key = Some key }

-- a table with a key, where there is one
abbrev pub with_key_of : Table → Option Key → Table
with_key_of table None = table
with_key_of table (Some key) = with_key table key

-- a table has 1,600 columns at most
abbrev pub limited : Table → Result Table Cause
limited table = if nat_lt 1600 (length table.columns) then Err (TooManyColumns table.name) else Ok table

-- a table with the key that a statement asks for, within the limit
abbrev pub completed : Table → Keys → Result Table Cause
completed table keys = and_then (key_of table keys) (λ key. and_then (limited table) (λ within. Ok (with_key_of table key)))

-- whether a column belongs to the primary key
abbrev pub in_key : Table → ℕ → Bool
in_key table at = elim table.key [
  | None ↦ false
  | Some key ↦ list_any (λ place. place == at) key.columns
]

-- where a column stands once the one at a place has gone
abbrev pub moved : ℕ → ℕ → ℕ
moved gone at = if nat_lt gone at then at - 1 else at

-- a key goes with any of its columns, and else keeps its columns at their new places
abbrev pub key_without : ℕ → Option Key → Option Key
key_without gone None = None
key_without gone (Some key) = if list_any (λ place. place == gone) key.columns then None else Some (record key { columns = map (moved gone) key.columns })

-- a table without the column at a place
abbrev pub without_column : Table → ℕ → Table
without_column table gone = record table { columns = remove table.columns gone; key = key_without gone table.key }
