-- Columns by their names, and what a change makes of one.
use Rattle.std.specs.Prelude.{ℕ, Bool, List, [], ◌∷◌, zero, suc, Option, position, slice_get}
use Rattle.std.specs.Option.{option_map, option_and_then}
use Rattle.std.specs.Str.{bytes_eq}
use Rattle.sq_base.specs.declared.types.PgType.{PgType}
use Rattle.sq_catalog.specs.declared.table.Column.{Column}
use Rattle.sq_catalog.specs.declared.table.Table.{Table}

-- something with its place, where a list has the place
abbrev pub placed : {A : Type 0} → List A → Option ℕ → Option (ℕ × A)
placed xs place = option_and_then (λ at. option_map (λ x. (at, x)) (slice_get xs at)) place

-- the place of a table's column of this name
abbrev pub place_of_column : Table → List ℕ → Option ℕ
place_of_column table name = position (λ (column : Column). bytes_eq column.name name) table.columns

-- a table's column of this name, with its place
abbrev pub placed_column : Table → List ℕ → Option (ℕ × Column)
placed_column table name = placed table.columns (place_of_column table name)

-- a list with what stands at a place changed there
abbrev pub change_at : {A : Type 0} → (A → A) → List A → ℕ → List A
change_at f [] at = []
change_at f (x ∷ xs) zero = f x ∷ xs
change_at f (x ∷ xs) (suc at) = x ∷ change_at f xs at

-- a table with the column at a place changed there
abbrev pub with_column_at : (Column → Column) → Table → ℕ → Table
with_column_at f table at = record table { columns = change_at f table.columns at }

-- a column under another name
abbrev pub named : List ℕ → Column → Column
named name column = record column { name = name }

-- a column with or without NOT NULL
abbrev pub marked : Bool → Column → Column
marked mark column = record column { not_null = mark }

-- a column of another type
abbrev pub typed : PgType → Column → Column
typed of column = record column { of = of }
