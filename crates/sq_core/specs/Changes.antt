-- INSERT, UPDATE and DELETE over a table's rows: the new rows, ON CONFLICT, and what RETURNING reads.
use Rattle.std.specs.Prelude.{ℕ, zero, suc, Bool, true, false, ◌&&◌, ◌==◌, if◌then◌else◌, List, [], ◌∷◌, ◌++◌, map, length, Option, Some, None, slice_get}
use Rattle.std.specs.List.{list_all}
use Rattle.sq_catalog.specs.Contents.{Contents}
use Rattle.sq_catalog.specs.declared.table.Column.{Column}
use Rattle.sq_core.specs.Answer.{◌>>=◌, pure, fault, stuck, next_item, all_of}
use Rattle.sq_core.specs.Frames.{Setting, One, Joined, enter, one_row, both_rows}
use Rattle.sq_core.specs.Items.{Run, Item, Places, Outcome, Enters, Passes, Meets, differ, expecting, item_of, named, one_of, outcome_of, value_of}
use Rattle.sq_core.specs.Joins.{holds, kept}
use Rattle.sq_core.specs.Operations.{Meaning, evaluate, expect}
use Rattle.sq_core.specs.Values.{Value, Row, Database, kind_of, is_null, tag}

-- what a column is given: a value, or none for DEFAULT
abbrev pub Cell : Type 0
Cell = Option Value

-- null for a NOT NULL column is a fault
abbrev pub not_null : Column → Value → Run Value
not_null column value = if column.not_null && is_null value then fault else pure value

-- a column's new value: the one that is given, else an item, null or of its type
abbrev pub filled : Contents → Column → Cell → Run Value
filled contents column (Some value) = expect (tag contents column.of) value >>= not_null column
filled contents column None = item_of (kind_of contents column.of true) >>= not_null column

-- what the column at a place is given, among the columns that are given something; the first counts
abbrev pub cell_at : {A : Type 0} → ℕ → List ℕ → List A → Option A
cell_at place (column ∷ columns) (cell ∷ cells) = if column == place then Some cell else cell_at place columns cells
cell_at place _ _ = None

abbrev pub flat : Option Cell → Cell
flat (Some cell) = cell
flat None = None

-- a new row: the columns from a place on
abbrev pub filled_row : Contents → ℕ → List Column → List ℕ → List Cell → Run Row
filled_row contents place [] columns cells = pure []
filled_row contents place (column ∷ more) columns cells =
    filled contents column (flat (cell_at place columns cells))
    >>= (λ value. filled_row contents (suc place) more columns cells >>= (λ row. pure (value ∷ row)))

abbrev pub is_there : {A : Type 0} → Option A → Bool
is_there (Some x) = true
is_there None = false

-- whether these are columns of the table, and none of them stands twice
abbrev pub are_columns : List Column → List ℕ → Bool
are_columns all columns = list_all (λ column. is_there (slice_get all column)) columns && differ columns

-- as many values as columns
abbrev pub new_row : Contents → List Column → List ℕ → List Cell → Run Row
new_row contents all columns cells =
    expecting (are_columns all columns && length columns == length cells) (filled_row contents 0 all columns cells)

-- a column that is not set keeps its value, or takes an item of its type
abbrev pub kept_or : Contents → Column → Value → Item → Run Value
kept_or contents column old (Places places) = pure old
kept_or contents column old item = value_of (kind_of contents column.of true) item >>= not_null column

abbrev pub set_value : Contents → Column → Value → Option Cell → Run Value
set_value contents column old (Some cell) = filled contents column cell
set_value contents column old None = next_item >>= kept_or contents column old

-- a row after SET: the columns from a place on
abbrev pub set_row : Contents → ℕ → List Column → Row → List ℕ → List Cell → Run Row
set_row contents place [] [] columns cells = pure []
set_row contents place (column ∷ more) (old ∷ row) columns cells =
    set_value contents column old (cell_at place columns cells)
    >>= (λ value. set_row contents (suc place) more row columns cells >>= (λ rest. pure (value ∷ rest)))
set_row contents place _ _ columns cells = stuck

-- cells that are evaluated
abbrev pub cell_run : Setting → Option Meaning → Run Cell
cell_run setting None = pure None
cell_run setting (Some meaning) = meaning setting >>= (λ value. pure (Some value))

abbrev pub cells_run : List (Option Meaning) → Setting → Run (List Cell)
cells_run cells setting = all_of (map (cell_run setting) cells)

-- what SET gives: columns, and their cells
pub record Sets : Type 0 where
  pub columns : List ℕ
  pub cells : List (Option Meaning)

-- a row after SET, whose expressions are evaluated in a setting
abbrev pub after_set : Contents → List Column → Sets → Row → Setting → Run Row
after_set contents all sets old setting =
    expecting (are_columns all sets.columns) (cells_run sets.cells setting >>= set_row contents 0 all old sets.columns)

-- the rows of the table so far, and what RETURNING reads
pub record Changed : Type 0 where
  pub rows : List Row
  pub returned : List Joined

-- one more row of the table
abbrev pub entered : Row → Changed → Changed
entered row changed = record { rows = changed.rows ++ row ∷ []; returned = changed.returned ++ one_row row ∷ [] }

-- another row at a place
abbrev pub replaced : {A : Type 0} → ℕ → A → List A → List A
replaced place y [] = []
replaced zero y (x ∷ xs) = y ∷ xs
replaced (suc place) y (x ∷ xs) = x ∷ replaced place y xs

-- ON CONFLICT: nothing; the conditions of the target; these, SET and the conditions of WHERE
pub data Meeting : Type 0 where
  Raises : Meeting
  Skips : List Meaning → Meeting
  Updates : List Meaning → Sets → List Meaning → Meeting

-- a new row that enters or is passed over
abbrev pub skipped : Row → Changed → Outcome → Run Changed
skipped row changed Enters = pure (entered row changed)
skipped row changed Passes = pure changed
skipped row changed (Meets place) = fault

-- the row to update beside the new one, which is `excluded`
abbrev pub meeting : Setting → Row → Row → Setting
meeting outer old row = enter outer (One (record { ranges = old ∷ row ∷ []; merged = [] }) [])

-- the row at a place after DO UPDATE
abbrev pub updated_at : Contents → List Column → Sets → Setting → ℕ → Changed → Row → Row → Run Changed
updated_at contents all sets outer place changed old row =
    after_set contents all sets old (meeting outer old row)
    >>= (λ new. pure (record {
      rows = replaced place new changed.rows;
      returned = changed.returned
          ++ one_row new ∷ [];
    }))

-- a new row that enters, or is passed over, or that meets a row, which is updated where the conditions are true
abbrev pub met : Contents → List Column → Sets → List Meaning → Setting → Row → Changed → Outcome → Run Changed
met contents all sets wheres outer row changed Enters = pure (entered row changed)
met contents all sets wheres outer row changed Passes = pure changed
met contents all sets wheres outer row changed (Meets place) =
    named (slice_get changed.rows place)
    >>= (λ old. holds wheres (meeting outer old row)
    >>= (λ b. if b then updated_at contents all sets outer place changed old row else pure changed))

-- one new row
abbrev pub inserted : Contents → List Column → Meeting → Setting → Changed → Row → Run Changed
inserted contents all Raises outer changed row = pure (entered row changed)
inserted contents all (Skips target) outer changed row =
    holds target (enter outer (One (one_row row) [])) >>= (λ b. next_item >>= outcome_of >>= skipped row changed)
inserted contents all (Updates target sets wheres) outer changed row =
    holds target (enter outer (One (one_row row) []))
    >>= (λ b. next_item >>= outcome_of >>= met contents all sets wheres outer row changed)

-- one new row after the other
abbrev pub inserted_all : Contents → List Column → List ℕ → Meeting → Setting → Changed → List (List Cell) → Run Changed
inserted_all contents all columns meeting outer changed [] = pure changed
inserted_all contents all columns meeting outer changed (cells ∷ more) =
    new_row contents all columns cells >>= inserted contents all meeting outer changed
    >>= (λ after. inserted_all contents all columns meeting outer after more)

-- a row of the table beside one of FROM or USING
abbrev pub with_other : Row → Joined → Joined
with_other row other = both_rows (one_row row) other []

-- the one of those for which the conditions are true, where there is one: the item names it where there are several
abbrev pub hit : List Joined → Run (Option Joined)
hit [] = pure None
hit (other ∷ []) = pure (Some other)
hit others = one_of others >>= (λ other. pure (Some other))

abbrev pub partner : List Meaning → Setting → List Joined → Row → Run (Option Joined)
partner conditions outer others row =
    kept conditions (λ other. enter outer (One (with_other row other) [])) others >>= hit

-- a row and what is returned put before
abbrev pub prepended : List Row → List Joined → Changed → Changed
prepended rows returned changed = record { rows = rows ++ changed.rows; returned = returned ++ changed.returned }

-- an updated row, or the row as it was
abbrev pub updated : Contents → List Column → Sets → Setting → Row → Option Joined → Run Changed
updated contents all sets outer row None = pure (record { rows = row ∷ []; returned = [] })
updated contents all sets outer row (Some other) =
    after_set contents all sets row (enter outer (One (with_other row other) []))
    >>= (λ new. pure (record { rows = new ∷ []; returned = with_other new other ∷ [] }))

abbrev pub deleted : Row → Option Joined → Changed
deleted row None = record { rows = row ∷ []; returned = [] }
deleted row (Some other) = record { rows = []; returned = with_other row other ∷ [] }

abbrev pub updated_all : Contents → List Column → Sets → List Meaning → Setting → List Joined → List Row → Run Changed
updated_all contents all sets conditions outer others [] = pure (record { rows = []; returned = [] })
updated_all contents all sets conditions outer others (row ∷ more) =
    partner conditions outer others row >>= updated contents all sets outer row
    >>= (λ first. updated_all contents all sets conditions outer others more
    >>= (λ rest. pure (prepended first.rows first.returned rest)))

abbrev pub deleted_all : List Meaning → Setting → List Joined → List Row → Run Changed
deleted_all conditions outer others [] = pure (record { rows = []; returned = [] })
deleted_all conditions outer others (row ∷ more) =
    partner conditions outer others row
    >>= (λ other. deleted_all conditions outer others more
    >>= (λ rest. pure (prepended (deleted row other).rows (deleted row other).returned rest)))

-- the rows that a statement returns, and the database after it
pub record Outcomes : Type 0 where
  pub rows : List Row
  pub database : Database

-- RETURNING in each row that was changed, and the table's new rows
abbrev pub returning : ℕ → Database → List Meaning → Setting → Changed → Run Outcomes
returning table database outputs outer changed =
    all_of (map (λ row. evaluate outputs (enter outer (One row []))) changed.returned)
    >>= (λ rows. pure (record { rows = rows; database = replaced table changed.rows database }))
