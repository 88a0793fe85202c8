-- A table and its columns have names still, whatever is made of it, where the new ones are names.
use Rattle.std.proofs.Common.{ℕ, zero, suc, Bool, true, false, cond, List, [], ◌∷◌, length, Option, Some, None, Result, Ok, Err, IfOk}
use Rattle.std.specs.List.{AllByRecursion}
use Rattle.sq_catalog.specs.Actions.{with_column, column_added, column_dropped, column_renamed, column_unmarked, acted}
use Rattle.sq_catalog.specs.Answers.{and_then}
use Rattle.sq_catalog.specs.Catalogue.{distinct, new_table}
use Rattle.sq_catalog.specs.Columns.{place_of_column, change_at, with_column_at, named, marked, typed}
use Rattle.sq_catalog.specs.Dropping.{goes_at, strip_at, stripped_below, stripped}
use Rattle.sq_catalog.specs.Keys.{new_key, key_of, limited, completed, all_marked, with_key, with_key_of, in_key, without_column}
use Rattle.sq_catalog.specs.declared.table.Column.{Column}
use Rattle.sq_catalog.specs.declared.table.Key.{Key}
use Rattle.sq_catalog.specs.declared.table.Table.{Table}
use Rattle.sq_catalog.specs.declared.change.Action.{Action}
use Rattle.sq_catalog.specs.declared.change.Action.TheVariants.{AddColumn, DropColumn, RenameColumn, SetNotNull, DropNotNull, SetType, AddPrimaryKey, DropConstraint, RenameConstraint}
use Rattle.sq_catalog.specs.declared.change.Cause.{Cause}
use Rattle.sq_catalog.specs.declared.change.Cause.TheVariants.{Exists, Missing, InPrimaryKey}
use Rattle.sq_catalog.specs.declared.change.Keys.{Keys}
use Rattle.sq_catalog.specs.Named.{IsName, HasName, IsNamedTable, NamesColumn}
use Rattle.sq_catalog.proofs.Answered.{by_test, by_finding, by_next}
use Rattle.sq_catalog.proofs.Apart.{all_pushed, all_removed, all_changed}

-- the answer is a table with names, where it is any
abbrev Gives : Result Table Cause → Type 0
Gives result = IfOk result IsNamedTable

marked_named : (columns : List Column) (places : List ℕ) → AllByRecursion HasName columns → AllByRecursion HasName (all_marked columns places)
marked_named columns [] have = have
marked_named columns (at ∷ places) have = marked_named (change_at (marked true) columns at) places (all_changed HasName (marked true) columns at (λ column there is. is) have)

with_key_named : (table : Table) (key : Option Key) → IsNamedTable table → IsNamedTable (with_key_of table key)
with_key_named table None is = is
with_key_named table (Some key) is = (is.0, marked_named table.columns key.columns is.1)

completed_named : (table : Table) (keys : Keys) → IsNamedTable table → Gives (completed table keys)
completed_named table keys is =
    by_next IsNamedTable (key_of table keys) (λ key. and_then (limited table) (λ within. Ok (with_key_of table key))) (λ key given.
    by_next IsNamedTable (limited table) (λ within. Ok (with_key_of table key)) (λ within fits. with_key_named table key is))

pub new_named : (table : Table) (keys : Keys) → IsNamedTable table → Gives (new_table table keys)
new_named table keys is = by_next IsNamedTable (distinct table.columns) (λ done. completed table keys) (λ done are. completed_named table keys is)

added_named : (table : Table) (column : Column) (if_not_exists : Bool) (keys : Keys) → IsName column.name → IsNamedTable table → Gives (column_added table column if_not_exists keys)
added_named table column if_not_exists keys has is =
    by_finding Gives (place_of_column table column.name) (completed (with_column table column) keys) (λ at. cond if_not_exists (Ok table) (Err (Exists column.name)))
    (λ none. completed_named (with_column table column) keys (is.0, all_pushed HasName table.columns column is.1 has))
    (λ at there. by_test Gives if_not_exists (Ok table) (Err (Exists column.name)) (λ passes. is) (λ fails. tt))

dropped_named : (table : Table) (name : List ℕ) (if_exists : Bool) → IsNamedTable table → Gives (column_dropped table name if_exists)
dropped_named table name if_exists is =
    by_finding Gives (place_of_column table name) (cond if_exists (Ok table) (Err (Missing name))) (λ at. Ok (without_column table at))
    (λ none. by_test Gives if_exists (Ok table) (Err (Missing name)) (λ passes. is) (λ fails. tt))
    (λ at there. (is.0, all_removed HasName table.columns at is.1))

-- a column at a place is changed
at_named : (f : Column → Column) (table : Table) (at : ℕ) → ((column : Column) → HasName column → HasName (f column)) → IsNamedTable table → IsNamedTable (with_column_at f table at)
at_named f table at keeps is = (is.0, all_changed HasName f table.columns at (λ column there has. keeps column has) is.1)

-- a column that is there is changed
changed_named : (f : Column → Column) (table : Table) (name : List ℕ) → ((column : Column) → HasName column → HasName (f column)) → IsNamedTable table
    → Gives (elim (place_of_column table name) [ None ↦ Err (Missing name) | Some at ↦ Ok (with_column_at f table at) ])
changed_named f table name keeps is =
    by_finding Gives (place_of_column table name) (Err (Missing name)) (λ at. Ok (with_column_at f table at)) (λ none. tt) (λ at there. at_named f table at keeps is)

renamed_named : (table : Table) (from to : List ℕ) → IsName to → IsNamedTable table → Gives (column_renamed table from to)
renamed_named table from to is_name is =
    by_finding Gives (place_of_column table from) (Err (Missing from)) (λ at. elim (place_of_column table to) [ None ↦ Ok (with_column_at (named to) table at) | Some taken ↦ Err (Exists to) ])
    (λ none. tt)
    (λ at there. by_finding Gives (place_of_column table to) (Ok (with_column_at (named to) table at)) (λ taken. Err (Exists to))
    (λ none. at_named (named to) table at (λ column has. is_name) is) (λ taken e. tt))

unmarked_named : (table : Table) (name : List ℕ) → IsNamedTable table → Gives (column_unmarked table name)
unmarked_named table name is =
    by_finding Gives (place_of_column table name) (Err (Missing name)) (λ at. cond (in_key table at) (Err (InPrimaryKey name)) (Ok (with_column_at (marked false) table at)))
    (λ none. tt)
    (λ at there. by_test Gives (in_key table at) (Err (InPrimaryKey name)) (Ok (with_column_at (marked false) table at))
    (λ held. tt) (λ loose. at_named (marked false) table at (λ column has. has) is))

-- what an action makes of a table
pub acted_named : (table : Table) (action : Action) → NamesColumn action → IsNamedTable table → Gives (acted table action)
acted_named table (AddColumn column if_not_exists keys) brings is = added_named table column if_not_exists keys brings is
acted_named table (DropColumn name if_exists) brings is = dropped_named table name if_exists is
acted_named table (RenameColumn from to) brings is = renamed_named table from to brings is
acted_named table (SetNotNull column) brings is = changed_named (marked true) table column (λ other has. has) is
acted_named table (DropNotNull column) brings is = unmarked_named table column is
acted_named table (SetType column of) brings is = changed_named (typed of) table column (λ other has. has) is
acted_named table (AddPrimaryKey key) brings is = by_next IsNamedTable (new_key table key) (λ made. Ok (with_key table made)) (λ made given. (is.0, marked_named table.columns made.columns is.1))
acted_named table (DropConstraint name) brings is = is
acted_named table (RenameConstraint from to) brings is = is

below_named : (ids : List ℕ) (at : ℕ) (table : Table) → IsNamedTable table → IsNamedTable (stripped_below ids at table)
below_named ids zero table is = is
below_named ids (suc at) table is =
    below_named ids at (strip_at ids table at) (by_test IsNamedTable (goes_at ids table at) (without_column table at) table (λ goes. (is.0, all_removed HasName table.columns at is.1)) (λ stays. is))

-- a table without its columns of some types
pub stripped_named : (ids : List ℕ) (table : Table) → IsNamedTable table → IsNamedTable (stripped ids table)
stripped_named ids table is = below_named ids (length table.columns) table is
