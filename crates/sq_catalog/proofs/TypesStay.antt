-- What holds of the types of a table's columns holds of what is made of it, where it holds of the new types too.
use Rattle.std.proofs.Common.{◌≡◌, ◌<◌, ◌≤◌, ℕ, zero, suc, Bool, true, false, cond, List, [], ◌∷◌, length, remove, slice_get, Option, Some, None, Result, Ok, Err, IfOk, refl, sym, subst, ◌∙◌, arith, nat_lt}
use Rattle.std.specs.List.{AllByRecursion}
use Rattle.std.proofs.lemmas.Option.{same_Some, slice_get_past}
use Rattle.sq_base.specs.declared.types.PgType.{PgType}
use Rattle.sq_catalog.specs.Actions.{with_column, column_added, column_dropped, column_renamed, column_unmarked, acted}
use Rattle.sq_catalog.specs.Answers.{and_then}
use Rattle.sq_catalog.specs.Catalogue.{distinct, new_table}
use Rattle.sq_catalog.specs.Columns.{place_of_column, change_at, with_column_at, named, marked, typed}
use Rattle.sq_catalog.specs.Dropping.{is_of, goes_at, strip_at, stripped_below, stripped}
use Rattle.sq_catalog.specs.Keys.{new_key, key_of, limited, completed, all_marked, with_key, with_key_of, in_key, without_column}
use Rattle.sq_catalog.specs.declared.table.Column.{Column}
use Rattle.sq_catalog.specs.declared.table.Key.{Key}
use Rattle.sq_catalog.specs.declared.table.Table.{Table}
use Rattle.sq_catalog.specs.declared.change.Action.{Action}
use Rattle.sq_catalog.specs.declared.change.Action.TheVariants.{AddColumn, DropColumn, RenameColumn, SetNotNull, DropNotNull, SetType, AddPrimaryKey, DropConstraint, RenameConstraint}
use Rattle.sq_catalog.specs.declared.change.Cause.{Cause}
use Rattle.sq_catalog.specs.declared.change.Cause.TheVariants.{Exists, Missing, InPrimaryKey}
use Rattle.sq_catalog.specs.declared.change.Keys.{Keys}
use Rattle.sq_catalog.specs.Kept.{TypesColumn}
use Rattle.sq_catalog.proofs.Answered.{by_test, by_finding, by_next}
use Rattle.sq_catalog.proofs.Apart.{all_pushed, all_removed, all_changed}

module _ (P : PgType → Type 0) where
  -- a column has such a type
  abbrev pub Is : Column → Type 0
  Is column = P column.of

  -- all columns have such types
  abbrev pub Has : Table → Type 0
  Has table = AllByRecursion Is table.columns

  -- the answer is a table of such types, where it is any
  abbrev Gives : Result Table Cause → Type 0
  Gives result = IfOk result Has

  marked_has : (columns : List Column) (places : List ℕ) → AllByRecursion Is columns → AllByRecursion Is (all_marked columns places)
  marked_has columns [] has = has
  marked_has columns (at ∷ places) has = marked_has (change_at (marked true) columns at) places (all_changed Is (marked true) columns at (λ column there is. is) has)

  key_has : (table : Table) (key : Option Key) → Has table → Has (with_key_of table key)
  key_has table None has = has
  key_has table (Some key) has = marked_has table.columns key.columns has

  completed_has : (table : Table) (keys : Keys) → Has table → Gives (completed table keys)
  completed_has table keys has =
      by_next Has (key_of table keys) (λ key. and_then (limited table) (λ within. Ok (with_key_of table key))) (λ key given.
      by_next Has (limited table) (λ within. Ok (with_key_of table key)) (λ within is. key_has table key has))

  pub new_has : (table : Table) (keys : Keys) → Has table → Gives (new_table table keys)
  new_has table keys has = by_next Has (distinct table.columns) (λ done. completed table keys) (λ done is. completed_has table keys has)

  added_has : (table : Table) (column : Column) (if_not_exists : Bool) (keys : Keys) → P column.of → Has table → Gives (column_added table column if_not_exists keys)
  added_has table column if_not_exists keys is has =
      by_finding Gives (place_of_column table column.name) (completed (with_column table column) keys) (λ at. cond if_not_exists (Ok table) (Err (Exists column.name)))
      (λ none. completed_has (with_column table column) keys (all_pushed Is table.columns column has is))
      (λ at there. by_test Gives if_not_exists (Ok table) (Err (Exists column.name)) (λ passes. has) (λ fails. tt))

  dropped_has : (table : Table) (name : List ℕ) (if_exists : Bool) → Has table → Gives (column_dropped table name if_exists)
  dropped_has table name if_exists has =
      by_finding Gives (place_of_column table name) (cond if_exists (Ok table) (Err (Missing name))) (λ at. Ok (without_column table at))
      (λ none. by_test Gives if_exists (Ok table) (Err (Missing name)) (λ passes. has) (λ fails. tt))
      (λ at there. all_removed Is table.columns at has)

  -- a column that is there is changed
  changed_has : (f : Column → Column) (table : Table) (name : List ℕ) → ((column : Column) → Is column → Is (f column)) → Has table
      → Gives (elim (place_of_column table name) [ None ↦ Err (Missing name) | Some at ↦ Ok (with_column_at f table at) ])
  changed_has f table name keeps has =
      by_finding Gives (place_of_column table name) (Err (Missing name)) (λ at. Ok (with_column_at f table at)) (λ none. tt)
      (λ at there. all_changed Is f table.columns at (λ column here is. keeps column is) has)

  renamed_has : (table : Table) (from to : List ℕ) → Has table → Gives (column_renamed table from to)
  renamed_has table from to has =
      by_finding Gives (place_of_column table from) (Err (Missing from)) (λ at. elim (place_of_column table to) [ None ↦ Ok (with_column_at (named to) table at) | Some taken ↦ Err (Exists to) ])
      (λ none. tt)
      (λ at there. by_finding Gives (place_of_column table to) (Ok (with_column_at (named to) table at)) (λ taken. Err (Exists to))
      (λ none. all_changed Is (named to) table.columns at (λ column here is. is) has) (λ taken e. tt))

  unmarked_has : (table : Table) (name : List ℕ) → Has table → Gives (column_unmarked table name)
  unmarked_has table name has =
      by_finding Gives (place_of_column table name) (Err (Missing name)) (λ at. cond (in_key table at) (Err (InPrimaryKey name)) (Ok (with_column_at (marked false) table at)))
      (λ none. tt)
      (λ at there. by_test Gives (in_key table at) (Err (InPrimaryKey name)) (Ok (with_column_at (marked false) table at))
      (λ held. tt) (λ loose. all_changed Is (marked false) table.columns at (λ column here is. is) has))

  pub acted_has : (table : Table) (action : Action) → TypesColumn P action → Has table → Gives (acted table action)
  acted_has table (AddColumn column if_not_exists keys) brings has = added_has table column if_not_exists keys brings has
  acted_has table (DropColumn name if_exists) brings has = dropped_has table name if_exists has
  acted_has table (RenameColumn from to) brings has = renamed_has table from to has
  acted_has table (SetNotNull column) brings has = changed_has (marked true) table column (λ other is. is) has
  acted_has table (DropNotNull column) brings has = unmarked_has table column has
  acted_has table (SetType column of) brings has = changed_has (typed of) table column (λ other is. brings) has
  acted_has table (AddPrimaryKey key) brings has = by_next Has (new_key table key) (λ made. Ok (with_key table made)) (λ made given. marked_has table.columns made.columns has)
  acted_has table (DropConstraint name) brings has = has
  acted_has table (RenameConstraint from to) brings has = has

  below_has : (ids : List ℕ) (at : ℕ) (table : Table) → Has table → Has (stripped_below ids at table)
  below_has ids zero table has = has
  below_has ids (suc at) table has =
      below_has ids at (strip_at ids table at) (by_test Has (goes_at ids table at) (without_column table at) table (λ goes. all_removed Is table.columns at has) (λ stays. has))

  pub stripped_has : (ids : List ℕ) (table : Table) → Has table → Has (stripped ids table)
  stripped_has ids table has = below_has ids (length table.columns) table has

-- what stands behind a place stands one place before once the one at the place has gone
behind_gone : {A : Type 0} (xs : List A) (at k : ℕ) → at ≤ k → slice_get (remove xs at) k ≡ slice_get xs (suc k)
behind_gone [] zero k behind = refl
behind_gone [] (suc at) k behind = refl
behind_gone (x ∷ xs) zero k behind = refl
behind_gone (x ∷ xs) (suc at) zero behind = absurd (omega arith)
behind_gone (x ∷ xs) (suc at) (suc k) behind = behind_gone xs at k (omega arith)

-- no column from a place on has one of these types
abbrev AreFree : List ℕ → ℕ → List Column → Type 0
AreFree ids at columns = (k : ℕ) (column : Column) → at ≤ k → slice_get columns k ≡ Some column → is_of ids column.of ≡ false

strip_frees : (ids : List ℕ) (at : ℕ) (table : Table) → AreFree ids (suc at) table.columns → AreFree ids at (strip_at ids table at).columns
strip_frees ids at table free =
    by_test (λ (new : Table). AreFree ids at new.columns) (goes_at ids table at) (without_column table at) table
    (λ goes k column from there. free (suc k) column (omega arith) (sym (behind_gone table.columns at k from) ∙ there))
    (λ stays k column from there. by_place stays k column from there (nat_lt at k) refl) where
      here : (o : Option Column) (column : Column) → o ≡ Some column → elim o [ None ↦ false | Some other ↦ is_of ids other.of ] ≡ false → is_of ids column.of ≡ false
      here None column is stays = absurd (cc)
      here (Some other) column is stays = subst (λ (x : Column). is_of ids x.of ≡ false) (same_Some other column is) stays

      by_place : goes_at ids table at ≡ false → (k : ℕ) (column : Column) → at ≤ k → slice_get table.columns k ≡ Some column → (b : Bool) → nat_lt at k ≡ b → is_of ids column.of ≡ false
      by_place stays k column from there true is = let behind : at < k = grind (arith, is) in free k column (omega arith) there
      by_place stays k column from there false is =
          let before : k ≤ at = grind (arith, is) in
          let same : k ≡ at = omega arith in
          here (slice_get table.columns at) column (subst (λ n. slice_get table.columns n ≡ Some column) same there) stays

below_frees : (ids : List ℕ) (at : ℕ) (table : Table) → AreFree ids at table.columns → AreFree ids 0 (stripped_below ids at table).columns
below_frees ids zero table free = free
below_frees ids (suc at) table free = below_frees ids at (strip_at ids table at) (strip_frees ids at table free)

all_from : {A : Type 0} (P : A → Type 0) (xs : List A) → ((k : ℕ) (x : A) → slice_get xs k ≡ Some x → P x) → AllByRecursion P xs
all_from P [] every = tt
all_from P (x ∷ xs) every = (every 0 x refl, all_from P xs (λ k y there. every (suc k) y there))

-- no column of these types is left
pub stripped_free : (ids : List ℕ) (table : Table) → AllByRecursion (λ (column : Column). is_of ids column.of ≡ false) (stripped ids table).columns
stripped_free ids table =
    all_from (λ (column : Column). is_of ids column.of ≡ false) (stripped ids table).columns (λ k column there.
    below_frees ids (length table.columns) table past k column (omega arith) there) where
      past : AreFree ids (length table.columns) table.columns
      past k column behind there = absurd (cc (there, slice_get_past table.columns k behind))
