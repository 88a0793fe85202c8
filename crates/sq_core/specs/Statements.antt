-- What a statement gives on a database, and which statements are typed.
use Rattle.std.specs.Prelude.{◌≡◌, ℕ, true, List, [], ◌∷◌, map, Option, Some, None, slice_get, IsSome, IsSomeAnd, ⊤}
use Rattle.std.specs.List.{AllByRecursion, AllZip}
use Rattle.sq_catalog.specs.Contents.{Contents}
use Rattle.sq_catalog.specs.declared.table.Column.{Column}
use Rattle.sq_core.specs.declared.node.Node.{Node}
use Rattle.sq_core.specs.declared.node.Query.{Query}
use Rattle.sq_core.specs.declared.node.Source.{Source}
use Rattle.sq_shown.specs.declared.signature.Param.{Param}
use Rattle.sq_core.specs.declared.routine.Change.{Change}
use Rattle.sq_core.specs.declared.statement.Assignment.{Assignment}
use Rattle.sq_core.specs.declared.statement.Cell.{Cell as CellTree}
use Rattle.sq_core.specs.declared.statement.Cell.TheVariants.{Default, Given}
use Rattle.sq_core.specs.declared.statement.Conflict.{Conflict}
use Rattle.sq_core.specs.declared.statement.Conflict.TheVariants.{None as NoConflict, Skip, Update as DoUpdate}
use Rattle.sq_core.specs.declared.statement.CoreStatement.{CoreStatement}
use Rattle.sq_core.specs.declared.statement.CoreStatement.TheVariants.{Select, Insert, Update, Delete}
use Rattle.sq_core.specs.declared.statement.Entries.{Entries}
use Rattle.sq_core.specs.declared.statement.Entries.TheVariants.{Values as ValuesOf, Query as QueryOf}
use Rattle.sq_core.specs.Answer.{◌>>=◌, pure, all_of}
use Rattle.sq_core.specs.Changes.{Cell, Meeting, Raises, Skips, Updates, Outcomes, Sets, cells_run, deleted_all, inserted_all, returning, updated_all}
use Rattle.sq_core.specs.Frames.{Setting, Scope, Ranges, InRow, below, one_range, both_ranges, nullable_kinds}
use Rattle.sq_core.specs.Items.{Run, differ, found}
use Rattle.sq_core.specs.Joins.{ChangesTyped, changed_row}
use Rattle.sq_core.specs.Operations.{Meaning}
use Rattle.sq_core.specs.Queries.{all_sides, columns_in, drawn_all, kinds_in, seen_kinds, with_queries}
use Rattle.sq_core.specs.Run.{node_run, query_run, source_run}
use Rattle.sq_core.specs.Typing.{NodeTyped, QueryTyped, SourceTyped, node_kind, query_kinds, source_ranges}
use Rattle.sq_core.specs.Values.{Value, Database, Kind, tag, truth_tag}

-- a statement stands in no other
abbrev pub outermost : Setting
outermost = record { frames = []; commons = [] }

abbrev pub outermost_scope : Scope
outermost_scope = record { levels = []; commons = [] }

module _ (contents : Contents) (params : List Param) (database : Database) (arguments : List Value) where
  abbrev pub cell_meaning : CellTree → Option Meaning
  cell_meaning Default = None
  cell_meaning (Given node) = Some (node_run contents params database arguments node)

  abbrev pub sets_of : List Assignment → Sets
  sets_of sets = record { columns = map (λ set. set.column) sets; cells = map (λ set. cell_meaning set.cell) sets }

  abbrev pub meanings : List Node → List Meaning
  meanings = map (node_run contents params database arguments)

  abbrev pub meeting_of : Conflict → Meeting
  meeting_of NoConflict = Raises
  meeting_of (Skip target) = Skips (meanings target)
  meeting_of (DoUpdate target sets conditions) = Updates (meanings target) (sets_of sets) (meanings conditions)

  -- the cells of each new row
  abbrev pub entries_run : Entries → Setting → Run (List (List Cell))
  entries_run (ValuesOf rows) setting = all_of (map (λ row. cells_run (map cell_meaning row) setting) rows)
  entries_run (QueryOf query changes) setting =
      query_run contents params database arguments query setting
      >>= (λ answered. all_of (map (changed_row contents changes) answered.rows)
      >>= (λ rows. pure (map (map Some) rows)))

  abbrev pub statement_run : CoreStatement → Run Outcomes
  statement_run (Select query) = query_run contents params database arguments query outermost
      >>= (λ answered. pure (record { rows = answered.rows; database = database }))
  statement_run (Insert with table columns entries conflict outputs) =
      with_queries (map (query_run contents params database arguments) with) outermost
      >>= (λ setting. found (slice_get database table)
      >>= (λ rows. entries_run entries setting
      >>= inserted_all contents (columns_in (slice_get contents.tables table)) columns (meeting_of conflict) setting
      (record { rows = rows; returned = [] })
      >>= returning table database (meanings outputs) setting))
  statement_run (Update with table sets from conditions outputs) =
      with_queries (map (query_run contents params database arguments) with) outermost
      >>= (λ setting. found (slice_get database table)
      >>= (λ rows. drawn_all (map (source_run contents params database arguments) from) setting
      >>= (λ others. updated_all contents (columns_in (slice_get contents.tables table)) (sets_of sets)
      (meanings conditions) setting others.rows rows)
      >>= returning table database (meanings outputs) setting))
  statement_run (Delete with table from conditions outputs) =
      with_queries (map (query_run contents params database arguments) with) outermost
      >>= (λ setting. found (slice_get database table)
      >>= (λ rows. drawn_all (map (source_run contents params database arguments) from) setting
      >>= (λ others. deleted_all (meanings conditions) setting others.rows rows)
      >>= returning table database (meanings outputs) setting))

module _ (contents : Contents) (params : List Param) where
  -- what sees the queries of WITH
  abbrev pub with_list : List Query → Scope → Scope
  with_list [] scope = scope
  with_list (query ∷ more) scope = with_list more (seen_kinds scope (query_kinds contents params query scope))

  abbrev pub WithListTyped : List Query → Scope → Type 0
  WithListTyped [] scope = ⊤
  WithListTyped (query ∷ more) scope = QueryTyped contents params query scope
      × WithListTyped more (seen_kinds scope (query_kinds contents params query scope))

  abbrev pub kinds_of : List Node → Scope → List Kind
  kinds_of nodes scope = map (λ node. node_kind contents params node scope) nodes

  abbrev pub AllTyped : List Node → Scope → Type 0
  AllTyped nodes scope = AllByRecursion (λ node. NodeTyped contents params node scope) nodes

  abbrev pub AllConditions : List Node → Scope → Type 0
  AllConditions nodes scope =
      AllByRecursion (λ node. NodeTyped contents params node scope
      × ((node_kind contents params node scope).of ≡ truth_tag)) nodes

  -- what is given has the column's tag
  abbrev pub CellTyped : Scope → List Column → ℕ → CellTree → Type 0
  CellTyped scope all column Default = IsSome (slice_get all column)
  CellTyped scope all column (Given node) =
      NodeTyped contents params node scope
      × IsSomeAnd (slice_get all column) (λ c. (node_kind contents params node scope).of ≡ tag contents c.of)

  -- the same, and no column stands twice
  abbrev pub SetsTyped : Scope → List Column → List Assignment → Type 0
  SetsTyped scope all sets =
      AllByRecursion (λ set. CellTyped scope all set.column set.cell) sets
      × (differ (map (λ set. set.column) sets) ≡ true)

  -- one conversion for each column, to the column's tag
  abbrev pub ChangesGiven : List Column → List ℕ → List Change → Type 0
  ChangesGiven all =
      AllZip (λ column change. IsSomeAnd (slice_get all column) (λ c. tag contents change.to ≡ tag contents c.of))

  abbrev pub EntriesTyped : Scope → List Column → List ℕ → Entries → Type 0
  EntriesTyped scope all columns (ValuesOf rows) = AllByRecursion (λ row. AllZip (CellTyped scope all) columns row) rows
  EntriesTyped scope all columns (QueryOf query changes) =
      QueryTyped contents params query scope × ChangesTyped contents changes (query_kinds contents params query scope)
      × ChangesGiven all columns changes

  -- the row to update, and `excluded`, whose columns may all be null
  abbrev pub meeting_ranges : List Kind → Ranges
  meeting_ranges kinds = record { ranges = kinds ∷ nullable_kinds kinds ∷ []; merged = [] }

  abbrev pub ConflictTyped : Scope → List Column → List Kind → Conflict → Type 0
  ConflictTyped scope all kinds NoConflict = ⊤
  ConflictTyped scope all kinds (Skip target) = AllConditions target (below scope (InRow (one_range kinds)))
  ConflictTyped scope all kinds (DoUpdate target sets conditions) =
      AllConditions target (below scope (InRow (one_range kinds)))
      × SetsTyped (below scope (InRow (meeting_ranges kinds))) all sets
      × AllConditions conditions (below scope (InRow (meeting_ranges kinds)))

  -- the changed table, and the ranges of FROM or USING
  abbrev pub changed_ranges : List Kind → List Source → Scope → Ranges
  changed_ranges kinds from scope =
      both_ranges (one_range kinds) (all_sides (map (λ source. source_ranges contents params source scope) from)) []

  abbrev pub AllSourcesTyped : List Source → Scope → Type 0
  AllSourcesTyped from scope = AllByRecursion (λ source. SourceTyped contents params source scope) from

  -- the kinds of the columns that a statement returns
  abbrev pub statement_kinds : CoreStatement → List Kind
  statement_kinds (Select query) = query_kinds contents params query outermost_scope
  statement_kinds (Insert with table columns entries conflict outputs) =
      kinds_of outputs (below (with_list with outermost_scope)
      (InRow (one_range (kinds_in contents (slice_get contents.tables table)))))
  statement_kinds (Update with table sets from conditions outputs) =
      let scope = with_list with outermost_scope in
      kinds_of outputs (below scope
      (InRow (changed_ranges (kinds_in contents (slice_get contents.tables table)) from scope)))
  statement_kinds (Delete with table from conditions outputs) =
      let scope = with_list with outermost_scope in
      kinds_of outputs (below scope
      (InRow (changed_ranges (kinds_in contents (slice_get contents.tables table)) from scope)))

  abbrev pub StatementTyped : CoreStatement → Type 0
  StatementTyped (Select query) = QueryTyped contents params query outermost_scope
  StatementTyped (Insert with table columns entries conflict outputs) =
      let scope = with_list with outermost_scope in
      let kinds = kinds_in contents (slice_get contents.tables table) in
      let all = columns_in (slice_get contents.tables table) in
      WithListTyped with outermost_scope × IsSome (slice_get contents.tables table)
      × EntriesTyped scope all columns entries
      × ConflictTyped scope all kinds conflict × AllTyped outputs (below scope (InRow (one_range kinds)))
      × (differ columns ≡ true)
  StatementTyped (Update with table sets from conditions outputs) =
      let scope = with_list with outermost_scope in
      let inner = below scope
      (InRow (changed_ranges (kinds_in contents (slice_get contents.tables table)) from scope)) in
      WithListTyped with outermost_scope × IsSome (slice_get contents.tables table) × AllSourcesTyped from scope
      × SetsTyped inner (columns_in (slice_get contents.tables table)) sets × AllConditions conditions inner
      × AllTyped outputs inner
  StatementTyped (Delete with table from conditions outputs) =
      let scope = with_list with outermost_scope in
      let inner = below scope
      (InRow (changed_ranges (kinds_in contents (slice_get contents.tables table)) from scope)) in
      WithListTyped with outermost_scope × IsSome (slice_get contents.tables table) × AllSourcesTyped from scope
      × AllConditions conditions inner × AllTyped outputs inner
