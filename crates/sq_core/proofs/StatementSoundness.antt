-- What is typed is never stuck, and what it answers fits.
use Rattle.std.proofs.Common.{◌≡◌, ℕ, true, List, [], ◌∷◌, map, Option, Some, None, slice_get, sym, subst, IsSome}
use Rattle.std.specs.Prelude.{IsSomeAnd}
use Rattle.std.specs.List.{AllZip, AllByRecursion}
use Rattle.sq_catalog.specs.Contents.{Contents}
use Rattle.sq_catalog.specs.declared.table.Column.{Column}
use Rattle.sq_catalog.specs.declared.table.Table.{Table}
use Rattle.sq_core.specs.declared.node.Node.{Node}
use Rattle.sq_core.specs.declared.node.Query.{Query}
use Rattle.sq_core.specs.declared.node.Source.{Source}
use Rattle.sq_shown.specs.declared.signature.Output.{Output}
use Rattle.sq_shown.specs.declared.signature.Param.{Param}
use Rattle.sq_core.specs.declared.routine.Change.{Change}
use Rattle.sq_core.specs.declared.weak.Weak.{Weak}
use Rattle.sq_core.specs.declared.statement.Assignment.{Assignment}
use Rattle.sq_core.specs.declared.statement.Cell.{Cell as CellTree}
use Rattle.sq_core.specs.declared.statement.Cell.TheVariants.{Default, Given}
use Rattle.sq_core.specs.declared.statement.Conflict.{Conflict}
use Rattle.sq_core.specs.declared.statement.Conflict.TheVariants.{None as NoConflict, Skip, Update as DoUpdate}
use Rattle.sq_core.specs.declared.statement.CoreStatement.{CoreStatement}
use Rattle.sq_core.specs.declared.statement.CoreStatement.TheVariants.{Select, Insert, Update, Delete}
use Rattle.sq_core.specs.declared.statement.Entries.{Entries}
use Rattle.sq_core.specs.declared.statement.Entries.TheVariants.{Values as ValuesOf, Query as QueryOf}
use Rattle.sq_core.specs.Answer.{Keeps, all_of}
use Rattle.sq_core.specs.Changes.{Outcomes}
use Rattle.sq_core.specs.Client.{bound_all, param_kind}
use Rattle.sq_core.specs.Frames.{Setting, Scope, Ranges, InRow, below, one_range, AnsweredFits, DrawnFits, SettingFits}
use Rattle.sq_core.specs.Items.{found}
use Rattle.sq_core.specs.Joins.{ChangesTyped, changed_row}
use Rattle.sq_core.specs.Queries.{all_sides, columns_in, drawn_all, kinds_in, seen, seen_kinds, with_queries}
use Rattle.sq_core.specs.Run.{node_run, query_run, source_run}
use Rattle.sq_core.specs.Sound.{AnswerFits, IsKnown, IsTyped, NeverStuck}
use Rattle.sq_core.specs.Statements.{outermost, outermost_scope, cell_meaning, sets_of, meanings, meeting_of, entries_run, statement_run, with_list, WithListTyped, kinds_of, AllTyped, AllConditions, CellTyped, SetsTyped, ChangesGiven, EntriesTyped, meeting_ranges, ConflictTyped, AllSourcesTyped, statement_kinds, StatementTyped}
use Rattle.sq_core.specs.Typing.{NodeTyped, node_kind, query_kinds, source_ranges}
use Rattle.sq_core.specs.Values.{Value, Row, Database, DatabaseFits, Kind, kind, kind_of, Fits, RowFits, RowsFit, tag, truth_tag, column_kind, table_kinds, output_kind}
use Rattle.sq_core.proofs.AnswerLemmas.{bind_keeps, weakens, each_keeps}
use Rattle.sq_core.proofs.ValueLemmas.{fits_tag}
use Rattle.sq_core.proofs.FrameLemmas.{Leads, get_leads, all_map}
use Rattle.sq_core.proofs.QueryLemmas.{AllSound, ConditionsSound, SourceSound, drawn_all_keeps}
use Rattle.sq_core.proofs.ChangeLemmas.{GivenFits, CellsFit, CellKeeps, CellsKeep, cells_run_keep, SetsSound, ChangedFits, MeetingSound, beside_ranges, inserted_all_keep, updated_all_keep, deleted_all_keep, OutcomesFit, returning_keeps}
use Rattle.sq_core.proofs.PrintLemmas.{arguments_bound, rows_printed}
use Rattle.sq_core.proofs.SetLemmas.{changed_row_keeps, side_kinds}
use Rattle.sq_core.proofs.Soundness.{node_sound, query_sound, source_sound, seen_fits}

-- the rows of a table that is there
rows_keep : (contents : Contents) (table : Option Table) (rows : Option (List Row)) → IsSome table → Leads (λ t rows. RowsFit (table_kinds contents t) rows) table rows → Keeps (RowsFit (kinds_in contents table)) (found rows)
rows_keep contents (Some table) (Some rows) there leads = λ oracle. leads
rows_keep contents (Some table) None there leads = absurd leads
rows_keep contents None rows there leads = cc

module _ (contents : Contents) (params : List Param) (database : Database) (arguments : List Value)
    (fitting : DatabaseFits contents database) (arguments_fit : AllZip (λ param value. Fits (param_kind contents param) value) params arguments) where
  nodes_sound : (scope : Scope) (nodes : List Node) → AllTyped contents params nodes scope → AllSound scope (kinds_of contents params nodes scope) (meanings contents params database arguments nodes)
  nodes_sound scope [] typed = tt
  nodes_sound scope (node ∷ nodes) typed = (node_sound contents params database arguments fitting arguments_fit node scope typed.0, nodes_sound scope nodes typed.1)

  conditions_sound : (scope : Scope) (nodes : List Node) → AllConditions contents params nodes scope → ConditionsSound scope (meanings contents params database arguments nodes)
  conditions_sound scope [] typed = tt
  conditions_sound scope (node ∷ nodes) typed = (
    λ setting fit. weakens (Fits (node_kind contents params node scope)) (Fits (kind truth_tag true)) (node_run contents params database arguments node setting)
        (node_sound contents params database arguments fitting arguments_fit node scope typed.0.0 setting fit) (λ v v_fits. fits_tag (node_kind contents params node scope) truth_tag v typed.0.1 v_fits),
    conditions_sound scope nodes typed.1,
  )

  sources_sound : (scope : Scope) (from : List Source) → AllSourcesTyped contents params from scope
      → AllZip (SourceSound scope) (map (λ source. source_ranges contents params source scope) from) (map (source_run contents params database arguments) from)
  sources_sound scope [] typed = tt
  sources_sound scope (source ∷ from) typed = (source_sound contents params database arguments fitting arguments_fit source scope typed.0, sources_sound scope from typed.1)

  with_sound : (queries : List Query) (scope : Scope) → WithListTyped contents params queries scope → (setting : Setting) → SettingFits scope setting
      → Keeps (SettingFits (with_list contents params queries scope)) (with_queries (map (query_run contents params database arguments) queries) setting)
  with_sound [] scope typed setting fit = λ oracle. fit
  with_sound (query ∷ queries) scope typed setting fit =
      let ks : List Kind = query_kinds contents params query scope in
      bind_keeps (AnsweredFits ks) (SettingFits (with_list contents params queries (seen_kinds scope ks))) (query_run contents params database arguments query setting) _
      (query_sound contents params database arguments fitting arguments_fit query scope typed.0 setting fit)
      (λ answered answered_fits. with_sound queries (seen_kinds scope ks) typed.1 (seen setting answered) (seen_fits scope ks setting answered fit answered_fits))

  given_keeps : (scope : Scope) (column : Option Column) (node : Node) → NodeTyped contents params node scope → IsSomeAnd column (λ c. (node_kind contents params node scope).of ≡ tag contents c.of) → (setting : Setting) → SettingFits scope setting
      → IsSomeAnd column (λ c. Keeps (Fits (kind_of contents c.of true)) (node_run contents params database arguments node setting))
  given_keeps scope (Some column) node typed same setting fit =
      weakens (Fits (node_kind contents params node scope)) (Fits (kind_of contents column.of true)) (node_run contents params database arguments node setting)
      (node_sound contents params database arguments fitting arguments_fit node scope typed setting fit) (λ v v_fits. fits_tag (node_kind contents params node scope) (tag contents column.of) v same v_fits)
  given_keeps scope None node typed same setting fit = absurd same

  cell_keeps : (scope : Scope) (all : List Column) (column : ℕ) (cell : CellTree) → CellTyped contents params scope all column cell → (setting : Setting) → SettingFits scope setting
      → CellKeeps contents setting (slice_get all column) (cell_meaning contents params database arguments cell)
  cell_keeps scope all column Default typed setting fit = typed
  cell_keeps scope all column (Given node) typed setting fit = given_keeps scope (slice_get all column) node typed.0 typed.1 setting fit

  row_keeps : (scope : Scope) (all : List Column) (columns : List ℕ) (cells : List CellTree) → AllZip (CellTyped contents params scope all) columns cells → (setting : Setting) → SettingFits scope setting
      → CellsKeep contents setting all columns (map (cell_meaning contents params database arguments) cells)
  row_keeps scope all [] [] typed setting fit = tt
  row_keeps scope all [] (cell ∷ cells) typed setting fit = absurd typed
  row_keeps scope all (column ∷ columns) [] typed setting fit = absurd typed
  row_keeps scope all (column ∷ columns) (cell ∷ cells) typed setting fit = (cell_keeps scope all column cell typed.0 setting fit, row_keeps scope all columns cells typed.1 setting fit)

  sets_sound : (scope : Scope) (all : List Column) (sets : List Assignment) → SetsTyped contents params scope all sets → SetsSound contents scope all (sets_of contents params database arguments sets)
  sets_sound scope all sets typed = (typed.1, λ setting fit. each sets typed.0 setting fit)
    where
      each : (sets : List Assignment) → AllByRecursion (λ set. CellTyped contents params scope all set.column set.cell) sets → (setting : Setting) → SettingFits scope setting
          → CellsKeep contents setting all (map (λ set. set.column) sets) (map (λ set. cell_meaning contents params database arguments set.cell) sets)
      each [] typed setting fit = tt
      each (set ∷ sets) typed setting fit = (cell_keeps scope all set.column set.cell typed.0 setting fit, each sets typed.1 setting fit)

  -- a query's row, converted, gives each column a value of its tag
  row_given : (all : List Column) (columns : List ℕ) (changes : List Change) (ks : List Kind) (row : Row) → ChangesGiven contents params all columns changes
      → ChangesTyped contents changes ks → RowFits (side_kinds contents changes ks) row → CellsFit contents all columns (map Some row)
  row_given all [] [] [] [] given typed fit = tt
  row_given all [] [] [] (v ∷ row) given typed fit = absurd fit
  row_given all [] [] (k ∷ ks) row given typed fit = absurd typed
  row_given all [] (change ∷ changes) ks row given typed fit = absurd given
  row_given all (column ∷ columns) [] ks row given typed fit = absurd given
  row_given all (column ∷ columns) (change ∷ changes) [] row given typed fit = absurd typed
  row_given all (column ∷ columns) (change ∷ changes) (k ∷ ks) [] given typed fit = absurd fit
  row_given all (column ∷ columns) (change ∷ changes) (k ∷ ks) (v ∷ row) given typed fit =
      (given_value (slice_get all column) given.0, row_given all columns changes ks row given.1 typed.1 fit.1)
    where
      given_value : (column : Option Column) → IsSomeAnd column (λ c. tag contents change.to ≡ tag contents c.of) → GivenFits contents column (Some v)
      given_value (Some column) same = fits_tag (kind_of contents change.to k.nullable) (tag contents column.of) v same fit.0
      given_value None same = absurd same

  entries_keep : (scope : Scope) (all : List Column) (columns : List ℕ) (entries : Entries) → EntriesTyped contents params scope all columns entries → (setting : Setting) → SettingFits scope setting
      → Keeps (AllByRecursion (CellsFit contents all columns)) (entries_run contents params database arguments entries setting)
  entries_keep scope all columns (ValuesOf rows) typed setting fit =
      each_keeps (λ row. AllZip (CellTyped contents params scope all) columns row) (CellsFit contents all columns) _ rows typed
      (λ row row_typed. cells_run_keep contents setting all columns (map (cell_meaning contents params database arguments) row) (row_keeps scope all columns row row_typed setting fit))
  entries_keep scope all columns (QueryOf query changes) typed setting fit =
      let ks : List Kind = query_kinds contents params query scope in
      bind_keeps (AnsweredFits ks) (AllByRecursion (CellsFit contents all columns)) (query_run contents params database arguments query setting) _
      (query_sound contents params database arguments fitting arguments_fit query scope typed.0 setting fit)
      (λ answered answered_fits. bind_keeps (AllByRecursion (RowFits (side_kinds contents changes ks))) (AllByRecursion (CellsFit contents all columns)) (all_of (map (changed_row contents changes) answered.rows)) _
      (each_keeps (RowFits ks) (RowFits (side_kinds contents changes ks)) (changed_row contents changes) answered.rows answered_fits.1 (λ row row_fits. changed_row_keeps contents changes ks row typed.1 row_fits))
      (λ rows rows_fit oracle. all_map (RowFits (side_kinds contents changes ks)) (CellsFit contents all columns) (map Some) rows rows_fit (λ row row_fits. row_given all columns changes ks row typed.2 typed.1 row_fits)))

  meeting_sound : (scope : Scope) (all : List Column) (conflict : Conflict) → ConflictTyped contents params scope all (map (column_kind contents) all) conflict
      → MeetingSound contents scope all (meeting_of contents params database arguments conflict)
  meeting_sound scope all NoConflict typed = tt
  meeting_sound scope all (Skip target) typed = conditions_sound (below scope (InRow (one_range (map (column_kind contents) all)))) target typed
  meeting_sound scope all (DoUpdate target sets conditions) typed = (
    conditions_sound (below scope (InRow (one_range (map (column_kind contents) all)))) target typed.0,
    sets_sound (below scope (InRow (meeting_ranges contents params (map (column_kind contents) all)))) all sets typed.1,
    conditions_sound (below scope (InRow (meeting_ranges contents params (map (column_kind contents) all)))) conditions typed.2,
  )

  statement_sound : (core : CoreStatement) → StatementTyped contents params core → Keeps (OutcomesFit contents (statement_kinds contents params core)) (statement_run contents params database arguments core)
  statement_sound (Select query) typed =
      bind_keeps (AnsweredFits (query_kinds contents params query outermost_scope)) (OutcomesFit contents (query_kinds contents params query outermost_scope)) (query_run contents params database arguments query outermost) _
      (query_sound contents params database arguments fitting arguments_fit query outermost_scope typed outermost (tt, tt)) (λ answered answered_fits oracle. (answered_fits.1, fitting))
  statement_sound (Insert with table columns entries conflict outputs) typed =
      let scope : Scope = with_list contents params with outermost_scope in
      let all : List Column = columns_in (slice_get contents.tables table) in
      let ks : List Kind = map (column_kind contents) all in
      bind_keeps (SettingFits scope) (OutcomesFit contents (statement_kinds contents params (Insert with table columns entries conflict outputs))) (with_queries (map (query_run contents params database arguments) with) outermost) _
      (with_sound with outermost_scope typed.0 outermost (tt, tt))
      (λ setting fit. bind_keeps (RowsFit ks) (OutcomesFit contents (statement_kinds contents params (Insert with table columns entries conflict outputs))) (found (slice_get database table)) _
      (rows_keep contents (slice_get contents.tables table) (slice_get database table) typed.1 (get_leads (λ t rows. RowsFit (table_kinds contents t) rows) contents.tables database table fitting))
      (λ rows rows_fit. bind_keeps (ChangedFits ks (one_range ks)) (OutcomesFit contents (statement_kinds contents params (Insert with table columns entries conflict outputs))) _ _
      (bind_keeps (AllByRecursion (CellsFit contents all columns)) (ChangedFits ks (one_range ks)) (entries_run contents params database arguments entries setting) _
      (entries_keep scope all columns entries typed.2 setting fit)
      (λ cells cells_fit. inserted_all_keep contents scope all columns (meeting_of contents params database arguments conflict) setting (record { rows = rows; returned = [] }) cells
      typed.5 (meeting_sound scope all conflict typed.3) fit (rows_fit, tt) cells_fit))
      (λ changed changed_fits. returning_keeps contents scope table database (one_range ks) (kinds_of contents params outputs (below scope (InRow (one_range ks)))) (meanings contents params database arguments outputs) setting changed
      (nodes_sound (below scope (InRow (one_range ks))) outputs typed.4) fit fitting changed_fits)))
  statement_sound (Update with table sets from conditions outputs) typed =
      let scope : Scope = with_list contents params with outermost_scope in
      let all : List Column = columns_in (slice_get contents.tables table) in
      let ks : List Kind = map (column_kind contents) all in
      let others : Ranges = all_sides (map (λ source. source_ranges contents params source scope) from) in
      let inner : Scope = below scope (InRow (beside_ranges ks others)) in
      bind_keeps (SettingFits scope) (OutcomesFit contents (statement_kinds contents params (Update with table sets from conditions outputs))) (with_queries (map (query_run contents params database arguments) with) outermost) _
      (with_sound with outermost_scope typed.0 outermost (tt, tt))
      (λ setting fit. bind_keeps (RowsFit ks) (OutcomesFit contents (statement_kinds contents params (Update with table sets from conditions outputs))) (found (slice_get database table)) _
      (rows_keep contents (slice_get contents.tables table) (slice_get database table) typed.1 (get_leads (λ t rows. RowsFit (table_kinds contents t) rows) contents.tables database table fitting))
      (λ rows rows_fit. bind_keeps (ChangedFits ks (beside_ranges ks others)) (OutcomesFit contents (statement_kinds contents params (Update with table sets from conditions outputs))) _ _
      (bind_keeps (DrawnFits others) (ChangedFits ks (beside_ranges ks others)) (drawn_all (map (source_run contents params database arguments) from) setting) _
      (drawn_all_keeps scope _ _ (sources_sound scope from typed.2) setting fit)
      (λ drawn drawn_fits. updated_all_keep contents scope all (sets_of contents params database arguments sets) (meanings contents params database arguments conditions) setting others drawn.rows rows
      (sets_sound inner all sets typed.3) (conditions_sound inner conditions typed.4) fit drawn_fits.1 rows_fit))
      (λ changed changed_fits. returning_keeps contents scope table database (beside_ranges ks others) (kinds_of contents params outputs inner) (meanings contents params database arguments outputs) setting changed
      (nodes_sound inner outputs typed.5) fit fitting changed_fits)))
  statement_sound (Delete with table from conditions outputs) typed =
      let scope : Scope = with_list contents params with outermost_scope in
      let all : List Column = columns_in (slice_get contents.tables table) in
      let ks : List Kind = map (column_kind contents) all in
      let others : Ranges = all_sides (map (λ source. source_ranges contents params source scope) from) in
      let inner : Scope = below scope (InRow (beside_ranges ks others)) in
      bind_keeps (SettingFits scope) (OutcomesFit contents (statement_kinds contents params (Delete with table from conditions outputs))) (with_queries (map (query_run contents params database arguments) with) outermost) _
      (with_sound with outermost_scope typed.0 outermost (tt, tt))
      (λ setting fit. bind_keeps (RowsFit ks) (OutcomesFit contents (statement_kinds contents params (Delete with table from conditions outputs))) (found (slice_get database table)) _
      (rows_keep contents (slice_get contents.tables table) (slice_get database table) typed.1 (get_leads (λ t rows. RowsFit (table_kinds contents t) rows) contents.tables database table fitting))
      (λ rows rows_fit. bind_keeps (ChangedFits ks (beside_ranges ks others)) (OutcomesFit contents (statement_kinds contents params (Delete with table from conditions outputs))) _ _
      (bind_keeps (DrawnFits others) (ChangedFits ks (beside_ranges ks others)) (drawn_all (map (source_run contents params database arguments) from) setting) _
      (drawn_all_keeps scope _ _ (sources_sound scope from typed.2) setting fit)
      (λ drawn drawn_fits. deleted_all_keep scope ks (meanings contents params database arguments conditions) setting others drawn.rows rows (conditions_sound inner conditions typed.3) fit drawn_fits.1 rows_fit))
      (λ changed changed_fits. returning_keeps contents scope table database (beside_ranges ks others) (kinds_of contents params outputs inner) (meanings contents params database arguments outputs) setting changed
      (nodes_sound inner outputs typed.4) fit fitting changed_fits)))

-- what fits the statement's kinds fits its outputs, and what is printed for them
answer_fits : (contents : Contents) (outputs : List Output) (answer : Outcomes) → AllByRecursion (IsKnown contents) outputs → RowsFit (map (output_kind contents) outputs) answer.rows → DatabaseFits contents answer.database → AnswerFits contents outputs answer
answer_fits contents outputs answer known rows_fit fitting = record { rows = rows_fit; printed = λ language. rows_printed language contents outputs answer.rows known rows_fit; database = fitting }

pub typed_never_stuck : (contents : Contents) (weak : Weak) (core : CoreStatement) (params : List Param) (outputs : List Output) → IsTyped contents weak core params outputs → NeverStuck contents weak core params outputs
typed_never_stuck contents weak core params outputs typed = record {
  answers_fit = λ language database arguments counted fitting arguments_fit.
      bind_keeps (AllZip (λ param value. Fits (param_kind contents param) value) params) (AnswerFits contents outputs) (bound_all language contents params arguments) _
      (arguments_bound weak language contents params arguments counted typed.weak_nullable arguments_fit)
      (λ values values_fit. weakens (OutcomesFit contents (statement_kinds contents params core)) (AnswerFits contents outputs) (statement_run contents params database values core)
      (statement_sound contents params database values fitting values_fit core typed.statement)
      (λ answer fit. answer_fits contents outputs answer typed.outputs_known (subst (λ ks. RowsFit ks answer.rows) (sym typed.outputs_shown) fit.0) fit.1));
}
