-- What is typed is sound, by one induction over the tree.
use Rattle.std.proofs.Common.{◌≡◌, ◌==◌, ℕ, Bool, true, false, ◌&&◌, ◌||◌, if◌then◌else◌, List, [], ◌∷◌, Some, slice_get, refl, ap}
use Rattle.std.specs.Prelude.{IsSomeAnd}
use Rattle.std.specs.List.{AllZip}
use Rattle.sq_base.specs.declared.types.PgType.{PgType}
use Rattle.sq_catalog.specs.Contents.{Contents}
use Rattle.sq_core.specs.declared.node.Node.{Node, Constant, Null, Param as ParamNode, Column, Apply', Subquery', Aggregate', Row_of-Node, end_of-Node, more_of-Node, Row_of-Query, end_of-Query, more_of-Query}
use Rattle.sq_core.specs.declared.node.Query.{Query, Select', Combined', With', Limited'}
use Rattle.sq_core.specs.declared.node.Source.{Source, Table, Common, Derived', Chain', Row_of-Source, end_of-Source, more_of-Source, Row_of-Step, end_of-Step, more_of-Step}
use Rattle.sq_core.specs.declared.node.Step.{Step, Cross, On'}
use Rattle.sq_core.specs.declared.routine.Manner.{Manner}
use Rattle.sq_shown.specs.declared.signature.Param.{Param}
use Rattle.sq_core.specs.Aggregates.{inner_kind, row_scope}
use Rattle.sq_core.specs.Answer.{Keeps, pure, stuck}
use Rattle.sq_core.specs.Client.{param_kind}
use Rattle.sq_core.specs.Frames.{Answered, Drawn, One, Setting, Ranges, InRow, Scope, enter, below, kind_at, value_at, one_range, both_ranges, AnsweredFits, DrawnFits, SettingFits}
use Rattle.sq_core.specs.Items.{found, expecting}
use Rattle.sq_core.specs.Joins.{joined_ranges, nullable_in}
use Rattle.sq_core.specs.Operations.{evaluate, expect}
use Rattle.sq_core.specs.Queries.{all_sides, drawn_all, grouping_of, is_written, level_of, seen, seen_kinds, with_queries}
use Rattle.sq_core.specs.Run.{argument, node_run, node_runs, query_run, query_runs, source_run, source_runs, step_run, steps_run}
use Rattle.sq_core.specs.Typing.{choice, is_null_test, is_param, LooseTyped, OperandsTyped, grouping, param_of, param_mark, stands_as, node_kind, node_kinds, query_kinds, all_kinds, with_scope, source_ranges, step_ranges, steps_ranges, sides, NodeTyped, NodesTyped, ConditionsTyped, QueryTyped, QueriesTyped, WithTyped, SourceTyped, StepTyped, StepsTyped, SourcesTyped}
use Rattle.sq_catalog.specs.UserTypes.{base}
use Rattle.sq_core.specs.Values.{Value, Null as null, Truth, Array, Tagged, Database, DatabaseFits, Kind, kind, kind_of, Fits, RowFits, RowsFit, scalar_tag, tag, Tag, truth_tag, is_unknown, table_kinds}
use Rattle.sq_core.proofs.AnswerLemmas.{bind_keeps, weakens, tested_keeps}
use Rattle.sq_core.proofs.TypeLemmas.{or_left, or_right, or_neither, same_type-true}
use Rattle.sq_core.proofs.ValueLemmas.{fits_as, fits_tag, item_keeps, expect_keeps}
use Rattle.sq_core.proofs.OperationLemmas.{apply_keeps, evaluate_keeps}
use Rattle.sq_core.proofs.FrameLemmas.{get_leads, place_leads, found_keeps, entered_fits, crossed_fit, one_range_fits, zip_append}
use Rattle.sq_core.proofs.AggregateLemmas.{aggregate_keeps, asked_keeps}
use Rattle.sq_core.proofs.JoinLemmas.{joined_keeps}
use Rattle.sq_core.proofs.QueryLemmas.{Sound, AllSound, ConditionsSound, SourceSound, QuerySound, keep_in, conditions_in, drawn_all_keeps, table_keeps, common_keeps, selected_keeps, combined_keeps, limited_keeps}

-- every value fits an unknown type whose mark allows null
anything : (of : Tag) (marked : Bool) (value : Value) → is_unknown of ≡ true → marked ≡ true → Fits (kind of marked) value
anything of marked null unknown is = is
anything of marked (Truth b) unknown is = or_left (is_unknown of) _ unknown
anything of marked (Array element values) unknown is = or_left (is_unknown of) _ unknown
anything of marked (Tagged own number) unknown is = or_left (is_unknown of) _ unknown

-- a value of an unknown type fits where null is allowed
unknown_fits : (of : Tag) (k : Kind) (value : Value) → is_unknown of ≡ true → Fits k value → Fits (kind of (k.nullable || is_unknown of)) value
unknown_fits of k value unknown fit = anything of (k.nullable || is_unknown of) value unknown (or_right k.nullable _ unknown)

argument_value : (contents : Contents) (of : PgType) (param : Param) (value : Value) → stands_as contents param.of of ≡ true → Fits (param_kind contents param) value
    → Fits (kind_of contents of (param.nullable || is_unknown (tag contents of))) value
argument_value contents of param value stands fit = either (is_unknown (tag contents of)) refl
  where
    same_tag : (a b : PgType) → base contents a ≡ base contents b → tag contents a ≡ tag contents b
    same_tag a b same = ap (λ (behind : PgType). record { scalar = scalar_tag behind.scalar; array = behind.array }) same

    either : (b : Bool) → is_unknown (tag contents of) ≡ b → Fits (kind_of contents of (param.nullable || is_unknown (tag contents of))) value
    either true unknown = unknown_fits (tag contents of) (param_kind contents param) value unknown fit
    either false known = fits_as (param_kind contents param) (tag contents of) (param.nullable || is_unknown (tag contents of)) value (same_tag param.of of (same_type-true _ _ (or_neither (is_unknown (tag contents of)) _ known stands))) (λ e. or_left param.nullable _ e) fit

-- an argument is of its parameter's type
argument_keeps : (contents : Contents) (number : ℕ) (of : PgType) (params : List Param) (arguments : List Value) → AllZip (λ param value. Fits (param_kind contents param) value) params arguments
    → IsSomeAnd (param_of number params) (λ param. stands_as contents param.of of ≡ true)
    → Keeps (Fits (kind_of contents of (param_mark (tag contents of) (param_of number params)))) (argument contents number of params arguments)
argument_keeps contents number of [] arguments fit typed = absurd typed
argument_keeps contents number of (param ∷ params) [] fit typed = absurd fit
argument_keeps contents number of (param ∷ params) (value ∷ arguments) fit typed = tested (param.number == number) typed (argument_keeps contents number of params arguments fit.1)
  where
    tested : (b : Bool) → IsSomeAnd (if b then Some param else param_of number params) (λ param. stands_as contents param.of of ≡ true)
        → (IsSomeAnd (param_of number params) (λ param. stands_as contents param.of of ≡ true) → Keeps (Fits (kind_of contents of (param_mark (tag contents of) (param_of number params)))) (argument contents number of params arguments))
        → Keeps (Fits (kind_of contents of (param_mark (tag contents of) (if b then Some param else param_of number params))))
        (if b then expecting (stands_as contents param.of of) (pure value) else argument contents number of params arguments)
    tested true typed rest = tested_keeps (Fits (kind_of contents of (param.nullable || is_unknown (tag contents of)))) (stands_as contents param.of of) (pure value) stuck typed (λ oracle. argument_value contents of param value typed fit.0)
    tested false typed rest = rest typed

chosen : (b : Bool) (A B C : Type 0) → choice b A B → (A → C) → (B → C) → C
chosen true A B C given left right = left given
chosen false A B C given left right = right given

-- one more query of WITH
pub seen_fits : (scope : Scope) (ks : List Kind) (setting : Setting) (answered : Answered) → SettingFits scope setting → AnsweredFits ks answered → SettingFits (seen_kinds scope ks) (seen setting answered)
seen_fits scope ks setting answered fit answered_fits = (fit.0, zip_append AnsweredFits scope.commons (ks ∷ []) setting.commons (answered ∷ []) fit.1 (answered_fits, tt))

module _ (contents : Contents) (params : List Param) (database : Database) (arguments : List Value)
    (fitting : DatabaseFits contents database) (arguments_fit : AllZip (λ param value. Fits (param_kind contents param) value) params arguments) where
  loose_sound : (node : Node) (scope : Scope) → LooseTyped contents params node → Sound scope (node_kind contents params node scope) (node_run contents params database arguments node)
  loose_sound (Constant reading of) scope typed = absurd typed
  loose_sound (Null of) scope typed = absurd typed
  loose_sound (ParamNode number of) scope typed = λ setting fit. argument_keeps contents number of params arguments arguments_fit typed
  loose_sound (Column slot of) scope typed = absurd typed
  loose_sound (Apply' operation _ operands) scope typed = absurd typed
  loose_sound (Subquery' inner _ operands _ query) scope typed = absurd typed
  loose_sound (Aggregate' aggregation _ inputs _ sorts _ filters) scope typed = absurd typed

  mutual
    pub node_sound : (node : Node) (scope : Scope) → NodeTyped contents params node scope → Sound scope (node_kind contents params node scope) (node_run contents params database arguments node)
    node_sound (Constant reading of) scope typed setting fit = item_keeps (kind_of contents of false)
    node_sound (Null of) scope typed setting fit = λ oracle. refl
    node_sound (ParamNode number of) scope typed setting fit = argument_keeps contents number of params arguments arguments_fit typed.1
    node_sound (Column slot of) scope typed setting fit =
        let marked : Bool = nullable_in (kind_at scope slot) in
        bind_keeps (Fits (kind_of contents of marked)) (Fits (kind_of contents of marked)) (found (value_at setting slot)) (expect (tag contents of))
        (found_keeps (tag contents of) (kind_at scope slot) (value_at setting slot) typed (place_leads scope setting slot fit))
        (λ v v_fits. expect_keeps (Fits (kind_of contents of marked)) (tag contents of) v (fits_tag (kind_of contents of marked) (tag contents of) v refl v_fits) v_fits)
    node_sound (Apply' operation _ operands) scope typed setting fit =
        apply_keeps contents operation setting (node_kinds contents params operands scope) (node_runs contents params database arguments operands) typed.1
        (keep_in scope (node_kinds contents params operands scope) (node_runs contents params database arguments operands) (operands_sound (is_null_test operation) operands scope typed.0) setting fit)
    node_sound (Subquery' inner _ operands _ (more_of-Query query end_of-Query)) scope typed setting fit =
        let ks : List Kind = node_kinds contents params operands scope in
        let cs : List Kind = query_kinds contents params query scope in
        bind_keeps (RowFits ks) (Fits (inner_kind contents inner ks cs)) (evaluate (node_runs contents params database arguments operands) setting) _
        (evaluate_keeps setting ks (node_runs contents params database arguments operands) (keep_in scope ks (node_runs contents params database arguments operands) (nodes_sound operands scope typed.0) setting fit))
        (λ values values_fit. bind_keeps (AnsweredFits cs) (Fits (inner_kind contents inner ks cs)) (query_run contents params database arguments query setting) _
        (query_sound query scope typed.1 setting fit) (λ answered answered_fits. asked_keeps contents inner ks cs values answered typed.2 values_fit answered_fits))
    node_sound (Aggregate' aggregation _ inputs _ sorts _ filters) scope typed setting fit =
        aggregate_keeps contents scope setting aggregation (node_kinds contents params inputs (row_scope scope)) (node_kinds contents params sorts (row_scope scope)) (node_kinds contents params filters (row_scope scope))
        (node_runs contents params database arguments inputs) (node_runs contents params database arguments sorts) (node_runs contents params database arguments filters) (λ k m. Unit {0}) typed.0 fit
        (keep_in (row_scope scope) (node_kinds contents params inputs (row_scope scope)) (node_runs contents params database arguments inputs) (nodes_sound inputs (row_scope scope) typed.1))
        (keep_in (row_scope scope) (node_kinds contents params sorts (row_scope scope)) (node_runs contents params database arguments sorts) (nodes_sound sorts (row_scope scope) typed.2))
        (as_many filters (row_scope scope))
        (conditions_in (row_scope scope) (node_runs contents params database arguments filters) (conditions_sound filters (row_scope scope) typed.3)) typed.4

    pub nodes_sound : {n : _} (nodes : Row_of-Node n) (scope : Scope) → NodesTyped contents params nodes scope → AllSound scope (node_kinds contents params nodes scope) (node_runs contents params database arguments nodes)
    nodes_sound end_of-Node scope typed = tt
    nodes_sound (more_of-Node node rest) scope typed = (node_sound node scope typed.0, nodes_sound rest scope typed.1)

    operands_sound : {n : _} (tested : Bool) (nodes : Row_of-Node n) (scope : Scope) → OperandsTyped contents params tested nodes scope → AllSound scope (node_kinds contents params nodes scope) (node_runs contents params database arguments nodes)
    operands_sound tested end_of-Node scope typed = tt
    operands_sound tested (more_of-Node node rest) scope typed =
        (chosen (tested && is_param node) _ _ _ typed.0 (loose_sound node scope) (node_sound node scope), operands_sound tested rest scope typed.1)

    as_many : {n : _} (nodes : Row_of-Node n) (scope : Scope) → AllZip (λ k m. Unit {0}) (node_kinds contents params nodes scope) (node_runs contents params database arguments nodes)
    as_many end_of-Node scope = tt
    as_many (more_of-Node node rest) scope = (tt, as_many rest scope)

    pub conditions_sound : {n : _} (nodes : Row_of-Node n) (scope : Scope) → ConditionsTyped contents params nodes scope → ConditionsSound scope (node_runs contents params database arguments nodes)
    conditions_sound end_of-Node scope typed = tt
    conditions_sound (more_of-Node node rest) scope typed = (
      λ setting fit. weakens (Fits (node_kind contents params node scope)) (Fits (kind truth_tag true)) (node_run contents params database arguments node setting) (node_sound node scope typed.0 setting fit)
          (λ v v_fits. fits_tag (node_kind contents params node scope) truth_tag v typed.1 v_fits),
      conditions_sound rest scope typed.2,
    )

    same_grouping : {n m : _} (manner : Manner) (groups : Row_of-Node n) (having : Row_of-Node m)
        → grouping manner groups having ≡ grouping_of manner.grouped (is_written (node_runs contents params database arguments groups)) (is_written (node_runs contents params database arguments having))
    same_grouping manner end_of-Node end_of-Node = refl
    same_grouping manner end_of-Node (more_of-Node node rest) = refl
    same_grouping manner (more_of-Node node rest) end_of-Node = refl
    same_grouping manner (more_of-Node node rest) (more_of-Node other more) = refl

    pub query_sound : (query : Query) (scope : Scope) → QueryTyped contents params query scope → QuerySound scope (query_kinds contents params query scope) (query_run contents params database arguments query)
    query_sound (Select' manner _ from _ conditions _ groups _ having _ outputs _ keys) scope typed setting fit =
        let ranges : Ranges = all_sides (sides contents params from scope) in
        let level = level_of (grouping manner groups having) ranges in
        bind_keeps (DrawnFits ranges) (AnsweredFits (node_kinds contents params outputs (below scope level))) (drawn_all (source_runs contents params database arguments from) setting) _
        (drawn_all_keeps scope (sides contents params from scope) (source_runs contents params database arguments from) (sources_sound from scope typed.0) setting fit)
        (λ drawn drawn_fits. selected_keeps manner (grouping manner groups having) scope ranges (node_kinds contents params groups (below scope (InRow ranges))) (node_kinds contents params outputs (below scope level)) (node_kinds contents params keys (below scope level))
        (node_runs contents params database arguments conditions) (node_runs contents params database arguments groups) (node_runs contents params database arguments having) (node_runs contents params database arguments outputs) (node_runs contents params database arguments keys)
        (same_grouping manner groups having) (conditions_sound conditions (below scope (InRow ranges)) typed.1) (nodes_sound groups (below scope (InRow ranges)) typed.2) (conditions_sound having (below scope level) typed.3)
        (nodes_sound outputs (below scope level) typed.4) (nodes_sound keys (below scope level) typed.5) setting fit drawn drawn_fits)
    query_sound (Combined' links _ queries) scope typed setting fit =
        combined_keeps contents links scope (all_kinds contents params queries scope) (query_runs contents params database arguments queries) typed.1 (queries_sound queries scope typed.0) setting fit
    query_sound (With' _ queries _ (more_of-Query body end_of-Query)) scope typed setting fit =
        bind_keeps (SettingFits (with_scope contents params queries scope)) (AnsweredFits (query_kinds contents params body (with_scope contents params queries scope))) (with_queries (query_runs contents params database arguments queries) setting) _
        (with_sound queries scope typed.0 setting fit) (λ inner inner_fits. query_sound body (with_scope contents params queries scope) typed.1 inner inner_fits)
    query_sound (Limited' ordered _ (more_of-Query query end_of-Query) _ keys _ limits) scope typed setting fit =
        bind_keeps (AnsweredFits (query_kinds contents params query scope)) (AnsweredFits (query_kinds contents params query scope)) (query_run contents params database arguments query setting) _
        (query_sound query scope typed.0 setting fit)
        (λ answered answered_fits. limited_keeps ordered scope (query_kinds contents params query scope) (node_kinds contents params keys scope) (node_kinds contents params limits scope)
        (node_runs contents params database arguments keys) (node_runs contents params database arguments limits) (nodes_sound keys scope typed.1) (nodes_sound limits scope typed.2) typed.3 setting fit answered answered_fits)

    pub queries_sound : {n : _} (queries : Row_of-Query n) (scope : Scope) → QueriesTyped contents params queries scope → AllZip (QuerySound scope) (all_kinds contents params queries scope) (query_runs contents params database arguments queries)
    queries_sound end_of-Query scope typed = tt
    queries_sound (more_of-Query query rest) scope typed = (query_sound query scope typed.0, queries_sound rest scope typed.1)

    with_sound : {n : _} (queries : Row_of-Query n) (scope : Scope) → WithTyped contents params queries scope → (setting : Setting) → SettingFits scope setting
        → Keeps (SettingFits (with_scope contents params queries scope)) (with_queries (query_runs contents params database arguments queries) setting)
    with_sound end_of-Query scope typed setting fit = λ oracle. fit
    with_sound (more_of-Query query rest) scope typed setting fit =
        let ks : List Kind = query_kinds contents params query scope in
        bind_keeps (AnsweredFits ks) (SettingFits (with_scope contents params rest (seen_kinds scope ks))) (query_run contents params database arguments query setting) _ (query_sound query scope typed.0 setting fit)
        (λ answered answered_fits. with_sound rest (seen_kinds scope ks) typed.1 (seen setting answered) (seen_fits scope ks setting answered fit answered_fits))

    pub source_sound : (source : Source) (scope : Scope) → SourceTyped contents params source scope → SourceSound scope (source_ranges contents params source scope) (source_run contents params database arguments source)
    source_sound (Table table) scope typed setting fit =
        table_keeps contents (slice_get contents.tables table) (slice_get database table) typed (get_leads (λ t rows. RowsFit (table_kinds contents t) rows) contents.tables database table fitting)
    source_sound (Common common) scope typed setting fit =
        common_keeps (slice_get scope.commons common) (slice_get setting.commons common) typed (get_leads AnsweredFits scope.commons setting.commons common fit.1)
    source_sound (Derived' _ (more_of-Query query end_of-Query)) scope typed setting fit =
        bind_keeps (AnsweredFits (query_kinds contents params query scope)) (DrawnFits (one_range (query_kinds contents params query scope))) (query_run contents params database arguments query setting) _ (query_sound query scope typed setting fit)
        (λ answered answered_fits oracle. one_range_fits (query_kinds contents params query scope) answered answered_fits)
    source_sound (Chain' _ (more_of-Source first end_of-Source) _ steps) scope typed setting fit =
        bind_keeps (DrawnFits (source_ranges contents params first scope)) (DrawnFits (steps_ranges contents params steps (source_ranges contents params first scope) scope)) (source_run contents params database arguments first setting) _
        (source_sound first scope typed.0 setting fit) (λ left left_fits. steps_sound steps (source_ranges contents params first scope) scope typed.1 setting fit left left_fits)

    pub sources_sound : {n : _} (sources : Row_of-Source n) (scope : Scope) → SourcesTyped contents params sources scope → AllZip (SourceSound scope) (sides contents params sources scope) (source_runs contents params database arguments sources)
    sources_sound end_of-Source scope typed = tt
    sources_sound (more_of-Source source rest) scope typed = (source_sound source scope typed.0, sources_sound rest scope typed.1)

    step_sound : (step : Step) (left : Ranges) (scope : Scope) → StepTyped contents params step left scope → (setting : Setting) → SettingFits scope setting → (drawn : Drawn) → DrawnFits left drawn
        → Keeps (DrawnFits (step_ranges contents params step left scope)) (step_run contents params database arguments step setting drawn)
    step_sound (Cross source) left scope typed setting fit drawn drawn_fits =
        let right : Ranges = source_ranges contents params source scope in
        bind_keeps (DrawnFits right) (DrawnFits (both_ranges left right [])) (source_run contents params database arguments source setting) _ (source_sound source scope typed setting fit)
        (λ other other_fits oracle. crossed_fit left right drawn other drawn_fits other_fits)
    step_sound (On' joining source _ conditions) left scope typed setting fit drawn drawn_fits =
        let right : Ranges = source_ranges contents params source scope in
        bind_keeps (DrawnFits right) (DrawnFits (joined_ranges contents joining left right)) (source_run contents params database arguments source setting) _ (source_sound source scope typed.0 setting fit)
        (λ other other_fits. joined_keeps contents joining (node_runs contents params database arguments conditions) scope setting left right drawn other
        (λ pair pair_fits. conditions_in (below scope (InRow (both_ranges left right []))) (node_runs contents params database arguments conditions) (conditions_sound conditions (below scope (InRow (both_ranges left right []))) typed.1)
        (enter setting (One pair [])) (entered_fits scope setting (InRow (both_ranges left right [])) (One pair []) fit (pair_fits, tt))) typed.2 drawn_fits other_fits)

    steps_sound : {n : _} (steps : Row_of-Step n) (left : Ranges) (scope : Scope) → StepsTyped contents params steps left scope → (setting : Setting) → SettingFits scope setting → (drawn : Drawn) → DrawnFits left drawn
        → Keeps (DrawnFits (steps_ranges contents params steps left scope)) (steps_run contents params database arguments steps setting drawn)
    steps_sound end_of-Step left scope typed setting fit drawn drawn_fits = λ oracle. drawn_fits
    steps_sound (more_of-Step step rest) left scope typed setting fit drawn drawn_fits =
        bind_keeps (DrawnFits (step_ranges contents params step left scope)) (DrawnFits (steps_ranges contents params rest (step_ranges contents params step left scope) scope)) (step_run contents params database arguments step setting drawn) _
        (step_sound step left scope typed.0 setting fit drawn drawn_fits)
        (λ after after_fits. steps_sound rest (step_ranges contents params step left scope) scope typed.1 setting fit after after_fits)
