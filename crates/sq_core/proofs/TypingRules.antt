-- A typing rule and a kind for each form, as a judge builds it, with lists of operands.
use Rattle.std.proofs.Common.{◌≡◌, ℕ, Bool, true, false, ◌&&◌, List, ◌∷◌, [], map, refl, ap, sym, subst, ◌∙◌}
use Rattle.std.specs.List.{AllByRecursion}
use Rattle.std.specs.Prelude.{⊤}
use Rattle.sq_base.specs.declared.types.PgType.{PgType}
use Rattle.sq_catalog.specs.Contents.{Contents}
use Rattle.sq_core.specs.declared.node.Node.{Node, Constant, Null as NullNode, Param as ParamNode, Column, Apply', Subquery', Aggregate', Row_of-Node, end_of-Node, more_of-Node, items-the_row-Node, items_hidden-the_row-Node-0, Row_of-Query, end_of-Query, more_of-Query}
use Rattle.sq_core.specs.declared.node.Node.TheBlock as block
use Rattle.sq_core.specs.declared.node.Node.TheVariants.{Apply, Subquery, Aggregate}
use Rattle.sq_core.specs.declared.node.Query.{Query}
use Rattle.sq_core.specs.declared.node.Query.TheVariants.{Select, Combined, With, Limited}
use Rattle.sq_core.specs.declared.node.Source.{Source, Row_of-Source, end_of-Source, more_of-Source, Row_of-Step, end_of-Step, more_of-Step}
use Rattle.sq_core.specs.declared.node.Source.TheVariants.{Derived, Chain}
use Rattle.sq_core.specs.declared.node.Step.{Step}
use Rattle.sq_core.specs.declared.node.Step.TheVariants.{On}
use Rattle.sq_core.specs.declared.node.Node.{items-the_row-Query, items_hidden-the_row-Query-3}
use Rattle.sq_core.specs.declared.node.Source.{items-the_row-Source, items_hidden-the_row-Source-2, items-the_row-Step, items_hidden-the_row-Step-5}
use Rattle.sq_core.specs.declared.routine.Aggregation.{Aggregation}
use Rattle.sq_core.specs.declared.routine.Inner.{Inner}
use Rattle.sq_core.specs.declared.routine.Joining.{Joining}
use Rattle.sq_core.specs.declared.routine.Manner.{Manner}
use Rattle.sq_core.specs.declared.routine.Operation.{Operation}
use Rattle.sq_core.specs.declared.routine.Operation.TheVariants.{NullTest}
use Rattle.sq_core.specs.declared.routine.SetLink.{SetLink}
use Rattle.sq_shown.specs.declared.signature.Param.{Param}
use Rattle.sq_core.specs.Aggregates.{AggregateTyped, HasGroups, InnerTyped, aggregate_mark, inner_kind, may_be_empty, row_scope}
use Rattle.sq_core.specs.Frames.{InRow, Scope, Ranges, below, both_ranges, one_range}
use Rattle.sq_core.specs.Joins.{MergedTyped}
use Rattle.sq_core.specs.Operations.{AllOf, OperationTyped, operation_kind}
use Rattle.sq_core.specs.Queries.{CombinedTyped, Grouping, all_sides, combined_kinds, grouping_of, is_written, level_of, seen_kinds}
use Rattle.sq_core.specs.Statements.{AllConditions, AllSourcesTyped, AllTyped, WithListTyped, kinds_of, with_list}
use Rattle.sq_core.specs.Typing.{choice, is_null_test, is_param, LooseTyped, OperandsTyped, ParamStands, any_node, grouping, node_kind, node_kinds, query_kinds, all_kinds, with_scope, source_ranges, step_ranges, steps_ranges, sides, NodeTyped, NodesTyped, ConditionsTyped, QueryTyped, QueriesTyped, WithTyped, SourceTyped, StepTyped, StepsTyped, SourcesTyped}
use Rattle.sq_core.specs.Values.{Kind, kind_of, tags, bigint_tag}

module _ (contents : Contents) (params : List Param) where
  kinds-items : (n : _) (row : Row_of-Node n) (scope : Scope) → node_kinds contents params row scope ≡ kinds_of contents params (items-the_row-Node n row) scope
  kinds-items _ end_of-Node scope = refl
  kinds-items _ (more_of-Node node rest) scope = ap (λ ks. node_kind contents params node scope ∷ ks) (kinds-items _ rest scope)

  kinds-hidden : (nodes : List Node) (scope : Scope) → node_kinds contents params (block.hidden-the_row-Node-0 nodes) scope ≡ kinds_of contents params nodes scope
  kinds-hidden nodes scope = kinds-items _ (block.hidden-the_row-Node-0 nodes) scope ∙ ap (λ xs. kinds_of contents params xs scope) (items_hidden-the_row-Node-0 nodes)

  typed-items : (n : _) (row : Row_of-Node n) (scope : Scope) → AllTyped contents params (items-the_row-Node n row) scope → NodesTyped contents params row scope
  typed-items _ end_of-Node scope typed = typed
  typed-items _ (more_of-Node node rest) scope typed = (typed.0, typed-items _ rest scope typed.1)

  typed-hidden : (nodes : List Node) (scope : Scope) → AllTyped contents params nodes scope → NodesTyped contents params (block.hidden-the_row-Node-0 nodes) scope
  typed-hidden nodes scope typed = typed-items _ (block.hidden-the_row-Node-0 nodes) scope (subst (λ xs. AllTyped contents params xs scope) (sym (items_hidden-the_row-Node-0 nodes)) typed)

  -- operands, of which a parameter under a null test may be of unknown type
  abbrev pub AllOperands : Bool → List Node → Scope → Type 0
  AllOperands tested nodes scope = AllByRecursion (λ node. choice (tested && is_param node) (LooseTyped contents params node) (NodeTyped contents params node scope)) nodes

  operands-items : (tested : Bool) (n : _) (row : Row_of-Node n) (scope : Scope) → AllOperands tested (items-the_row-Node n row) scope → OperandsTyped contents params tested row scope
  operands-items tested _ end_of-Node scope typed = typed
  operands-items tested _ (more_of-Node node rest) scope typed = (typed.0, operands-items tested _ rest scope typed.1)

  operands-hidden : (tested : Bool) (nodes : List Node) (scope : Scope) → AllOperands tested nodes scope → OperandsTyped contents params tested (block.hidden-the_row-Node-0 nodes) scope
  operands-hidden tested nodes scope typed = operands-items tested _ (block.hidden-the_row-Node-0 nodes) scope (subst (λ xs. AllOperands tested xs scope) (sym (items_hidden-the_row-Node-0 nodes)) typed)

  loosened : (tested : Bool) (node : Node) (scope : Scope) → NodeTyped contents params node scope → choice (tested && is_param node) (LooseTyped contents params node) (NodeTyped contents params node scope)
  loosened false node scope typed = typed
  loosened true (Constant reading of) scope typed = typed
  loosened true (NullNode of) scope typed = typed
  loosened true (ParamNode number of) scope typed = typed.1
  loosened true (Column slot of) scope typed = typed
  loosened true (Apply' operation _ operands) scope typed = typed
  loosened true (Subquery' inner _ operands _ query) scope typed = typed
  loosened true (Aggregate' aggregation _ inputs _ sorts _ filters) scope typed = typed

  pub node_kind-Apply : (operation : Operation) (operands : List Node) (scope : Scope) → node_kind contents params (Apply operation operands) scope ≡ operation_kind contents operation (kinds_of contents params operands scope)
  node_kind-Apply operation operands scope = ap (operation_kind contents operation) (kinds-hidden operands scope)

  pub apply_typed : (operation : Operation) (operands : List Node) (scope : Scope) → AllTyped contents params operands scope → OperationTyped contents operation (kinds_of contents params operands scope)
      → NodeTyped contents params (Apply operation operands) scope
  apply_typed operation operands scope typed operation_typed =
      (operands-hidden (is_null_test operation) operands scope (each operands typed), subst (OperationTyped contents operation) (sym (kinds-hidden operands scope)) operation_typed)
    where
      each : (operands : List Node) → AllTyped contents params operands scope → AllOperands (is_null_test operation) operands scope
      each [] typed = tt
      each (node ∷ operands) typed = (loosened (is_null_test operation) node scope typed.0, each operands typed.1)

  -- a null test over a parameter of any type
  pub null_test_typed : (number : ℕ) (of : PgType) (negated : Bool) (scope : Scope) → ParamStands contents params number of → NodeTyped contents params (Apply (NullTest negated) (ParamNode number of ∷ [])) scope
  null_test_typed number of negated scope stands =
      (operands-hidden true (ParamNode number of ∷ []) scope (stands, tt), subst (OperationTyped contents (NullTest negated)) (sym (kinds-hidden (ParamNode number of ∷ []) scope)) tt)

  conditions-items : (n : _) (row : Row_of-Node n) (scope : Scope) → AllConditions contents params (items-the_row-Node n row) scope → ConditionsTyped contents params row scope
  conditions-items _ end_of-Node scope typed = typed
  conditions-items _ (more_of-Node node rest) scope typed = (typed.0.0, typed.0.1, conditions-items _ rest scope typed.1)

  conditions-hidden : (nodes : List Node) (scope : Scope) → AllConditions contents params nodes scope → ConditionsTyped contents params (block.hidden-the_row-Node-0 nodes) scope
  conditions-hidden nodes scope typed = conditions-items _ (block.hidden-the_row-Node-0 nodes) scope (subst (λ xs. AllConditions contents params xs scope) (sym (items_hidden-the_row-Node-0 nodes)) typed)

  pub node_kind-Aggregate : (aggregation : Aggregation) (arguments sorts filters : List Node) (scope : Scope) → node_kind contents params (Aggregate aggregation arguments sorts filters) scope
      ≡ kind_of contents aggregation.routine.of (aggregate_mark aggregation (may_be_empty scope.levels) (is_written (kinds_of contents params filters (row_scope scope))) (kinds_of contents params arguments (row_scope scope)))
  node_kind-Aggregate aggregation arguments sorts filters scope =
      ap (λ ks. kind_of contents aggregation.routine.of (aggregate_mark aggregation (may_be_empty scope.levels) (is_written ks) (node_kinds contents params (block.hidden-the_row-Node-0 arguments) (row_scope scope)))) (kinds-hidden filters (row_scope scope))
      ∙ ap (λ ks. kind_of contents aggregation.routine.of (aggregate_mark aggregation (may_be_empty scope.levels) (is_written (kinds_of contents params filters (row_scope scope))) ks)) (kinds-hidden arguments (row_scope scope))

  pub aggregate_typed : (aggregation : Aggregation) (arguments sorts filters : List Node) (scope : Scope) → HasGroups scope.levels → AllTyped contents params arguments (row_scope scope) → AllTyped contents params sorts (row_scope scope)
      → AllConditions contents params filters (row_scope scope) → AggregateTyped contents aggregation (tags (kinds_of contents params arguments (row_scope scope))) → NodeTyped contents params (Aggregate aggregation arguments sorts filters) scope
  aggregate_typed aggregation arguments sorts filters scope groups typed sorts_typed filters_typed row = (
    groups,
    typed-hidden arguments (row_scope scope) typed,
    typed-hidden sorts (row_scope scope) sorts_typed,
    conditions-hidden filters (row_scope scope) filters_typed,
    subst (λ ks. AggregateTyped contents aggregation (tags ks)) (sym (kinds-hidden arguments (row_scope scope))) row,
  )

  sides-items : (n : _) (row : Row_of-Source n) (scope : Scope) → sides contents params row scope ≡ map (λ source. source_ranges contents params source scope) (items-the_row-Source n row)
  sides-items _ end_of-Source scope = refl
  sides-items _ (more_of-Source source rest) scope = ap (λ rs. source_ranges contents params source scope ∷ rs) (sides-items _ rest scope)

  -- the ranges of each of some sources
  abbrev pub sides_of : List Source → Scope → List Ranges
  sides_of from scope = map (λ source. source_ranges contents params source scope) from

  sides-hidden : (from : List Source) (scope : Scope) → sides contents params (block.hidden-the_row-Source-2 from) scope ≡ sides_of from scope
  sides-hidden from scope = sides-items _ (block.hidden-the_row-Source-2 from) scope ∙ ap (λ xs. sides_of xs scope) (items_hidden-the_row-Source-2 from)

  sources-items : (n : _) (row : Row_of-Source n) (scope : Scope) → AllSourcesTyped contents params (items-the_row-Source n row) scope → SourcesTyped contents params row scope
  sources-items _ end_of-Source scope typed = typed
  sources-items _ (more_of-Source source rest) scope typed = (typed.0, sources-items _ rest scope typed.1)

  sources-hidden : (from : List Source) (scope : Scope) → AllSourcesTyped contents params from scope → SourcesTyped contents params (block.hidden-the_row-Source-2 from) scope
  sources-hidden from scope typed = sources-items _ (block.hidden-the_row-Source-2 from) scope (subst (λ xs. AllSourcesTyped contents params xs scope) (sym (items_hidden-the_row-Source-2 from)) typed)

  any-hidden : (nodes : List Node) → any_node (block.hidden-the_row-Node-0 nodes) ≡ is_written nodes
  any-hidden nodes = any-items _ (block.hidden-the_row-Node-0 nodes) ∙ ap is_written (items_hidden-the_row-Node-0 nodes)
    where
      any-items : (n : _) (row : Row_of-Node n) → any_node row ≡ is_written (items-the_row-Node n row)
      any-items _ end_of-Node = refl
      any-items _ (more_of-Node node rest) = refl

  -- what the outputs of a SELECT over lists are evaluated in
  abbrev pub list_grouping : Manner → List Node → List Node → Grouping
  list_grouping manner groups having = grouping_of manner.grouped (is_written groups) (is_written having)

  grouping-hidden : (manner : Manner) (groups having : List Node) → grouping manner (block.hidden-the_row-Node-0 groups) (block.hidden-the_row-Node-0 having) ≡ list_grouping manner groups having
  grouping-hidden manner groups having = λ i. grouping_of manner.grouped (any-hidden groups i) (any-hidden having i)

  pub query_kinds-Select : (manner : Manner) (from : List Source) (conditions groups having outputs keys : List Node) (scope : Scope) → query_kinds contents params (Select manner from conditions groups having outputs keys) scope
      ≡ kinds_of contents params outputs (below scope (level_of (list_grouping manner groups having) (all_sides (sides_of from scope))))
  query_kinds-Select manner from conditions groups having outputs keys scope =
      kinds-hidden outputs (below scope (level_of (grouping manner (block.hidden-the_row-Node-0 groups) (block.hidden-the_row-Node-0 having)) (all_sides (sides contents params (block.hidden-the_row-Source-2 from) scope))))
      ∙ (λ i. kinds_of contents params outputs (below scope (level_of (grouping-hidden manner groups having i) (all_sides (sides-hidden from scope i)))))

  -- what a SELECT asks of its parts, over the ranges of its FROM
  abbrev pub SelectParts : Grouping → List Node → List Node → List Node → List Node → List Node → Scope → List Ranges → Type 0
  SelectParts grouping conditions groups having outputs keys scope rs =
      AllConditions contents params conditions (below scope (InRow (all_sides rs))) × AllTyped contents params groups (below scope (InRow (all_sides rs)))
      × AllConditions contents params having (below scope (level_of grouping (all_sides rs))) × AllTyped contents params outputs (below scope (level_of grouping (all_sides rs)))
      × AllTyped contents params keys (below scope (level_of grouping (all_sides rs)))

  pub select_typed : (manner : Manner) (from : List Source) (conditions groups having outputs keys : List Node) (scope : Scope) → AllSourcesTyped contents params from scope
      → SelectParts (list_grouping manner groups having) conditions groups having outputs keys scope (sides_of from scope) → QueryTyped contents params (Select manner from conditions groups having outputs keys) scope
  select_typed manner from conditions groups having outputs keys scope there parts =
      let rs : List Ranges = sides contents params (block.hidden-the_row-Source-2 from) scope in
      let own : Grouping = grouping manner (block.hidden-the_row-Node-0 groups) (block.hidden-the_row-Node-0 having) in
      let ranged : SelectParts (list_grouping manner groups having) conditions groups having outputs keys scope rs =
      subst (SelectParts (list_grouping manner groups having) conditions groups having outputs keys scope) (sym (sides-hidden from scope)) parts in
      let typed : SelectParts own conditions groups having outputs keys scope rs =
      subst (λ g. SelectParts g conditions groups having outputs keys scope rs) (sym (grouping-hidden manner groups having)) ranged in (
        sources-hidden from scope there,
        conditions-hidden conditions (below scope (InRow (all_sides rs))) typed.0,
        typed-hidden groups (below scope (InRow (all_sides rs))) typed.1,
        conditions-hidden having (below scope (level_of own (all_sides rs))) typed.2,
        typed-hidden outputs (below scope (level_of own (all_sides rs))) typed.3,
        typed-hidden keys (below scope (level_of own (all_sides rs))) typed.4,
      )

  pub node_kind-Subquery : (inner : Inner) (operands : List Node) (query : Query) (scope : Scope) → node_kind contents params (Subquery inner operands query) scope
      ≡ inner_kind contents inner (kinds_of contents params operands scope) (query_kinds contents params query scope)
  unfolding block.hidden-the_row-Query-1 block.shape-the_row-Query-1 denote.Hole.Carrier.hidden
  node_kind-Subquery inner operands query scope = ap (λ ks. inner_kind contents inner ks (query_kinds contents params query scope)) (kinds-hidden operands scope)

  pub subquery_typed : (inner : Inner) (operands : List Node) (query : Query) (scope : Scope) → AllTyped contents params operands scope → QueryTyped contents params query scope
      → InnerTyped contents inner (kinds_of contents params operands scope) (query_kinds contents params query scope) → NodeTyped contents params (Subquery inner operands query) scope
  unfolding block.hidden-the_row-Query-1 block.shape-the_row-Query-1 denote.Hole.Carrier.hidden
  subquery_typed inner operands query scope typed query_typed inner_typed =
      (typed-hidden operands scope typed, query_typed, subst (λ ks. InnerTyped contents inner ks (query_kinds contents params query scope)) (sym (kinds-hidden operands scope)) inner_typed)

  pub query_kinds-Limited : (ordered : Bool) (query : Query) (keys limits : List Node) (scope : Scope)
      → query_kinds contents params (Limited ordered query keys limits) scope ≡ query_kinds contents params query scope
  unfolding block.hidden-the_row-Query-1 block.shape-the_row-Query-1 denote.Hole.Carrier.hidden
  query_kinds-Limited ordered query keys limits scope = refl

  pub limited_typed : (ordered : Bool) (query : Query) (keys limits : List Node) (scope : Scope) → QueryTyped contents params query scope → AllTyped contents params keys scope
      → AllTyped contents params limits scope → AllOf bigint_tag (kinds_of contents params limits scope) → QueryTyped contents params (Limited ordered query keys limits) scope
  unfolding block.hidden-the_row-Query-1 block.shape-the_row-Query-1 denote.Hole.Carrier.hidden
  limited_typed ordered query keys limits scope typed keys_typed limits_typed all =
      (typed, typed-hidden keys scope keys_typed, typed-hidden limits scope limits_typed, subst (AllOf bigint_tag) (sym (kinds-hidden limits scope)) all)

  pub source_ranges-Derived : (query : Query) (scope : Scope) → source_ranges contents params (Derived query) scope ≡ one_range (query_kinds contents params query scope)
  unfolding block.hidden-the_row-Query-1 block.shape-the_row-Query-1 denote.Hole.Carrier.hidden
  source_ranges-Derived query scope = refl

  pub derived_typed : (query : Query) (scope : Scope) → QueryTyped contents params query scope → SourceTyped contents params (Derived query) scope
  unfolding block.hidden-the_row-Query-1 block.shape-the_row-Query-1 denote.Hole.Carrier.hidden
  derived_typed query scope typed = typed

  -- the kinds of each of some queries
  abbrev pub all_kinds_of : List Query → Scope → List (List Kind)
  all_kinds_of queries scope = map (λ query. query_kinds contents params query scope) queries

  abbrev pub AllQueriesTyped : List Query → Scope → Type 0
  AllQueriesTyped queries scope = AllByRecursion (λ query. QueryTyped contents params query scope) queries

  all_kinds-items : (n : _) (row : Row_of-Query n) (scope : Scope) → all_kinds contents params row scope ≡ all_kinds_of (items-the_row-Query n row) scope
  all_kinds-items _ end_of-Query scope = refl
  all_kinds-items _ (more_of-Query query rest) scope = ap (λ kss. query_kinds contents params query scope ∷ kss) (all_kinds-items _ rest scope)

  all_kinds-hidden : (queries : List Query) (scope : Scope) → all_kinds contents params (block.hidden-the_row-Query-3 queries) scope ≡ all_kinds_of queries scope
  all_kinds-hidden queries scope = all_kinds-items _ (block.hidden-the_row-Query-3 queries) scope ∙ ap (λ xs. all_kinds_of xs scope) (items_hidden-the_row-Query-3 queries)

  queries-items : (n : _) (row : Row_of-Query n) (scope : Scope) → AllQueriesTyped (items-the_row-Query n row) scope → QueriesTyped contents params row scope
  queries-items _ end_of-Query scope typed = typed
  queries-items _ (more_of-Query query rest) scope typed = (typed.0, queries-items _ rest scope typed.1)

  pub query_kinds-Combined : (links : List SetLink) (queries : List Query) (scope : Scope) → query_kinds contents params (Combined links queries) scope ≡ combined_kinds contents links (all_kinds_of queries scope)
  query_kinds-Combined links queries scope = ap (combined_kinds contents links) (all_kinds-hidden queries scope)

  pub combined_typed : (links : List SetLink) (queries : List Query) (scope : Scope) → AllQueriesTyped queries scope → CombinedTyped contents links (all_kinds_of queries scope) → QueryTyped contents params (Combined links queries) scope
  combined_typed links queries scope typed links_typed = (
    queries-items _ (block.hidden-the_row-Query-3 queries) scope (subst (λ xs. AllQueriesTyped xs scope) (sym (items_hidden-the_row-Query-3 queries)) typed),
    subst (CombinedTyped contents links) (sym (all_kinds-hidden queries scope)) links_typed,
  )

  with-items : (n : _) (row : Row_of-Query n) (scope : Scope) → with_scope contents params row scope ≡ with_list contents params (items-the_row-Query n row) scope
  with-items _ end_of-Query scope = refl
  with-items _ (more_of-Query query rest) scope = with-items _ rest (seen_kinds scope (query_kinds contents params query scope))

  with-hidden : (queries : List Query) (scope : Scope) → with_scope contents params (block.hidden-the_row-Query-3 queries) scope ≡ with_list contents params queries scope
  with-hidden queries scope = with-items _ (block.hidden-the_row-Query-3 queries) scope ∙ ap (λ xs. with_list contents params xs scope) (items_hidden-the_row-Query-3 queries)

  with_typed-items : (n : _) (row : Row_of-Query n) (scope : Scope) → WithListTyped contents params (items-the_row-Query n row) scope → WithTyped contents params row scope
  with_typed-items _ end_of-Query scope typed = typed
  with_typed-items _ (more_of-Query query rest) scope typed = (typed.0, with_typed-items _ rest (seen_kinds scope (query_kinds contents params query scope)) typed.1)

  pub query_kinds-With : (queries : List Query) (body : Query) (scope : Scope) → query_kinds contents params (With queries body) scope ≡ query_kinds contents params body (with_list contents params queries scope)
  unfolding block.hidden-the_row-Query-1 block.shape-the_row-Query-1 denote.Hole.Carrier.hidden
  query_kinds-With queries body scope = ap (query_kinds contents params body) (with-hidden queries scope)

  pub with_typed : (queries : List Query) (body : Query) (scope : Scope) → WithListTyped contents params queries scope → QueryTyped contents params body (with_list contents params queries scope)
      → QueryTyped contents params (With queries body) scope
  unfolding block.hidden-the_row-Query-1 block.shape-the_row-Query-1 denote.Hole.Carrier.hidden
  with_typed queries body scope typed body_typed = (
    with_typed-items _ (block.hidden-the_row-Query-3 queries) scope (subst (λ xs. WithListTyped contents params xs scope) (sym (items_hidden-the_row-Query-3 queries)) typed),
    subst (QueryTyped contents params body) (sym (with-hidden queries scope)) body_typed,
  )

  -- the ranges after a list of steps
  abbrev pub after_steps : List Step → Ranges → Scope → Ranges
  after_steps [] left scope = left
  after_steps (step ∷ steps) left scope = after_steps steps (step_ranges contents params step left scope) scope

  abbrev pub AllStepsTyped : List Step → Ranges → Scope → Type 0
  AllStepsTyped [] left scope = ⊤
  AllStepsTyped (step ∷ steps) left scope = StepTyped contents params step left scope × AllStepsTyped steps (step_ranges contents params step left scope) scope

  steps-items : (n : _) (row : Row_of-Step n) (left : Ranges) (scope : Scope) → steps_ranges contents params row left scope ≡ after_steps (items-the_row-Step n row) left scope
  steps-items _ end_of-Step left scope = refl
  steps-items _ (more_of-Step step rest) left scope = steps-items _ rest (step_ranges contents params step left scope) scope

  steps_typed-items : (n : _) (row : Row_of-Step n) (left : Ranges) (scope : Scope) → AllStepsTyped (items-the_row-Step n row) left scope → StepsTyped contents params row left scope
  steps_typed-items _ end_of-Step left scope typed = typed
  steps_typed-items _ (more_of-Step step rest) left scope typed = (typed.0, steps_typed-items _ rest (step_ranges contents params step left scope) scope typed.1)

  pub source_ranges-Chain : (first : Source) (steps : List Step) (scope : Scope) → source_ranges contents params (Chain first steps) scope ≡ after_steps steps (source_ranges contents params first scope) scope
  unfolding block.hidden-the_row-Source-4 block.shape-the_row-Source-4 denote.Hole.Carrier.hidden
  source_ranges-Chain first steps scope =
      steps-items _ (block.hidden-the_row-Step-5 steps) (source_ranges contents params first scope) scope ∙ ap (λ xs. after_steps xs (source_ranges contents params first scope) scope) (items_hidden-the_row-Step-5 steps)

  pub chain_typed : (first : Source) (steps : List Step) (scope : Scope) → SourceTyped contents params first scope → AllStepsTyped steps (source_ranges contents params first scope) scope → SourceTyped contents params (Chain first steps) scope
  unfolding block.hidden-the_row-Source-4 block.shape-the_row-Source-4 denote.Hole.Carrier.hidden
  chain_typed first steps scope typed steps_typed = (
    typed,
    steps_typed-items _ (block.hidden-the_row-Step-5 steps) (source_ranges contents params first scope) scope
        (subst (λ xs. AllStepsTyped xs (source_ranges contents params first scope) scope) (sym (items_hidden-the_row-Step-5 steps)) steps_typed),
  )

  pub on_typed : (joining : Joining) (source : Source) (conditions : List Node) (left : Ranges) (scope : Scope) → SourceTyped contents params source scope
      → AllConditions contents params conditions (below scope (InRow (both_ranges left (source_ranges contents params source scope) [])))
      → AllByRecursion (MergedTyped contents left (source_ranges contents params source scope)) joining.merged → StepTyped contents params (On joining source conditions) left scope
  on_typed joining source conditions left scope typed conditions_typed merged_typed =
      (typed, conditions-hidden conditions (below scope (InRow (both_ranges left (source_ranges contents params source scope) []))) conditions_typed, merged_typed)
