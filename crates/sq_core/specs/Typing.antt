-- The tag and the mark of each part of a query, and which queries are typed.
use Rattle.std.specs.Prelude.{◌≡◌, ℕ, Bool, true, false, ◌&&◌, ◌||◌, ◌==◌, if◌then◌else◌, List, [], ◌∷◌, map, Option, Some, None, slice_get, unwrap_or, IsSomeAnd, IsSome, ⊤}
use Rattle.std.specs.List.{AllByRecursion}
use Rattle.sq_base.specs.declared.types.PgType.{PgType}
use Rattle.sq_catalog.specs.Contents.{Contents}
use Rattle.sq_core.specs.declared.node.Node.{Node, Constant, Null, Param as ParamNode, Column, Apply', Subquery', Aggregate', Row_of-Node, end_of-Node, more_of-Node, Row_of-Query, end_of-Query, more_of-Query}
use Rattle.sq_core.specs.declared.node.Query.{Query, Select', Combined', With', Limited'}
use Rattle.sq_core.specs.declared.node.Source.{Source, Table, Common, Derived', Chain', Row_of-Source, end_of-Source, more_of-Source, Row_of-Step, end_of-Step, more_of-Step}
use Rattle.sq_core.specs.declared.node.Step.{Step, Cross, On'}
use Rattle.sq_core.specs.declared.routine.Manner.{Manner}
use Rattle.sq_core.specs.declared.routine.Operation.{Operation}
use Rattle.sq_core.specs.declared.routine.Operation.TheVariants.{NullTest}
use Rattle.sq_shown.specs.declared.signature.Param.{Param}
use Rattle.sq_core.specs.Aggregates.{AggregateTyped, HasGroups, InnerTyped, aggregate_mark, inner_kind, may_be_empty, row_scope}
use Rattle.sq_core.specs.Frames.{InRow, Ranges, Scope, below, kind_at, one_range, both_ranges}
use Rattle.sq_core.specs.Joins.{MergedTyped, joined_ranges, nullable_in}
use Rattle.sq_core.specs.Operations.{AllOf, OperationTyped, operation_kind}
use Rattle.sq_core.specs.Queries.{CombinedTyped, all_sides, combined_kinds, Grouping, grouping_of, is_written, kinds_in, level_of, seen_kinds}
use Rattle.sq_catalog.specs.UserTypes.{base}
use Rattle.sq_core.specs.Values.{Kind, Tag, kind_of, tag, is_unknown, same_type, truth_tag, bigint_tag}

-- the parameter of a number
abbrev pub param_of : ℕ → List Param → Option Param
param_of number [] = None
param_of number (param ∷ params) = if param.number == number then Some param else param_of number params

-- a parameter's mark is that of its entry; one of unknown type, which stands under a null test alone, may always be
-- null
abbrev pub param_mark : Tag → Option Param → Bool
param_mark of (Some param) = param.nullable || is_unknown of
param_mark of None = true

-- whether a parameter of one type may stand as one of another: the other is unknown, or is the same behind domains
abbrev pub stands_as : Contents → PgType → PgType → Bool
stands_as contents of wanted = is_unknown (tag contents wanted) || same_type (base contents of) (base contents wanted)

-- whether a node is written
abbrev pub any_node : {n : _} → Row_of-Node n → Bool
any_node end_of-Node = false
any_node (more_of-Node node rest) = true

-- what the outputs of a SELECT are evaluated in
abbrev pub grouping : {n m : _} → Manner → Row_of-Node n → Row_of-Node m → Grouping
grouping manner groups having = grouping_of manner.grouped (any_node groups) (any_node having)

abbrev pub is_param : Node → Bool
is_param (ParamNode number of) = true
is_param _ = false

abbrev pub is_null_test : Operation → Bool
is_null_test (NullTest negated) = true
is_null_test _ = false

-- one of two types
abbrev pub choice : Bool → Type 0 → Type 0 → Type 0
choice true A B = A
choice false A B = B

module _ (contents : Contents) (params : List Param) where
  abbrev mutual
    -- the tag and the mark of an expression
    pub node_kind : Node → Scope → Kind
    node_kind (Constant reading of) scope = kind_of contents of false
    node_kind (Null of) scope = kind_of contents of true
    node_kind (ParamNode number of) scope = kind_of contents of (param_mark (tag contents of) (param_of number params))
    node_kind (Column slot of) scope = kind_of contents of (nullable_in (kind_at scope slot))
    node_kind (Apply' operation _ operands) scope = operation_kind contents operation (node_kinds operands scope)
    node_kind (Subquery' inner _ operands _ (more_of-Query query end_of-Query)) scope =
        inner_kind contents inner (node_kinds operands scope) (query_kinds query scope)
    node_kind (Aggregate' aggregation _ arguments _ sorts _ filters) scope =
        kind_of contents aggregation.routine.of
        (aggregate_mark aggregation (may_be_empty scope.levels) (is_written (node_kinds filters (row_scope scope)))
        (node_kinds arguments (row_scope scope)))

    pub node_kinds : {n : _} → Row_of-Node n → Scope → List Kind
    node_kinds end_of-Node scope = []
    node_kinds (more_of-Node node rest) scope = node_kind node scope ∷ node_kinds rest scope

    -- the columns of a query
    pub query_kinds : Query → Scope → List Kind
    query_kinds (Select' manner _ from _ conditions _ groups _ having _ outputs _ keys) scope =
        node_kinds outputs (below scope (level_of (grouping manner groups having) (all_sides (sides from scope))))
    query_kinds (Combined' links _ queries) scope = combined_kinds contents links (all_kinds queries scope)
    query_kinds (With' _ queries _ (more_of-Query body end_of-Query)) scope =
        query_kinds body (with_scope queries scope)
    query_kinds (Limited' ordered _ (more_of-Query query end_of-Query) _ keys _ limits) scope = query_kinds query scope

    pub all_kinds : {n : _} → Row_of-Query n → Scope → List (List Kind)
    all_kinds end_of-Query scope = []
    all_kinds (more_of-Query query rest) scope = query_kinds query scope ∷ all_kinds rest scope

    -- what sees the queries of WITH
    pub with_scope : {n : _} → Row_of-Query n → Scope → Scope
    with_scope end_of-Query scope = scope
    with_scope (more_of-Query query rest) scope = with_scope rest (seen_kinds scope (query_kinds query scope))

    -- the ranges of a source
    pub source_ranges : Source → Scope → Ranges
    source_ranges (Table table) scope = one_range (kinds_in contents (slice_get contents.tables table))
    source_ranges (Common common) scope = one_range (unwrap_or (slice_get scope.commons common) [])
    source_ranges (Derived' _ (more_of-Query query end_of-Query)) scope = one_range (query_kinds query scope)
    source_ranges (Chain' _ (more_of-Source first end_of-Source) _ steps) scope =
        steps_ranges steps (source_ranges first scope) scope

    pub step_ranges : Step → Ranges → Scope → Ranges
    step_ranges (Cross source) left scope = both_ranges left (source_ranges source scope) []
    step_ranges (On' joining source _ conditions) left scope =
        joined_ranges contents joining left (source_ranges source scope)

    pub steps_ranges : {n : _} → Row_of-Step n → Ranges → Scope → Ranges
    steps_ranges end_of-Step left scope = left
    steps_ranges (more_of-Step step rest) left scope = steps_ranges rest (step_ranges step left scope) scope

    pub sides : {n : _} → Row_of-Source n → Scope → List Ranges
    sides end_of-Source scope = []
    sides (more_of-Source source rest) scope = source_ranges source scope ∷ sides rest scope

  -- there is a parameter of this number, and its type may stand as this one
  abbrev pub ParamStands : ℕ → PgType → Type 0
  ParamStands number of = IsSomeAnd (param_of number params) (λ param. stands_as contents param.of of ≡ true)

  -- a parameter, whose type may be unknown
  abbrev pub LooseTyped : Node → Type 0
  LooseTyped (ParamNode number of) = ParamStands number of
  LooseTyped _ = ⊥

  abbrev mutual
    pub NodeTyped : Node → Scope → Type 0
    NodeTyped (Constant reading of) scope = is_unknown (tag contents of) ≡ false
    NodeTyped (Null of) scope = is_unknown (tag contents of) ≡ false
    NodeTyped (ParamNode number of) scope = (is_unknown (tag contents of) ≡ false) × ParamStands number of
    NodeTyped (Column slot of) scope = IsSomeAnd (kind_at scope slot) (λ k. k.of ≡ tag contents of)
    NodeTyped (Apply' operation _ operands) scope = OperandsTyped (is_null_test operation) operands scope
        × OperationTyped contents operation (node_kinds operands scope)
    NodeTyped (Subquery' inner _ operands _ (more_of-Query query end_of-Query)) scope =
        NodesTyped operands scope × QueryTyped query scope
        × InnerTyped contents inner (node_kinds operands scope) (query_kinds query scope)
    NodeTyped (Aggregate' aggregation _ arguments _ sorts _ filters) scope =
        HasGroups scope.levels × NodesTyped arguments (row_scope scope) × NodesTyped sorts (row_scope scope)
        × ConditionsTyped filters (row_scope scope)
        × AggregateTyped contents aggregation (map (λ k. k.of) (node_kinds arguments (row_scope scope)))

    pub NodesTyped : {n : _} → Row_of-Node n → Scope → Type 0
    NodesTyped end_of-Node scope = ⊤
    NodesTyped (more_of-Node node rest) scope = NodeTyped node scope × NodesTyped rest scope

    -- operands; a parameter of unknown type stands under a null test alone
    pub OperandsTyped : {n : _} → Bool → Row_of-Node n → Scope → Type 0
    OperandsTyped tested end_of-Node scope = ⊤
    OperandsTyped tested (more_of-Node node rest) scope =
        choice (tested && is_param node) (LooseTyped node) (NodeTyped node scope) × OperandsTyped tested rest scope

    -- truth values
    pub ConditionsTyped : {n : _} → Row_of-Node n → Scope → Type 0
    ConditionsTyped end_of-Node scope = ⊤
    ConditionsTyped (more_of-Node node rest) scope = NodeTyped node scope × ((node_kind node scope).of ≡ truth_tag)
        × ConditionsTyped rest scope

    pub QueryTyped : Query → Scope → Type 0
    QueryTyped (Select' manner _ from _ conditions _ groups _ having _ outputs _ keys) scope =
        let ranges = all_sides (sides from scope) in
        SourcesTyped from scope × ConditionsTyped conditions (below scope (InRow ranges))
        × NodesTyped groups (below scope (InRow ranges))
        × ConditionsTyped having (below scope (level_of (grouping manner groups having) ranges))
        × NodesTyped outputs (below scope (level_of (grouping manner groups having) ranges))
        × NodesTyped keys (below scope (level_of (grouping manner groups having) ranges))
    QueryTyped (Combined' links _ queries) scope = QueriesTyped queries scope
        × CombinedTyped contents links (all_kinds queries scope)
    QueryTyped (With' _ queries _ (more_of-Query body end_of-Query)) scope = WithTyped queries scope
        × QueryTyped body (with_scope queries scope)
    QueryTyped (Limited' ordered _ (more_of-Query query end_of-Query) _ keys _ limits) scope =
        QueryTyped query scope × NodesTyped keys scope × NodesTyped limits scope
        × AllOf bigint_tag (node_kinds limits scope)

    pub QueriesTyped : {n : _} → Row_of-Query n → Scope → Type 0
    QueriesTyped end_of-Query scope = ⊤
    QueriesTyped (more_of-Query query rest) scope = QueryTyped query scope × QueriesTyped rest scope

    -- each sees those before it
    pub WithTyped : {n : _} → Row_of-Query n → Scope → Type 0
    WithTyped end_of-Query scope = ⊤
    WithTyped (more_of-Query query rest) scope = QueryTyped query scope
        × WithTyped rest (seen_kinds scope (query_kinds query scope))

    pub SourceTyped : Source → Scope → Type 0
    SourceTyped (Table table) scope = IsSome (slice_get contents.tables table)
    SourceTyped (Common common) scope = IsSome (slice_get scope.commons common)
    SourceTyped (Derived' _ (more_of-Query query end_of-Query)) scope = QueryTyped query scope
    SourceTyped (Chain' _ (more_of-Source first end_of-Source) _ steps) scope = SourceTyped first scope
        × StepsTyped steps (source_ranges first scope) scope

    -- ON sees the two sides of its join
    pub StepTyped : Step → Ranges → Scope → Type 0
    StepTyped (Cross source) left scope = SourceTyped source scope
    StepTyped (On' joining source _ conditions) left scope =
        SourceTyped source scope
        × ConditionsTyped conditions (below scope (InRow (both_ranges left (source_ranges source scope) [])))
        × AllByRecursion (MergedTyped contents left (source_ranges source scope)) joining.merged

    pub StepsTyped : {n : _} → Row_of-Step n → Ranges → Scope → Type 0
    StepsTyped end_of-Step left scope = ⊤
    StepsTyped (more_of-Step step rest) left scope = StepTyped step left scope
        × StepsTyped rest (step_ranges step left scope) scope

    pub SourcesTyped : {n : _} → Row_of-Source n → Scope → Type 0
    SourcesTyped end_of-Source scope = ⊤
    SourcesTyped (more_of-Source source rest) scope = SourceTyped source scope × SourcesTyped rest scope
