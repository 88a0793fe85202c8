-- What a query gives on a database: a total function, where the oracle says what the server computes.
use Rattle.std.specs.Prelude.{ℕ, false, ◌==◌, if◌then◌else◌, List, [], ◌∷◌, map, slice_get}
use Rattle.sq_base.specs.declared.types.PgType.{PgType}
use Rattle.sq_catalog.specs.Contents.{Contents}
use Rattle.sq_core.specs.declared.node.Node.{Node, Constant, Null, Param as ParamNode, Column, Apply', Subquery', Aggregate', Row_of-Node, end_of-Node, more_of-Node, Row_of-Query, end_of-Query, more_of-Query}
use Rattle.sq_core.specs.declared.node.Query.{Query, Select', Combined', With', Limited'}
use Rattle.sq_core.specs.declared.node.Source.{Source, Table, Common, Derived', Chain', Row_of-Source, end_of-Source, more_of-Source, Row_of-Step, end_of-Step, more_of-Step}
use Rattle.sq_core.specs.declared.node.Step.{Step, Cross, On'}
use Rattle.sq_shown.specs.declared.signature.Param.{Param}
use Rattle.sq_core.specs.Aggregates.{aggregated, asked, rows_of}
use Rattle.sq_core.specs.Answer.{◌>>=◌, pure, stuck, all_of}
use Rattle.sq_core.specs.Frames.{Setting, Drawn, value_at}
use Rattle.sq_core.specs.Items.{Run, expecting, found, item_of}
use Rattle.sq_core.specs.Joins.{QueryMeaning, crossed, joined, kept}
use Rattle.sq_core.specs.Operations.{Meaning, apply, evaluate, expect}
use Rattle.sq_core.specs.Queries.{SourceMeaning, alone, combined, drawn_all, limited, selected, stored, with_queries}
use Rattle.sq_core.specs.Typing.{stands_as}
use Rattle.sq_core.specs.Values.{Value, Null as null, Database, kind_of, tag}

-- the argument of a parameter, where its type may stand as this one
abbrev pub argument : Contents → ℕ → PgType → List Param → List Value → Run Value
argument contents number of (param ∷ params) (value ∷ values) =
    if param.number == number then expecting (stands_as contents param.of of) (pure value)
    else argument contents number of params values
argument contents number of _ _ = stuck

module _ (contents : Contents) (params : List Param) (database : Database) (arguments : List Value) where
  abbrev mutual
    pub node_run : Node → Meaning
    node_run (Constant reading of) setting = item_of (kind_of contents of false)
    node_run (Null of) setting = pure null
    node_run (ParamNode number of) setting = argument contents number of params arguments
    node_run (Column slot of) setting = found (value_at setting slot) >>= expect (tag contents of)
    node_run (Apply' operation _ operands) setting = apply contents operation (node_runs operands) setting
    node_run (Subquery' inner _ operands _ (more_of-Query query end_of-Query)) setting =
        evaluate (node_runs operands) setting
        >>= (λ values. query_run query setting >>= (λ answered. asked contents inner values answered))
    node_run (Aggregate' aggregation _ arguments' _ sorts _ filters) setting =
        rows_of setting >>= (λ rows. all_of (map (evaluate (node_runs sorts)) rows)
        >>= (λ sorted. kept (node_runs filters) (λ inner. inner) rows))
        >>= (λ inners. all_of (map (evaluate (node_runs arguments')) inners) >>= aggregated contents aggregation)

    pub node_runs : {n : _} → Row_of-Node n → List Meaning
    node_runs end_of-Node = []
    node_runs (more_of-Node node rest) = node_run node ∷ node_runs rest

    pub query_run : Query → QueryMeaning
    query_run (Select' manner _ from _ conditions _ groups _ having _ outputs _ keys) setting =
        drawn_all (source_runs from) setting
        >>= selected manner (node_runs conditions) (node_runs groups) (node_runs having) (node_runs outputs)
        (node_runs keys) setting
    query_run (Combined' links _ queries) setting = combined links contents (query_runs queries) setting
    query_run (With' _ queries _ (more_of-Query body end_of-Query)) setting = with_queries (query_runs queries) setting
        >>= query_run body
    query_run (Limited' ordered _ (more_of-Query query end_of-Query) _ keys _ limits) setting =
        query_run query setting >>= limited ordered (node_runs keys) (node_runs limits) setting

    pub query_runs : {n : _} → Row_of-Query n → List QueryMeaning
    query_runs end_of-Query = []
    query_runs (more_of-Query query rest) = query_run query ∷ query_runs rest

    pub source_run : Source → SourceMeaning
    source_run (Table table) setting = found (slice_get database table)
        >>= (λ rows. pure (alone (stored (slice_get contents.tables table) rows)))
    source_run (Common common) setting = found (slice_get setting.commons common)
        >>= (λ answered. pure (alone answered))
    source_run (Derived' _ (more_of-Query query end_of-Query)) setting = query_run query setting
        >>= (λ answered. pure (alone answered))
    source_run (Chain' _ (more_of-Source first end_of-Source) _ steps) setting = source_run first setting
        >>= steps_run steps setting

    pub source_runs : {n : _} → Row_of-Source n → List SourceMeaning
    source_runs end_of-Source = []
    source_runs (more_of-Source source rest) = source_run source ∷ source_runs rest

    pub step_run : Step → Setting → Drawn → Run Drawn
    step_run (Cross source) setting left = source_run source setting >>= (λ right. pure (crossed left right))
    step_run (On' joining source _ conditions) setting left = source_run source setting
        >>= joined contents joining (node_runs conditions) setting left

    pub steps_run : {n : _} → Row_of-Step n → Setting → Drawn → Run Drawn
    steps_run end_of-Step setting left = pure left
    steps_run (more_of-Step step rest) setting left = step_run step setting left >>= steps_run rest setting
