-- The sum over a table without rows.
use Rattle.std.proofs.Common.{◌≡◌, ℕ, true, false, ◌&&◌, if◌then◌else◌, List, [], ◌∷◌, map, Option, Some, None, slice_get, refl, ap, sym, subst, ◌∙◌}
use Rattle.sq_catalog.specs.Contents.{Contents}
use Rattle.sq_catalog.specs.declared.table.Table.{Table as CatalogTable}
use Rattle.sq_builtin.specs.Functions.{none, one, two, three, four, five, six, seven, eight, ten, twelve, fourteen, sixteen}
use Rattle.sq_builtin.specs.Operators.{operators}
use Rattle.sq_builtin.specs.Rows.{table}
use Rattle.sq_core.specs.declared.node.Node.{Node}
use Rattle.sq_core.specs.declared.node.Node.TheVariants.{Aggregate, Column}
use Rattle.sq_core.specs.declared.node.Query.TheVariants.{Select as SelectQuery}
use Rattle.sq_core.specs.declared.node.Source.TheVariants.{Table}
use Rattle.sq_core.specs.declared.routine.Aggregation.{Aggregation}
use Rattle.sq_core.specs.declared.routine.Manner.{Manner}
use Rattle.sq_shown.specs.declared.signature.Param.{Param}
use Rattle.sq_core.specs.Aggregates.{aggregated, rows_of}
use Rattle.sq_core.specs.Answer.{Gives, ◌>>=◌, go_on, pure, stuck, all_of}
use Rattle.sq_core.specs.Frames.{Answered, Group, Joined, Setting, enter}
use Rattle.sq_core.specs.Items.{Item, found}
use Rattle.sq_core.specs.Joins.{crossed, kept}
use Rattle.sq_core.specs.Laws.{GivesOneNull, integer, sum}
use Rattle.sq_core.specs.Operations.{Meaning, evaluate}
use Rattle.sq_core.specs.Queries.{alone, drawn_all, nothing_drawn, selected, stored}
use Rattle.sq_core.specs.Routines.{is_routine}
use Rattle.sq_core.specs.Run.{node_run, query_run}
use Rattle.sq_core.specs.Statements.{outermost}
use Rattle.sq_core.specs.Values.{Value, Null, Row, Database}
use Rattle.sq_core.proofs.StoredLemmas.{query_run-Select, runs-hidden}

sum_row : is_routine true sum ≡ true
unfolding is_routine table operators none one two three four five six seven eight ten twelve fourteen sixteen
sum_row = refl

module _ (contents : Contents) (params : List Param) (database : Database) (arguments : List Value) where
  -- the run of an aggregate over lists
  pub node_run-Aggregate : (aggregation : Aggregation) (inputs sorts filters : List Node) (setting : Setting) → node_run contents params database arguments (Aggregate aggregation inputs sorts filters) setting
      ≡ rows_of setting >>= (λ rows. all_of (map (evaluate (map (node_run contents params database arguments) sorts)) rows) >>= (λ sorted. kept (map (node_run contents params database arguments) filters) (λ inner. inner) rows))
      >>= (λ inners. all_of (map (evaluate (map (node_run contents params database arguments) inputs)) inners) >>= aggregated contents aggregation)
  node_run-Aggregate aggregation inputs sorts filters setting = λ i. rows_of setting
      >>= (λ rows. all_of (map (evaluate (runs-hidden contents params database arguments sorts i)) rows) >>= (λ sorted. kept (runs-hidden contents params database arguments filters i) (λ inner. inner) rows))
      >>= (λ inners. all_of (map (evaluate (runs-hidden contents params database arguments inputs i)) inners) >>= aggregated contents aggregation)

module _ (contents : Contents) (database : Database) (table column : ℕ) where
  abbrev summing : Node
  summing = Aggregate (record { routine = sum; distinct = false }) (Column (record { depth = 0; range = 0; column = column }) integer ∷ []) [] []

  abbrev whole : Manner
  whole = record { grouped = true; distinct = false; ordered = false }

  abbrev run_of : Meaning
  run_of = node_run contents [] database [] summing

  -- all rows together, of which there is none
  abbrev nothing : Setting
  nothing = enter outermost (Group [] ([] ∷ []))

  -- the sum over no row takes no item
  sum_null : (oracle : List Item) → run_of nothing oracle ≡ Gives Null oracle
  sum_null oracle =
      (λ i. node_run-Aggregate contents [] database [] (record { routine = sum; distinct = false }) (Column (record { depth = 0; range = 0; column = column }) integer ∷ []) [] [] nothing i oracle)
      ∙ subst (λ b. (if b && true then pure Null else stuck) oracle ≡ Gives Null oracle) (sym sum_row) refl

  abbrev one_null : Answered
  one_null = record { blank = Null ∷ []; rows = (Null ∷ []) ∷ [] }

  selected_null : (blank : Joined) (oracle : List Item) → selected whole [] [] [] (run_of ∷ []) [] outermost (record { blank = blank; rows = [] }) oracle ≡ Gives one_null oracle
  selected_null blank oracle =
      ap (λ answer. go_on (go_on (go_on answer (λ value. pure (value ∷ []))) (λ row. pure (row ∷ []))) (λ (rows : List Row). pure (record { blank = Null ∷ []; rows = rows }))) (sum_null oracle)

  drawn_null : (t : Option CatalogTable) (rows : Option (List Row)) (oracle : List Item) → rows ≡ Some []
      → (found rows >>= (λ rows. pure (alone (stored t rows))) >>= (λ left. drawn_all [] outermost >>= (λ right. pure (crossed left right))) >>= selected whole [] [] [] (run_of ∷ []) [] outermost) oracle
      ≡ Gives one_null oracle
  drawn_null (Some t) rows oracle same =
      ap (λ rs. (found rs >>= (λ rows. pure (alone (stored (Some t) rows))) >>= (λ left. drawn_all [] outermost >>= (λ right. pure (crossed left right))) >>= selected whole [] [] [] (run_of ∷ []) [] outermost) oracle) same
      ∙ selected_null (crossed (alone (stored (Some t) [])) nothing_drawn).blank oracle
  drawn_null None rows oracle same =
      ap (λ rs. (found rs >>= (λ rows. pure (alone (stored None rows))) >>= (λ left. drawn_all [] outermost >>= (λ right. pure (crossed left right))) >>= selected whole [] [] [] (run_of ∷ []) [] outermost) oracle) same
      ∙ selected_null (crossed (alone (stored None [])) nothing_drawn).blank oracle

  query_null : (oracle : List Item) → slice_get database table ≡ Some [] → query_run contents [] database [] (SelectQuery whole (Table table ∷ []) [] [] [] (summing ∷ []) []) outermost oracle ≡ Gives one_null oracle
  query_null oracle same =
      (λ i. query_run-Select contents [] database [] whole (Table table ∷ []) [] [] [] (summing ∷ []) [] outermost i oracle)
      ∙ drawn_null (slice_get contents.tables table) (slice_get database table) oracle same

pub nothing_summed : (contents : Contents) (database : Database) (table column : ℕ) → slice_get database table ≡ Some [] → GivesOneNull contents database table column
nothing_summed contents database table column same language oracle =
    ap (λ answer. go_on answer (λ (answered : Answered). pure (record { rows = answered.rows; database = database }))) (query_null contents database table column oracle same)
