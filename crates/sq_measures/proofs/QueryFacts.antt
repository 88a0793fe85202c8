-- The facts of the parts of a query, and of a query by them.
use Rattle.std.proofs.Common.{◌≡◌, ℕ, List, [], ◌∷◌, Option, Some, None, refl, ap, ◌∙◌, map}
use Rattle.std.specs.Prelude.{option_map}
use Rattle.sq_base.specs.declared.place.Place.{Place}
use Rattle.sq_syntax.specs.declared.expr.Node.{Node}
use Rattle.sq_syntax.specs.declared.expr.Sort.{Sort as SortItem}
use Rattle.sq_syntax.specs.declared.expr.Expression.TheOpen.{Query-F, Select-F}
use Rattle.sq_syntax.specs.declared.query.Factor.{Factor}
use Rattle.sq_syntax.specs.declared.query.From.{From}
use Rattle.sq_syntax.specs.declared.query.Query.{Query}
use Rattle.sq_syntax.specs.declared.query.With.{With}
use Rattle.sq_syntax.specs.declared.query.Operands.{Operands}
use Rattle.sq_syntax.specs.declared.query.Distinctness.{Distinctness}
use Rattle.sq_syntax.specs.declared.query.Distinctness.TheVariants as distinctness
use Rattle.sq_syntax.specs.declared.query.Output.{Output}
use Rattle.sq_syntax.specs.declared.query.Output.TheVariants as output
use Rattle.sq_syntax.specs.declared.query.Limit.{Limit}
use Rattle.sq_syntax.specs.declared.query.Limit.TheVariants as limit
use Rattle.sq_syntax.specs.declared.query.Offset.{Offset}
use Rattle.sq_syntax.specs.declared.query.Lock.{Lock}
use Rattle.sq_syntax.specs.Facts.{Facts}
use Rattle.sq_syntax.specs.Pieces.{Placed, Operand}
use Rattle.sq_syntax.specs.Grammar.{factor_facts, from_facts, query_facts}
use Rattle.sq_measures.specs.Parts.{operands_facts}
use Rattle.sq_measures.proofs.Layers.{QueryLayer, SelectLayer, query_parts, select_parts}
use Rattle.sq_measures.proofs.WeightTrees.{Expr, facts_of, sort_facts}

abbrev pub output_form : Output Expr → Output Operand
output_form output.Star = output.Star
output_form (output.StarOf x) = output.StarOf x
output_form (output.Value x last) = output.Value (facts_of x) last

abbrev pub output_facts : Node (Output Expr) → Node (Output Operand)
output_facts x = record { place = x.place; first = x.first; last = x.last; form = output_form x.form }

abbrev pub distinct_facts : Distinctness Expr → Distinctness Operand
distinct_facts distinctness.Unsaid = distinctness.Unsaid
distinct_facts distinctness.All = distinctness.All
distinct_facts distinctness.Distinct = distinctness.Distinct
distinct_facts (distinctness.On xs) = distinctness.On (map facts_of xs)

abbrev pub with_facts : With Query → With Facts
with_facts x = record { name = x.name; columns = x.columns; materialized = x.materialized; query = query_facts x.query }

abbrev pub body_facts : Operands (Operands Factor) → Operands (Operands Facts)
body_facts = operands_facts (operands_facts factor_facts)

abbrev pub limit_facts : Option (Limit Expr) → Option (Limit Operand)
limit_facts None = None
limit_facts (Some limit.All) = Some limit.All
limit_facts (Some (limit.Count x)) = Some (limit.Count (facts_of x))

abbrev pub offset_facts : Option (Offset Expr) → Option (Offset Operand)
offset_facts None = None
offset_facts (Some x) = Some (record { count = facts_of x.count; word = x.word })

-- ---- a query

abbrev query_of : Place → ℕ → ℕ → List (With Query) → Operands (Operands Factor) → List (SortItem Expr) → Option (Limit Expr) → Option (Offset Expr) → List Lock → QueryLayer
query_of place first last with body order limited offset locks = record { place = place; first = first; last = last; with = with; body = body; order = order; limit = limited; offset = offset; locks = locks }

abbrev pub query_with : Place → ℕ → ℕ → List (With Query) → Operands (Operands Factor) → List (SortItem Expr) → Option (Limit Expr) → Option (Offset Expr) → List Lock → Query-F Placed Facts Facts Facts Facts Facts Facts
query_with place first last with body order limited offset locks = record {
  place = place;
  first = first;
  last = last;
  with = map with_facts with;
  body = body_facts body;
  order = map sort_facts order;
  limit = limit_facts limited;
  offset = offset_facts offset;
  locks = locks;
}

query_parts_are : (place : Place) (first last : ℕ) (with : List (With Query)) (body : Operands (Operands Factor)) (order : List (SortItem Expr)) (limited : Option (Limit Expr)) (offset : Option (Offset Expr)) (locks : List Lock)
    → query_parts (query_of place first last with body order limited offset locks) ≡ query_with place first last with body order limited offset locks
query_parts_are place first last with body order None None locks = refl
query_parts_are place first last with body order (Some limit.All) None locks = refl
query_parts_are place first last with body order (Some (limit.Count x)) None locks = refl
query_parts_are place first last with body order None (Some y) locks = refl
query_parts_are place first last with body order (Some limit.All) (Some y) locks = refl
query_parts_are place first last with body order (Some (limit.Count x)) (Some y) locks = refl

pub query_parts_of : (l : QueryLayer) → query_parts l ≡ query_with l.place l.first l.last l.with l.body l.order l.limit l.offset l.locks
query_parts_of l = query_parts_are l.place l.first l.last l.with l.body l.order l.limit l.offset l.locks

-- ---- SELECT

abbrev select_of : Distinctness Expr → List (Node (Output Expr)) → List From → Option Expr → List Expr → Option Expr → SelectLayer
select_of distinct outputs from condition group having = record { distinct = distinct; outputs = outputs; from = from; condition = condition; group = group; having = having }

first_output : (place : Place) (first last : ℕ) (form : Output Expr) (outputs : List (Node (Output Expr))) (from : List From) (group : List Expr)
    → (select_parts (select_of distinctness.Unsaid (record { place = place; first = first; last = last; form = form } ∷ outputs) from None group None)).outputs
    ≡ output_facts (record { place = place; first = first; last = last; form = form }) ∷ (select_parts (select_of distinctness.Unsaid outputs from None group None)).outputs
first_output place first last output.Star outputs from group = refl
first_output place first last (output.StarOf x) outputs from group = refl
first_output place first last (output.Value x y) outputs from group = refl

outputs_are : (outputs : List (Node (Output Expr))) (from : List From) (group : List Expr) → (select_parts (select_of distinctness.Unsaid outputs from None group None)).outputs ≡ map output_facts outputs
outputs_are [] from group = refl
outputs_are (x ∷ outputs) from group = first_output x.place x.first x.last x.form outputs from group ∙ ap (λ others. output_facts x ∷ others) (outputs_are outputs from group)

distinct_is : (x : Distinctness Expr) (outputs : List (Node (Output Expr))) (from : List From) (condition : Option Expr) (group : List Expr) (having : Option Expr) → (select_parts (select_of x outputs from condition group having)).distinct ≡ distinct_facts x
distinct_is distinctness.Unsaid outputs from condition group having = refl
distinct_is distinctness.All outputs from condition group having = refl
distinct_is distinctness.Distinct outputs from condition group having = refl
distinct_is (distinctness.On xs) outputs from condition group having = refl

condition_is : (x : Distinctness Expr) (outputs : List (Node (Output Expr))) (from : List From) (condition : Option Expr) (group : List Expr) (having : Option Expr) → (select_parts (select_of x outputs from condition group having)).condition ≡ option_map facts_of condition
condition_is x outputs from None group having = refl
condition_is x outputs from (Some y) group having = refl

having_is : (x : Distinctness Expr) (outputs : List (Node (Output Expr))) (from : List From) (condition : Option Expr) (group : List Expr) (having : Option Expr) → (select_parts (select_of x outputs from condition group having)).having ≡ option_map facts_of having
having_is x outputs from condition group None = refl
having_is x outputs from condition group (Some y) = refl

abbrev pub select_with : Distinctness Expr → List (Node (Output Expr)) → List From → Option Expr → List Expr → Option Expr → Select-F Placed Facts Facts Facts Facts Facts Facts
select_with distinct outputs from condition group having = record {
  distinct = distinct_facts distinct;
  outputs = map output_facts outputs;
  from = map from_facts from;
  condition = option_map facts_of condition;
  group = map facts_of group;
  having = option_map facts_of having;
}

select_parts_are : (distinct : Distinctness Expr) (outputs : List (Node (Output Expr))) (from : List From) (condition : Option Expr) (group : List Expr) (having : Option Expr)
    → select_parts (select_of distinct outputs from condition group having) ≡ select_with distinct outputs from condition group having
select_parts_are distinct outputs from condition group having =
    let d = distinct_is distinct outputs from condition group having in
    let c = condition_is distinct outputs from condition group having in
    let h = having_is distinct outputs from condition group having in
    ap (λ x. record { distinct = x; outputs = (select_parts (select_of distinct outputs from condition group having)).outputs; from = map from_facts from; condition = (select_parts (select_of distinct outputs from condition group having)).condition; group = map facts_of group; having = (select_parts (select_of distinct outputs from condition group having)).having }) d
    ∙ ap (λ x. record { distinct = distinct_facts distinct; outputs = x; from = map from_facts from; condition = (select_parts (select_of distinct outputs from condition group having)).condition; group = map facts_of group; having = (select_parts (select_of distinct outputs from condition group having)).having }) (outputs_are outputs from group)
    ∙ ap (λ x. record { distinct = distinct_facts distinct; outputs = map output_facts outputs; from = map from_facts from; condition = x; group = map facts_of group; having = (select_parts (select_of distinct outputs from condition group having)).having }) c
    ∙ ap (λ x. record { distinct = distinct_facts distinct; outputs = map output_facts outputs; from = map from_facts from; condition = option_map facts_of condition; group = map facts_of group; having = x }) h

pub select_parts_of : (l : SelectLayer) → select_parts l ≡ select_with l.distinct l.outputs l.from l.condition l.group l.having
select_parts_of l = select_parts_are l.distinct l.outputs l.from l.condition l.group l.having
