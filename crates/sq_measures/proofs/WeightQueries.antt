-- The facts of a query, by those of its parts.
use Rattle.std.proofs.Common.{◌≡◌, ℕ, Bool, true, false, List, [], ◌∷◌, ◌++◌, Option, Some, None, refl, sym, ap, subst, map, arith}
use Rattle.std.specs.Prelude.{flat_map, option_map, if◌then◌else◌, max}
use Rattle.sq_syntax.specs.declared.symbol.Symbol.{Symbol}
use Rattle.sq_syntax.specs.declared.symbol.Symbol.TheVariants as s
use Rattle.sq_syntax.specs.declared.name.Identifier.{Identifier}
use Rattle.sq_syntax.specs.declared.expr.Node.{Node}
use Rattle.sq_syntax.specs.declared.expr.Expression.TheOpen.{Factor-F, Join-F, Source-F}
use Rattle.sq_syntax.specs.declared.query.Factor.{Factor}
use Rattle.sq_syntax.specs.declared.query.Join.{Join}
use Rattle.sq_syntax.specs.declared.query.From.{From}
use Rattle.sq_syntax.specs.declared.query.Source.{Source}
use Rattle.sq_syntax.specs.declared.query.Query.{Query}
use Rattle.sq_syntax.specs.declared.query.Alias.{Alias}
use Rattle.sq_syntax.specs.declared.query.JoinKind.{JoinKind}
use Rattle.sq_syntax.specs.declared.query.JoinKind.TheVariants as join_kind
use Rattle.sq_syntax.specs.declared.query.Matched.TheVariants as matched
use Rattle.sq_syntax.specs.declared.query.With.{With}
use Rattle.sq_syntax.specs.declared.query.Materialized.{Materialized}
use Rattle.sq_syntax.specs.declared.query.Materialized.TheVariants as materialized
use Rattle.sq_syntax.specs.declared.query.Operands.{Operands}
use Rattle.sq_syntax.specs.declared.query.SetLink.{SetLink}
use Rattle.sq_syntax.specs.declared.query.Quantity.{Quantity}
use Rattle.sq_syntax.specs.declared.query.Quantity.TheVariants as quantity
use Rattle.sq_syntax.specs.declared.query.Distinctness.{Distinctness}
use Rattle.sq_syntax.specs.declared.query.Distinctness.TheVariants as distinctness
use Rattle.sq_syntax.specs.declared.query.Output.{Output}
use Rattle.sq_syntax.specs.declared.query.Output.TheVariants as output
use Rattle.sq_syntax.specs.declared.query.Label.{Label}
use Rattle.sq_syntax.specs.declared.query.Label.TheVariants as label
use Rattle.sq_syntax.specs.declared.query.Limit.{Limit}
use Rattle.sq_syntax.specs.declared.query.Limit.TheVariants as limit
use Rattle.sq_syntax.specs.declared.query.Offset.{Offset}
use Rattle.sq_syntax.specs.declared.query.RowWord.{RowWord}
use Rattle.sq_syntax.specs.declared.query.RowWord.TheVariants as row_word
use Rattle.sq_syntax.specs.declared.query.Lock.{Lock}
use Rattle.sq_syntax.specs.declared.query.Strength.{Strength}
use Rattle.sq_syntax.specs.declared.query.Strength.TheVariants as strength
use Rattle.sq_syntax.specs.declared.query.Waiting.{Waiting}
use Rattle.sq_syntax.specs.declared.query.Waiting.TheVariants as waiting
use Rattle.sq_syntax.specs.Facts.{Mark, Facts, Piece, Sort, most, numbered}
use Rattle.sq_syntax.specs.Pieces as p
use Rattle.sq_syntax.specs.Pieces.{sym as word, at}
use Rattle.sq_syntax.specs.ExpressionPieces as g
use Rattle.sq_syntax.specs.QueryPieces as f
use Rattle.sq_syntax.specs.QueryPieces.{source_layer, join_layer, from_layer, select_layer, factor_layer, query_layer}
use Rattle.sq_syntax.specs.Grammar.{factor_facts, join_facts, from_facts, query_facts, select_facts}
use Rattle.sq_measures.specs.Parts.{Tree, Groups, single, optional, expressions, limit_tree, offset_tree, output_tree, distinct_group, query_groups, operand_groups, factor_groups, select_groups, from_groups, join_groups, source_groups, link_facts, operands_facts, source_node}
use Rattle.sq_measures.proofs.Layers.{FactorLayer, JoinLayer, SourceLayer, FromLayer, QueryLayer, SelectLayer, factor_parts, join_parts, source_parts, from_parts, query_parts, select_parts}
use Rattle.sq_measures.proofs.QueryFacts.{output_form, output_facts, distinct_facts, with_facts, body_facts, limit_facts, offset_facts, query_with, query_parts_of, select_with, select_parts_of}
use Rattle.sq_measures.proofs.Weights.{Weighs, Grown, nil, none, placed, asked, part, append, each, all, items, grown}
use Rattle.sq_measures.proofs.WeightNames as parts
use Rattle.sq_measures.proofs.WeightNames.{says}
use Rattle.sq_measures.proofs.WeightTrees.{Expr, facts_of, sort_facts, tree, query, no_tree, list, order}

alias_name : (x : Identifier) (c : Bool) → Weighs (if c then word s.As ∷ p.name x else p.bare_name x) []
alias_name x true = says s.As (parts.name x)
alias_name x false = parts.bare_name x

alias : (x : Alias) → Weighs (f.alias x) []
alias x = append (if x.has_as then word s.As ∷ p.name x.name else p.bare_name x.name) (p.bracketed_names x.columns) (alias_name x.name x.has_as) (parts.bracketed_names x.columns)

optional_alias : (x : Option Alias) → Weighs (f.optional_alias x) []
optional_alias None = nil
optional_alias (Some x) = alias x

pub source_grown : (l : SourceLayer) → Grown (source_layer (source_parts l)) (source_groups l) 0
source_grown (Source-F.Table x called) = grown Sort.plain 0 0 _ (append (p.qualified_name x) (f.optional_alias called) (parts.qualified x) (optional_alias called))
source_grown (Source-F.Derived x called) = grown Sort.plain 0 0 _ (says s.Open (query x (says s.Close (alias called))))
source_grown (Source-F.Grouped x) = grown Sort.plain 0 0 _ (says s.Open (part 0 (from_facts x) (Tree.from x) (λ of. refl) (says s.Close nil)))

begun : {ps : List Piece} {gs : Groups} (x : Node Source) → Weighs ps gs → Weighs (p.whole (f.begun (source_node x)) ∷ ps) (single (Tree.source x) ∷ gs)
begun x w = part 0 (f.begun (source_node x)) (Tree.source x) (λ of. refl) w

join_words : (x : JoinKind) → Weighs (f.join_words x) []
join_words join_kind.Unsaid = says s.Join nil
join_words join_kind.Inner = says s.Inner (says s.Join nil)
join_words join_kind.Left = says s.Left (says s.Join nil)
join_words join_kind.LeftOuter = says s.Left (says s.Outer (says s.Join nil))
join_words join_kind.Right = says s.Right (says s.Join nil)
join_words join_kind.RightOuter = says s.Right (says s.Outer (says s.Join nil))
join_words join_kind.Full = says s.Full (says s.Join nil)
join_words join_kind.FullOuter = says s.Full (says s.Outer (says s.Join nil))

pub join_grown : (l : JoinLayer) → Grown (join_layer (join_parts l)) (join_groups l) 0
join_grown (Join-F.Cross place x) = grown Sort.plain 0 0 _ (placed place (says s.Cross (says s.Join (begun x nil))))
join_grown (Join-F.Matched place kind x (matched.On y)) = grown Sort.plain 0 0 _ (placed place (append (f.join_words kind) _ (join_words kind) (begun x (says s.On (tree 0 y nil)))))
join_grown (Join-F.Matched place kind x (matched.Using xs)) = grown Sort.plain 0 0 _
    (placed place (append (f.join_words kind) _ (join_words kind) (begun x (says s.Using (says s.Open (asked _ (append (p.names xs) (word s.Close ∷ []) (parts.names xs) (says s.Close nil))))))))

wholes : (xs : List Join) → Weighs (map p.whole (map join_facts xs)) (map Tree.join xs ∷ [])
wholes [] = none
wholes (x ∷ xs) = record { weighs = λ of rest. ap (λ n. max (of (join_facts x)) n) ((wholes xs).weighs of rest) }

pub from_grown : (l : FromLayer) → Grown (from_layer (from_parts l)) (from_groups l) 0
from_grown l = grown Sort.plain 0 0 _ (begun l.source (wholes l.joins))

pub factor_grown : (l : FactorLayer) → Grown (factor_layer (factor_parts l)) (factor_groups l) 0
factor_grown (Factor-F.Core x) = grown Sort.plain 0 0 _ (part 0 (select_facts x) (Tree.select x) (λ of. refl) nil)
factor_grown (Factor-F.Nested x) = grown Sort.plain 0 0 _ (says s.Open (query x (says s.Close nil)))

-- ---- SELECT

output_label : (x : Label) → Weighs (f.output_label x) []
output_label label.Unsaid = nil
output_label (label.As x) = says s.As (parts.name x)
output_label (label.Bare x) = parts.bare_name x

shown : (x : Output Expr) → Weighs (f.shown (output_form x)) (single (output_tree x) ∷ [])
shown output.Star = says s.Times no_tree
shown (output.StarOf x) = parts.a_name x (says s.Dot (says s.Times no_tree))
shown (output.Value x last) = tree 0 x (output_label last)

marked : {ps : List Piece} {gs : Groups} (m : Mark) → Weighs ps gs → Weighs (Piece.mark m ∷ ps) gs
marked m w = record { weighs = λ of rest. w.weighs of rest }

output_pieces : (x : Node (Output Expr)) → Weighs (f.output_pieces (output_facts x)) (single (output_tree x.form) ∷ [])
output_pieces x = marked (Mark.begins x.first) (placed x.place (append (f.shown (output_form x.form)) _ (shown x.form) (marked (Mark.ends x.last) nil)))

distinct_words : (x : Distinctness Expr) → Weighs (f.distinct_words (distinct_facts x)) (distinct_group x ∷ [])
distinct_words distinctness.Unsaid = none
distinct_words distinctness.All = says s.All none
distinct_words distinctness.Distinct = says s.Distinct none
distinct_words (distinctness.On xs) = says s.Distinct (says s.On (says s.Open (asked _ (append (p.list (map facts_of xs)) (word s.Close ∷ []) (list xs) (says s.Close nil)))))

from : (xs : List From) → Weighs (f.from (map from_facts xs)) (map Tree.from xs ∷ [])
from [] = none
from (x ∷ xs) = says s.From (items (λ y. p.whole y ∷ []) from_facts Tree.from (λ y. part 0 (from_facts y) (Tree.from y) (λ of. refl) nil) (x ∷ xs))

clause : (k : Symbol) (x : Option Expr) → Weighs (f.optional k (option_map facts_of x)) (single (optional x) ∷ [])
clause k None = no_tree
clause k (Some x) = says k (tree 0 x nil)

group : (xs : List Expr) → Weighs (f.group (map facts_of xs)) (expressions xs ∷ [])
group [] = none
group (x ∷ xs) = says s.Group (says s.By (list (x ∷ xs)))

select_with_grown : (l : SelectLayer) → Grown (select_layer (select_with l.distinct l.outputs l.from l.condition l.group l.having)) (select_groups l) 0
select_with_grown l =
    let heads = word s.Select ∷ f.distinct_words (distinct_facts l.distinct) in
    let shows = p.some (map output_facts l.outputs) ∷ p.listed (map f.output_pieces (map output_facts l.outputs)) in
    let froms = f.from (map from_facts l.from) in
    let condition = f.optional s.Where (option_map facts_of l.condition) in
    let groups = f.group (map facts_of l.group) in
    let having = f.optional s.Having (option_map facts_of l.having) in
    grown Sort.plain 0 0 (((((heads ++ shows) ++ froms) ++ condition) ++ groups) ++ having)
    (append ((((heads ++ shows) ++ froms) ++ condition) ++ groups) having
    (append (((heads ++ shows) ++ froms) ++ condition) groups
    (append ((heads ++ shows) ++ froms) condition
    (append (heads ++ shows) froms
    (append heads shows (says s.Select (distinct_words l.distinct)) (asked _ (items f.output_pieces output_facts (λ y. output_tree y.form) output_pieces l.outputs)))
    (from l.from))
    (clause s.Where l.condition))
    (group l.group))
    (clause s.Having l.having))

pub select_grown : (l : SelectLayer) → Grown (select_layer (select_parts l)) (select_groups l) 0
select_grown l = subst (λ x. Grown (select_layer x) (select_groups l) 0) (sym (select_parts_of l)) (select_with_grown l)

-- ---- queries

materialized_words : (x : Materialized) → Weighs (f.materialized_words x) []
materialized_words materialized.Unsaid = nil
materialized_words materialized.Yes = says s.Materialized nil
materialized_words materialized.No = says s.Not (says s.Materialized nil)

with_query : (x : With Query) → Weighs (f.with_query (with_facts x)) (single (Tree.query x.query) ∷ [])
with_query x = append ((p.name x.name ++ p.bracketed_names x.columns) ++ word s.As ∷ f.materialized_words x.materialized) (word s.Open ∷ p.whole (query_facts x.query) ∷ word s.Close ∷ [])
    (append (p.name x.name ++ p.bracketed_names x.columns) (word s.As ∷ f.materialized_words x.materialized) (parts.a_name x.name (parts.bracketed_names x.columns)) (says s.As (materialized_words x.materialized)))
    (says s.Open (query x.query (says s.Close nil)))

with_queries : (xs : List (With Query)) → Weighs (f.with_queries (map with_facts xs)) (map (λ x. Tree.query x.query) xs ∷ [])
with_queries [] = none
with_queries (x ∷ xs) = says s.With (items f.with_query with_facts (λ y. Tree.query y.query) with_query (x ∷ xs))

quantity_words : (x : Quantity) → Weighs (f.quantity_words x) []
quantity_words quantity.Unsaid = nil
quantity_words quantity.All = says s.All nil
quantity_words quantity.Distinct = says s.Distinct nil

set_links : {X Y : Type 0} (tight : Bool) (pieces : Y → List Piece) (facts : X → Y) (t : X → Tree) → ((x : X) → Weighs (pieces (facts x)) (single (t x) ∷ [])) → (xs : List (SetLink X))
    → Weighs (flat_map (f.set_link tight pieces) (map (link_facts facts) xs)) (map (λ x. t x.operand) xs ∷ [])
set_links tight pieces facts t k xs = each (f.set_link tight pieces) (link_facts facts) (λ x. t x.operand)
    (λ x. asked _ (placed x.place (says (f.set_symbol x.operation) (append (f.quantity_words x.quantity) (pieces (facts x.operand)) (quantity_words x.quantity) (k x.operand))))) xs

factor : {ps : List Piece} {gs : Groups} (x : Factor) → Weighs ps gs → Weighs (p.whole (factor_facts x) ∷ ps) (single (Tree.factor x) ∷ gs)
factor x w = part 0 (factor_facts x) (Tree.factor x) (λ of. refl) w

abbrev tight_pieces : Operands Factor → List Piece
tight_pieces x = f.operands true (λ y. p.whole y ∷ []) (operands_facts factor_facts x)

pub tight_operands : (x : Operands Factor) → Weighs (tight_pieces x) (operand_groups x)
tight_operands x = factor x.first (set_links true (λ y. p.whole y ∷ []) factor_facts Tree.factor (λ y. factor y nil) x.links)

most_append : (of : Facts → ℕ) (a b : List Piece) → most of (a ++ b) ≡ max (most of a) (most of b)
most_append of [] b = omega arith
most_append of (Piece.mark m ∷ a) b = most_append of a b
most_append of (Piece.need c ∷ a) b = most_append of a b
most_append of (Piece.part least x ∷ a) b = omega (arith, most_append of a b)

chain : (x : Operands Factor) → Weighs (tight_pieces x) (single (Tree.factors x) ∷ [])
chain x = record { weighs = λ of rest. most_append of (tight_pieces x) rest }

body : (x : Operands (Operands Factor)) → Weighs (f.body (body_facts x)) (single (Tree.factors x.first) ∷ map (λ y. Tree.factors y.operand) x.links ∷ [])
body x = append (tight_pieces x.first) (flat_map (f.set_link false (f.operands true (λ y. p.whole y ∷ []))) (map (link_facts (operands_facts factor_facts)) x.links)) (chain x.first)
    (set_links false (f.operands true (λ y. p.whole y ∷ [])) (operands_facts factor_facts) Tree.factors chain x.links)

limits : (x : Option (Limit Expr)) → Weighs (f.limit_pieces (limit_facts x)) (single (limit_tree x) ∷ [])
limits None = no_tree
limits (Some limit.All) = says s.Limit (says s.All no_tree)
limits (Some (limit.Count x)) = says s.Limit (tree 0 x nil)

row_words : (x : RowWord) → Weighs (f.row_words x) []
row_words row_word.Unsaid = nil
row_words row_word.Row = says s.Row nil
row_words row_word.Rows = says s.Rows nil

offsets : (x : Option (Offset Expr)) → Weighs (f.offset (offset_facts x)) (single (offset_tree x) ∷ [])
offsets None = no_tree
offsets (Some x) = says s.Offset (tree 0 x.count (row_words x.word))

strength_words : (x : Strength) → Weighs (f.strength_words x) []
strength_words strength.Update = says s.Update nil
strength_words strength.NoKeyUpdate = says s.No (says s.Key (says s.Update nil))
strength_words strength.Share = says s.Share nil
strength_words strength.KeyShare = says s.Key (says s.Share nil)

lock_names : (xs : List Identifier) → Weighs (f.lock_names xs) []
lock_names [] = nil
lock_names (x ∷ xs) = says s.Of (parts.names (x ∷ xs))

waiting_words : (x : Waiting) → Weighs (f.waiting_words x) []
waiting_words waiting.Unsaid = nil
waiting_words waiting.NoWait = says s.NoWait nil
waiting_words waiting.SkipLocked = says s.Skip (says s.Locked nil)

lock : (x : Lock) → Weighs (f.lock x) []
lock x = says s.For (append (f.strength_words x.strength ++ f.lock_names x.of) (f.waiting_words x.waiting)
    (append (f.strength_words x.strength) (f.lock_names x.of) (strength_words x.strength) (lock_names x.of)) (waiting_words x.waiting))

numbered_grown : (first last : ℕ) (x : Facts) (gs : Groups) (n : ℕ) → Grown x gs n → Grown (numbered first last x) gs n
numbered_grown first last x gs n g = record { height = g.height; layers = g.layers }

query_with_grown : (l : QueryLayer) → Grown (query_layer (query_with l.place l.first l.last l.with l.body l.order l.limit l.offset l.locks)) (query_groups l) 0
query_with_grown l =
    let heads = at l.place ∷ f.with_queries (map with_facts l.with) in
    let bodies = f.body (body_facts l.body) in
    let orders = g.order (map sort_facts l.order) in
    let limited = f.limit_pieces (limit_facts l.limit) in
    let skipped = f.offset (offset_facts l.offset) in
    let ending = flat_map f.lock l.locks in
    let ps = ((((heads ++ bodies) ++ orders) ++ limited) ++ skipped) ++ ending in
    numbered_grown l.first l.last (f.whole_facts ps) (query_groups l) 0 (grown Sort.plain 0 0 ps
    (append ((((heads ++ bodies) ++ orders) ++ limited) ++ skipped) ending
    (append (((heads ++ bodies) ++ orders) ++ limited) skipped
    (append ((heads ++ bodies) ++ orders) limited
    (append (heads ++ bodies) orders
    (append heads bodies (placed l.place (with_queries l.with)) (body l.body))
    (order l.order))
    (limits l.limit))
    (offsets l.offset))
    (all f.lock lock l.locks)))

pub query_grown : (l : QueryLayer) → Grown (query_layer (query_parts l)) (query_groups l) 0
query_grown l = subst (λ x. Grown (query_layer x) (query_groups l) 0) (sym (query_parts_of l)) (query_with_grown l)
