-- The parts of a tree, in groups, and what is counted over them: the height is that of the highest part and more.
use Rattle.std.specs.Prelude.{ℕ, ◌+◌, ◌*◌, max, true, List, [], ◌∷◌, length, map, get_or, Option, Some, None}
use Rattle.sq_syntax.specs.declared.expr.Node.{Node}
use Rattle.sq_syntax.specs.declared.expr.Arguments.{Arguments}
use Rattle.sq_syntax.specs.declared.expr.Arguments.TheVariants as arguments
use Rattle.sq_syntax.specs.declared.expr.Expression.{Expression, out-Expression}
use Rattle.sq_syntax.specs.declared.expr.Expression.TheOpen.{Expression-F, Factor-F, Join-F, Source-F, From-F, Query-F, Select-F}
use Rattle.sq_syntax.specs.declared.query.Factor.{Factor, out-Factor}
use Rattle.sq_syntax.specs.declared.query.Join.{Join, out-Join}
use Rattle.sq_syntax.specs.declared.query.Source.{Source, out-Source}
use Rattle.sq_syntax.specs.declared.query.From.{From, out-From}
use Rattle.sq_syntax.specs.declared.query.Query.{Query, out-Query}
use Rattle.sq_syntax.specs.declared.query.Select.{Select, out-Select}
use Rattle.sq_syntax.specs.declared.query.Operands.{Operands}
use Rattle.sq_syntax.specs.declared.query.SetLink.{SetLink}
use Rattle.sq_syntax.specs.declared.query.Output.{Output}
use Rattle.sq_syntax.specs.declared.query.Output.TheVariants as output
use Rattle.sq_syntax.specs.declared.query.Distinctness.{Distinctness}
use Rattle.sq_syntax.specs.declared.query.Distinctness.TheVariants as distinctness
use Rattle.sq_syntax.specs.declared.query.Limit.{Limit}
use Rattle.sq_syntax.specs.declared.query.Limit.TheVariants as limit
use Rattle.sq_syntax.specs.declared.query.Offset.{Offset}
use Rattle.sq_syntax.specs.declared.query.Matched.TheVariants as matched
use Rattle.sq_measures.specs.declared.part.Part.{Part}
use Rattle.sq_measures.specs.declared.part.Part.TheVariants as part
use Rattle.sq_syntax.specs.Facts.{Facts, most}
use Rattle.sq_syntax.specs.Pieces.{whole}
use Rattle.sq_syntax.specs.QueryPieces.{begun, operands}
use Rattle.sq_syntax.specs.Grammar.{tree_facts, factor_facts, join_facts, source_facts, from_facts, query_facts, select_facts}

pub data Tree : Type 0 where
  nothing : Tree
  expression : Node Expression → Tree
  query : Query → Tree
  factors : Operands Factor → Tree
  factor : Factor → Tree
  select : Select → Tree
  from : From → Tree
  join : Join → Tree
  source : Node Source → Tree

abbrev pub seen : Part → Tree
seen part.None = Tree.nothing
seen (part.Expression x) = Tree.expression x.now
seen (part.Query x) = Tree.query x.now
seen (part.Factors x) = Tree.factors x.now
seen (part.Factor x) = Tree.factor x.now
seen (part.Select x) = Tree.select x.now
seen (part.From x) = Tree.from x.now
seen (part.Join x) = Tree.join x.now
seen (part.Source x) = Tree.source x.now

abbrev pub Groups : Type 0
Groups = List (List Tree)

abbrev pub single : Tree → List Tree
single x = x ∷ []

abbrev pub expressions : List (Node Expression) → List Tree
expressions xs = map Tree.expression xs

abbrev pub optional : Option (Node Expression) → Tree
optional None = Tree.nothing
optional (Some x) = Tree.expression x

abbrev pub argument_groups : Arguments (Node Expression) → Option (Node Expression) → Groups
argument_groups arguments.Star last = [] ∷ [] ∷ single (optional last) ∷ []
argument_groups (arguments.List distinct xs items) last = expressions xs ∷ map (λ x. Tree.expression x.key) items ∷ single (optional last) ∷ []

abbrev pub ExpressionLayer : Type 0
ExpressionLayer = Expression-F Expression Factor Join Source From Query Select

abbrev pub QueryLayer : Type 0
QueryLayer = Query-F Expression Factor Join Source From Query Select

abbrev pub FactorLayer : Type 0
FactorLayer = Factor-F Expression Factor Join Source From Query Select

abbrev pub SelectLayer : Type 0
SelectLayer = Select-F Expression Factor Join Source From Query Select

abbrev pub FromLayer : Type 0
FromLayer = From-F Expression Factor Join Source From Query Select

abbrev pub JoinLayer : Type 0
JoinLayer = Join-F Expression Factor Join Source From Query Select

abbrev pub SourceLayer : Type 0
SourceLayer = Source-F Expression Factor Join Source From Query Select

abbrev pub one : Node Expression → Groups
one x = single (Tree.expression x) ∷ []

abbrev pub two : Node Expression → Node Expression → Groups
two x y = single (Tree.expression x) ∷ single (Tree.expression y) ∷ []

abbrev pub one_query : Query → Groups
one_query x = single (Tree.query x) ∷ []

abbrev pub expression_groups : ExpressionLayer → Groups
expression_groups (Expression-F.Constant x) = []
expression_groups (Expression-F.Parameter x) = []
expression_groups (Expression-F.Column x) = []
expression_groups (Expression-F.Bracketed x) = one x
expression_groups (Expression-F.Scalar x) = one_query x
expression_groups (Expression-F.Exists x) = one_query x
expression_groups (Expression-F.ArrayList xs) = expressions xs ∷ []
expression_groups (Expression-F.ArrayQuery x) = one_query x
expression_groups (Expression-F.Case x arms last) = single (optional x) ∷ map (λ y. Tree.expression y.condition) arms ∷ map (λ y. Tree.expression y.value) arms ∷ single (optional last) ∷ []
expression_groups (Expression-F.Cast x to) = one x
expression_groups (Expression-F.TypedText to text) = []
expression_groups (Expression-F.Pooled word xs) = expressions xs ∷ []
expression_groups (Expression-F.NullIf x y) = two x y
expression_groups (Expression-F.Extract word x) = one x
expression_groups (Expression-F.Moment x) = []
expression_groups (Expression-F.Call x within last) = argument_groups within last
expression_groups (Expression-F.Subscript x links) = single (Tree.expression x) ∷ map (λ y. Tree.expression y.index) links ∷ []
expression_groups (Expression-F.Converted x links) = one x
expression_groups (Expression-F.Signed signs x) = one x
expression_groups (Expression-F.Collated x links) = one x
expression_groups (Expression-F.AtTimeZone x links) = single (Tree.expression x) ∷ map (λ y. Tree.expression y.operand) links ∷ []
expression_groups (Expression-F.Operation x links) = single (Tree.expression x) ∷ map (λ y. Tree.expression y.operand) links ∷ []
expression_groups (Expression-F.Between x negated symmetric low high) = single (Tree.expression x) ∷ single (Tree.expression low) ∷ single (Tree.expression high) ∷ []
expression_groups (Expression-F.InList x negated xs) = single (Tree.expression x) ∷ expressions xs ∷ []
expression_groups (Expression-F.InQuery x negated y) = single (Tree.expression x) ∷ single (Tree.query y) ∷ []
expression_groups (Expression-F.Like x negated word y) = two x y
expression_groups (Expression-F.Compared x by y) = two x y
expression_groups (Expression-F.AnyArray x by word y) = two x y
expression_groups (Expression-F.AnyQuery x by word y) = single (Tree.expression x) ∷ single (Tree.query y) ∷ []
expression_groups (Expression-F.Tested x test) = one x
expression_groups (Expression-F.Distinct x negated y) = two x y
expression_groups (Expression-F.Not places x) = one x
expression_groups (Expression-F.And x links) = single (Tree.expression x) ∷ map (λ y. Tree.expression y.operand) links ∷ []
expression_groups (Expression-F.Or x links) = single (Tree.expression x) ∷ map (λ y. Tree.expression y.operand) links ∷ []

-- how much higher an expression is than its highest part
abbrev pub steps : ExpressionLayer → ℕ
steps (Expression-F.Subscript x links) = length links
steps (Expression-F.Converted x links) = length links
steps (Expression-F.Signed signs x) = length signs
steps (Expression-F.Collated x links) = length links
steps (Expression-F.AtTimeZone x links) = length links
steps (Expression-F.Operation x links) = length links
steps (Expression-F.Not places x) = length places
steps _ = 1

abbrev pub limit_tree : Option (Limit (Node Expression)) → Tree
limit_tree None = Tree.nothing
limit_tree (Some limit.All) = Tree.nothing
limit_tree (Some (limit.Count x)) = Tree.expression x

abbrev pub offset_tree : Option (Offset (Node Expression)) → Tree
offset_tree None = Tree.nothing
offset_tree (Some x) = Tree.expression x.count

abbrev pub query_groups : QueryLayer → Groups
query_groups x = map (λ y. Tree.query y.query) x.with ∷ single (Tree.factors x.body.first) ∷ map (λ y. Tree.factors y.operand) x.body.links ∷ map (λ y. Tree.expression y.key) x.order
    ∷ single (limit_tree x.limit) ∷ single (offset_tree x.offset) ∷ []

abbrev pub operand_groups : Operands Factor → Groups
operand_groups x = single (Tree.factor x.first) ∷ map (λ y. Tree.factor y.operand) x.links ∷ []

abbrev pub factor_groups : FactorLayer → Groups
factor_groups (Factor-F.Core x) = single (Tree.select x) ∷ []
factor_groups (Factor-F.Nested x) = one_query x

abbrev pub distinct_group : Distinctness (Node Expression) → List Tree
distinct_group (distinctness.On xs) = expressions xs
distinct_group _ = []

abbrev pub output_tree : Output (Node Expression) → Tree
output_tree (output.Value x last) = Tree.expression x
output_tree _ = Tree.nothing

abbrev pub select_groups : SelectLayer → Groups
select_groups x = distinct_group x.distinct ∷ map (λ y. output_tree y.form) x.outputs ∷ map Tree.from x.from ∷ single (optional x.condition) ∷ expressions x.group ∷ single (optional x.having) ∷ []

abbrev pub from_groups : FromLayer → Groups
from_groups x = single (Tree.source x.source) ∷ map Tree.join x.joins ∷ []

abbrev pub join_groups : JoinLayer → Groups
join_groups (Join-F.Cross place x) = single (Tree.source x) ∷ []
join_groups (Join-F.Matched place kind x (matched.On y)) = single (Tree.source x) ∷ single (Tree.expression y) ∷ []
join_groups (Join-F.Matched place kind x (matched.Using xs)) = single (Tree.source x) ∷ []

abbrev pub source_groups : SourceLayer → Groups
source_groups (Source-F.Table x called) = []
source_groups (Source-F.Derived x called) = one_query x
source_groups (Source-F.Grouped x) = single (Tree.from x) ∷ []

abbrev pub groups : Tree → Groups
groups Tree.nothing = []
groups (Tree.expression x) = expression_groups (out-Expression x.form)
groups (Tree.query x) = query_groups (out-Query x)
groups (Tree.factors x) = operand_groups x
groups (Tree.factor x) = factor_groups (out-Factor x)
groups (Tree.select x) = select_groups (out-Select x)
groups (Tree.from x) = from_groups (out-From x)
groups (Tree.join x) = join_groups (out-Join x)
groups (Tree.source x) = source_groups (out-Source x.form)

abbrev pub group : ℕ → Groups → List Tree
group n gs = get_or gs n []

-- ---- numbers of parts

abbrev pub link_facts : {A B : Type 0} → (A → B) → SetLink A → SetLink B
link_facts f x = record { place = x.place; operation = x.operation; quantity = x.quantity; operand = f x.operand }

abbrev pub operands_facts : {A B : Type 0} → (A → B) → Operands A → Operands B
operands_facts f x = record { first = f x.first; links = map (link_facts f) x.links }

-- the greatest of these numbers of the expressions in a chain of INTERSECT
abbrev pub weight_of_factors : (Facts → ℕ) → Operands Factor → ℕ
weight_of_factors of x = most of (operands true (λ y. whole y ∷ []) (operands_facts factor_facts x))

abbrev pub source_node : Node Source → Node Facts
source_node x = record { place = x.place; first = x.first; last = x.last; form = source_facts x.form }

-- this number of a tree
abbrev pub weight : (Facts → ℕ) → Tree → ℕ
weight of Tree.nothing = 0
weight of (Tree.expression x) = of (tree_facts x)
weight of (Tree.query x) = of (query_facts x)
weight of (Tree.factors x) = weight_of_factors of x
weight of (Tree.factor x) = of (factor_facts x)
weight of (Tree.select x) = of (select_facts x)
weight of (Tree.from x) = of (from_facts x)
weight of (Tree.join x) = of (join_facts x)
weight of (Tree.source x) = of (begun (source_node x))

-- the greatest number of a list of trees and of what follows
abbrev pub over : (Tree → ℕ) → List Tree → ℕ → ℕ
over of [] n = n
over of (x ∷ xs) n = max (of x) (over of xs n)

abbrev pub over_groups : (Tree → ℕ) → Groups → ℕ → ℕ
over_groups of [] n = n
over_groups of (g ∷ gs) n = over of g (over_groups of gs n)

abbrev pub height_of : Tree → ℕ
height_of x = weight (λ y. y.height) x

abbrev pub layers_of : Tree → ℕ
layers_of x = weight (λ y. y.layers) x

-- how much higher a tree is than its highest part
abbrev pub steps_of : Tree → ℕ
steps_of (Tree.expression x) = steps (out-Expression x.form)
steps_of _ = 0

-- more than any part has
abbrev pub rank : Tree → ℕ
rank (Tree.factors x) = 2 * layers_of (Tree.factors x) + 1
rank x = 2 * layers_of x
