-- The facts of an expression, by those of its parts.
use Rattle.std.proofs.Common.{◌≡◌, ℕ, ◌+◌, Bool, true, false, List, [], ◌∷◌, ◌++◌, Option, Some, None, refl, ap, ◌∙◌, arith, map}
use Rattle.std.specs.Prelude.{flat_map, option_map, max, not, length}
use Rattle.std.proofs.lemmas.List.{length-map}
use Rattle.sq_base.specs.declared.place.Place.{Place}
use Rattle.sq_syntax.specs.declared.symbol.Symbol.{Symbol}
use Rattle.sq_syntax.specs.declared.symbol.Symbol.TheVariants as s
use Rattle.sq_syntax.specs.declared.symbol.Reading.TheVariants as reading
use Rattle.sq_syntax.specs.declared.name.Identifier.{Identifier}
use Rattle.sq_syntax.specs.declared.expr.Node.{Node}
use Rattle.sq_syntax.specs.declared.expr.Arm.{Arm}
use Rattle.sq_syntax.specs.declared.expr.Arguments.{Arguments}
use Rattle.sq_syntax.specs.declared.expr.Arguments.TheVariants as arguments
use Rattle.sq_syntax.specs.declared.expr.Sort.{Sort as SortItem}
use Rattle.sq_syntax.specs.declared.expr.Index.{Index}
use Rattle.sq_syntax.specs.declared.expr.Conversion.{Conversion}
use Rattle.sq_syntax.specs.declared.expr.Sign.{Sign}
use Rattle.sq_syntax.specs.declared.expr.Collation.{Collation}
use Rattle.sq_syntax.specs.declared.expr.Joint.{Joint}
use Rattle.sq_syntax.specs.declared.expr.Link.{Link}
use Rattle.sq_syntax.specs.declared.expr.Expression.{Expression}
use Rattle.sq_syntax.specs.declared.expr.Expression.TheOpen.{Expression-F}
use Rattle.sq_syntax.specs.declared.query.Query.{Query}
use Rattle.sq_syntax.specs.Symbols.{identifier_reading, word_reading}
use Rattle.sq_syntax.specs.Facts.{Facts, Piece, Sort, most}
use Rattle.sq_syntax.specs.Pieces as p
use Rattle.sq_syntax.specs.Pieces.{Operand, sym as word, say}
use Rattle.sq_syntax.specs.ExpressionPieces as g
use Rattle.sq_syntax.specs.ExpressionPieces.{expression_layer}
use Rattle.sq_syntax.specs.Grammar.{tree_facts, expression_facts, query_facts}
use Rattle.sq_measures.specs.Parts.{Tree, Groups, ExpressionLayer, single, optional, expressions, argument_groups, expression_groups, steps, weight, over, over_groups}
use Rattle.sq_syntax.proofs.Equations.{layer_facts}
use Rattle.sq_measures.proofs.Weights.{Weighs, Grown, nil, none, token, placed, asked, part, append, each, all, items, grown}
use Rattle.sq_measures.proofs.WeightNames as parts
use Rattle.sq_measures.proofs.WeightNames.{says, maybe}

abbrev pub Expr : Type 0
Expr = Node Expression

abbrev pub facts_of : Expr → Operand
facts_of y = record { place = y.place; first = y.first; last = y.last; form = expression_facts y.form }

abbrev pub sort_facts : SortItem Expr → SortItem Operand
sort_facts x = record { key = facts_of x.key; direction = x.direction; nulls = x.nulls }

abbrev pub argument_facts : Arguments Expr → Arguments Operand
argument_facts arguments.Star = arguments.Star
argument_facts (arguments.List distinct xs items) = arguments.List distinct (map facts_of xs) (map sort_facts items)

abbrev arm_facts : Arm Expr → Arm Operand
arm_facts x = record { condition = facts_of x.condition; value = facts_of x.value }

abbrev joint_facts : Joint Expr → Joint Operand
joint_facts x = record { place = x.place; operand = facts_of x.operand }

abbrev link_facts : Link Expr → Link Operand
link_facts x = record { place = x.place; operator = x.operator; operand = facts_of x.operand }

abbrev index_facts : Index Expr → Index Operand
index_facts x = record { place = x.place; index = facts_of x.index }

pub tree : {ps : List Piece} {gs : Groups} (least : ℕ) (x : Expr) → Weighs ps gs → Weighs (Piece.part least (tree_facts x) ∷ ps) (single (Tree.expression x) ∷ gs)
tree least x w = part least (tree_facts x) (Tree.expression x) (λ of. refl) w

pub query : {ps : List Piece} {gs : Groups} (x : Query) → Weighs ps gs → Weighs (p.whole (query_facts x) ∷ ps) (single (Tree.query x) ∷ gs)
query x w = part 0 (query_facts x) (Tree.query x) (λ of. refl) w

pub no_tree : Weighs [] (single Tree.nothing ∷ [])
no_tree = record { weighs = λ of rest. omega arith }

-- ---- lists

pub list : (xs : List Expr) → Weighs (p.list (map facts_of xs)) (expressions xs ∷ [])
list xs = items (λ x. p.part 0 x ∷ []) facts_of Tree.expression (λ x. tree 0 x nil) xs

sort : (x : SortItem Expr) → Weighs (g.sort (sort_facts x)) (single (Tree.expression x.key) ∷ [])
sort x = tree 0 x.key (append (g.sort_direction x.direction) (g.sort_nulls x.nulls) (parts.direction_words x.direction) (parts.nulls_words x.nulls))

pub order : (xs : List (SortItem Expr)) → Weighs (g.order (map sort_facts xs)) (map (λ x. Tree.expression x.key) xs ∷ [])
order [] = none
order (x ∷ xs) = says s.Order (says s.By (items g.sort sort_facts (λ y. Tree.expression y.key) sort (x ∷ xs)))

joints : (words : List Piece) (least : ℕ) → Weighs words [] → (xs : List (Joint Expr)) → Weighs (flat_map (g.joint words least) (map joint_facts xs)) (map (λ x. Tree.expression x.operand) xs ∷ [])
joints words least w xs = each (g.joint words least) joint_facts (λ x. Tree.expression x.operand) (λ x. placed x.place (append words (Piece.part least (tree_facts x.operand) ∷ []) w (tree least x.operand nil))) xs

indices : (xs : List (Index Expr)) → Weighs (flat_map g.index (map index_facts xs)) (map (λ x. Tree.expression x.index) xs ∷ [])
indices xs = each g.index index_facts (λ x. Tree.expression x.index) (λ x. placed x.place (says s.OpenSquare (tree 0 x.index (says s.CloseSquare nil)))) xs

links : (n : ℕ) (xs : List (Link Expr)) → Weighs (flat_map (g.link n) (map link_facts xs)) (map (λ x. Tree.expression x.operand) xs ∷ [])
links n xs = each (g.link n) link_facts (λ x. Tree.expression x.operand) (λ x. asked _ (placed x.place (token (g.operator_reading x.operator) (tree (n + 1) x.operand nil)))) xs

conversion : (x : Conversion) → Weighs (g.conversion x) []
conversion x = placed x.place (says s.Colons (parts.type x.to))

collation : (x : Collation) → Weighs (g.collation x) []
collation x = placed x.place (says s.Collate (parts.name x.name))

sign : (x : Sign) → Weighs (g.sign x) []
sign x = placed x.place (says _ nil)

negation : (x : Place) → Weighs (g.negation x) []
negation x = placed x (says s.Not nil)

-- ---- CASE

over_max : (of : Tree → ℕ) (xs : List Tree) (a n : ℕ) → over of xs (max a n) ≡ max a (over of xs n)
over_max of [] a n = refl
over_max of (x ∷ xs) a n = omega (arith, over_max of xs a n)

arms_weigh : (xs : List (Arm Expr)) (of : Facts → ℕ) (rest : List Piece)
    → most of (flat_map g.arm (map arm_facts xs) ++ rest) ≡ over (weight of) (map (λ x. Tree.expression x.condition) xs) (over (weight of) (map (λ x. Tree.expression x.value) xs) (most of rest))
arms_weigh [] of rest = refl
arms_weigh (x ∷ xs) of rest =
    let values = over (weight of) (map (λ x. Tree.expression x.value) xs) (most of rest) in
    ap (λ n. max (of (tree_facts x.condition)) (max (of (tree_facts x.value)) n)) (arms_weigh xs of rest)
    ∙ ap (λ n. max (of (tree_facts x.condition)) n) (Rattle.std.proofs.Common.sym (over_max (weight of) (map (λ x. Tree.expression x.condition) xs) (of (tree_facts x.value)) values))

arms : (xs : List (Arm Expr)) → Weighs (flat_map g.arm (map arm_facts xs)) (map (λ x. Tree.expression x.condition) xs ∷ map (λ x. Tree.expression x.value) xs ∷ [])
arms xs = record { weighs = arms_weigh xs }

case_operand : (x : Option Expr) → Weighs (g.case_operand (option_map facts_of x)) (single (optional x) ∷ [])
case_operand None = no_tree
case_operand (Some x) = tree 0 x nil

otherwise : (x : Option Expr) → Weighs (g.otherwise (option_map facts_of x)) (single (optional x) ∷ [])
otherwise None = no_tree
otherwise (Some x) = says s.Else (tree 0 x nil)

case_inside : (x : Option Expr) (xs : List (Arm Expr)) (last : Option Expr)
    → Weighs (p.some (map arm_facts xs) ∷ g.case_operand (option_map facts_of x) ++ flat_map g.arm (map arm_facts xs) ++ g.otherwise (option_map facts_of last) ++ word s.End ∷ [])
    (single (optional x) ∷ map (λ y. Tree.expression y.condition) xs ∷ map (λ y. Tree.expression y.value) xs ∷ single (optional last) ∷ [])
case_inside x xs last =
    let heads = p.some (map arm_facts xs) ∷ g.case_operand (option_map facts_of x) in
    let front = heads ++ flat_map g.arm (map arm_facts xs) in
    append (front ++ g.otherwise (option_map facts_of last)) (word s.End ∷ [])
    (append front (g.otherwise (option_map facts_of last)) (append heads (flat_map g.arm (map arm_facts xs)) (asked _ (case_operand x)) (arms xs)) (otherwise last))
    (says s.End nil)

-- ---- calls

filter : (x : Option Expr) → Weighs (g.filter (option_map facts_of x)) (single (optional x) ∷ [])
filter None = no_tree
filter (Some x) = says s.Filter (says s.Open (says s.Where (tree 0 x (says s.Close nil))))

star_call : (x : Identifier) (last : Option Expr) → Weighs (g.call_name x ++ word s.Open ∷ word s.Times ∷ word s.Close ∷ g.filter (option_map facts_of last)) (argument_groups arguments.Star last)
star_call x last = asked _ (placed x.place (token (identifier_reading x) (says s.Open (says s.Times (says s.Close (append [] (g.filter (option_map facts_of last)) empty (filter last)))))))
  where
    empty : Weighs [] ([] ∷ [] ∷ [])
    empty = record { weighs = λ of rest. refl }

list_call : (x : Identifier) (distinct : Bool) (xs : List Expr) (sorts : List (SortItem Expr)) (last : Option Expr)
    → Weighs (g.call_name x ++ word s.Open ∷ g.argument_pieces (argument_facts (arguments.List distinct xs sorts)) ++ word s.Close ∷ g.filter (option_map facts_of last)) (argument_groups (arguments.List distinct xs sorts) last)
list_call x distinct xs sorts last =
    asked _ (placed x.place (token (identifier_reading x) (says s.Open (append (g.argument_pieces (argument_facts (arguments.List distinct xs sorts))) (word s.Close ∷ g.filter (option_map facts_of last))
    (asked _ (append (p.when distinct s.Distinct ++ p.list (map facts_of xs)) (g.order (map sort_facts sorts)) (maybe distinct s.Distinct (list xs)) (order sorts)))
    (says s.Close (filter last))))))

-- ---- expressions

raised_by : (x : Facts) (gs : Groups) (n m : ℕ) → n ≡ m → Grown x gs n → Grown x gs m
raised_by x gs n m e g = record { height = g.height ∙ ap (λ k. over_groups (weight (λ y. y.height)) gs 0 + k) e; layers = g.layers }

pub layer_grown : (l : ExpressionLayer) (place : Place) → Grown (expression_layer (layer_facts l) place) (expression_groups l) (steps l)
layer_grown (Expression-F.Constant x) place = grown Sort.plain 15 1 _ (placed place (token (g.constant_reading x) nil))
layer_grown (Expression-F.Parameter x) place = grown Sort.indexable 15 1 _ (placed place (parts.parameter_pieces x))
layer_grown (Expression-F.Column x) place = grown Sort.indexable 15 1 _ (placed place (parts.column_name x))
layer_grown (Expression-F.Bracketed x) place = grown Sort.indexable 15 1 _ (placed place (says s.Open (asked _ (tree 0 x (says s.Close nil)))))
layer_grown (Expression-F.Scalar x) place = grown Sort.scalar 15 1 _ (placed place (says s.Open (query x (says s.Close nil))))
layer_grown (Expression-F.Exists x) place = grown Sort.plain 15 1 _ (placed place (says s.Exists (says s.Open (query x (says s.Close nil)))))
layer_grown (Expression-F.ArrayList xs) place = grown Sort.plain 15 1 _ (placed place (says s.Array (says s.OpenSquare (asked _ (append (p.list (map facts_of xs)) (word s.CloseSquare ∷ []) (list xs) (says s.CloseSquare nil))))))
layer_grown (Expression-F.ArrayQuery x) place = grown Sort.plain 15 1 _ (placed place (says s.Array (says s.Open (query x (says s.Close nil)))))
layer_grown (Expression-F.Case None xs None) place = grown Sort.plain 15 1 _ (placed place (says s.Case (case_inside None xs None)))
layer_grown (Expression-F.Case None xs (Some y)) place = grown Sort.plain 15 1 _ (placed place (says s.Case (case_inside None xs (Some y))))
layer_grown (Expression-F.Case (Some z) xs None) place = grown Sort.plain 15 1 _ (placed place (says s.Case (case_inside (Some z) xs None)))
layer_grown (Expression-F.Case (Some z) xs (Some y)) place = grown Sort.plain 15 1 _ (placed place (says s.Case (case_inside (Some z) xs (Some y))))
layer_grown (Expression-F.Cast x to) place = grown Sort.plain 15 1 _ (placed place (says s.Cast (says s.Open (tree 0 x (says s.As (append (p.type to) (word s.Close ∷ []) (parts.type to) (says s.Close nil)))))))
layer_grown (Expression-F.TypedText to text) place = grown Sort.plain 15 1 _ (placed place (append (p.type to) (say (reading.Text text) ∷ []) (parts.type to) (token (reading.Text text) nil)))
layer_grown (Expression-F.Pooled pool xs) place = grown Sort.plain 15 1 _ (placed place (says (g.pool_symbol pool) (says s.Open (asked _ (append (p.list (map facts_of xs)) (word s.Close ∷ []) (list xs) (says s.Close nil))))))
layer_grown (Expression-F.NullIf x y) place = grown Sort.plain 15 1 _ (placed place (says s.NullIf (says s.Open (tree 0 x (says s.Comma (tree 0 y (says s.Close nil)))))))
layer_grown (Expression-F.Extract field x) place = grown Sort.plain 15 1 _ (placed place (says s.Extract (says s.Open (asked _ (token (word_reading field) (says s.From (tree 0 x (says s.Close nil))))))))
layer_grown (Expression-F.Moment x) place = grown Sort.plain 15 1 _ (placed place (says (g.moment_symbol x) nil))
layer_grown (Expression-F.Call x arguments.Star None) place = grown Sort.plain 15 1 _ (placed place (asked _ (star_call x None)))
layer_grown (Expression-F.Call x (arguments.List distinct xs sorts) None) place = grown Sort.plain 15 1 _ (placed place (asked _ (list_call x distinct xs sorts None)))
layer_grown (Expression-F.Call x arguments.Star (Some y)) place = grown Sort.plain 15 1 _ (placed place (asked _ (star_call x (Some y))))
layer_grown (Expression-F.Call x (arguments.List distinct xs sorts) (Some y)) place = grown Sort.plain 15 1 _ (placed place (asked _ (list_call x distinct xs sorts (Some y))))
layer_grown (Expression-F.Subscript x xs) place = raised_by _ _ _ _ (length-map xs index_facts) (grown Sort.plain 14 (length (map index_facts xs)) _ (asked _ (asked _ (tree 15 x (placed place (indices xs))))))
layer_grown (Expression-F.Converted x xs) place = grown Sort.plain 13 _ _ (asked _ (tree 14 x (placed place (all g.conversion conversion xs))))
layer_grown (Expression-F.Signed xs x) place = grown Sort.plain 12 _ _ (asked _ (placed place (append (flat_map g.sign xs) (Piece.part 13 (tree_facts x) ∷ []) (all g.sign sign xs) (tree 13 x nil))))
layer_grown (Expression-F.Collated x xs) place = grown Sort.plain 11 _ _ (asked _ (tree 12 x (placed place (all g.collation collation xs))))
layer_grown (Expression-F.AtTimeZone x xs) place = raised_by _ _ _ _ (length-map xs joint_facts) (grown Sort.plain 10 (length (map joint_facts xs)) _ (asked _ (tree 11 x (placed place (joints (word s.At ∷ word s.Time ∷ word s.Zone ∷ []) 11 (says s.At (says s.Time (says s.Zone nil))) xs)))))
layer_grown (Expression-F.Operation x xs) place = raised_by _ _ _ _ (length-map xs link_facts) (grown Sort.plain _ (length (map link_facts xs)) _ (asked _ (tree _ x (placed place (links (g.links_level (map link_facts xs)) xs)))))
layer_grown (Expression-F.Between x negated symmetric low high) place = grown Sort.plain 5 1 _
    (tree 6 x (placed place (append (p.when negated s.Not ++ word s.Between ∷ p.when symmetric s.Symmetric) (Piece.part 6 (tree_facts low) ∷ word s.And ∷ Piece.part 6 (tree_facts high) ∷ [])
    (maybe negated s.Not (says s.Between (when_only symmetric s.Symmetric))) (tree 6 low (says s.And (tree 6 high nil))))))
  where
    when_only : (b : Bool) (x : Symbol) → Weighs (p.when b x) []
    when_only true x = says x nil
    when_only false x = nil
layer_grown (Expression-F.InList x negated xs) place = grown Sort.plain 5 1 _
    (tree 6 x (placed place (append (p.when negated s.Not ++ word s.In ∷ word s.Open ∷ p.some (map facts_of xs) ∷ Piece.need (not (g.lone_scalar (map facts_of xs))) ∷ p.list (map facts_of xs)) (word s.Close ∷ [])
    (maybe negated s.Not (says s.In (says s.Open (asked _ (asked _ (list xs)))))) (says s.Close nil))))
layer_grown (Expression-F.InQuery x negated y) place = grown Sort.plain 5 1 _ (tree 6 x (placed place (maybe negated s.Not (says s.In (says s.Open (query y (says s.Close nil)))))))
layer_grown (Expression-F.Like x negated matching y) place = grown Sort.plain 5 1 _ (tree 6 x (placed place (maybe negated s.Not (says (g.matching_symbol matching) (tree 6 y nil)))))
layer_grown (Expression-F.Compared x by y) place = grown Sort.plain 4 1 _ (tree 5 x (placed place (says (g.comparison_symbol by) (tree 5 y nil))))
layer_grown (Expression-F.AnyArray x by any y) place = grown Sort.plain 4 1 _ (tree 5 x (placed place (token (g.operator_reading by) (says (g.quantifier_symbol any) (says s.Open (asked _ (tree 0 y (says s.Close nil))))))))
layer_grown (Expression-F.AnyQuery x by any y) place = grown Sort.plain 4 1 _ (tree 5 x (placed place (token (g.operator_reading by) (says (g.quantifier_symbol any) (says s.Open (query y (says s.Close nil)))))))
layer_grown (Expression-F.Tested x test) place = grown Sort.plain 3 1 _ (tree 4 x (placed place (parts.test_words test)))
layer_grown (Expression-F.Distinct x negated y) place = grown Sort.plain 3 1 _ (tree 4 x (placed place (says s.Is (maybe negated s.Not (says s.Distinct (says s.From (tree 4 y nil)))))))
layer_grown (Expression-F.Not places x) place = grown Sort.plain 2 _ _ (asked _ (placed place (append (flat_map g.negation places) (Piece.part 3 (tree_facts x) ∷ []) (all g.negation negation places) (tree 3 x nil))))
layer_grown (Expression-F.And x xs) place = grown Sort.plain 1 1 _ (asked _ (tree 2 x (placed place (joints (word s.And ∷ []) 2 (says s.And nil) xs))))
layer_grown (Expression-F.Or x xs) place = grown Sort.plain 0 1 _ (asked _ (tree 1 x (placed place (joints (word s.Or ∷ []) 1 (says s.Or nil) xs))))
