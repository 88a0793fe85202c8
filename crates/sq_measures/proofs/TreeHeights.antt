-- The height of a tree, by those of its parts, and that each part has a lower rank.
use Rattle.std.proofs.Common.{◌≡◌, ℕ, zero, suc, ◌+◌, ◌*◌, ◌<◌, ◌≤◌, List, [], ◌∷◌, Option, Some, None, refl, sym, ap, subst, arith, map}
use Rattle.std.specs.Prelude.{slice_get}
use Rattle.sq_syntax.specs.declared.expr.Node.{Node}
use Rattle.sq_syntax.specs.declared.expr.Expression.{Expression, out-Expression}
use Rattle.sq_syntax.specs.declared.query.Factor.{Factor, out-Factor}
use Rattle.sq_syntax.specs.declared.query.Join.{Join, out-Join}
use Rattle.sq_syntax.specs.declared.query.Source.{Source, out-Source}
use Rattle.sq_syntax.specs.declared.query.From.{From, out-From}
use Rattle.sq_syntax.specs.declared.query.Query.{Query, out-Query}
use Rattle.sq_syntax.specs.declared.query.Select.{Select, out-Select}
use Rattle.sq_syntax.specs.declared.query.SetLink.{SetLink}
use Rattle.sq_syntax.specs.Facts.{Facts}
use Rattle.sq_measures.specs.Parts.{Tree, Groups, steps, groups, group, over, over_groups, expression_groups, factor_groups, join_groups, source_groups, from_groups, query_groups, select_groups, height_of, layers_of, steps_of, rank}
use Rattle.sq_measures.proofs.Layers.{expression_out, factor_out, join_out, source_out, from_out, query_out, select_out}
use Rattle.sq_measures.proofs.Weights.{Grown, whole_weight}
use Rattle.sq_measures.proofs.WeightTrees.{layer_grown}
use Rattle.sq_measures.proofs.WeightQueries.{source_grown, join_grown, from_grown, factor_grown, select_grown, query_grown, tight_operands}

abbrev Raised : Tree → Type 0
Raised t = (height_of t ≡ over_groups height_of (groups t) 0 + steps_of t) × (over_groups layers_of (groups t) 0 < layers_of t)

raised : (x : Facts) (gs : Groups) (n : ℕ) → Grown x gs n → (x.height ≡ over_groups height_of gs 0 + n) × (over_groups layers_of gs 0 < x.layers)
raised x gs n g = (g.height, omega (arith, g.layers))

expression_raised : (x : Node Expression) → Raised (Tree.expression x)
expression_raised x =
    let l = out-Expression x.form in
    raised _ _ _ (subst (λ y. Grown y (expression_groups l) (steps l)) (sym (ap (λ h. h x.place) (expression_out x.form))) (layer_grown l x.place))

query_raised : (x : Query) → Raised (Tree.query x)
query_raised x = raised _ _ _ (subst (λ y. Grown y (query_groups (out-Query x)) 0) (sym (query_out x)) (query_grown (out-Query x)))

factor_raised : (x : Factor) → Raised (Tree.factor x)
factor_raised x = raised _ _ _ (subst (λ y. Grown y (factor_groups (out-Factor x)) 0) (sym (factor_out x)) (factor_grown (out-Factor x)))

select_raised : (x : Select) → Raised (Tree.select x)
select_raised x = raised _ _ _ (subst (λ y. Grown y (select_groups (out-Select x)) 0) (sym (select_out x)) (select_grown (out-Select x)))

from_raised : (x : From) → Raised (Tree.from x)
from_raised x = raised _ _ _ (subst (λ y. Grown y (from_groups (out-From x)) 0) (sym (from_out x)) (from_grown (out-From x)))

join_raised : (x : Join) → Raised (Tree.join x)
join_raised x = raised _ _ _ (subst (λ y. Grown y (join_groups (out-Join x)) 0) (sym (join_out x)) (join_grown (out-Join x)))

source_raised : (x : Node Source) → Raised (Tree.source x)
source_raised x =
    let g = subst (λ y. Grown y (source_groups (out-Source x.form)) 0) (sym (source_out x.form)) (source_grown (out-Source x.form)) in
    (omega (arith, g.height), omega (arith, g.layers))

pub height_is : (t : Tree) → height_of t ≡ over_groups height_of (groups t) 0 + steps_of t
height_is Tree.nothing = refl
height_is (Tree.expression x) = (expression_raised x).0
height_is (Tree.query x) = (query_raised x).0
height_is (Tree.factors x) = omega (arith, whole_weight _ _ (tight_operands x) (λ y. y.height))
height_is (Tree.factor x) = (factor_raised x).0
height_is (Tree.select x) = (select_raised x).0
height_is (Tree.from x) = (from_raised x).0
height_is (Tree.join x) = (join_raised x).0
height_is (Tree.source x) = (source_raised x).0

-- ---- ranks

rank_most : (t : Tree) → rank t ≤ 2 * layers_of t + 1
rank_most Tree.nothing = omega arith
rank_most (Tree.expression x) = omega arith
rank_most (Tree.query x) = omega arith
rank_most (Tree.factors x) = omega arith
rank_most (Tree.factor x) = omega arith
rank_most (Tree.select x) = omega arith
rank_most (Tree.from x) = omega arith
rank_most (Tree.join x) = omega arith
rank_most (Tree.source x) = omega arith

list_rank : (xs : List Tree) (n m : ℕ) → n ≤ 2 * m + 1 → over rank xs n ≤ 2 * over layers_of xs m + 1
list_rank [] n m h = h
list_rank (x ∷ xs) n m h = omega (arith, rank_most x, list_rank xs n m h)

groups_rank : (gs : Groups) → over_groups rank gs 0 ≤ 2 * over_groups layers_of gs 0 + 1
groups_rank [] = omega arith
groups_rank (g ∷ gs) = list_rank g (over_groups rank gs 0) (over_groups layers_of gs 0) (groups_rank gs)

abbrev factor_trees : List (SetLink Factor) → List Tree
factor_trees xs = map (λ y. Tree.factor y.operand) xs

factors_rank : (xs : List (SetLink Factor)) → over rank (factor_trees xs) 0 ≤ 2 * over layers_of (factor_trees xs) 0
factors_rank [] = omega arith
factors_rank (x ∷ xs) = omega (arith, factors_rank xs)

over_rest : (xs : List Tree) (n : ℕ) → n ≤ over rank xs n
over_rest [] n = omega arith
over_rest (x ∷ xs) n = omega (arith, over_rest xs n)

abbrev rank_or_zero : Option Tree → ℕ
rank_or_zero None = 0
rank_or_zero (Some x) = rank x

in_list : (xs : List Tree) (at n : ℕ) (u : Tree) → slice_get xs at ≡ Some u → rank u ≤ over rank xs n
in_list [] at n u h = absurd (cc)
in_list (x ∷ xs) zero n u h = omega (arith, ap (λ o. rank_or_zero o) h)
in_list (x ∷ xs) (suc at) n u h = omega (arith, in_list xs at n u h)

in_groups : (gs : Groups) (g at : ℕ) (u : Tree) → slice_get (group g gs) at ≡ Some u → rank u ≤ over_groups rank gs 0
in_groups [] g at u h = absurd (cc)
in_groups (xs ∷ gs) zero at u h = in_list xs at (over_groups rank gs 0) u h
in_groups (xs ∷ gs) (suc g) at u h = omega (arith, in_groups gs g at u h, over_rest xs (over_groups rank gs 0))

pub lower : (t : Tree) (g at : ℕ) (u : Tree) → slice_get (group g (groups t)) at ≡ Some u → rank u < rank t
lower Tree.nothing g at u h = absurd (cc)
lower (Tree.expression x) g at u h = omega (arith, in_groups (groups (Tree.expression x)) g at u h, groups_rank (groups (Tree.expression x)), (expression_raised x).1)
lower (Tree.query x) g at u h = omega (arith, in_groups (groups (Tree.query x)) g at u h, groups_rank (groups (Tree.query x)), (query_raised x).1)
lower (Tree.factors x) g at u h = omega (arith, in_groups (groups (Tree.factors x)) g at u h, factors_rank x.links, whole_weight _ _ (tight_operands x) (λ y. y.layers))
lower (Tree.factor x) g at u h = omega (arith, in_groups (groups (Tree.factor x)) g at u h, groups_rank (groups (Tree.factor x)), (factor_raised x).1)
lower (Tree.select x) g at u h = omega (arith, in_groups (groups (Tree.select x)) g at u h, groups_rank (groups (Tree.select x)), (select_raised x).1)
lower (Tree.from x) g at u h = omega (arith, in_groups (groups (Tree.from x)) g at u h, groups_rank (groups (Tree.from x)), (from_raised x).1)
lower (Tree.join x) g at u h = omega (arith, in_groups (groups (Tree.join x)) g at u h, groups_rank (groups (Tree.join x)), (join_raised x).1)
lower (Tree.source x) g at u h = omega (arith, in_groups (groups (Tree.source x)) g at u h, groups_rank (groups (Tree.source x)), (source_raised x).1)
