-- What is left to visit of the parts of a tree, turn by turn.
use Rattle.std.proofs.Common.{◌≡◌, ℕ, zero, suc, ◌+◌, ◌-◌, ◌^◌, ◌<◌, ◌≤◌, List, [], ◌∷◌, Some, None, refl, ap, ◌∙◌, arith, length}
use Rattle.std.specs.Prelude.{max, min, drop, slice_get}
use Rattle.sq_syntax.specs.declared.expr.Arguments.TheVariants as arguments
use Rattle.sq_syntax.specs.declared.expr.Expression.{out-Expression}
use Rattle.sq_syntax.specs.declared.expr.Expression.TheOpen.{Expression-F, Factor-F, Join-F, Source-F}
use Rattle.sq_syntax.specs.declared.query.Factor.{out-Factor}
use Rattle.sq_syntax.specs.declared.query.Join.{out-Join}
use Rattle.sq_syntax.specs.declared.query.Source.{out-Source}
use Rattle.sq_syntax.specs.declared.query.Matched.TheVariants as matched
use Rattle.sq_measures.specs.Parts.{Tree, Groups, ExpressionLayer, FactorLayer, JoinLayer, SourceLayer, groups, group, over, over_groups, expression_groups, factor_groups, join_groups, source_groups, height_of, steps_of}
use Rattle.sq_measures.proofs.TreeHeights.{height_is}

-- a height that stands still at the last value of its type
abbrev pub capped : Tree → ℕ
capped t = min (height_of t) (2 ^ 32 - 1)

abbrev pub highest_part : Tree → ℕ
highest_part t = over_groups capped (groups t) 0

abbrev pub after_group : ℕ → Groups → ℕ
after_group n gs = over_groups capped (drop n gs) 0

-- the highest of the parts of a group from a number on, and of all groups after it
abbrev pub after_part : ℕ → ℕ → Groups → ℕ
after_part n at gs = over capped (drop at (group n gs)) (after_group (suc n) gs)

next : (n : ℕ) → suc n ≡ n + 1
next n = omega arith

pub opened : (n : ℕ) (gs : Groups) → after_group n gs ≡ after_part n 0 gs
opened zero [] = refl
opened (suc n) [] = refl
opened zero (g ∷ gs) = refl
opened (suc n) (g ∷ gs) = opened n gs

turn_of : (xs : List Tree) (at n : ℕ) (t : Tree) → slice_get xs at ≡ Some t → over capped (drop at xs) n ≡ max (capped t) (over capped (drop (suc at) xs) n)
turn_of [] at n t h = absurd (cc)
turn_of (x ∷ xs) zero n t h = ap (λ o. max (capped_or_zero o) (over capped xs n)) h
  where
    capped_or_zero : Rattle.std.specs.Prelude.Option Tree → ℕ
    capped_or_zero None = 0
    capped_or_zero (Some y) = capped y
turn_of (x ∷ xs) (suc at) n t h = turn_of xs at n t h

pub turn : (gs : Groups) (n at : ℕ) (t : Tree) → slice_get (group n gs) at ≡ Some t → after_part n at gs ≡ max (capped t) (after_part n (at + 1) gs)
turn gs n at t h = turn_of (group n gs) at (after_group (suc n) gs) t h ∙ ap (λ k. max (capped t) (after_part n k gs)) (next at)

closed_of : (xs : List Tree) (at n : ℕ) → slice_get xs at ≡ None → over capped (drop at xs) n ≡ n
closed_of [] zero n h = refl
closed_of [] (suc at) n h = refl
closed_of (x ∷ xs) zero n h = absurd (cc)
closed_of (x ∷ xs) (suc at) n h = closed_of xs at n h

pub closed : (gs : Groups) (n at : ℕ) → slice_get (group n gs) at ≡ None → after_part n at gs ≡ after_group (n + 1) gs
closed gs n at h = closed_of (group n gs) at (after_group (suc n) gs) h ∙ ap (λ k. after_group k gs) (next n)

pub within_length : (xs : List Tree) (at : ℕ) (t : Tree) → slice_get xs at ≡ Some t → at < length xs
within_length [] at t h = absurd (cc)
within_length (x ∷ xs) zero t h = omega arith
within_length (x ∷ xs) (suc at) t h = omega (arith, within_length xs at t h)

-- ---- no tree has more than six groups

few_groups : (l : ExpressionLayer) → length (expression_groups l) ≤ 6
few_groups (Expression-F.Constant x) = omega arith
few_groups (Expression-F.Parameter x) = omega arith
few_groups (Expression-F.Column x) = omega arith
few_groups (Expression-F.Bracketed x) = omega arith
few_groups (Expression-F.Scalar x) = omega arith
few_groups (Expression-F.Exists x) = omega arith
few_groups (Expression-F.ArrayList xs) = omega arith
few_groups (Expression-F.ArrayQuery x) = omega arith
few_groups (Expression-F.Case x arms last) = omega arith
few_groups (Expression-F.Cast x to) = omega arith
few_groups (Expression-F.TypedText to text) = omega arith
few_groups (Expression-F.Pooled word xs) = omega arith
few_groups (Expression-F.NullIf x y) = omega arith
few_groups (Expression-F.Extract word x) = omega arith
few_groups (Expression-F.Moment x) = omega arith
few_groups (Expression-F.Call x arguments.Star last) = omega arith
few_groups (Expression-F.Call x (arguments.List distinct xs items) last) = omega arith
few_groups (Expression-F.Subscript x links) = omega arith
few_groups (Expression-F.Converted x links) = omega arith
few_groups (Expression-F.Signed signs x) = omega arith
few_groups (Expression-F.Collated x links) = omega arith
few_groups (Expression-F.AtTimeZone x links) = omega arith
few_groups (Expression-F.Operation x links) = omega arith
few_groups (Expression-F.Between x negated symmetric low high) = omega arith
few_groups (Expression-F.InList x negated xs) = omega arith
few_groups (Expression-F.InQuery x negated y) = omega arith
few_groups (Expression-F.Like x negated word y) = omega arith
few_groups (Expression-F.Compared x by y) = omega arith
few_groups (Expression-F.AnyArray x by word y) = omega arith
few_groups (Expression-F.AnyQuery x by word y) = omega arith
few_groups (Expression-F.Tested x test) = omega arith
few_groups (Expression-F.Distinct x negated y) = omega arith
few_groups (Expression-F.Not places x) = omega arith
few_groups (Expression-F.And x links) = omega arith
few_groups (Expression-F.Or x links) = omega arith

few_factor : (l : FactorLayer) → length (factor_groups l) ≤ 6
few_factor (Factor-F.Core x) = omega arith
few_factor (Factor-F.Nested x) = omega arith

few_join : (l : JoinLayer) → length (join_groups l) ≤ 6
few_join (Join-F.Cross place x) = omega arith
few_join (Join-F.Matched place kind x (matched.On y)) = omega arith
few_join (Join-F.Matched place kind x (matched.Using xs)) = omega arith

few_source : (l : SourceLayer) → length (source_groups l) ≤ 6
few_source (Source-F.Table x called) = omega arith
few_source (Source-F.Derived x called) = omega arith
few_source (Source-F.Grouped x) = omega arith

few : (t : Tree) → length (groups t) ≤ 6
few Tree.nothing = omega arith
few (Tree.expression x) = few_groups (out-Expression x.form)
few (Tree.query x) = omega arith
few (Tree.factors x) = omega arith
few (Tree.factor x) = few_factor (out-Factor x)
few (Tree.select x) = omega arith
few (Tree.from x) = omega arith
few (Tree.join x) = few_join (out-Join x)
few (Tree.source x) = few_source (out-Source x.form)

nothing_after : (n : ℕ) (gs : Groups) → length gs ≤ n → after_group n gs ≡ 0
nothing_after zero [] h = refl
nothing_after (suc n) [] h = refl
nothing_after zero (g ∷ gs) h = absurd (omega (arith, h))
nothing_after (suc n) (g ∷ gs) h = nothing_after n gs (omega (arith, h))

pub all_visited : (t : Tree) → after_group 6 (groups t) ≡ 0
all_visited t = nothing_after 6 (groups t) (few t)

-- ---- the whole

list_capped : (xs : List Tree) (n : ℕ) → over capped xs (min n (2 ^ 32 - 1)) ≡ min (over height_of xs n) (2 ^ 32 - 1)
list_capped [] n = refl
list_capped (x ∷ xs) n = omega (arith, list_capped xs n)

groups_capped : (gs : Groups) → over_groups capped gs 0 ≡ min (over_groups height_of gs 0) (2 ^ 32 - 1)
groups_capped [] = refl
groups_capped (g ∷ gs) = ap (λ n. over capped g n) (groups_capped gs) ∙ list_capped g (over_groups height_of gs 0)

pub whole : (t : Tree) → min (highest_part t + min (steps_of t) (2 ^ 32 - 1)) (2 ^ 32 - 1) ≡ capped t
whole t = omega (arith, groups_capped (groups t), height_is t)
