-- A function over tokens that counts open brackets passes over every well-levelled tree, and the tokens nest as deep as the tree.
use Rattle.std.proofs.Common.{ℕ, zero, suc, ◌≤◌, sym, ap, subst, arith}
use Rattle.sq_base.specs.declared.place.Place.{Place}
use Rattle.sq_syntax.specs.declared.expr.Expression.{Expression, out-Expression}
use Rattle.sq_syntax.specs.declared.expr.Expression.TheOpen.{Expression-F, Factor-F, Join-F, Source-F}
use Rattle.sq_syntax.specs.declared.query.Factor.{Factor, out-Factor}
use Rattle.sq_syntax.specs.declared.query.Join.{Join, out-Join}
use Rattle.sq_syntax.specs.declared.query.Source.{Source, out-Source}
use Rattle.sq_syntax.specs.declared.query.From.{From, out-From}
use Rattle.sq_syntax.specs.declared.query.Query.{Query, out-Query}
use Rattle.sq_syntax.specs.declared.query.Select.{Select, out-Select}
use Rattle.sq_syntax.specs.Facts.{Facts}
use Rattle.sq_syntax.specs.ExpressionPieces.{expression_layer}
use Rattle.sq_syntax.specs.QueryPieces.{source_layer, join_layer, factor_layer}
use Rattle.sq_syntax.specs.Grammar.{tree_facts, expression_facts, factor_facts, join_facts, source_facts, from_facts, query_facts, select_facts}
use Rattle.sq_grammar.specs.Ahead.{Lexemes}
use Rattle.sq_grammar.specs.Levels.{Expr}
use Rattle.sq_grammar.proofs.Layers.{ExpressionLayer, FactorLayer, JoinLayer, SourceLayer, expression_parts, factor_parts, join_parts, source_parts, expression_out, factor_out, join_out, source_out, from_out, query_out, select_out}
use Rattle.sq_grammar.proofs.Walks.{Counts, Walked, numbered_walked}
use Rattle.sq_grammar.proofs.WalkTrees.{Below, layer_walked}
use Rattle.sq_grammar.proofs.WalkQueries.{factor_walked, join_walked, source_walked, from_walked, query_walked, select_walked}

-- every tree has a layer

pub some_expression : (l : ExpressionLayer) (place : Place) → 1 ≤ (expression_layer (expression_parts l) place).layers
some_expression (Expression-F.Constant x) place = omega arith
some_expression _ place = omega arith

some_factor : (l : FactorLayer) → 1 ≤ (factor_layer (factor_parts l)).layers
some_factor (Factor-F.Core x) = omega arith
some_factor (Factor-F.Nested x) = omega arith

some_join : (l : JoinLayer) → 1 ≤ (join_layer (join_parts l)).layers
some_join (Join-F.Cross place x) = omega arith
some_join (Join-F.Matched place kind x by) = omega arith

some_source : (l : SourceLayer) → 1 ≤ (source_layer (source_parts l)).layers
some_source (Source-F.Table x called) = omega arith
some_source (Source-F.Derived x called) = omega arith
some_source (Source-F.Grouped x) = omega arith

module _ {A : Type 0} (w : Lexemes → ℕ → A) (counts : Counts w) where
  factor_at : (m : ℕ) → Below w m → (x : Factor) → (factor_facts x).layers ≤ suc m → Walked w (factor_facts x)
  factor_at m b x le = subst (λ y. Walked w y) (sym (factor_out x)) (factor_walked w counts m b (out-Factor x) (subst (λ (y : Facts). y.layers ≤ suc m) (factor_out x) le))

  factor_none : (x : Factor) → (factor_facts x).layers ≤ 0 → Walked w (factor_facts x)
  factor_none x le = absurd (omega (arith, subst (λ (y : Facts). y.layers ≤ 0) (factor_out x) le, some_factor (out-Factor x)))

  join_at : (m : ℕ) → Below w m → (x : Join) → (join_facts x).layers ≤ suc m → Walked w (join_facts x)
  join_at m b x le = subst (λ y. Walked w y) (sym (join_out x)) (join_walked w counts m b (out-Join x) (subst (λ (y : Facts). y.layers ≤ suc m) (join_out x) le))

  join_none : (x : Join) → (join_facts x).layers ≤ 0 → Walked w (join_facts x)
  join_none x le = absurd (omega (arith, subst (λ (y : Facts). y.layers ≤ 0) (join_out x) le, some_join (out-Join x)))

  source_at : (m : ℕ) → Below w m → (x : Source) → (source_facts x).layers ≤ suc m → Walked w (source_facts x)
  source_at m b x le = subst (λ y. Walked w y) (sym (source_out x)) (source_walked w counts m b (out-Source x) (subst (λ (y : Facts). y.layers ≤ suc m) (source_out x) le))

  source_none : (x : Source) → (source_facts x).layers ≤ 0 → Walked w (source_facts x)
  source_none x le = absurd (omega (arith, subst (λ (y : Facts). y.layers ≤ 0) (source_out x) le, some_source (out-Source x)))

  from_at : (m : ℕ) → Below w m → (x : From) → (from_facts x).layers ≤ suc m → Walked w (from_facts x)
  from_at m b x le = subst (λ y. Walked w y) (sym (from_out x)) (from_walked w counts m b (out-From x) (subst (λ (y : Facts). y.layers ≤ suc m) (from_out x) le))

  from_none : (x : From) → (from_facts x).layers ≤ 0 → Walked w (from_facts x)
  from_none x le = absurd (omega (arith, subst (λ (y : Facts). y.layers ≤ 0) (from_out x) le))

  query_at : (m : ℕ) → Below w m → (x : Query) → (query_facts x).layers ≤ suc m → Walked w (query_facts x)
  query_at m b x le = subst (λ y. Walked w y) (sym (query_out x)) (query_walked w counts m b (out-Query x) (subst (λ (y : Facts). y.layers ≤ suc m) (query_out x) le))

  query_none : (x : Query) → (query_facts x).layers ≤ 0 → Walked w (query_facts x)
  query_none x le = absurd (omega (arith, subst (λ (y : Facts). y.layers ≤ 0) (query_out x) le))

  select_at : (m : ℕ) → Below w m → (x : Select) → (select_facts x).layers ≤ suc m → Walked w (select_facts x)
  select_at m b x le = subst (λ y. Walked w y) (sym (select_out x)) (select_walked w counts m b (out-Select x) (subst (λ (y : Facts). y.layers ≤ suc m) (select_out x) le))

  select_none : (x : Select) → (select_facts x).layers ≤ 0 → Walked w (select_facts x)
  select_none x le = absurd (omega (arith, subst (λ (y : Facts). y.layers ≤ 0) (select_out x) le))

  expression_at : (m : ℕ) → Below w m → (x : Expression) (place : Place) → (expression_facts x place).layers ≤ suc m → Walked w (expression_facts x place)
  expression_at m b x place le =
      let e = ap (λ f. f place) (expression_out x) in
      subst (λ y. Walked w y) (sym e) (layer_walked w counts m b (out-Expression x) place (subst (λ (y : Facts). y.layers ≤ suc m) e le))

  expression_none : (x : Expression) (place : Place) → (expression_facts x place).layers ≤ 0 → Walked w (expression_facts x place)
  expression_none x place le = absurd (omega (arith, subst (λ (y : Facts). y.layers ≤ 0) (ap (λ f. f place) (expression_out x)) le, some_expression (out-Expression x) place))

  pub below : (m : ℕ) → Below w m
  below zero = record {
    expressions = λ x le. numbered_walked w x.first x.last (expression_facts x.form x.place) (expression_none x.form x.place le);
    factors = λ x le. factor_none x le;
    joins = λ x le. join_none x le;
    sources = λ x le. source_none x le;
    froms = λ x le. from_none x le;
    queries = λ x le. query_none x le;
    selects = λ x le. select_none x le;
  }
  below (suc m) = record {
    expressions = λ x le. numbered_walked w x.first x.last (expression_facts x.form x.place) (expression_at m (below m) x.form x.place le);
    factors = λ x le. factor_at m (below m) x le;
    joins = λ x le. join_at m (below m) x le;
    sources = λ x le. source_at m (below m) x le;
    froms = λ x le. from_at m (below m) x le;
    queries = λ x le. query_at m (below m) x le;
    selects = λ x le. select_at m (below m) x le;
  }

  pub tree_walked : (x : Expr) → Walked w (tree_facts x)
  tree_walked x = (below (tree_facts x).layers).expressions x (omega arith)

  pub whole_query_walked : (x : Query) → Walked w (query_facts x)
  whole_query_walked x = (below (query_facts x).layers).queries x (omega arith)
