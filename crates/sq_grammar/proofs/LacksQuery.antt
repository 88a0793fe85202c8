-- Brackets that hold an expression are seen to hold no query by the tokens ahead.
use Rattle.std.proofs.Common.{◌≡◌, ℕ, zero, suc, ◌≤◌, true, false, List, [], ◌∷◌, ◌++◌, None, refl, sym, ap, subst, arith, ◌⊎◌}
use Rattle.std.specs.Prelude.{◌&&◌}
use Rattle.sq_base.specs.declared.place.Place.{Place}
use Rattle.sq_syntax.specs.declared.symbol.Symbol.TheVariants as s
use Rattle.sq_syntax.specs.declared.symbol.Reading.TheVariants as reading
use Rattle.sq_syntax.specs.declared.expr.Expression.{out-Expression}
use Rattle.sq_syntax.specs.declared.expr.Expression.TheOpen.{Expression-F}
use Rattle.sq_syntax.specs.Symbols.{identifier_reading}
use Rattle.sq_syntax.specs.Facts.{Mark, Stream, Says, Along, Facts, from}
use Rattle.sq_syntax.specs.Pieces.{say}
use Rattle.sq_syntax.specs.ExpressionPieces as g
use Rattle.sq_syntax.specs.ExpressionPieces.{expression_layer}
use Rattle.sq_syntax.specs.Grammar.{tree_facts, expression_facts, query_facts}
use Rattle.sq_grammar.specs.Ahead.{goes_on_query, queried, is_some, holds_query}
use Rattle.sq_grammar.specs.Levels.{Expr}
use Rattle.sq_grammar.proofs.Runs.{along_split, both}
use Rattle.sq_grammar.proofs.Complete.{only_if-from}
use Rattle.sq_grammar.proofs.Joints.{false_true}
use Rattle.sq_grammar.proofs.Relations.{untrue}
use Rattle.sq_grammar.proofs.Layers.{ExpressionLayer, expression_parts, expression_out}
use Rattle.sq_grammar.proofs.Lists.{Looks}
use Rattle.sq_grammar.proofs.Walks.{from_zero}
use Rattle.sq_grammar.proofs.Walking.{some_expression}
use Rattle.sq_grammar.proofs.HoldsQuery.{query_found, query_held}
use Rattle.sq_grammar.proofs.Fronts.{Front, call_apart, column_first, comparison_goes, constant_apart, front_brackets, front_first, front_left, front_scalar, matching_goes, moment_apart, not_follow, operator_goes, parameter_first, pool_apart, sign_apart, test_goes, type_first, unqueried}

module _ (m : ℕ) (ih : (y : Expr) → (tree_facts y).layers ≤ m → (u v : Stream) → from 0 (tree_facts y).level ≡ true → Along (tree_facts y).marks u v → Front (tree_facts y) u v) where
  abbrev facts_at : ExpressionLayer → Place → Facts
  facts_at l place = expression_layer (expression_parts l) place

  -- behind the first operand stands what goes on as no query does
  left : (x : Facts) (y : Expr) (least : ℕ) (rest : List Mark) (u v : Stream) → (tree_facts y).layers ≤ m → from least (tree_facts y).level ≡ true → Along ((tree_facts y).marks ++ rest) u v → ((w : Stream) → Along rest w v → goes_on_query w.tokens ≡ false) → Front x u v
  left x y least rest u v le ok along stop =
      let t = along_split (tree_facts y).marks rest u v along in
      front_left x (tree_facts y) u t.0 v (ih y le u t.0 (from_zero least (tree_facts y).level ok) t.1) (stop t.0 t.2)

  front_at : (l : ExpressionLayer) (place : Place) → (facts_at l place).layers ≤ suc m → from 0 (facts_at l place).level ≡ true → (u v : Stream) → Along (facts_at l place).marks u v → Front (facts_at l place) u v
  front_at (Expression-F.Constant x) place le ok u v a = front_first _ u v (g.constant_reading x, a.1.0, a.1.1, constant_apart x)
  front_at (Expression-F.Parameter x) place le ok u v a = front_first _ u v (parameter_first x u v a.1)
  front_at (Expression-F.Column x) place le ok u v a = front_first _ u v (column_first x u v (only_if-from _ 15 0 ok) a.1)
  front_at (Expression-F.Bracketed y) place le ok u v a =
      let h = both _ _ (only_if-from _ 15 0 ok) in
      let o = a.1 in
      let t = along_split (tree_facts y).marks (Mark.says (reading.Symbol s.Close) ∷ []) o.0 v o.2 in
      front_brackets _ (tree_facts y) u o.0 t.0 v o.1 (untrue _ h.0) (ih y (omega (arith, le)) o.0 t.0 (both _ _ h.1).0 t.1)
  front_at (Expression-F.Scalar q) place le ok u v a =
      let h = both _ _ (only_if-from _ 15 0 ok) in
      let o = a.1 in
      let t = along_split (query_facts q).marks (Mark.says (reading.Symbol s.Close) ∷ []) o.0 v o.2 in
      front_scalar _ u v t.2.0 refl o.0 o.1 (query_found q u o.0 t.0 t.2.0 o.1 h.0 t.1 t.2.1) t.2.2
  front_at (Expression-F.Exists x) place le ok u v a = front_first _ u v (reading.Symbol s.Exists, a.1.0, a.1.1, refl)
  front_at (Expression-F.ArrayList xs) place le ok u v a = front_first _ u v (reading.Symbol s.Array, a.1.0, a.1.1, refl)
  front_at (Expression-F.ArrayQuery x) place le ok u v a = front_first _ u v (reading.Symbol s.Array, a.1.0, a.1.1, refl)
  front_at (Expression-F.Case x arms last) place le ok u v a = front_first _ u v (reading.Symbol s.Case, a.1.0, a.1.1, refl)
  front_at (Expression-F.Cast x to) place le ok u v a = front_first _ u v (reading.Symbol s.Cast, a.1.0, a.1.1, refl)
  front_at (Expression-F.TypedText to text) place le ok u v a = front_first _ u v (type_first to (say (reading.Text text) ∷ []) u v (only_if-from _ 15 0 ok) a.1)
  front_at (Expression-F.Pooled word xs) place le ok u v a = front_first _ u v (reading.Symbol (g.pool_symbol word), a.1.0, a.1.1, pool_apart word)
  front_at (Expression-F.NullIf x y) place le ok u v a = front_first _ u v (reading.Symbol s.NullIf, a.1.0, a.1.1, refl)
  front_at (Expression-F.Extract field x) place le ok u v a = front_first _ u v (reading.Symbol s.Extract, a.1.0, a.1.1, refl)
  front_at (Expression-F.Moment x) place le ok u v a = front_first _ u v (reading.Symbol (g.moment_symbol x), a.1.0, a.1.1, moment_apart x)
  front_at (Expression-F.Call x inside last) place le ok u v a =
      let h = both _ _ (only_if-from _ 15 0 ok) in
      let k = both _ _ (both _ _ h.1).0 in
      front_first _ u v (identifier_reading x, a.1.1.0, a.1.1.1, call_apart (identifier_reading x) k.0)
  front_at (Expression-F.Subscript y []) place le ok u v a = absurd (false_true (both (g.is_indexable (tree_facts y)) false (only_if-from (g.is_indexable (tree_facts y) && false) 14 0 ok)).1)
  front_at (Expression-F.Subscript y (l ∷ links)) place le ok u v a = left _ y 15 _ u v (omega (arith, le)) (both _ _ (both _ _ (only_if-from _ 14 0 ok)).1).0 a (λ w rest. not_follow (reading.Symbol s.OpenSquare) w rest.1.1.0 rest.1.1.1 refl)
  front_at (Expression-F.Converted y []) place le ok u v a = absurd (false_true ok)
  front_at (Expression-F.Converted y (l ∷ links)) place le ok u v a = left _ y 14 _ u v (omega (arith, le)) (both _ _ (only_if-from _ 13 0 ok)).0 a (λ w rest. not_follow (reading.Symbol s.Colons) w rest.1.1.0 rest.1.1.1 refl)
  front_at (Expression-F.Collated y []) place le ok u v a = absurd (false_true ok)
  front_at (Expression-F.Collated y (l ∷ links)) place le ok u v a = left _ y 12 _ u v (omega (arith, le)) (both _ _ (only_if-from _ 11 0 ok)).0 a (λ w rest. not_follow (reading.Symbol s.Collate) w rest.1.1.0 rest.1.1.1 refl)
  front_at (Expression-F.AtTimeZone y []) place le ok u v a = absurd (false_true ok)
  front_at (Expression-F.AtTimeZone y (l ∷ links)) place le ok u v a = left _ y 11 _ u v (omega (arith, le)) (both _ _ (only_if-from _ 10 0 ok)).0 a (λ w rest. not_follow (reading.Symbol s.At) w rest.1.1.0 rest.1.1.1 refl)
  front_at (Expression-F.And y []) place le ok u v a = absurd (false_true ok)
  front_at (Expression-F.And y (l ∷ links)) place le ok u v a = left _ y 2 _ u v (omega (arith, le)) (both _ _ (only_if-from _ 1 0 ok)).0 a (λ w rest. not_follow (reading.Symbol s.And) w rest.1.1.0 rest.1.1.1 refl)
  front_at (Expression-F.Or y []) place le ok u v a = absurd (false_true ok)
  front_at (Expression-F.Or y (l ∷ links)) place le ok u v a = left _ y 1 _ u v (omega (arith, le)) (both _ _ (only_if-from _ 0 0 ok)).0 a (λ w rest. not_follow (reading.Symbol s.Or) w rest.1.1.0 rest.1.1.1 refl)
  front_at (Expression-F.Signed [] y) place le ok u v a = absurd (false_true ok)
  front_at (Expression-F.Signed (l ∷ marks) y) place le ok u v a = front_first _ u v (_, a.1.1.0, a.1.1.1, sign_apart l.is_minus)
  front_at (Expression-F.Not [] y) place le ok u v a = absurd (false_true ok)
  front_at (Expression-F.Not (l ∷ marks) y) place le ok u v a = front_first _ u v (reading.Symbol s.Not, a.1.1.0, a.1.1.1, refl)
  front_at (Expression-F.Operation y []) place le ok u v a = absurd (false_true ok)
  front_at (Expression-F.Operation y (l ∷ links)) place le ok u v a = left _ y _ _ u v (omega (arith, le)) (both _ _ (only_if-from _ _ 0 ok)).0 a (λ w rest. not_follow (g.operator_reading l.operator) w rest.1.1.0 rest.1.1.1 (operator_goes l.operator))
  front_at (Expression-F.Between y true symmetric low high) place le ok u v a = left _ y 6 _ u v (omega (arith, le)) (both _ _ (only_if-from _ 5 0 ok)).0 a (λ w rest. not_follow (reading.Symbol s.Not) w rest.1.0 rest.1.1 refl)
  front_at (Expression-F.InList y true xs) place le ok u v a = left _ y 6 _ u v (omega (arith, le)) (both _ _ (only_if-from _ 5 0 ok)).0 a (λ w rest. not_follow (reading.Symbol s.Not) w rest.1.0 rest.1.1 refl)
  front_at (Expression-F.InQuery y true query) place le ok u v a = left _ y 6 _ u v (omega (arith, le)) (both _ _ (only_if-from _ 5 0 ok)).0 a (λ w rest. not_follow (reading.Symbol s.Not) w rest.1.0 rest.1.1 refl)
  front_at (Expression-F.Like y true word z) place le ok u v a = left _ y 6 _ u v (omega (arith, le)) (both _ _ (only_if-from _ 5 0 ok)).0 a (λ w rest. not_follow (reading.Symbol s.Not) w rest.1.0 rest.1.1 refl)
  front_at (Expression-F.Between y false symmetric low high) place le ok u v a = left _ y 6 _ u v (omega (arith, le)) (both _ _ (only_if-from _ 5 0 ok)).0 a (λ w rest. not_follow (reading.Symbol s.Between) w rest.1.0 rest.1.1 refl)
  front_at (Expression-F.InList y false xs) place le ok u v a = left _ y 6 _ u v (omega (arith, le)) (both _ _ (only_if-from _ 5 0 ok)).0 a (λ w rest. not_follow (reading.Symbol s.In) w rest.1.0 rest.1.1 refl)
  front_at (Expression-F.InQuery y false query) place le ok u v a = left _ y 6 _ u v (omega (arith, le)) (both _ _ (only_if-from _ 5 0 ok)).0 a (λ w rest. not_follow (reading.Symbol s.In) w rest.1.0 rest.1.1 refl)
  front_at (Expression-F.Like y false word z) place le ok u v a = left _ y 6 _ u v (omega (arith, le)) (both _ _ (only_if-from _ 5 0 ok)).0 a (λ w rest. not_follow (reading.Symbol (g.matching_symbol word)) w rest.1.0 rest.1.1 (matching_goes word))
  front_at (Expression-F.Compared y by z) place le ok u v a = left _ y 5 _ u v (omega (arith, le)) (both _ _ (only_if-from _ 4 0 ok)).0 a (λ w rest. not_follow (reading.Symbol (g.comparison_symbol by)) w rest.1.0 rest.1.1 (comparison_goes by))
  front_at (Expression-F.AnyArray y by word z) place le ok u v a = left _ y 5 _ u v (omega (arith, le)) (both _ _ (only_if-from _ 4 0 ok)).0 a (λ w rest. not_follow (g.operator_reading by) w rest.1.0 rest.1.1 (operator_goes by))
  front_at (Expression-F.AnyQuery y by word query) place le ok u v a = left _ y 5 _ u v (omega (arith, le)) (both _ _ (only_if-from _ 4 0 ok)).0 a (λ w rest. not_follow (g.operator_reading by) w rest.1.0 rest.1.1 (operator_goes by))
  front_at (Expression-F.Tested y test) place le ok u v a = left _ y 4 _ u v (omega (arith, le)) (both _ _ (only_if-from _ 3 0 ok)).0 a (λ w rest. test_goes test w v rest.1)
  front_at (Expression-F.Distinct y negated z) place le ok u v a = left _ y 4 _ u v (omega (arith, le)) (both _ _ (only_if-from _ 3 0 ok)).0 a (λ w rest. not_follow (reading.Symbol s.Is) w rest.1.0 rest.1.1 refl)

front_tree : (m : ℕ) → ((y : Expr) → (tree_facts y).layers ≤ m → (u v : Stream) → from 0 (tree_facts y).level ≡ true → Along (tree_facts y).marks u v → Front (tree_facts y) u v)
    → (x : Expr) → (tree_facts x).layers ≤ suc m → (u v : Stream) → from 0 (tree_facts x).level ≡ true → Along (tree_facts x).marks u v → Front (tree_facts x) u v
front_tree m ih x le u v ok a =
    let y = expression_facts x.form x.place in
    let e = ap (λ f. f x.place) (expression_out x.form) in
    let t = along_split y.marks (Mark.ends x.last ∷ []) u v a.1 in
    let f = front_at m ih (out-Expression x.form) x.place (subst (λ (z : Facts). z.layers ≤ suc m) e le) (subst (λ (z : Facts). from 0 z.level ≡ true) e ok) u t.0 (subst (λ (z : Facts). Along z.marks u t.0) e t.1) in
    let g_ = subst (λ (z : Facts). Front z u t.0) (sym e) f in
    subst (λ z. Front (tree_facts x) u z) t.2.1 (record { core = g_.core; found = g_.found })

front_below : (m : ℕ) (x : Expr) → (tree_facts x).layers ≤ m → (u v : Stream) → from 0 (tree_facts x).level ≡ true → Along (tree_facts x).marks u v → Front (tree_facts x) u v
front_below zero x le u v ok a = absurd (omega (arith, subst (λ (z : Facts). z.layers ≤ 0) (ap (λ f. f x.place) (expression_out x.form)) le, some_expression (out-Expression x.form) x.place))
front_below (suc m) x le u v ok a = front_tree m (front_below m) x le u v ok a

lacks : (x : Expr) (now u v : Stream) → Says (reading.Symbol s.Open) now u → from 0 (tree_facts x).level ≡ true → Along (tree_facts x).marks u v → (g.is_scalar (tree_facts x) ≡ false) ⊎ (goes_on_query v.tokens ≡ false) → queried now.tokens ≡ None
lacks x now u v o ok a other = unqueried (tree_facts x) now u v o other (front_below (tree_facts x).layers x (omega arith) u v ok a)

lacks_query : (x : Expr) (now u v : Stream) → Says (reading.Symbol s.Open) now u → from 0 (tree_facts x).level ≡ true → Along (tree_facts x).marks u v → (g.is_scalar (tree_facts x) ≡ false) ⊎ (goes_on_query v.tokens ≡ false) → holds_query now.tokens ≡ false
unfolding holds_query
lacks_query x now u v o ok a other = ap is_some (lacks x now u v o ok a other)

-- the tokens ahead tell rightly whether brackets hold a query
pub looks : Looks
looks = record { holds = query_held; lacks = λ x now u v o ok a first other. lacks_query x now u v o ok a other }
