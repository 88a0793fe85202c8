use Rattle.std.proofs.Common.{◌≡◌, ℕ, ◌≤◌, Bool, true, false, List, [], ◌∷◌, Option, Some, None, refl, sym, ap, subst, ◌∙◌, arith, inl, inr}
use Rattle.std.specs.Prelude.{if◌then◌else◌, not}
use Rattle.std.proofs.lemmas.Grind.{common_steps}
use Rattle.sq_base.specs.declared.place.Place.{Place}
use Rattle.sq_syntax.specs.declared.symbol.Symbol.{Symbol}
use Rattle.sq_syntax.specs.declared.symbol.Symbol.TheVariants as s
use Rattle.sq_syntax.specs.declared.symbol.Reading.{Reading}
use Rattle.sq_syntax.specs.declared.symbol.Reading.TheVariants as reading
use Rattle.sq_syntax.specs.declared.expr.Expression.{Expression}
use Rattle.sq_syntax.specs.declared.expr.Expression.TheVariants as e
use Rattle.sq_syntax.specs.Facts.{Stream, Says, Along, Piece, Sort, from}
use Rattle.sq_syntax.specs.Pieces.{Operand, Placed, at, sym as word, say, is_empty}
use Rattle.sq_syntax.specs.ExpressionPieces as g
use Rattle.sq_syntax.specs.Grammar.{tree_facts, expression_facts}
use Rattle.sq_syntax.proofs.Equations as q
use Rattle.sq_syntax.proofs.Equations.{Shape, shape}
use Rattle.sq_grammar.specs.Reading.{Outcome, Parser, ◌>>=◌, pure, expect, is, same, here}
use Rattle.sq_grammar.specs.Ahead.{Lexemes, binding, reading_binds, operator_of, operator_binds, begins_quantifier}
use Rattle.sq_grammar.proofs.Runs.{Run, both}
use Rattle.sq_grammar.proofs.Complete.{step, says_expect, says_token, Reads, Framed, framed, opened, goes_on, above}
use Rattle.sq_grammar.proofs.Homes.{at_home}
use Rattle.sq_syntax.specs.Facts.{Turn, turn}
use Rattle.sq_syntax.specs.Pieces as p
use Rattle.sq_grammar.proofs.Begins.{Starts, starts_signed}
use Rattle.sq_grammar.proofs.Joints.{says_goes}
use Rattle.sq_syntax.specs.declared.query.Query.{Query}
use Rattle.sq_syntax.specs.Grammar.{query_facts}
use Rattle.sq_grammar.specs.Reading.{choose, node}
use Rattle.sq_grammar.specs.Ahead.{holds_query}
use Rattle.sq_grammar.specs.Levels.{Expr}
use Rattle.sq_grammar.proofs.Complete.{made, stops-more}
use Rattle.sq_grammar.proofs.ReadNames.{chosen, passed}
use Rattle.sq_grammar.proofs.ReadTypes.{that_symbol}
use Rattle.sq_grammar.proofs.Testing.{operand_then, from_level}
use Rattle.std.proofs.Common.{inl, inr}
use Rattle.sq_syntax.specs.declared.expr.Operator.{Operator}
use Rattle.sq_syntax.specs.declared.expr.Operator.TheVariants as operator
use Rattle.sq_syntax.specs.declared.expr.Comparison.{Comparison}
use Rattle.sq_syntax.specs.declared.expr.Comparison.TheVariants as comparison
use Rattle.sq_syntax.specs.declared.expr.Quantifier.{Quantifier}
use Rattle.sq_syntax.specs.declared.expr.Quantifier.TheVariants as quantifier
use Rattle.sq_grammar.specs.Ahead.{operator_of, symbol_operator, operator_binds, begins_quantifier, level_of, is_some}
use Rattle.sq_grammar.specs.Levels.{an_operator, operator_at}
use Rattle.sq_grammar.specs.Tests.{is_quantified, begins_quantified, quantifier_of, a_quantifier, any_query, any_array, quantified_after, as_comparison, comparison_of, a_comparison, begins_comparison, comparison_after, compared_or, relation_after, related}
use Rattle.sq_grammar.proofs.Lists.{Inside, Looks}
use Rattle.sq_grammar.proofs.Operations.{unquantified, operator_again, operator_reads, after_operator}

-- ---- what is ahead

operator_head : Lexemes → Option Operator
operator_head [] = None
operator_head (x ∷ rest) = operator_of x.reading

binds_some : (b : Bool) (n : ℕ) → 4 ≤ n → from 4 (Some (if b then 4 else n)) ≡ true
binds_some true n le = refl
binds_some false n le = grind (arith, common_steps)

true_false : {b : Bool} → b ≡ true → b ≡ false → ⊥
true_false h k = cc

no_operator_symbol : (x : Symbol) (rest : Lexemes) → from 4 (reading_binds (reading.Symbol x) rest) ≡ false → symbol_operator x ≡ None
no_operator_symbol s.Power rest h = absurd (true_false (binds_some (begins_quantifier rest) 9 (omega arith)) h)
no_operator_symbol s.Times rest h = absurd (true_false (binds_some (begins_quantifier rest) 8 (omega arith)) h)
no_operator_symbol s.Divide rest h = absurd (true_false (binds_some (begins_quantifier rest) 8 (omega arith)) h)
no_operator_symbol s.Modulo rest h = absurd (true_false (binds_some (begins_quantifier rest) 8 (omega arith)) h)
no_operator_symbol s.Plus rest h = absurd (true_false (binds_some (begins_quantifier rest) 7 (omega arith)) h)
no_operator_symbol s.Minus rest h = absurd (true_false (binds_some (begins_quantifier rest) 7 (omega arith)) h)
no_operator_symbol s.Less rest h = absurd (true_false (binds_some (begins_quantifier rest) 4 (omega arith)) h)
no_operator_symbol s.Greater rest h = absurd (true_false (binds_some (begins_quantifier rest) 4 (omega arith)) h)
no_operator_symbol s.Equal rest h = absurd (true_false (binds_some (begins_quantifier rest) 4 (omega arith)) h)
no_operator_symbol s.LessEqual rest h = absurd (true_false (binds_some (begins_quantifier rest) 4 (omega arith)) h)
no_operator_symbol s.GreaterEqual rest h = absurd (true_false (binds_some (begins_quantifier rest) 4 (omega arith)) h)
no_operator_symbol s.NotEqual rest h = absurd (true_false (binds_some (begins_quantifier rest) 4 (omega arith)) h)
no_operator_symbol _ rest h = refl

no_operator : (r : Reading) (rest : Lexemes) → from 4 (reading_binds r rest) ≡ false → operator_of r ≡ None
no_operator (reading.Symbol x) rest h = no_operator_symbol x rest h
no_operator (reading.Operator bytes) rest h = absurd (true_false (binds_some (begins_quantifier rest) 6 (omega arith)) h)
no_operator _ rest h = refl

unquantified_here : (tokens : Lexemes) → from 4 (binding tokens) ≡ false → begins_quantified tokens ≡ false
unquantified_here [] h = refl
unquantified_here (x ∷ rest) h = ap (λ o. is_quantified o rest) (no_operator x.reading rest h)

uncompared_here : (tokens : Lexemes) → from 4 (binding tokens) ≡ false → begins_comparison tokens ≡ false
uncompared_here [] h = refl
uncompared_here (x ∷ rest) h = ap (λ o. is_some (as_comparison o)) (no_operator x.reading rest h)

compared_again : (x : Comparison) → operator_of (reading.Symbol (g.comparison_symbol x)) ≡ Some (operator.Comparison x)
compared_again comparison.Less = refl
compared_again comparison.Greater = refl
compared_again comparison.Equal = refl
compared_again comparison.LessEqual = refl
compared_again comparison.GreaterEqual = refl
compared_again comparison.NotEqual = refl

comparison_turn : (x : Comparison) → turn (reading.Symbol (g.comparison_symbol x)) ≡ Turn.neither
comparison_turn comparison.Less = refl
comparison_turn comparison.Greater = refl
comparison_turn comparison.Equal = refl
comparison_turn comparison.LessEqual = refl
comparison_turn comparison.GreaterEqual = refl
comparison_turn comparison.NotEqual = refl

comparison_reads : (x : Comparison) (rest : Lexemes) → reading_binds (reading.Symbol (g.comparison_symbol x)) rest ≡ operator_binds (operator.Comparison x) rest
comparison_reads comparison.Less rest = refl
comparison_reads comparison.Greater rest = refl
comparison_reads comparison.Equal rest = refl
comparison_reads comparison.LessEqual rest = refl
comparison_reads comparison.GreaterEqual rest = refl
comparison_reads comparison.NotEqual rest = refl

below_five : (b : Bool) → from 5 (Some (if b then 4 else 4)) ≡ false
below_five true = refl
below_five false = refl

quantifier_seen : (x : Quantifier) (now next : Stream) → Says (reading.Symbol (g.quantifier_symbol x)) now next → begins_quantifier now.tokens ≡ true
unfolding same
quantifier_seen quantifier.Any now next h = ap (λ tokens. begins_quantifier tokens) h.first
quantifier_seen quantifier.Some now next h = ap (λ tokens. begins_quantifier tokens) h.first
quantifier_seen quantifier.All now next h = ap (λ tokens. begins_quantifier tokens) h.first

quantifier_said : (x : Quantifier) (now next : Stream) → Says (reading.Symbol (g.quantifier_symbol x)) now next → a_quantifier now ≡ Some (x, next)
unfolding a_quantifier
quantifier_said quantifier.Any now next h = says_token quantifier_of quantifier.Any (reading.Symbol s.Any) now next h refl
quantifier_said quantifier.Some now next h = says_token quantifier_of quantifier.Some (reading.Symbol s.Some) now next h refl
quantifier_said quantifier.All now next h = says_token quantifier_of quantifier.All (reading.Symbol s.All) now next h refl

quantifier_turn : (x : Quantifier) → turn (reading.Symbol (g.quantifier_symbol x)) ≡ Turn.neither
quantifier_turn quantifier.Any = refl
quantifier_turn quantifier.Some = refl
quantifier_turn quantifier.All = refl

pub untrue : (b : Bool) → not b ≡ true → b ≡ false
untrue false h = refl
untrue true h = absurd (cc)

module _ (d : ℕ) (nested : Parser Expr) (inner : Parser Query) (i : Inside d nested inner) (looks : Looks) (operand : Parser Expr) (r : Reads d 5 operand) (st : Starts starts_signed operand) where
  read_compared : (by : Comparison) (right left : Expr) (start : Stream) (place : Place) (now next : Stream) → Run (word (g.comparison_symbol by) ∷ Piece.part 5 (tree_facts right) ∷ []) d now next → goes_on 4 next ≡ false
      → relation_after nested inner operand start place left now ≡ node start place (e.Compared left by right) next
  unfolding a_comparison
  read_compared by right left start place now next run stop =
      let u = run.0 in
      let t = subst (λ w. Run (Piece.part 5 (tree_facts right) ∷ []) (Rattle.sq_grammar.proofs.Runs.spent w d) u next) (comparison_turn by) run.3 in
      let found = r.reads right u t.0 t.1 t.2 t.3 (subst (λ v. goes_on 5 v ≡ false) (sym t.4) (stops-more 4 5 next (omega arith) stop)) in
      passed (λ v. begins_quantified v.tokens) (quantified_after nested inner start place left) (compared_or nested inner operand start place left) now
      (ap (λ tokens. begins_quantified tokens) run.1.first ∙ ap (λ o. is_quantified o u.tokens) (compared_again by) ∙ unquantified u.tokens (st u t.0 right found))
      ∙ chosen (λ v. begins_comparison v.tokens) (comparison_after operand start place left) (pure left) now
      (ap (λ tokens. begins_comparison tokens) run.1.first ∙ ap (λ o. is_some (as_comparison o)) (compared_again by))
      ∙ step a_comparison (λ x. operand >>= (λ y. node start place (e.Compared left x y))) now u by (says_token comparison_of by (reading.Symbol (g.comparison_symbol by)) now u run.1 (ap as_comparison (compared_again by)))
      ∙ step operand (λ y. node start place (e.Compared left by y)) u t.0 right found
      ∙ ap (λ v. node start place (e.Compared left by right) v) t.4

  -- an array or a query behind ANY
  to_any : (by : Operator) (word_of : Quantifier) (rest : List Piece) (left : Expr) (start : Stream) (place : Place) (now next : Stream) (answer : Outcome Expr)
      → Run (say (g.operator_reading by) ∷ word (g.quantifier_symbol word_of) ∷ rest) d now next
      → ((u : Stream) → Run rest d u next → choose (λ v. holds_query v.tokens) (any_query nested inner start place left by word_of) (any_array nested inner start place left by word_of) u ≡ answer)
      → relation_after nested inner operand start place left now ≡ answer
  unfolding an_operator
  to_any by word_of rest left start place now next answer run behind =
      let u = run.0 in
      let t = after_operator by d (word (g.quantifier_symbol word_of) ∷ rest) u next run.3 in
      let w = subst (λ w. Run rest (Rattle.sq_grammar.proofs.Runs.spent w d) t.0 next) (quantifier_turn word_of) t.3 in
      chosen (λ v. begins_quantified v.tokens) (quantified_after nested inner start place left) (compared_or nested inner operand start place left) now
      (ap (λ tokens. begins_quantified tokens) run.1.first ∙ ap (λ o. is_quantified o u.tokens) (operator_again by) ∙ quantifier_seen word_of u t.0 t.1)
      ∙ step an_operator (λ x. a_quantifier >>= (λ y. choose (λ v. holds_query v.tokens) (any_query nested inner start place left x y) (any_array nested inner start place left x y))) now u by
      (says_token operator_at by (g.operator_reading by) now u run.1 (operator_again by))
      ∙ step a_quantifier (λ y. choose (λ v. holds_query v.tokens) (any_query nested inner start place left by y) (any_array nested inner start place left by y)) u t.0 word_of (quantifier_said word_of u t.0 t.1)
      ∙ behind t.0 w

  any_stops : (by : Operator) (word_of : Quantifier) (rest : List Piece) (now next : Stream) → Run (say (g.operator_reading by) ∷ word (g.quantifier_symbol word_of) ∷ rest) d now next → goes_on 5 now ≡ false
  any_stops by word_of rest now next run =
      let u = run.0 in
      let t = after_operator by d (word (g.quantifier_symbol word_of) ∷ rest) u next run.3 in
      says_goes 5 (g.operator_reading by) now u run.1 ∙ ap (λ o. from 5 o) (operator_reads by u.tokens) ∙ ap (λ b. from 5 (Some (if b then 4 else level_of by))) (quantifier_seen word_of u t.0 t.1)

  read_any_array : (by : Operator) (word_of : Quantifier) (right left : Expr) (start : Stream) (place : Place) (now next : Stream)
      → Run (say (g.operator_reading by) ∷ word (g.quantifier_symbol word_of) ∷ word s.Open ∷ Piece.need (not (g.is_scalar (tree_facts right))) ∷ Piece.part 0 (tree_facts right) ∷ word s.Close ∷ []) d now next
      → relation_after nested inner operand start place left now ≡ node start place (e.AnyArray left by word_of right) next
  read_any_array by word_of right left start place now next run =
      to_any by word_of (word s.Open ∷ Piece.need (not (g.is_scalar (tree_facts right))) ∷ Piece.part 0 (tree_facts right) ∷ word s.Close ∷ []) left start place now next (node start place (e.AnyArray left by word_of right) next) run (λ u t.
      let y = t.3.1 in
      let c = y.4 in
      let found = i.reads right t.0 y.0 y.1 (omega (arith, y.2, t.2)) y.3 (says_goes 0 (reading.Symbol s.Close) y.0 c.0 c.1) in
      passed (λ v. holds_query v.tokens) (any_query nested inner start place left by word_of) (any_array nested inner start place left by word_of) u
      (looks.lacks right u t.0 y.0 t.1 y.1 y.3 (i.starts t.0 y.0 right found) (inl (untrue (g.is_scalar (tree_facts right)) t.3.0)))
      ∙ step (expect s.Open) (λ _. nested >>= (λ z. expect s.Close >>= (λ _. node start place (e.AnyArray left by word_of z)))) u t.0 tt (says_expect s.Open u t.0 t.1)
      ∙ step nested (λ z. expect s.Close >>= (λ _. node start place (e.AnyArray left by word_of z))) t.0 y.0 right found
      ∙ step (expect s.Close) (λ _. node start place (e.AnyArray left by word_of right)) y.0 c.0 tt (says_expect s.Close y.0 c.0 c.1)
      ∙ ap (λ v. node start place (e.AnyArray left by word_of right) v) c.3)

  read_any_query : (by : Operator) (word_of : Quantifier) (query : Query) (left : Expr) (start : Stream) (place : Place) (now next : Stream)
      → Run (say (g.operator_reading by) ∷ word (g.quantifier_symbol word_of) ∷ word s.Open ∷ p.whole (query_facts query) ∷ word s.Close ∷ []) d now next
      → relation_after nested inner operand start place left now ≡ node start place (e.AnyQuery left by word_of query) next
  read_any_query by word_of query left start place now next run =
      to_any by word_of (word s.Open ∷ p.whole (query_facts query) ∷ word s.Close ∷ []) left start place now next (node start place (e.AnyQuery left by word_of query) next) run (λ u t.
      let y = t.3 in
      let c = y.4 in
      chosen (λ v. holds_query v.tokens) (any_query nested inner start place left by word_of) (any_array nested inner start place left by word_of) u (looks.holds query u t.0 y.0 c.0 t.1 y.1 y.3 c.1)
      ∙ step (expect s.Open) (λ _. inner >>= (λ z. expect s.Close >>= (λ _. node start place (e.AnyQuery left by word_of z)))) u t.0 tt (says_expect s.Open u t.0 t.1)
      ∙ step inner (λ z. expect s.Close >>= (λ _. node start place (e.AnyQuery left by word_of z))) t.0 y.0 query (i.queries query t.0 y.0 y.1 (omega (arith, y.2, t.2)) y.3 (that_symbol s.Close y.0 c.0 c.1))
      ∙ step (expect s.Close) (λ _. node start place (e.AnyQuery left by word_of query)) y.0 c.0 tt (says_expect s.Close y.0 c.0 c.1)
      ∙ ap (λ v. node start place (e.AnyQuery left by word_of query) v) c.3)

  related_here : (form : Expression) (k : Shape form) (x : Expr) (now next : Stream) → x.form ≡ form → (expression_facts form x.place).level ≡ Some 4 → (expression_facts form x.place).depth ≤ d → Along (expression_facts form x.place).marks now next → Framed x now next
      → goes_on 4 next ≡ false → related nested inner operand now ≡ Some (x, next)
  unfolding related
  related_here _ (Shape.compared left by right) x now next is st de a f stop =
      let run = opened Sort.plain 4 1 4 d (Piece.part 5 (tree_facts left) ∷ at x.place ∷ word (g.comparison_symbol by) ∷ Piece.part 5 (tree_facts right) ∷ []) (expression_facts (e.Compared left by right) x.place) now next (q.facts-compared left by right x.place) (from_level st) de a in
      let u = run.0 in
      let c = run.4.1 in
      operand_then operand (relation_after nested inner operand) x.place left now u (Some (x, next))
      (r.reads left now u run.1 run.2 run.3 (says_goes 5 (reading.Symbol (g.comparison_symbol by)) u c.0 c.1 ∙ ap (λ o. from 5 o) (comparison_reads by c.0.tokens) ∙ below_five (begins_quantifier c.0.tokens))) run.4.0
      (read_compared by right left now x.place u next c stop ∙ made x now next x.place (e.Compared left by right) f refl is)
  related_here _ (Shape.any_array left by word_of right) x now next is st de a f stop =
      let tail = word s.Open ∷ Piece.need (not (g.is_scalar (tree_facts right))) ∷ Piece.part 0 (tree_facts right) ∷ word s.Close ∷ [] in
      let run = opened Sort.plain 4 1 4 d (Piece.part 5 (tree_facts left) ∷ at x.place ∷ say (g.operator_reading by) ∷ word (g.quantifier_symbol word_of) ∷ tail) (expression_facts (e.AnyArray left by word_of right) x.place) now next (q.facts-any_array left by word_of right x.place) (from_level st) de a in
      let u = run.0 in
      operand_then operand (relation_after nested inner operand) x.place left now u (Some (x, next)) (r.reads left now u run.1 run.2 run.3 (any_stops by word_of tail u next run.4.1)) run.4.0
      (read_any_array by word_of right left now x.place u next run.4.1 ∙ made x now next x.place (e.AnyArray left by word_of right) f refl is)
  related_here _ (Shape.any_query left by word_of query) x now next is st de a f stop =
      let tail = word s.Open ∷ p.whole (query_facts query) ∷ word s.Close ∷ [] in
      let run = opened Sort.plain 4 1 4 d (Piece.part 5 (tree_facts left) ∷ at x.place ∷ say (g.operator_reading by) ∷ word (g.quantifier_symbol word_of) ∷ tail) (expression_facts (e.AnyQuery left by word_of query) x.place) now next (q.facts-any_query left by word_of query x.place) (from_level st) de a in
      let u = run.0 in
      operand_then operand (relation_after nested inner operand) x.place left now u (Some (x, next)) (r.reads left now u run.1 run.2 run.3 (any_stops by word_of tail u next run.4.1)) run.4.0
      (read_any_query by word_of query left now x.place u next run.4.1 ∙ made x now next x.place (e.AnyQuery left by word_of query) f refl is)
  related_here _ (Shape.operation y links) x now next is st de a f stop = let bad = at_home _ (Shape.operation y links) x.place 4 st in absurd (omega (arith, bad.0))
  related_here form k x now next is st de a f stop = let bad = at_home form k x.place 4 st in absurd (first_of (omega arith, cc))

  related_lift : (x : Expr) (now next : Stream) → from 5 (tree_facts x).level ≡ true → (tree_facts x).depth ≤ d → Along (tree_facts x).marks now next → goes_on 4 next ≡ false → related nested inner operand now ≡ Some (x, next)
  unfolding related
  related_lift x now next sx de a stop =
      step operand (λ left v. relation_after nested inner operand now (here v) left v) now next x (r.reads x now next sx de a (stops-more 4 5 next (omega arith) stop))
      ∙ passed (λ v. begins_quantified v.tokens) (quantified_after nested inner now (here next) x) (compared_or nested inner operand now (here next) x) next (unquantified_here next.tokens stop)
      ∙ passed (λ v. begins_comparison v.tokens) (comparison_after operand now (here next) x) (pure x) next (uncompared_here next.tokens stop)

  pub reads_related : Reads d 4 (related nested inner operand)
  reads_related = record {
    reads = λ x now next sx de a stop. elim (above 4 (tree_facts x).level sx) [
      | inl here ↦ let f = framed x now next a in related_here x.form (shape x.form) x now next refl here de f.along f stop
      | inr up ↦ related_lift x now next up de a stop
    ];
  }
