use Rattle.std.proofs.Common.{◌≡◌, ◌∙◌, ap, arith}
use Rattle.sq_grammar.specs.Ahead.{closed}
use Rattle.sq_parse_expr.proofs.Fronts.{closed_none}
use Rattle.sq_parse_expr.proofs.brackets.closed.Goals as goal

pub returns : goal.returns
returns c =
    let none : c.loop-depth.depth ≡ 0 = omega (arith, c.loop-depth-test.false) in
    (c.loop-depth.invariant.same ∙ ap (λ n. closed c.loop-depth.rest.now n) none ∙ closed_none c.loop-depth.rest.now, c.loop-depth.invariant.within)
