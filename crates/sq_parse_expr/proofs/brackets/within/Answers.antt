use Rattle.std.proofs.Common.{sym, ◌∙◌}
use Rattle.sq_parse_expr.proofs.Fronts.{close_none}
use Rattle.sq_parse_expr.proofs.brackets.within.Goals as goal

pub returns-in_err-rest-2 : goal.returns-in_err-rest-2
returns-in_err-rest-2 c =
    rw c.from_residual-in_err-rest-2.ensures (c.loop-rest.invariant.same ∙ rw (sym c.begins_core.ensures ∙ c.loop-rest-test.true, c.in_err-rest-2.ensures) (close_none c.loop-rest.count))
