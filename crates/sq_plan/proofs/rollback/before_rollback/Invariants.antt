use Rattle.sq_plan.proofs.Marked.{IsReadTo}
use Rattle.sq_plan.proofs.rollback.before_rollback.Given as goal

abbrev pub invariant-loop-at : goal.invariant-loop-at
invariant-loop-at l = IsReadTo l.bytes l.at l.line_begins
