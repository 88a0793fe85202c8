use Rattle.std.proofs.Common.{◌+◌, ◌*◌}
use Rattle.sq_parse_expr.proofs.grammar.+Grammar-from_at+fn-Grammar-from_at-from_over.Given as goal

abbrev pub decreases-Grammar::from_at : goal.decreases-Grammar::from_at
decreases-Grammar::from_at g l = 2 * l.limit

abbrev pub decreases-from_over : goal.decreases-from_over
decreases-from_over g l = 2 * l.below + 1
