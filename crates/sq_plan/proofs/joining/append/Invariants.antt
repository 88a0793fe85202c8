use Rattle.std.proofs.Common.{◌≡◌, ◌++◌}
use Rattle.sq_plan.proofs.joining.append.Given as goal

abbrev pub invariant-loop-item : goal.invariant-loop-item
invariant-loop-item g l = l.items ++ l.item-iterator.rest.items ≡ l.fn.items ++ l.fn.more
