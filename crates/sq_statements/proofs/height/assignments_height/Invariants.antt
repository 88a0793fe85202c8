use Rattle.std.proofs.Common.{◌≡◌, ◌-◌, ◌^◌, min, take}
use Rattle.sq_statements.specs.Heights.{greatest, assignment_height}
use Rattle.sq_statements.proofs.height.assignments_height.Given as goal

abbrev pub invariant-loop-set : goal.invariant-loop-set
invariant-loop-set l = l.most ≡ min (greatest assignment_height (take l.set-index l.sets)) (2 ^ 32 - 1)
