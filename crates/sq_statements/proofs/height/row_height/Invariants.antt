use Rattle.std.proofs.Common.{◌≡◌, ◌-◌, ◌^◌, min, take}
use Rattle.sq_statements.specs.Heights.{greatest, given_height}
use Rattle.sq_statements.proofs.height.row_height.Given as goal

abbrev pub invariant-loop-value : goal.invariant-loop-value
invariant-loop-value l = l.most ≡ min (greatest given_height (take l.value-index l.value-items)) (2 ^ 32 - 1)
