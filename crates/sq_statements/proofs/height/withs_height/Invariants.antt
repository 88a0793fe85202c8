use Rattle.std.proofs.Common.{◌≡◌, ◌-◌, ◌^◌, min, take}
use Rattle.sq_statements.specs.Heights.{greatest, with_height}
use Rattle.sq_statements.proofs.height.withs_height.Given as goal

abbrev pub invariant-loop-with : goal.invariant-loop-with
invariant-loop-with l = l.most ≡ min (greatest with_height (take l.with-index l.withs)) (2 ^ 32 - 1)
