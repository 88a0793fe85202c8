use Rattle.std.proofs.Common.{◌≡◌, ◌-◌, ◌^◌, min, take}
use Rattle.sq_statements.specs.Heights.{greatest, shown_height}
use Rattle.sq_statements.proofs.height.returning_height.Given as goal

abbrev pub invariant-loop-each : goal.invariant-loop-each
invariant-loop-each l = l.most ≡ min (greatest shown_height (take l.each-index l.shown)) (2 ^ 32 - 1)
