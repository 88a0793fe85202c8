use Rattle.std.proofs.Common.{◌≡◌, drop, find}
use Rattle.sq_overload.specs.Converts.{is_known}
use Rattle.sq_overload.proofs.agreement.first_known.Given as goal

-- no type so far is known
abbrev pub invariant-loop-of : goal.invariant-loop-of
invariant-loop-of l = find is_known (drop l.of-index l.types) ≡ find is_known l.types
