use Rattle.std.proofs.Common.{◌≡◌, drop, find}
use Rattle.sq_overload.specs.CommonType.{differs}
use Rattle.sq_overload.proofs.agreement.agreed.Given as goal

-- no type so far differs
abbrev pub invariant-loop-of : goal.invariant-loop-of
invariant-loop-of l = find (differs l.candidate) (drop l.of-index l.types) ≡ find (differs l.candidate) l.types
