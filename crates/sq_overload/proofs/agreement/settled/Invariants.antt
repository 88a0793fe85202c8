use Rattle.std.proofs.Common.{◌≡◌, drop}
use Rattle.sq_base.specs.Types.{IsBase}
use Rattle.sq_overload.specs.CommonType.{settled}
use Rattle.sq_overload.proofs.agreement.settled.Given as goal

-- what the candidate so far and the types that are left settle is what all types settle
abbrev pub invariant-loop-of : goal.invariant-loop-of
invariant-loop-of l = (settled l.first l.types l.candidate (drop l.of-index l.types) ≡ settled l.first l.types l.first l.types) × IsBase l.candidate
