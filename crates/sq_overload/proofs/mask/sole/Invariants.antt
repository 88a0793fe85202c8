use Rattle.std.proofs.Common.{◌≡◌, drop}
use Rattle.sq_overload.specs.Masks.{kept, kept_from}
use Rattle.sq_overload.specs.Resolution.{sole}
use Rattle.sq_overload.proofs.mask.sole.Given as goal

-- none so far
abbrev pub invariant-loop-place : goal.invariant-loop-place
invariant-loop-place l = sole (kept_from l.place l.left.bits (drop l.place l.rows)) ≡ sole (kept l.rows l.fn.mask.bits)
