use Rattle.std.proofs.Common.{◌≡◌, drop}
use Rattle.sq_overload.specs.Masks.{kept}
use Rattle.sq_overload.specs.Resolution.{preferring}
use Rattle.sq_overload.proofs.choice.preferring.Given as goal

-- the rows so far, narrowed by the arguments that are left
abbrev pub invariant-loop-place : goal.invariant-loop-place
invariant-loop-place l = preferring (kept l.rows l.mask.bits) l.place (drop l.place l.args) (kept l.rows l.left.bits) ≡ preferring (kept l.rows l.mask.bits) 0 l.args (kept l.rows l.mask.bits)
