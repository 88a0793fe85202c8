use Rattle.std.proofs.Common.{◌≡◌, drop}
use Rattle.sq_overload.specs.Masks.{kept, kept_from}
use Rattle.sq_overload.specs.Resolution.{first_slot}
use Rattle.sq_overload.proofs.mask.first_slot.Given as goal

-- none so far
abbrev pub invariant-loop-row : goal.invariant-loop-row
invariant-loop-row l = first_slot l.place (kept_from l.row-index l.left.bits (drop l.row-index l.rows)) ≡ first_slot l.place (kept l.rows l.fn.mask.bits)
