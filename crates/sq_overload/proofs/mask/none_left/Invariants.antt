use Rattle.std.proofs.Common.{◌≡◌, drop}
use Rattle.sq_overload.specs.Masks.{kept, kept_from}
use Rattle.sq_overload.specs.Resolution.{none_left}
use Rattle.sq_overload.proofs.mask.none_left.Given as goal

-- none so far
abbrev pub invariant-loop-row : goal.invariant-loop-row
invariant-loop-row l = none_left (kept_from l._row-index l.left.bits (drop l._row-index l.rows)) ≡ none_left (kept l.rows l.fn.mask.bits)
