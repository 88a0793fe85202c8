use Rattle.std.proofs.Common.{◌≡◌, drop}
use Rattle.sq_overload.specs.Masks.{kept, kept_from}
use Rattle.sq_overload.specs.Resolution.{most_from}
use Rattle.sq_overload.proofs.mask.most.Given as goal

-- the greatest count so far, and then of the rows that are left
abbrev pub invariant-loop-row : goal.invariant-loop-row
invariant-loop-row l = most_from l.fit l.args l.most (kept_from l.row-index l.left.bits (drop l.row-index l.rows)) ≡ most_from l.fit l.args 0 (kept l.rows l.fn.mask.bits)
