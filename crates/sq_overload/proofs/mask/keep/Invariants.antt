use Rattle.std.proofs.Common.{◌≡◌, ◌+◌, ◌*◌, ◌^◌, drop}
use Rattle.sq_overload.specs.Masks.{passes}
use Rattle.sq_overload.proofs.Kept.{narrowed}
use Rattle.sq_overload.proofs.mask.keep.Given as goal

-- the rows so far, and then those that are left
abbrev pub invariant-loop-place : goal.invariant-loop-place
invariant-loop-place l = l.kept.bits + 2 ^ l.place * narrowed (passes l.args l.test) l.left.bits (drop l.place l.rows) ≡ narrowed (passes l.args l.test) l.fn.mask.bits l.rows
