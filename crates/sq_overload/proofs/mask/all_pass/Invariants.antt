use Rattle.std.proofs.Common.{◌≡◌, drop}
use Rattle.std.specs.List.{list_all}
use Rattle.sq_overload.specs.Masks.{kept, kept_from, passes}
use Rattle.sq_overload.specs.Resolution.{Candidate}
use Rattle.sq_overload.proofs.mask.all_pass.Given as goal

-- all so far pass
abbrev pub invariant-loop-row : goal.invariant-loop-row
invariant-loop-row l = list_all (λ (of : Candidate). passes l.args l.test of.entry) (kept_from l.row-index l.left.bits (drop l.row-index l.rows)) ≡ list_all (λ (of : Candidate). passes l.args l.test of.entry) (kept l.rows l.fn.mask.bits)
