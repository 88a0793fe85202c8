use Rattle.sq_overload.specs.Masks.{kept, passes}
use Rattle.sq_overload.specs.Resolution.{Candidate}
use Rattle.sq_overload.proofs.Kept.{some_left}
use Rattle.sq_overload.proofs.choice.some_pass.Goals as goal

pub returns : goal.returns
returns c =
    rw (c.none_left.ensures, c.keep.ensures)
    (some_left (λ (of : Candidate). passes c.args.args.now c.args.test of.entry) (kept c.args.rows.now c.args.mask.bits))
