use Rattle.sq_overload.proofs.Kept.{kept_ones}
use Rattle.sq_overload.proofs.mask.every.Goals as goal

pub returns : goal.returns
returns c = kept_ones 0 128 c.args.rows.now c.requires.few
