use Rattle.sq_catalog.proofs.Bases.{base_held}
use Rattle.sq_catalog.proofs.laws.base_is_held.Goals as goal

pub returns : goal.returns
returns c = base_held
