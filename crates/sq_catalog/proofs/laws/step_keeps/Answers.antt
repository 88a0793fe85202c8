use Rattle.sq_catalog.proofs.ChangesKept.{step_keeps}
use Rattle.sq_catalog.proofs.laws.step_keeps.Goals as goal

pub returns : goal.returns
returns c = step_keeps
