use Rattle.sq_catalog.proofs.NamesKept.{step_keeps_names}
use Rattle.sq_catalog.proofs.laws.step_keeps_names.Goals as goal

pub returns : goal.returns
returns c = step_keeps_names
