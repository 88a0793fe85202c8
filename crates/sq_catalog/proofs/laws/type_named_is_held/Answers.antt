use Rattle.sq_catalog.proofs.Bases.{named_held}
use Rattle.sq_catalog.proofs.laws.type_named_is_held.Goals as goal

pub returns : goal.returns
returns c = named_held
