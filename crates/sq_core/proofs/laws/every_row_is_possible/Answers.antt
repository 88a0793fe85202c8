use Rattle.sq_core.proofs.PossibleLemmas.{every_row}
use Rattle.sq_core.proofs.laws.every_row_is_possible.Goals as goal

pub returns : goal.returns
returns c = every_row
