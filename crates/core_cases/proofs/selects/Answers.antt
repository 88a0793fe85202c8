use Rattle.core_cases.proofs.SelectsCases.{holds}
use Rattle.core_cases.proofs.selects.Goals as goal

pub returns : goal.returns
returns c = holds
