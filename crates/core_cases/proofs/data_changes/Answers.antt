use Rattle.core_cases.proofs.DataChangesCases.{holds}
use Rattle.core_cases.proofs.data_changes.Goals as goal

pub returns : goal.returns
returns c = holds
