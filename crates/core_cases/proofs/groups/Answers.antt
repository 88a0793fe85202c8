use Rattle.core_cases.proofs.GroupsCases.{holds}
use Rattle.core_cases.proofs.groups.Goals as goal

pub returns : goal.returns
returns c = holds
