use Rattle.core_cases.proofs.ArgumentsCases.{holds}
use Rattle.core_cases.proofs.arguments.Goals as goal

pub returns : goal.returns
returns c = holds
