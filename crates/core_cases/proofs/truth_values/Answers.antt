use Rattle.core_cases.proofs.LogicCases.{holds}
use Rattle.core_cases.proofs.truth_values.Goals as goal

pub returns : goal.returns
returns c = holds
