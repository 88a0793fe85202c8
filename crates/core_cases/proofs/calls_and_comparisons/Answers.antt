use Rattle.core_cases.proofs.CallsCases.{holds}
use Rattle.core_cases.proofs.calls_and_comparisons.Goals as goal

pub returns : goal.returns
returns c = holds
