use Rattle.core_cases.proofs.InsideCases.{holds}
use Rattle.core_cases.proofs.queries_inside.Goals as goal

pub returns : goal.returns
returns c = holds
