use Rattle.std.proofs.Common.{drop}
use Rattle.sq_run.specs.Project.{written}
use Rattle.sq_plan.proofs.EachJudged.{Carries}
use Rattle.sq_run.proofs.write.write_all.Given as goal

abbrev pub invariant-loop-output : goal.invariant-loop-output
invariant-loop-output l = Carries (written l.configuration l.models l.queries) l.outputs (drop l.output-index l.outputs) l.so_far
