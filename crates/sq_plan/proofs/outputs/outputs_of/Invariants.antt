use Rattle.std.proofs.Common.{drop}
use Rattle.sq_plan.specs.Outputs.{output_of_entry}
use Rattle.sq_plan.proofs.EachJudged.{Carries}
use Rattle.sq_plan.proofs.outputs.outputs_of.Given as goal

abbrev pub invariant-loop-entry : goal.invariant-loop-entry
invariant-loop-entry l = Carries (output_of_entry l.configuration) l.entries (drop l.entry-index l.entries) l.so_far
