use Rattle.std.proofs.Common.{◌≡◌, ◌++◌}
use Rattle.sq_run.specs.Schema.{found_at}
use Rattle.sq_run.proofs.schema.found_at.Given as goal

abbrev pub invariant-loop-refusal : goal.invariant-loop-refusal
invariant-loop-refusal l = l.findings ++ found_at l.path l.refusal-iterator.rest.items ≡ found_at l.path l.fn.refusals
