use Rattle.std.proofs.Common.{◌≡◌, length}
use Rattle.sq_parse_ddl.specs.Runs.{rest_of_run}
use Rattle.sq_parse_ddl.proofs.runs.rest.Given as goal

abbrev pub invariant-loop-alloc : goal.invariant-loop-alloc
invariant-loop-alloc l = rest_of_run l.stop l.fn.brackets.items l.fn.found l.fn.tokens ≡ rest_of_run l.stop l.brackets.items l.found l.tokens

abbrev pub decreases-loop-alloc : goal.decreases-loop-alloc
decreases-loop-alloc l = length l.tokens.tokens
