use Rattle.std.proofs.Common.{◌≡◌, length}
use Rattle.sq_plan.specs.Folds.{folded}
use Rattle.sq_run.specs.Schema.{statements, after_statement}
use Rattle.sq_run.proofs.schema.replay_tokens.Given as goal

abbrev pub invariant-loop-later : goal.invariant-loop-later
invariant-loop-later l = folded (after_statement l.path) l.done (statements l.rest) ≡ folded (after_statement l.path) l.initial.done (statements l.tokens)

abbrev pub decreases-loop-later : goal.decreases-loop-later
decreases-loop-later l = length l.rest
