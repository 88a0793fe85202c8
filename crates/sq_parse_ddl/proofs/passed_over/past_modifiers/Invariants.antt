use Rattle.std.proofs.Common.{◌≡◌, length}
use Rattle.sq_parse_ddl.specs.PassedOver.{past_modifiers}
use Rattle.sq_parse_ddl.proofs.passed_over.past_modifiers.Given as goal

abbrev pub invariant-loop-after : goal.invariant-loop-after
invariant-loop-after l = past_modifiers l.tokens ≡ past_modifiers l.rest

abbrev pub decreases-loop-after : goal.decreases-loop-after
decreases-loop-after l = length l.rest
