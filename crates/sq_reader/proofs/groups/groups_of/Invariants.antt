use Rattle.std.proofs.Common.{length}
use Rattle.sq_reader.proofs.GroupSteps.{IsToldOf}
use Rattle.sq_reader.proofs.groups.groups_of.Given as goal

-- the items so far stand before those of the rest
abbrev pub invariant-loop-more : goal.invariant-loop-more
invariant-loop-more l = IsToldOf l.group l.source l.fn.text l.items l.rest

abbrev pub decreases-loop-more : goal.decreases-loop-more
decreases-loop-more l = length l.rest
