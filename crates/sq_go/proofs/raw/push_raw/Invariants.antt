use Rattle.std.proofs.Common.{◌≡◌, ◌++◌, length}
use Rattle.sq_shown.specs.Layout.{raw}
use Rattle.sq_go.proofs.raw.push_raw.Given as goal

-- the text so far is written
abbrev pub invariant-loop-rest : goal.invariant-loop-rest
invariant-loop-rest l = l.out ++ raw l.rest ≡ l.fn.out ++ raw l.text

abbrev pub decreases-loop-rest : goal.decreases-loop-rest
decreases-loop-rest l = length l.rest
