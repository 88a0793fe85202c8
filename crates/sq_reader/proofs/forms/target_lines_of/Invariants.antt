use Rattle.std.proofs.Common.{◌≤◌, length}
use Rattle.sq_reader.specs.Forms.{target_at}
use Rattle.sq_reader.proofs.Many.{IsToldOf}
use Rattle.sq_reader.proofs.forms.target_lines_of.Given as goal

-- what was read so far stands before what the rest reads as
abbrev pub invariant-loop-name : goal.invariant-loop-name
invariant-loop-name l = record { told : IsToldOf target_at l.text l.names l.rest; within : length l.rest ≤ length l.text }

abbrev pub decreases-loop-name : goal.decreases-loop-name
decreases-loop-name l = length l.rest
