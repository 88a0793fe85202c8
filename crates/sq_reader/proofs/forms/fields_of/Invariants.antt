use Rattle.std.proofs.Common.{◌≤◌, length}
use Rattle.sq_reader.specs.Forms.{field_at}
use Rattle.sq_reader.proofs.Many.{IsToldOf}
use Rattle.sq_reader.proofs.forms.fields_of.Given as goal

-- what was read so far stands before what the rest reads as
abbrev pub invariant-loop-field : goal.invariant-loop-field
invariant-loop-field l = record { told : IsToldOf field_at l.text l.fields l.rest; within : length l.rest ≤ length l.text }

abbrev pub decreases-loop-field : goal.decreases-loop-field
decreases-loop-field l = length l.rest
