use Rattle.std.proofs.Common.{length}
use Rattle.sq_reader.specs.Forms.{import_at}
use Rattle.sq_reader.proofs.Many.{IsToldOf}
use Rattle.sq_reader.proofs.forms.import_lines_of.Given as goal

-- what was read so far stands before what the rest reads as
abbrev pub invariant-loop-path : goal.invariant-loop-path
invariant-loop-path l = IsToldOf import_at l.text l.paths l.rest

abbrev pub decreases-loop-path : goal.decreases-loop-path
decreases-loop-path l = length l.rest
