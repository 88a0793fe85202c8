use Rattle.std.proofs.Common.{length, ◌-◌, ◌+◌, ◌≤◌, drop}
use Rattle.sq_lexer.specs.Reading.{Continues}
use Rattle.sq_lexer.proofs.reading.read.Given as goal

abbrev pub invariant-loop-start : goal.invariant-loop-start
invariant-loop-start l = record {
  within : l.start ≤ length l.text;
  line : l.notes.place.line ≤ l.fn.place.line + l.start;
  column : l.notes.place.column ≤ l.fn.place.column + l.start;
  holds : Continues l.fn.gap l.fn.place l.text l.notes (drop l.start l.text);
}

abbrev pub decreases-loop-start : goal.decreases-loop-start
decreases-loop-start l = length l.text - l.start
