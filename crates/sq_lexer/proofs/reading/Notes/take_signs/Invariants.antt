use Rattle.std.proofs.Common.{◌+◌, ◌≤◌, drop}
use Rattle.sq_lexer.specs.Reading.{Advances}
use Rattle.sq_lexer.proofs.reading.Notes.take_signs.Given as goal

abbrev pub invariant-loop-index : goal.invariant-loop-index
invariant-loop-index l = record {
  line : l.self.place.line ≤ l.fn.self.place.line + l.index;
  column : l.self.place.column ≤ l.fn.self.place.column + l.index;
  holds : Advances l.fn.self l.rest l.self (drop l.index l.rest);
}
