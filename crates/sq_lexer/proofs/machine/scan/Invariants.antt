use Rattle.std.proofs.Common.{◌≡◌, ◌≤◌, [], None, take, drop}
use Rattle.sq_lexer.specs.Machine.{scan, begin, reach}
use Rattle.sq_lexer.proofs.machine.scan.Given as goal

abbrev pub invariant-loop-index : goal.invariant-loop-index
invariant-loop-index l = (scan (take l.index l.bytes) l.state l.found (drop l.index l.bytes) ≡ scan [] (begin l.first) None l.bytes) × (reach l.state ≤ l.index)
