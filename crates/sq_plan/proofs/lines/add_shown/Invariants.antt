use Rattle.std.proofs.Common.{◌≡◌, ◌++◌, drop}
use Rattle.sq_plan.specs.Lines.{shown}
use Rattle.sq_plan.proofs.lines.add_shown.Given as goal

abbrev pub invariant-loop-byte : goal.invariant-loop-byte
invariant-loop-byte l = l.line ++ shown (drop l.byte-index l.text) ≡ l.fn.line ++ shown l.text
