use Rattle.std.proofs.Common.{◌≡◌, ◌≤◌, ◌+◌, drop}
use Rattle.sq_syntax.specs.Tokens.{after}
use Rattle.sq_lexer.proofs.place.after.Given as goal

abbrev pub invariant-loop-byte : goal.invariant-loop-byte
invariant-loop-byte l =
    (after l.now (drop l.byte-index l.bytes) ≡ after l.fn.place l.bytes) × (l.now.line ≤ l.fn.place.line + l.byte-index) × (l.now.column ≤ l.fn.place.column + l.byte-index)
