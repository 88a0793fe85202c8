use Rattle.std.proofs.Common.{◌≡◌, drop}
use Rattle.sq_syntax.specs.Tokens.{has_newline}
use Rattle.sq_lexer.proofs.place.has_newline.Given as goal

abbrev pub invariant-loop-byte : goal.invariant-loop-byte
invariant-loop-byte l = has_newline (drop l.byte-index l.bytes) ≡ has_newline l.bytes
