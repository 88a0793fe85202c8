use Rattle.std.proofs.Common.{◌≡◌, ◌++◌, drop, false}
use Rattle.sq_syntax.specs.Symbols.{undoubled}
use Rattle.sq_lexemes.proofs.lexemes.undoubled_bytes.Given as goal

abbrev pub invariant-loop-byte : goal.invariant-loop-byte
invariant-loop-byte l = l.name ++ undoubled l.after (drop l.byte-index l.bytes) ≡ undoubled false l.bytes
