use Rattle.std.proofs.Common.{◌≡◌, drop}
use Rattle.sq_syntax.specs.Items.{closes_tag}
use Rattle.sq_lexer.proofs.item.closes_tag.Given as goal

abbrev pub invariant-loop-byte : goal.invariant-loop-byte
invariant-loop-byte l = closes_tag (drop l.byte-index l.bytes) ≡ closes_tag l.bytes
