use Rattle.std.proofs.Common.{◌≡◌, map, take}
use Rattle.sq_shown.specs.Identifiers.{word_byte}
use Rattle.sq_shown.proofs.identifier.word_bytes.Given as goal

-- the bytes so far are written
abbrev pub invariant-loop-byte : goal.invariant-loop-byte
invariant-loop-byte l = l.word ≡ map word_byte (take l.byte-index l.text)
