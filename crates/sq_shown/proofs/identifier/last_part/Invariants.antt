use Rattle.std.proofs.Common.{◌≡◌, drop}
use Rattle.sq_shown.specs.Identifiers.{last_after, last_part, parts_after}
use Rattle.sq_shown.proofs.identifier.last_part.Given as goal

-- the last part so far, and those of what is left
abbrev pub invariant-loop-byte : goal.invariant-loop-byte
invariant-loop-byte l = last_after l.last (parts_after l.part (drop l.byte-index l.text)) ≡ last_part l.text
