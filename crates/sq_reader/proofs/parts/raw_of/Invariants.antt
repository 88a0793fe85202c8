use Rattle.std.proofs.Common.{◌≡◌, drop}
use Rattle.sq_reader.specs.Parts.{onto, raw_after}
use Rattle.sq_reader.proofs.parts.raw_of.Given as goal

-- the bytes so far stand before what the rest stands for
abbrev pub invariant-loop-place : goal.invariant-loop-place
invariant-loop-place l = onto l.raw (raw_after (drop l.place l.text) l.read) ≡ raw_after l.text 0
