use Rattle.std.proofs.Common.{◌≡◌, ◌+◌, drop}
use Rattle.std.specs.List.{prefix_len}
use Rattle.sq_reader.specs.Parts.{allows}
use Rattle.sq_reader.proofs.parts.run_length.Given as goal

-- the bytes so far, and those that follow
abbrev pub invariant-loop-place : goal.invariant-loop-place
invariant-loop-place l = l.place + prefix_len (allows l.class) (drop l.place l.text) ≡ prefix_len (allows l.class) l.text
