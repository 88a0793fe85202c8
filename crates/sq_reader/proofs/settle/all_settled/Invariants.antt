use Rattle.std.proofs.Common.{◌≡◌, [], take, drop}
use Rattle.sq_reader.specs.Reading.{with_shown, settled_from}
use Rattle.sq_reader.proofs.settle.all_settled.Given as goal

-- the signatures so far stand before those of the other items
abbrev pub invariant-loop-place : goal.invariant-loop-place
invariant-loop-place l = with_shown l.all (settled_from l.items (take l.place l.items) (drop l.place l.items)) ≡ settled_from l.items [] l.items
