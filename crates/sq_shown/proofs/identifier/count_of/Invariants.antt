use Rattle.std.proofs.Common.{◌≡◌, ◌≤◌, take}
use Rattle.std.specs.Prelude.{count_by, bytes_eq}
use Rattle.sq_shown.proofs.identifier.count_of.Given as goal

-- the count is that of the names so far
abbrev pub invariant-loop-other : goal.invariant-loop-other
invariant-loop-other l = (l.count ≡ count_by (λ other. bytes_eq other l.name) (take l.other-index l.names)) × (l.count ≤ l.other-index)
