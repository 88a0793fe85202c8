use Rattle.std.proofs.Common.{◌≡◌}
use Rattle.sq_catalog.specs.Dropping.{stripped_below, stripped}
use Rattle.sq_catalog.proofs.dropping.strip.Given as goal

abbrev pub invariant-loop-left : goal.invariant-loop-left
invariant-loop-left l = stripped_below l.ids l.left l.table ≡ stripped l.ids l.initial.table

abbrev pub decreases-loop-left : goal.decreases-loop-left
decreases-loop-left l = l.left
