use Rattle.std.proofs.Common.{◌≡◌, drop}
use Rattle.sq_catalog.specs.Dropping.{fallen}
use Rattle.sq_catalog.proofs.dropping.fallen.Given as goal

abbrev pub invariant-loop-of : goal.invariant-loop-of
invariant-loop-of l = fallen l.all.items (drop l.of-index l.domains) ≡ fallen l.initial.all.items l.domains
