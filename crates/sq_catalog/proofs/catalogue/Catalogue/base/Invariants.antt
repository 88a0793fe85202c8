use Rattle.std.proofs.Common.{◌≡◌}
use Rattle.sq_catalog.specs.UserTypes.{steps_under, base}
use Rattle.sq_catalog.proofs.catalogue.Catalogue.base.Given as goal

abbrev pub invariant-loop-left : goal.invariant-loop-left
invariant-loop-left l = steps_under l.left l.self l.found ≡ base l.self l.fn.of

abbrev pub decreases-loop-left : goal.decreases-loop-left
decreases-loop-left l = l.left
