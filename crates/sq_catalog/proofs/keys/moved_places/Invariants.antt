use Rattle.std.proofs.Common.{◌≡◌}
use Rattle.sq_catalog.specs.Keys.{moved}
use Rattle.sq_catalog.proofs.ChangedAt.{first_changed}
use Rattle.sq_catalog.proofs.keys.moved_places.Given as goal

abbrev pub invariant-loop-place : goal.invariant-loop-place
invariant-loop-place l = l.place-items ≡ first_changed (moved l.gone) l.place-index l.fn.places
