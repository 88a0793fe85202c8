use Rattle.std.proofs.Common.{◌≡◌, drop}
use Rattle.sq_catalog.specs.Keys.{all_marked}
use Rattle.sq_catalog.proofs.keys.mark_all.Given as goal

abbrev pub invariant-loop-place : goal.invariant-loop-place
invariant-loop-place l = all_marked l.columns.items (drop l.place-index l.places) ≡ all_marked l.initial.columns.items l.places
