use Rattle.std.proofs.Common.{◌≡◌, []}
use Rattle.sq_catalog.specs.Keys.{places_of}
use Rattle.sq_catalog.proofs.keys.places_of.Given as goal

abbrev pub invariant-loop-name : goal.invariant-loop-name
invariant-loop-name l = places_of l.table [] l.fn.names ≡ places_of l.table l.places l.name-iterator.rest.items
