use Rattle.std.proofs.Common.{◌≡◌, ◌++◌}
use Rattle.sq_scope.specs.Tables.{renamed}
use Rattle.sq_scope.proofs.tables.renamed.Given as goal

abbrev pub invariant-loop-place : goal.invariant-loop-place
invariant-loop-place l =
    l.made ++ renamed l.names l.place-iterator.count l.place-iterator.iter.rest.items ≡ renamed l.names 0 l.fn.columns
