use Rattle.std.proofs.Common.{◌≡◌, ◌++◌}
use Rattle.sq_scope.specs.Ranges.{columns_raised}
use Rattle.sq_scope.proofs.ranges.columns_raised.Given as goal

abbrev pub invariant-loop-place : goal.invariant-loop-place
invariant-loop-place l =
    l.raised ++ columns_raised l.from l.to l.place-iterator.count l.place-iterator.iter.rest.items ≡ columns_raised l.from l.to 0 l.fn.columns
