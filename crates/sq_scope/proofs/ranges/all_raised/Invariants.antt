use Rattle.std.proofs.Common.{◌≡◌, ◌++◌, map}
use Rattle.sq_scope.specs.Ranges.{raised_column}
use Rattle.sq_scope.proofs.ranges.all_raised.Given as goal

abbrev pub invariant-loop-column : goal.invariant-loop-column
invariant-loop-column l = l.raised ++ map raised_column l.column-iterator.rest.items ≡ map raised_column l.fn.columns
