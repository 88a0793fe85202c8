use Rattle.std.proofs.Common.{◌≡◌, map, take}
use Rattle.sq_scope.specs.Tables.{range_column}
use Rattle.sq_scope.proofs.tables.range_columns.Given as goal

abbrev pub invariant-loop-column : goal.invariant-loop-column
invariant-loop-column l = l.copies ≡ map range_column (take l.column-index l.columns)
