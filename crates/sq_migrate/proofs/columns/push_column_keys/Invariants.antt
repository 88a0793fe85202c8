use Rattle.std.proofs.Common.{◌≡◌, ◌++◌, drop}
use Rattle.sq_migrate.specs.Columns.{column_keys}
use Rattle.sq_migrate.proofs.columns.push_column_keys.Given as goal

abbrev pub invariant-loop-x : goal.invariant-loop-x
invariant-loop-x l = l.found ++ column_keys l.column.name (drop l.x-index l.constraints) ≡ l.initial.found ++ column_keys l.column.name l.constraints
