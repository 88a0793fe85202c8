use Rattle.std.proofs.Common.{◌≡◌, ◌++◌, drop}
use Rattle.sq_migrate.specs.Columns.{table_keys}
use Rattle.sq_migrate.proofs.columns.table_keys.Given as goal

abbrev pub invariant-loop-x : goal.invariant-loop-x
invariant-loop-x l = l.found ++ table_keys (drop l.x-index l.elements) ≡ table_keys l.elements
