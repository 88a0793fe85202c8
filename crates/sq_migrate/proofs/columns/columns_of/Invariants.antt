use Rattle.std.proofs.Common.{◌≡◌, drop}
use Rattle.sq_migrate.specs.Columns.{columns_of}
use Rattle.sq_migrate.proofs.Gathered.{behind}
use Rattle.sq_migrate.proofs.columns.columns_of.Given as goal

abbrev pub invariant-loop-element : goal.invariant-loop-element
invariant-loop-element l = behind l.columns (columns_of l.catalogue (drop l.element-index l.elements)) ≡ columns_of l.catalogue l.elements
