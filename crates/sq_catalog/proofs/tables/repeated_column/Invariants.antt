use Rattle.std.proofs.Common.{◌≡◌, drop}
use Rattle.sq_catalog.specs.Catalogue.{repeated_column}
use Rattle.sq_catalog.proofs.tables.repeated_column.Given as goal

abbrev pub invariant-loop-at : goal.invariant-loop-at
invariant-loop-at l = repeated_column (drop l.at l.columns) ≡ repeated_column l.columns
