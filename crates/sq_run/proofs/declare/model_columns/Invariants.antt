use Rattle.std.proofs.Common.{◌≡◌, ◌++◌, drop, map}
use Rattle.sq_run.specs.Judged.{output_of}
use Rattle.sq_run.proofs.declare.model_columns.Given as goal

abbrev pub invariant-loop-column : goal.invariant-loop-column
invariant-loop-column l = l.columns ++ map output_of (drop l.column-index l.table.columns) ≡ map output_of l.table.columns
