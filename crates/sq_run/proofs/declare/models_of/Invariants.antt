use Rattle.std.proofs.Common.{◌≡◌, ◌++◌, drop, map}
use Rattle.sq_run.specs.Project.{model_of}
use Rattle.sq_run.proofs.declare.models_of.Given as goal

abbrev pub invariant-loop-table : goal.invariant-loop-table
invariant-loop-table l = l.models ++ map model_of (drop l.table-index l.tables) ≡ map model_of l.tables
