use Rattle.std.proofs.Common.{◌≡◌, ◌++◌, drop, map}
use Rattle.sq_migrate.specs.Columns.{text}
use Rattle.sq_migrate.proofs.columns.texts.Given as goal

abbrev pub invariant-loop-name : goal.invariant-loop-name
invariant-loop-name l = l.texts ++ map text (drop l.name-index l.names) ≡ map text l.names
