use Rattle.std.proofs.Common.{◌≡◌, ◌++◌, drop, map}
use Rattle.sq_migrate.specs.Labels.{label}
use Rattle.sq_migrate.proofs.labels.labels.Given as goal

abbrev pub invariant-loop-text : goal.invariant-loop-text
invariant-loop-text l = l.labels ++ map label (drop l.text-index l.texts) ≡ map label l.texts
