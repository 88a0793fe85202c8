use Rattle.std.proofs.Common.{◌≡◌, drop}
use Rattle.sq_catalog.specs.UserTypes.{repeated_label}
use Rattle.sq_catalog.proofs.labels.repeated_label.Given as goal

abbrev pub invariant-loop-at : goal.invariant-loop-at
invariant-loop-at l = repeated_label (drop l.at l.labels) ≡ repeated_label l.labels
