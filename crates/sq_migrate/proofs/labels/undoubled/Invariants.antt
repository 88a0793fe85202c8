use Rattle.std.proofs.Common.{◌≡◌, ◌++◌, drop, false}
use Rattle.sq_migrate.specs.Labels.{undoubled}
use Rattle.sq_migrate.proofs.labels.undoubled.Given as goal

abbrev pub invariant-loop-byte : goal.invariant-loop-byte
invariant-loop-byte l = l.text ++ undoubled l.after (drop l.byte-index l.bytes) ≡ undoubled false l.bytes
