use Rattle.std.proofs.Common.{◌≡◌, ◌++◌, drop}
use Rattle.sq_run.specs.Names.{undoubled, undoubled_from}
use Rattle.sq_run.proofs.names.undoubled.Given as goal

abbrev pub invariant-loop-byte : goal.invariant-loop-byte
invariant-loop-byte l = l.name ++ undoubled_from l.behind_quote (drop l.byte-index l.bytes) ≡ undoubled l.bytes
