use Rattle.std.proofs.Common.{◌≡◌, drop}
use Rattle.sq_base.specs.Files.{bytes_at}
use Rattle.sq_base.proofs.memory_tree.held.Given as goal

abbrev pub invariant-loop-file : goal.invariant-loop-file
invariant-loop-file l = bytes_at (drop l.file-index l.files) l.path ≡ bytes_at l.files l.path
