use Rattle.std.proofs.Common.{◌≡◌, drop, []}
use Rattle.sq_base.specs.Files.{entries_after}
use Rattle.sq_base.proofs.memory_tree.entries.Given as goal

abbrev pub invariant-loop-file : goal.invariant-loop-file
invariant-loop-file l = entries_after l.names l.start (drop l.file-index l.files) ≡ entries_after [] l.start l.files
