use Rattle.std.proofs.Common.{◌≡◌, ◌++◌, map}
use Rattle.sq_run.specs.Project.{placed}
use Rattle.sq_run.proofs.write.all_placed.Given as goal

abbrev pub invariant-loop-file : goal.invariant-loop-file
invariant-loop-file l = l.put ++ map (placed l.folder) l.file-iterator.rest.items ≡ map (placed l.folder) l.fn.files
