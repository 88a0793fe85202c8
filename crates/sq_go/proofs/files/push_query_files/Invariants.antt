use Rattle.std.proofs.Common.{◌≡◌, ◌++◌, take}
use Rattle.sq_shown.specs.Layout.{query_files}
use Rattle.sq_go.proofs.files.push_query_files.Given as goal

-- the files so far
abbrev pub invariant-loop-file : goal.invariant-loop-file
invariant-loop-file l = l.put ≡ l.fn.put ++ query_files l.package_name l.models (take l.file-index l.files)
