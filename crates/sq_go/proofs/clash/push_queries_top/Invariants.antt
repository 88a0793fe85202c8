use Rattle.std.proofs.Common.{◌≡◌, ◌++◌, take}
use Rattle.std.specs.List.{flat_map}
use Rattle.sq_shown.specs.Layout.{queries_of}
use Rattle.sq_shown.specs.Names.{query_top}
use Rattle.sq_go.proofs.clash.push_queries_top.Given as goal

-- the queries of the files so far
abbrev pub invariant-loop-file : goal.invariant-loop-file
invariant-loop-file l = l.names ≡ l.fn.names ++ flat_map (query_top l.models) (queries_of (take l.file-index l.files))
