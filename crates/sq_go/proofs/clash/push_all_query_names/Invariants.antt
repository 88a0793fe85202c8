use Rattle.std.proofs.Common.{◌≡◌, ◌++◌, map, take}
use Rattle.sq_shown.specs.Layout.{queries_of}
use Rattle.sq_shown.specs.declared.declaration.QuerySig.{QuerySig}
use Rattle.sq_go.proofs.clash.push_all_query_names.Given as goal

-- the queries of the files so far
abbrev pub invariant-loop-file : goal.invariant-loop-file
invariant-loop-file l = l.names ≡ l.fn.names ++ map (λ (query : QuerySig). query.signature.name) (queries_of (take l.file-index l.files))
