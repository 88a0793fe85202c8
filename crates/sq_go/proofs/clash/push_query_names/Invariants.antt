use Rattle.std.proofs.Common.{◌≡◌, ◌++◌, map, take}
use Rattle.sq_shown.specs.declared.declaration.QuerySig.{QuerySig}
use Rattle.sq_go.proofs.clash.push_query_names.Given as goal

-- the queries so far
abbrev pub invariant-loop-query : goal.invariant-loop-query
invariant-loop-query l = l.names ≡ l.fn.names ++ map (λ (query : QuerySig). query.signature.name) (take l.query-index l.queries)
