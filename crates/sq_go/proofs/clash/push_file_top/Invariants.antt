use Rattle.std.proofs.Common.{◌≡◌, ◌++◌, take}
use Rattle.std.specs.List.{flat_map}
use Rattle.sq_shown.specs.Names.{query_top}
use Rattle.sq_go.proofs.clash.push_file_top.Given as goal

-- the queries so far
abbrev pub invariant-loop-query : goal.invariant-loop-query
invariant-loop-query l = l.names ≡ l.fn.names ++ flat_map (query_top l.models) (take l.query-index l.queries)
