use Rattle.std.proofs.Common.{◌≡◌, take}
use Rattle.std.specs.List.{flat_map, list_any}
use Rattle.sq_shown.specs.Layout.{is_of_sql, query_forms, query_declarations}
use Rattle.sq_go.proofs.body.query_body.Given as goal

-- the declarations of the queries so far
abbrev pub invariant-loop-query : goal.invariant-loop-query
invariant-loop-query l = (l.body.declarations ≡ flat_map (query_declarations l.models) (take l.query-index l.queries)) × (l.body.sql ≡ list_any is_of_sql (flat_map (query_forms l.models) (take l.query-index l.queries)))
