-- Groups and aggregates.
use Rattle.std.specs.Prelude.{true, false, List, [], ◌∷◌, codes}
use Rattle.sq_builtin.specs.Entries.{int4, int8, text}
use Rattle.sq_core.specs.declared.node.Node.TheVariants.{Aggregate}
use Rattle.sq_core.specs.declared.node.Query.TheVariants.{Select as SelectQuery}
use Rattle.sq_core.specs.declared.node.Source.TheVariants.{Table}
use Rattle.sq_core.specs.declared.statement.CoreStatement.TheVariants.{Select}
use Rattle.sq_core.specs.Values.{Null}
use Rattle.core_cases.specs.World.{Seen, Returned, Faulted, Stopped, B, N, a, at, b, big, int, is, no, one, outer, query, seen, yes}
use Rattle.std.specs.Prelude.{ℕ}
use Rattle.sq_core.specs.declared.node.Node.{Node}
use Rattle.sq_core.specs.declared.routine.Aggregation.{Aggregation}
use Rattle.sq_core.specs.declared.routine.Manner.{Manner}
use Rattle.sq_core.specs.declared.statement.CoreStatement.{CoreStatement}

-- count(*) and sum(b)
abbrev count : Node
count = Aggregate (record { routine = record { name = codes "count"; given = []; of = int8; strict = false; may_null = false }; distinct = false }) [] [] []

abbrev sum_row : Aggregation
sum_row = record { routine = record { name = codes "sum"; given = int4 ∷ []; of = int8; strict = true; may_null = false }; distinct = false }

abbrev sum : Node
sum = Aggregate sum_row (b ∷ []) [] []

abbrev whole : Manner
whole = record { grouped = true; distinct = false; ordered = false }

-- SELECT of an aggregate from a table: all rows are one group
abbrev over_all : ℕ → List Node → CoreStatement
over_all table outputs = Select (SelectQuery whole (Table table ∷ []) [] [] [] outputs [])

-- each case, with what is expected of it
abbrev pub groups : List (Seen × Seen)
groups =
    -- count over no row
    (seen (over_all 2 (count ∷ [])) (is (big 0) ∷ []), one (big 0))
    -- count is not null
    ∷ (seen (over_all 2 (count ∷ [])) (is Null ∷ []), Faulted)
    -- sum over no row
    ∷ (seen (over_all 2 (sum ∷ [])) [], one Null)
    -- sum over a row whose argument is not null
    ∷ (seen (over_all 0 (sum ∷ [])) (is (big 20) ∷ []), one (big 20))
    -- sum over such a row is not null
    ∷ (seen (over_all 0 (sum ∷ [])) (is Null ∷ []), Faulted)
    -- sum over rows of nulls that FILTER keeps
    ∷ (seen (over_all 0 (Aggregate sum_row (b ∷ []) [] (B ∷ []) ∷ [])) (yes ∷ no ∷ is Null ∷ []), one Null)
    -- sum over no row that FILTER keeps
    ∷ (seen (over_all 0 (Aggregate sum_row (b ∷ []) [] (B ∷ []) ∷ [])) (no ∷ no ∷ []), one Null)
    -- ORDER BY of an aggregate is evaluated in each row, kept by FILTER or not
    ∷ (seen (over_all 0 (Aggregate sum_row (b ∷ []) (N ∷ []) (B ∷ []) ∷ [])) (is (int 1) ∷ is (int 1) ∷ no ∷ no ∷ []), one Null)
    -- sum of a text
    ∷ (seen (over_all 1 (Aggregate sum_row (outer 0 0 1 text ∷ []) [] [] ∷ [])) (is (big 1) ∷ []), Stopped)
    -- an aggregate outside a group
    ∷ (seen (Select (query (Table 0 ∷ []) (sum ∷ []))) (is (big 20) ∷ is (big 20) ∷ []), Stopped)
    -- a column over a group without a row
    ∷ (seen (over_all 2 (a ∷ [])) [], Stopped)
    -- GROUP BY: the item gives each row its group
    ∷ (seen (Select (SelectQuery whole (Table 0 ∷ []) [] (a ∷ []) [] (a ∷ count ∷ []) [])) (at (5 ∷ 6 ∷ []) ∷ is (big 1) ∷ is (big 1) ∷ []), Returned ((int 1 ∷ big 1 ∷ []) ∷ (int 2 ∷ big 1 ∷ []) ∷ []))
    -- GROUP BY with one group: a column is read in its first row
    ∷ (seen (Select (SelectQuery whole (Table 0 ∷ []) [] (a ∷ []) [] (a ∷ []) [])) (at (5 ∷ 5 ∷ []) ∷ []), Returned ((int 1 ∷ []) ∷ []))
    -- GROUP BY over no row
    ∷ (seen (Select (SelectQuery whole (Table 2 ∷ []) [] (a ∷ []) [] (a ∷ []) [])) (at [] ∷ []), Returned [])
    -- HAVING keeps the groups where it is true
    ∷ (seen (Select (SelectQuery whole (Table 0 ∷ []) [] (a ∷ []) (B ∷ []) (a ∷ []) [])) (at (5 ∷ 6 ∷ []) ∷ no ∷ yes ∷ []), Returned ((int 2 ∷ []) ∷ []))
    -- HAVING without GROUP BY
    ∷ (seen (Select (SelectQuery (record { grouped = false; distinct = false; ordered = false }) (Table 2 ∷ []) [] [] (B ∷ []) (N ∷ []) [])) (yes ∷ is (int 3) ∷ []), one (int 3))
    ∷ []
