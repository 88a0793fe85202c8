-- FROM, joins, WHERE, DISTINCT, ORDER BY, LIMIT, WITH and set operations.
use Rattle.std.specs.Prelude.{true, false, List, [], ◌∷◌}
use Rattle.sq_builtin.specs.Entries.{int4, int8, text}
use Rattle.sq_core.specs.declared.node.Node.TheVariants.{Apply, Null as NullNode}
use Rattle.sq_core.specs.declared.node.Query.TheVariants.{Combined, Limited, Select as SelectQuery, With}
use Rattle.sq_core.specs.declared.node.Source.TheVariants.{Chain, Common, Derived, Table}
use Rattle.sq_core.specs.declared.node.Step.TheVariants.{Cross, On}
use Rattle.sq_core.specs.declared.routine.JoinKind.TheVariants.{Full, Inner, Left, Right}
use Rattle.sq_core.specs.declared.routine.Operation.TheVariants.{Call}
use Rattle.sq_core.specs.declared.routine.SetKind.TheVariants.{Except, Intersect, Union}
use Rattle.sq_core.specs.declared.statement.CoreStatement.TheVariants.{Select}
use Rattle.sq_core.specs.Values.{Null}
use Rattle.core_cases.specs.World.{Seen, Returned, Faulted, Stopped, K, N, a, at, b, big, eq, int, is, no, one, outer, query, seen, stored, txt, yes}
use Rattle.std.specs.Prelude.{Bool}
use Rattle.sq_core.specs.declared.node.Node.{Node}
use Rattle.sq_core.specs.declared.node.Query.{Query}
use Rattle.sq_core.specs.declared.node.Source.{Source}
use Rattle.sq_core.specs.declared.routine.Change.{Change}
use Rattle.sq_core.specs.declared.routine.JoinKind.{JoinKind}
use Rattle.sq_core.specs.declared.routine.Manner.{Manner}
use Rattle.sq_core.specs.declared.routine.SetKind.{SetKind}
use Rattle.sq_core.specs.declared.routine.Slot.{Slot}
use Rattle.sq_core.specs.declared.statement.CoreStatement.{CoreStatement}

-- the first column of the second range, the second column of it, and the first merged column of two ranges
abbrev second : Node
second = outer 0 1 0 int4

abbrev c : Node
c = outer 0 1 1 text

abbrev merged : Node
merged = outer 0 2 0 int4

-- t joined with u on t.a = u.a
abbrev joining : JoinKind → Source
joining of = Chain (Table 0) (On (record { kind = of; merged = [] }) (Table 1) (Apply (Call eq) (a ∷ second ∷ []) ∷ []) ∷ [])

-- t joined with u, with the column a of both merged
abbrev own : Slot
own = record { depth = 0; range = 0; column = 0 }

abbrev using : JoinKind → Source
using of = Chain (Table 0) (On (record {
  kind = of;
  merged = record { left = own; right = own; left_of = int4; right_of = int4; of = int4 } ∷ [];
}) (Table 1) (Apply (Call eq) (a ∷ second ∷ []) ∷ []) ∷ [])

abbrev words : Bool → Bool → Manner
words distinct ordered = record { grouped = false; distinct = distinct; ordered = ordered }

-- SELECT a FROM t, with DISTINCT and ORDER BY as they are written
abbrev arranged : Bool → Bool → Query
arranged distinct ordered = SelectQuery (words distinct ordered) (Table 0 ∷ []) [] [] [] (a ∷ []) []

-- SELECT a FROM t, SELECT a FROM u, and an operation over both
abbrev ts : Query
ts = query (Table 0 ∷ []) (a ∷ [])

abbrev us : Query
us = query (Table 1 ∷ []) (a ∷ [])

abbrev same : List Change
same = record { from = int4; to = int4 } ∷ []

abbrev over_both : SetKind → Bool → CoreStatement
over_both kind all = Select (Combined (record { kind = kind; all = all; left = same; right = same } ∷ []) (ts ∷ us ∷ []))

-- each case, with what is expected of it
abbrev pub selects : List (Seen × Seen)
selects =
    -- SELECT gives what is stored, in order
    (seen (Select (query (Table 0 ∷ []) (a ∷ b ∷ []))) [], Returned ((int 1 ∷ Null ∷ []) ∷ (int 2 ∷ int 20 ∷ []) ∷ []))
    -- a column that is not there
    ∷ (seen (Select (query (Table 0 ∷ []) (outer 0 0 5 int4 ∷ []))) [], Stopped)
    -- a table that is not there
    ∷ (seen (Select (query (Table 9 ∷ []) (a ∷ []))) [], Stopped)
    -- FROM of two tables
    ∷ (seen (Select (query (Table 0 ∷ Table 1 ∷ []) (a ∷ second ∷ []))) [], Returned ((int 1 ∷ int 2 ∷ []) ∷ (int 2 ∷ int 2 ∷ []) ∷ []))
    -- CROSS JOIN
    ∷ (seen (Select (query (Chain (Table 0) (Cross (Table 1) ∷ []) ∷ []) (a ∷ second ∷ []))) [], Returned ((int 1 ∷ int 2 ∷ []) ∷ (int 2 ∷ int 2 ∷ []) ∷ []))
    -- WHERE keeps what is true, and neither what is false nor what is null
    ∷ (seen (Select (SelectQuery (words false false) (Table 0 ∷ []) (Apply (Call eq) (b ∷ N ∷ []) ∷ []) [] [] (a ∷ []) [])) (is (int 20) ∷ is (int 20) ∷ yes ∷ []), Returned ((int 2 ∷ []) ∷ []))
    -- WHERE over a number
    ∷ (seen (Select (SelectQuery (words false false) (Table 0 ∷ []) (b ∷ []) [] [] (a ∷ []) [])) [], Stopped)
    -- an inner join
    ∷ (seen (Select (query (joining Inner ∷ []) (a ∷ c ∷ []))) (no ∷ yes ∷ []), Returned ((int 2 ∷ txt 7 ∷ []) ∷ []))
    -- LEFT JOIN extends what matches none
    ∷ (seen (Select (query (joining Left ∷ []) (a ∷ c ∷ []))) (no ∷ yes ∷ []), Returned ((int 2 ∷ txt 7 ∷ []) ∷ (int 1 ∷ Null ∷ []) ∷ []))
    -- LEFT JOIN without a match
    ∷ (seen (Select (query (joining Left ∷ []) (a ∷ c ∷ []))) (no ∷ no ∷ []), Returned ((int 1 ∷ Null ∷ []) ∷ (int 2 ∷ Null ∷ []) ∷ []))
    -- RIGHT JOIN without a match
    ∷ (seen (Select (query (joining Right ∷ []) (a ∷ c ∷ []))) (no ∷ no ∷ []), Returned ((Null ∷ txt 7 ∷ []) ∷ []))
    -- FULL JOIN without a match
    ∷ (seen (Select (query (joining Full ∷ []) (a ∷ c ∷ []))) (no ∷ no ∷ []), Returned ((int 1 ∷ Null ∷ []) ∷ (int 2 ∷ Null ∷ []) ∷ (Null ∷ txt 7 ∷ []) ∷ []))
    -- the merged column of LEFT JOIN is the left one
    ∷ (seen (Select (query (using Left ∷ []) (merged ∷ []))) (no ∷ no ∷ []), Returned ((int 1 ∷ []) ∷ (int 2 ∷ []) ∷ []))
    -- the merged column of RIGHT JOIN is the right one
    ∷ (seen (Select (query (using Right ∷ []) (merged ∷ []))) (no ∷ no ∷ []), Returned ((int 2 ∷ []) ∷ []))
    -- the merged column of FULL JOIN is the first that is not null
    ∷ (seen (Select (query (using Full ∷ []) (merged ∷ []))) (no ∷ no ∷ []), Returned ((int 1 ∷ []) ∷ (int 2 ∷ []) ∷ (int 2 ∷ []) ∷ []))
    -- a query in FROM
    ∷ (seen (Select (query (Derived ts ∷ []) (a ∷ []))) [], Returned ((int 1 ∷ []) ∷ (int 2 ∷ []) ∷ []))
    -- DISTINCT keeps a sublist
    ∷ (seen (Select (arranged true false)) (at (1 ∷ []) ∷ []), Returned ((int 2 ∷ []) ∷ []))
    -- DISTINCT does not change the order
    ∷ (seen (Select (arranged true false)) (at (1 ∷ 0 ∷ []) ∷ []), Faulted)
    -- ORDER BY is a permutation
    ∷ (seen (Select (arranged false true)) (at (1 ∷ 0 ∷ []) ∷ []), Returned ((int 2 ∷ []) ∷ (int 1 ∷ []) ∷ []))
    -- ORDER BY leaves no row out
    ∷ (seen (Select (arranged false true)) (at (1 ∷ []) ∷ []), Faulted)
    -- ORDER BY gives no row twice
    ∷ (seen (Select (arranged false true)) (at (1 ∷ 1 ∷ []) ∷ []), Faulted)
    -- LIMIT is a stretch
    ∷ (seen (Select (Limited false ts [] (K ∷ []))) (is (big 1) ∷ at (1 ∷ []) ∷ []), Returned ((int 2 ∷ []) ∷ []))
    -- LIMIT leaves no row out between two
    ∷ (seen (Select (Limited false ts [] (K ∷ []))) (is (big 1) ∷ at (1 ∷ 0 ∷ []) ∷ []), Faulted)
    -- LIMIT that is null
    ∷ (seen (Select (Limited false ts [] (NullNode int8 ∷ []))) (at (0 ∷ 1 ∷ []) ∷ []), Returned ((int 1 ∷ []) ∷ (int 2 ∷ []) ∷ []))
    -- LIMIT that is no bigint
    ∷ (seen (Select (Limited false ts [] (N ∷ []))) (is (int 1) ∷ at (0 ∷ []) ∷ []), Stopped)
    -- ORDER BY over a bracketed query: its item is evaluated for each row
    ∷ (seen (Select (Limited true ts (N ∷ []) [])) (is (int 8) ∷ is (int 9) ∷ at (1 ∷ 0 ∷ []) ∷ []), Returned ((int 2 ∷ []) ∷ (int 1 ∷ []) ∷ []))
    -- ORDER BY over a bracketed query sees none of its columns
    ∷ (seen (Select (Limited true ts (a ∷ []) [])) (at (1 ∷ 0 ∷ []) ∷ []), Stopped)
    -- WITH
    ∷ (seen (Select (With (ts ∷ []) (query (Common 0 ∷ []) (a ∷ [])))) [], Returned ((int 1 ∷ []) ∷ (int 2 ∷ []) ∷ []))
    -- a query of WITH that is not there
    ∷ (seen (Select (With (ts ∷ []) (query (Common 1 ∷ []) (a ∷ [])))) [], Stopped)
    -- UNION ALL
    ∷ (seen (over_both Union true) [], Returned ((int 1 ∷ []) ∷ (int 2 ∷ []) ∷ (int 2 ∷ []) ∷ []))
    -- UNION keeps a sublist of both
    ∷ (seen (over_both Union false) (at (0 ∷ 2 ∷ []) ∷ []), Returned ((int 1 ∷ []) ∷ (int 2 ∷ []) ∷ []))
    -- INTERSECT keeps a sublist of the left
    ∷ (seen (over_both Intersect false) (at (1 ∷ []) ∷ []), Returned ((int 2 ∷ []) ∷ []))
    -- EXCEPT keeps a sublist of the left
    ∷ (seen (over_both Except false) (at (0 ∷ []) ∷ []), Returned ((int 1 ∷ []) ∷ []))
    -- EXCEPT gives nothing of the right
    ∷ (seen (over_both Except false) (at (2 ∷ []) ∷ []), Faulted)
    -- sides of unequal length
    ∷ (seen (Select (Combined (record { kind = Union; all = true; left = same; right = same } ∷ []) (ts ∷ query (Table 1 ∷ []) (a ∷ a ∷ []) ∷ []))) [], Stopped)
    -- sides of other tags
    ∷ (seen (Select (Combined (record { kind = Union; all = true; left = same; right = record { from = text; to = text } ∷ [] } ∷ []) (ts ∷ query (Table 1 ∷ []) (outer 0 0 1 text ∷ []) ∷ []))) [], Stopped)
    -- a side that is converted
    ∷ (seen (Select (Combined (record { kind = Union; all = true; left = record { from = int4; to = int8 } ∷ []; right = record { from = int8; to = int8 } ∷ [] } ∷ []) (us ∷ query [] (K ∷ []) ∷ []))) (is (big 9) ∷ is (big 2) ∷ []), Returned ((big 2 ∷ []) ∷ (big 9 ∷ []) ∷ []))
    ∷ []
