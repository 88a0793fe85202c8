-- INSERT, UPDATE and DELETE.
use Rattle.std.specs.Prelude.{true, List, [], ◌∷◌}
use Rattle.sq_builtin.specs.Entries.{int4, int8}
use Rattle.sq_core.specs.declared.node.Node.TheVariants.{Apply, Null as NullNode}
use Rattle.sq_core.specs.declared.node.Source.TheVariants.{Common, Table}
use Rattle.sq_core.specs.declared.routine.Operation.TheVariants.{Call}
use Rattle.sq_core.specs.declared.statement.Cell.TheVariants.{Default, Given}
use Rattle.sq_core.specs.declared.statement.Conflict.TheVariants.{None as NoConflict, Skip, Update as DoUpdate}
use Rattle.sq_core.specs.declared.statement.CoreStatement.TheVariants.{Delete, Insert, Update}
use Rattle.sq_core.specs.declared.statement.Entries.TheVariants.{Query as QueryOf, Values as ValuesOf}
use Rattle.sq_core.specs.Items.{Choice, Enters, Meets, Passes}
use Rattle.sq_core.specs.Values.{Null}
use Rattle.core_cases.specs.World.{Seen, Returned, Faulted, Stopped, B, K, N, T, a, at, b, big, eq, int, is, no, one, outer, query, seen, stored, txt, value, yes}
use Rattle.sq_core.specs.declared.node.Node.{Node}
use Rattle.sq_core.specs.declared.statement.Assignment.{Assignment}
use Rattle.sq_core.specs.declared.statement.Conflict.{Conflict}
use Rattle.sq_core.specs.declared.statement.CoreStatement.{CoreStatement}

-- INSERT INTO t (a, b) VALUES (number, DEFAULT), with ON CONFLICT, RETURNING a, b
abbrev inserted : Conflict → CoreStatement
inserted conflict = Insert [] 0 (0 ∷ 1 ∷ []) (ValuesOf ((Given N ∷ Default ∷ []) ∷ [])) conflict (a ∷ b ∷ [])

-- SET b to an expression
abbrev sets : Node → List Assignment
sets node = record { column = 1; cell = Given node } ∷ []

-- the first column of the second range: that of u, or of `excluded`
abbrev second : Node
second = outer 0 1 0 int4

-- a cell without its column: INSERT INTO t (b) VALUES (number)
abbrev without_a : CoreStatement
without_a = Insert [] 0 (1 ∷ []) (ValuesOf ((Given N ∷ []) ∷ [])) NoConflict (a ∷ b ∷ [])

-- each case, with what is expected of it
abbrev pub data_changes : List (Seen × Seen)
data_changes =
    -- DEFAULT takes an item
    (seen (inserted NoConflict) (is (int 3) ∷ is (int 4) ∷ []), Returned ((int 3 ∷ int 4 ∷ []) ∷ []))
    -- the table has one more row
    ∷ (stored (inserted NoConflict) (is (int 3) ∷ is Null ∷ []), Returned ((int 1 ∷ Null ∷ []) ∷ (int 2 ∷ int 20 ∷ []) ∷ (int 3 ∷ Null ∷ []) ∷ []))
    -- a column without a value takes an item
    ∷ (seen without_a (is (int 4) ∷ is (int 3) ∷ []), Returned ((int 3 ∷ int 4 ∷ []) ∷ []))
    -- null for a NOT NULL column
    ∷ (seen without_a (is (int 4) ∷ is Null ∷ []), Faulted)
    -- a value of another tag
    ∷ (seen (Insert [] 0 (0 ∷ []) (ValuesOf ((Given T ∷ []) ∷ [])) NoConflict []) (is (txt 1) ∷ is Null ∷ []), Stopped)
    -- a column that is not there
    ∷ (seen (Insert [] 0 (5 ∷ []) (ValuesOf ((Given N ∷ []) ∷ [])) NoConflict []) (is (int 1) ∷ is (int 1) ∷ is Null ∷ []), Stopped)
    -- a column that stands twice
    ∷ (seen (Insert [] 0 (0 ∷ 0 ∷ []) (ValuesOf ((Given N ∷ Given N ∷ []) ∷ [])) NoConflict []) (is (int 1) ∷ is (int 1) ∷ is Null ∷ []), Stopped)
    -- INSERT of a query
    ∷ (seen (Insert [] 0 (0 ∷ []) (QueryOf (query (Table 1 ∷ []) (a ∷ [])) (record { from = int4; to = int4 } ∷ [])) NoConflict (a ∷ b ∷ [])) (is Null ∷ []), Returned ((int 2 ∷ Null ∷ []) ∷ []))
    -- INSERT of a query whose column is converted
    ∷ (seen (Insert [] 0 (0 ∷ []) (QueryOf (query [] (K ∷ [])) (record { from = int8; to = int4 } ∷ [])) NoConflict (a ∷ b ∷ [])) (is (big 3) ∷ is (int 3) ∷ is Null ∷ []), Returned ((int 3 ∷ Null ∷ []) ∷ []))
    -- DO NOTHING: the row enters
    ∷ (seen (inserted (Skip [])) (is (int 3) ∷ is Null ∷ Choice Enters ∷ []), Returned ((int 3 ∷ Null ∷ []) ∷ []))
    -- DO NOTHING: the row is passed over
    ∷ (seen (inserted (Skip [])) (is (int 3) ∷ is Null ∷ Choice Passes ∷ []), Returned [])
    -- DO NOTHING updates no row
    ∷ (seen (inserted (Skip [])) (is (int 3) ∷ is Null ∷ Choice (Meets 1) ∷ []), Faulted)
    -- the condition of a target is evaluated over the new row
    ∷ (seen (inserted (Skip (Apply (Call eq) (a ∷ N ∷ []) ∷ []))) (is (int 3) ∷ is Null ∷ is (int 3) ∷ yes ∷ Choice Enters ∷ []), Returned ((int 3 ∷ Null ∷ []) ∷ []))
    -- a condition of a target that is no truth value
    ∷ (seen (inserted (Skip (a ∷ []))) (is (int 3) ∷ is Null ∷ Choice Enters ∷ []), Stopped)
    -- DO UPDATE: the item names the row; a column that is not set is kept
    ∷ (seen (inserted (DoUpdate [] (sets N) [])) (is (int 3) ∷ is Null ∷ Choice (Meets 1) ∷ is (int 30) ∷ at [] ∷ []), Returned ((int 2 ∷ int 30 ∷ []) ∷ []))
    -- DO UPDATE: the row enters
    ∷ (seen (inserted (DoUpdate [] (sets N) [])) (is (int 3) ∷ is Null ∷ Choice Enters ∷ []), Returned ((int 3 ∷ Null ∷ []) ∷ []))
    -- DO UPDATE: the row is passed over
    ∷ (seen (inserted (DoUpdate [] (sets N) [])) (is (int 3) ∷ is Null ∷ Choice Passes ∷ []), Returned [])
    -- DO UPDATE reads `excluded`
    ∷ (seen (inserted (DoUpdate [] (sets second) [])) (is (int 3) ∷ is Null ∷ Choice (Meets 1) ∷ at [] ∷ []), Returned ((int 2 ∷ int 3 ∷ []) ∷ []))
    -- DO UPDATE whose WHERE is not true
    ∷ (seen (inserted (DoUpdate [] (sets N) (B ∷ []))) (is (int 3) ∷ is Null ∷ Choice (Meets 1) ∷ no ∷ []), Returned [])
    -- DO UPDATE whose WHERE is no truth value
    ∷ (seen (inserted (DoUpdate [] (sets N) (N ∷ []))) (is (int 3) ∷ is Null ∷ Choice (Meets 1) ∷ is (int 1) ∷ []), Stopped)
    -- DO UPDATE of a row that is not there
    ∷ (seen (inserted (DoUpdate [] (sets N) [])) (is (int 3) ∷ is Null ∷ Choice (Meets 7) ∷ []), Faulted)
    -- UPDATE changes the rows whose condition is true with a row of FROM
    ∷ (seen (Update [] 0 (sets N) (Table 1 ∷ []) (Apply (Call eq) (a ∷ second ∷ []) ∷ []) (a ∷ b ∷ [])) (no ∷ yes ∷ is (int 21) ∷ at [] ∷ []), Returned ((int 2 ∷ int 21 ∷ []) ∷ []))
    -- UPDATE leaves the other rows
    ∷ (stored (Update [] 0 (sets N) (Table 1 ∷ []) (Apply (Call eq) (a ∷ second ∷ []) ∷ []) (a ∷ b ∷ [])) (no ∷ yes ∷ is (int 21) ∷ at [] ∷ []), Returned ((int 1 ∷ Null ∷ []) ∷ (int 2 ∷ int 21 ∷ []) ∷ []))
    -- UPDATE: a column that is not set may take an item
    ∷ (seen (Update [] 0 (sets N) [] (Apply (Call eq) (a ∷ N ∷ []) ∷ []) (a ∷ b ∷ [])) (is (int 2) ∷ no ∷ is (int 2) ∷ yes ∷ is (int 21) ∷ is (int 5) ∷ []), Returned ((int 5 ∷ int 21 ∷ []) ∷ []))
    -- UPDATE: null for a NOT NULL column
    ∷ (seen (Update [] 0 (record { column = 0; cell = Given (NullNode int4) } ∷ []) [] [] []) [], Faulted)
    -- UPDATE of a column that is not there
    ∷ (seen (Update [] 0 (record { column = 5; cell = Given N } ∷ []) [] [] []) (is (int 1) ∷ []), Stopped)
    -- DELETE returns the rows that it removes
    ∷ (seen (Delete [] 0 (Table 1 ∷ []) (Apply (Call eq) (a ∷ second ∷ []) ∷ []) (a ∷ b ∷ [])) (no ∷ yes ∷ []), Returned ((int 2 ∷ int 20 ∷ []) ∷ []))
    -- DELETE leaves the others
    ∷ (stored (Delete [] 0 (Table 1 ∷ []) (Apply (Call eq) (a ∷ second ∷ []) ∷ []) (a ∷ b ∷ [])) (no ∷ yes ∷ []), Returned ((int 1 ∷ Null ∷ []) ∷ []))
    -- DELETE whose condition is no truth value
    ∷ (seen (Delete [] 0 [] (a ∷ []) []) [], Stopped)
    -- WITH before DELETE
    ∷ (seen (Delete (query (Table 1 ∷ []) (a ∷ []) ∷ []) 0 (Common 0 ∷ []) (Apply (Call eq) (a ∷ second ∷ []) ∷ []) (a ∷ [])) (no ∷ yes ∷ []), Returned ((int 2 ∷ []) ∷ []))
    ∷ []
