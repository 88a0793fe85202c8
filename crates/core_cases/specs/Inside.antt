-- Queries inside expressions.
use Rattle.std.specs.Prelude.{true, false, List, [], ◌∷◌}
use Rattle.sq_builtin.specs.Entries.{int4, text}
use Rattle.sq_core.specs.declared.node.Node.TheVariants.{Subquery}
use Rattle.sq_core.specs.declared.node.Source.TheVariants.{Table}
use Rattle.sq_core.specs.declared.routine.Inner.TheVariants.{AnyQuery, ArrayQuery, Exists, Scalar}
use Rattle.sq_core.specs.declared.routine.Junction.TheVariants.{All, Any}
use Rattle.sq_core.specs.declared.statement.CoreStatement.TheVariants.{Select}
use Rattle.sq_core.specs.Values.{Array, End, Null, Then, Truth}
use Rattle.core_cases.specs.World.{Seen, Returned, Faulted, Stopped, N, T, a, b, eq, int, is, no, one, outer, query, seen, txt, value, yes}

-- each case, with what is expected of it
abbrev pub queries_inside : List (Seen × Seen)
queries_inside =
    -- EXISTS over no row
    (value (Subquery Exists [] (query (Table 2 ∷ []) (a ∷ []))) [], one (Truth false))
    -- EXISTS over rows
    ∷ (value (Subquery Exists [] (query (Table 0 ∷ []) (a ∷ []))) [], one (Truth true))
    -- a scalar query of no row
    ∷ (value (Subquery (Scalar int4) [] (query (Table 2 ∷ []) (a ∷ []))) [], one Null)
    -- a scalar query of one row
    ∷ (value (Subquery (Scalar int4) [] (query (Table 1 ∷ []) (a ∷ []))) [], one (int 2))
    -- a scalar query of two rows
    ∷ (value (Subquery (Scalar int4) [] (query (Table 0 ∷ []) (a ∷ []))) [], Faulted)
    -- a scalar query of two columns
    ∷ (value (Subquery (Scalar int4) [] (query (Table 2 ∷ []) (a ∷ b ∷ []))) [], Stopped)
    -- ARRAY over a query
    ∷ (value (Subquery (ArrayQuery int4) [] (query (Table 0 ∷ []) (b ∷ []))) [], one (Array int4 (Then Null (Then (int 20) End))))
    -- IN over a query with a null and an equal value
    ∷ (value (Subquery (AnyQuery eq Any) (N ∷ []) (query (Table 0 ∷ []) (b ∷ []))) (is (int 20) ∷ yes ∷ []), one (Truth true))
    -- IN over a query with a null and no equal value
    ∷ (value (Subquery (AnyQuery eq Any) (N ∷ []) (query (Table 0 ∷ []) (b ∷ []))) (is (int 20) ∷ no ∷ []), one Null)
    -- ALL over a query with a null and a value that is not equal
    ∷ (value (Subquery (AnyQuery eq All) (N ∷ []) (query (Table 0 ∷ []) (b ∷ []))) (is (int 20) ∷ no ∷ []), one (Truth false))
    -- ANY over a query of no row
    ∷ (value (Subquery (AnyQuery eq Any) (N ∷ []) (query (Table 2 ∷ []) (a ∷ []))) (is (int 20) ∷ []), one (Truth false))
    -- ANY of a text over a query of no row
    ∷ (value (Subquery (AnyQuery eq Any) (T ∷ []) (query (Table 2 ∷ []) (a ∷ []))) (is (txt 1) ∷ []), Stopped)
    -- ANY over a query of two columns
    ∷ (value (Subquery (AnyQuery eq Any) (N ∷ []) (query (Table 2 ∷ []) (a ∷ b ∷ []))) (is (int 20) ∷ []), Stopped)
    -- a query inside sees the row outside
    ∷ (seen (Select (query (Table 0 ∷ []) (Subquery (Scalar int4) [] (query [] (outer 1 0 0 int4 ∷ [])) ∷ []))) [], Returned ((int 1 ∷ []) ∷ (int 2 ∷ []) ∷ []))
    ∷ []
