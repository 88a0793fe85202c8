-- Truth values, conditional expressions, and choices among operands.
use Rattle.std.specs.Prelude.{true, false, List, [], ◌∷◌}
use Rattle.sq_builtin.specs.Entries.{bool, int4, text}
use Rattle.sq_core.specs.declared.node.Node.TheVariants.{Apply, Null as NullNode}
use Rattle.sq_core.specs.declared.routine.Extremum.TheVariants.{Greatest}
use Rattle.sq_core.specs.declared.routine.Operation.TheVariants.{And, Case, Coalesce, Extreme, Not, NullTest, Or, TruthTest}
use Rattle.sq_core.specs.declared.routine.Truth.TheVariants.{True as IsTrueWord, Unknown as IsUnknownWord}
use Rattle.sq_core.specs.Values.{Null, Truth}
use Rattle.core_cases.specs.World.{Seen, Faulted, Stopped, B, N, T, a, at, int, is, no, one, txt, value, yes}

-- each case, with what is expected of it
abbrev pub truth_values : List (Seen × Seen)
truth_values =
    -- AND
    (value (Apply And (B ∷ B ∷ [])) (yes ∷ no ∷ []), one (Truth false))
    -- true AND null
    ∷ (value (Apply And (B ∷ NullNode bool ∷ [])) (yes ∷ []), one Null)
    -- false AND null
    ∷ (value (Apply And (B ∷ NullNode bool ∷ [])) (no ∷ []), one (Truth false))
    -- true OR null
    ∷ (value (Apply Or (B ∷ NullNode bool ∷ [])) (yes ∷ []), one (Truth true))
    -- false OR null
    ∷ (value (Apply Or (B ∷ NullNode bool ∷ [])) (no ∷ []), one Null)
    -- NOT null
    ∷ (value (Apply Not (NullNode bool ∷ [])) [], one Null)
    -- NOT over a number
    ∷ (value (Apply Not (N ∷ [])) (is (int 1) ∷ []), Stopped)
    -- null IS UNKNOWN
    ∷ (value (Apply (TruthTest IsUnknownWord false) (NullNode bool ∷ [])) [], one (Truth true))
    -- null IS NOT TRUE
    ∷ (value (Apply (TruthTest IsTrueWord true) (NullNode bool ∷ [])) [], one (Truth true))
    -- null IS NULL
    ∷ (value (Apply (NullTest false) (NullNode text ∷ [])) [], one (Truth true))
    -- 1 IS NOT NULL
    ∷ (value (Apply (NullTest true) (N ∷ [])) (is (int 1) ∷ []), one (Truth true))
    -- CASE whose condition is true
    ∷ (value (Apply (Case int4) (B ∷ N ∷ [])) (yes ∷ is (int 3) ∷ []), one (int 3))
    -- CASE without ELSE
    ∷ (value (Apply (Case int4) (B ∷ N ∷ [])) (no ∷ []), one Null)
    -- CASE with ELSE, over a condition that is null
    ∷ (value (Apply (Case int4) (NullNode bool ∷ N ∷ N ∷ [])) (is (int 4) ∷ []), one (int 4))
    -- CASE over a condition that is no truth value
    ∷ (value (Apply (Case int4) (N ∷ N ∷ [])) (is (int 1) ∷ []), Stopped)
    -- CASE with a result of another tag
    ∷ (value (Apply (Case int4) (B ∷ T ∷ [])) (yes ∷ is (txt 1) ∷ []), Stopped)
    -- COALESCE gives the first that is not null, after all are evaluated
    ∷ (value (Apply (Coalesce int4) (NullNode int4 ∷ N ∷ N ∷ [])) (is (int 4) ∷ is (int 5) ∷ []), one (int 4))
    -- COALESCE of nulls
    ∷ (value (Apply (Coalesce int4) (NullNode int4 ∷ NullNode int4 ∷ [])) [], one Null)
    -- COALESCE over a text
    ∷ (value (Apply (Coalesce int4) (N ∷ T ∷ [])) (is (int 4) ∷ is (txt 1) ∷ []), Stopped)
    -- GREATEST gives the operand that the item names among those that are not null
    ∷ (value (Apply (Extreme Greatest int4) (N ∷ NullNode int4 ∷ N ∷ [])) (is (int 4) ∷ is (int 5) ∷ at (1 ∷ []) ∷ []), one (int 5))
    -- GREATEST of nulls
    ∷ (value (Apply (Extreme Greatest int4) (NullNode int4 ∷ [])) [], one Null)
    -- a constant of another tag than its type
    ∷ (value N (is (txt 1) ∷ []), Faulted)
    -- a constant that is null
    ∷ (value N (is Null ∷ []), Faulted)
    -- a constant without an item
    ∷ (value N [], Faulted)
    ∷ []
