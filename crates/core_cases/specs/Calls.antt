-- Calls, casts, comparisons and arrays.
use Rattle.std.specs.Prelude.{true, false, List, [], ◌∷◌, codes}
use Rattle.sq_builtin.specs.Entries.{bool, date, int4, int8, num, text}
use Rattle.sq_core.specs.declared.node.Node.TheVariants.{Apply, Constant, Null as NullNode}
use Rattle.sq_core.specs.declared.routine.Junction.TheVariants.{All, Any}
use Rattle.sq_core.specs.declared.routine.Operation.TheVariants.{AnyArray, ArrayList, Call, Collate, Convert, Distinct, Extract, InList, NullIf, Subscript, Switch, Symmetric}
use Rattle.sq_core.specs.Values.{Array, End, Null, Tagged, Then, Truth}
use Rattle.core_cases.specs.World.{Seen, Faulted, Stopped, B, N, T, a, big, eq, ge, int, is, le, no, one, plus, txt, value, yes}
use Rattle.sq_base.specs.declared.types.PgType.{PgType}
use Rattle.sq_base.specs.declared.types.Scalar.TheVariants.{Integer}
use Rattle.sq_core.specs.declared.routine.Routine.{Routine}

-- the addition of whole numbers with a text as its result, which is no row of the table
abbrev plus_to_text : Routine
plus_to_text = record plus { of = text }

-- EXTRACT from a date
abbrev extract : Routine
extract = record { name = codes "extract"; given = date ∷ []; of = num; strict = true; may_null = true }

abbrev numbers : PgType
numbers = record { scalar = Integer; array = true }

-- each case, with what is expected of it
abbrev pub calls_and_comparisons : List (Seen × Seen)
calls_and_comparisons =
    -- a strict call
    (value (Apply (Call plus) (N ∷ N ∷ [])) (is (int 1) ∷ is (int 2) ∷ is (int 3) ∷ []), one (int 3))
    -- a strict call over null
    ∷ (value (Apply (Call plus) (N ∷ NullNode int4 ∷ [])) (is (int 1) ∷ []), one Null)
    -- a call over a text
    ∷ (value (Apply (Call plus) (T ∷ N ∷ [])) (is (txt 1) ∷ is (int 2) ∷ is (int 3) ∷ []), Stopped)
    -- a call of what is no row of the table
    ∷ (value (Apply (Call plus_to_text) (N ∷ N ∷ [])) (is (int 1) ∷ is (int 2) ∷ is (txt 3) ∷ []), Stopped)
    -- a call whose item is of another tag
    ∷ (value (Apply (Call plus) (N ∷ N ∷ [])) (is (int 1) ∷ is (int 2) ∷ is (txt 3) ∷ []), Faulted)
    -- a call that is never null, whose item is null
    ∷ (value (Apply (Call plus) (N ∷ N ∷ [])) (is (int 1) ∷ is (int 2) ∷ is Null ∷ []), Faulted)
    -- EXTRACT may give null
    ∷ (value (Apply (Extract (codes "year") extract) (Constant [] date ∷ [])) (is (Tagged date 1) ∷ is Null ∷ []), one Null)
    -- a cast
    ∷ (value (Apply (Convert int4 int8) (N ∷ [])) (is (int 1) ∷ is (big 1) ∷ []), one (big 1))
    -- a cast of null
    ∷ (value (Apply (Convert int4 int8) (NullNode int4 ∷ [])) [], one Null)
    -- a cast that there is not
    ∷ (value (Apply (Convert bool int8) (B ∷ [])) (yes ∷ is (big 1) ∷ []), Stopped)
    -- a cast over another tag
    ∷ (value (Apply (Convert int4 int8) (T ∷ [])) (is (txt 1) ∷ is (big 1) ∷ []), Stopped)
    -- COLLATE
    ∷ (value (Apply (Collate (codes "C") text) (T ∷ [])) (is (txt 1) ∷ is (txt 1) ∷ []), one (txt 1))
    -- COLLATE over a number
    ∷ (value (Apply (Collate (codes "C") text) (N ∷ [])) (is (int 1) ∷ is (txt 1) ∷ []), Stopped)
    -- NULLIF of equal operands
    ∷ (value (Apply (NullIf eq) (N ∷ N ∷ [])) (is (int 4) ∷ is (int 4) ∷ yes ∷ []), one Null)
    -- NULLIF of different operands
    ∷ (value (Apply (NullIf eq) (N ∷ N ∷ [])) (is (int 4) ∷ is (int 5) ∷ no ∷ []), one (int 4))
    -- two nulls are not distinct
    ∷ (value (Apply (Distinct eq false) (NullNode int4 ∷ NullNode int4 ∷ [])) [], one (Truth false))
    -- null is distinct from a value
    ∷ (value (Apply (Distinct eq false) (N ∷ NullNode int4 ∷ [])) (is (int 4) ∷ []), one (Truth true))
    -- equal values are not distinct, negated
    ∷ (value (Apply (Distinct eq true) (N ∷ N ∷ [])) (is (int 4) ∷ is (int 4) ∷ yes ∷ []), one (Truth true))
    -- IN over a list with a null and no equal value
    ∷ (value (Apply (InList Any int4 (eq ∷ eq ∷ [])) (N ∷ N ∷ NullNode int4 ∷ [])) (is (int 4) ∷ is (int 5) ∷ no ∷ []), one Null)
    -- IN over a list with a null and an equal value
    ∷ (value (Apply (InList Any int4 (eq ∷ eq ∷ [])) (N ∷ N ∷ NullNode int4 ∷ [])) (is (int 4) ∷ is (int 4) ∷ yes ∷ []), one (Truth true))
    -- BETWEEN
    ∷ (value (Apply (InList All int4 (ge ∷ le ∷ [])) (N ∷ N ∷ N ∷ [])) (is (int 4) ∷ is (int 1) ∷ is (int 9) ∷ yes ∷ yes ∷ []), one (Truth true))
    -- BETWEEN SYMMETRIC with the bounds exchanged
    ∷ (value (Apply (Symmetric int4 (ge ∷ le ∷ ge ∷ le ∷ [])) (N ∷ N ∷ N ∷ [])) (is (int 4) ∷ is (int 9) ∷ is (int 1) ∷ no ∷ no ∷ yes ∷ yes ∷ []), one (Truth true))
    -- CASE over a subject that is equal
    ∷ (value (Apply (Switch int4 (eq ∷ []) int4) (N ∷ N ∷ N ∷ [])) (is (int 4) ∷ is (int 4) ∷ yes ∷ is (int 9) ∷ []), one (int 9))
    -- CASE over a subject that is not equal, without ELSE
    ∷ (value (Apply (Switch int4 (eq ∷ []) int4) (N ∷ N ∷ N ∷ [])) (is (int 4) ∷ is (int 5) ∷ no ∷ []), one Null)
    -- ARRAY with a null element
    ∷ (value (Apply (ArrayList int4) (N ∷ NullNode int4 ∷ [])) (is (int 4) ∷ []), one (Array int4 (Then (int 4) (Then Null End))))
    -- ARRAY with an element of another tag
    ∷ (value (Apply (ArrayList int4) (N ∷ T ∷ [])) (is (int 4) ∷ is (txt 1) ∷ []), Stopped)
    -- ANY over an array with an equal element and a null
    ∷ (value (Apply (AnyArray eq Any) (N ∷ Apply (ArrayList int4) (N ∷ NullNode int4 ∷ []) ∷ [])) (is (int 4) ∷ is (int 4) ∷ yes ∷ []), one (Truth true))
    -- ALL over an array with an equal element and a null
    ∷ (value (Apply (AnyArray eq All) (N ∷ Apply (ArrayList int4) (N ∷ NullNode int4 ∷ []) ∷ [])) (is (int 4) ∷ is (int 4) ∷ yes ∷ []), one Null)
    -- ANY over an array that is null
    ∷ (value (Apply (AnyArray eq Any) (N ∷ NullNode numbers ∷ [])) (is (int 4) ∷ []), one Null)
    -- ANY over what is no array
    ∷ (value (Apply (AnyArray eq Any) (N ∷ N ∷ [])) (is (int 4) ∷ is (int 4) ∷ []), Stopped)
    -- a subscript
    ∷ (value (Apply (Subscript int4) (Apply (ArrayList int4) (N ∷ []) ∷ N ∷ [])) (is (int 4) ∷ is (int 1) ∷ is (int 4) ∷ []), one (int 4))
    -- a subscript that is out of range gives null by the item
    ∷ (value (Apply (Subscript int4) (Apply (ArrayList int4) (N ∷ []) ∷ N ∷ [])) (is (int 4) ∷ is (int 9) ∷ is Null ∷ []), one Null)
    -- a subscript of what is no array
    ∷ (value (Apply (Subscript int4) (N ∷ N ∷ [])) (is (int 4) ∷ is (int 1) ∷ is (int 4) ∷ []), Stopped)
    ∷ []
