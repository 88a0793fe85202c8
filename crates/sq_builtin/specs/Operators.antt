-- The entries of operators (PostgreSQL manual, chapter 9).
use Rattle.std.specs.Prelude.{ℕ, List, [], ◌∷◌, ◌++◌, map, codes}
use Rattle.sq_base.specs.declared.types.PgType.{PgType}
use Rattle.sq_builtin.specs.declared.row.Kind.TheVariants.{Operator}
use Rattle.sq_builtin.specs.declared.row.Pattern.TheVariants.{AnyArray, AnyNonArray, AnyEnum, Is as Takes}
use Rattle.sq_builtin.specs.declared.row.Shape.TheVariants.{Is as Gives}
use Rattle.sq_builtin.specs.Entries.{Entry, strict, operator, operator_may_null, twice, numbers, named_types, int2, int4, int8, float4, float8, num, bool, text, bpchar, bytea, date, time, ts, tstz, iv, uuid, json, jsonb, texts}

-- the types that are compared with themselves
abbrev pub comparable : List PgType
comparable = numbers ++ text ∷ bpchar ∷ bytea ∷ bool ∷ uuid ∷ jsonb ∷ date ∷ time ∷ ts ∷ tstz ∷ iv ∷ []

-- the pairs of two types that are compared with each other
abbrev pub comparable_pairs : List (List PgType)
comparable_pairs =
    (int2 ∷ int4 ∷ []) ∷ (int2 ∷ int8 ∷ []) ∷ (int4 ∷ int2 ∷ []) ∷
    (int4 ∷ int8 ∷ []) ∷ (int8 ∷ int2 ∷ []) ∷ (int8 ∷ int4 ∷ []) ∷
    (float4 ∷ float8 ∷ []) ∷ (float8 ∷ float4 ∷ []) ∷
    (date ∷ ts ∷ []) ∷ (date ∷ tstz ∷ []) ∷ (ts ∷ date ∷ []) ∷
    (ts ∷ tstz ∷ []) ∷ (tstz ∷ date ∷ []) ∷ (tstz ∷ ts ∷ []) ∷ []

-- = <> < <= > >=
abbrev pub comparison : List ℕ → List Entry
comparison name =
    map (λ of. operator name (twice of) bool) comparable ++
    map (λ pair. operator name pair bool) comparable_pairs ++
    strict Operator name (AnyEnum ∷ AnyEnum ∷ []) (Gives bool) ∷
    strict Operator name (AnyArray ∷ AnyArray ∷ []) (Gives bool) ∷ []

-- = and <> have further types
abbrev pub equation : List ℕ → List Entry
equation name = comparison name ++ map (λ of. operator name (twice of) bool) named_types

-- ~~ !~~
abbrev pub like : List ℕ → List Entry
like name =
    operator name (text ∷ text ∷ []) bool ∷
    operator name (bpchar ∷ text ∷ []) bool ∷
    operator name (bytea ∷ bytea ∷ []) bool ∷ []

-- ~~* !~~* ~ ~* !~ !~*
abbrev pub pattern_match : List ℕ → List Entry
pattern_match name =
    operator name (text ∷ text ∷ []) bool ∷
    operator name (bpchar ∷ text ∷ []) bool ∷ []

-- @> <@
abbrev pub containment : List ℕ → List Entry
containment name =
    operator name (jsonb ∷ jsonb ∷ []) bool ∷
    strict Operator name (AnyArray ∷ AnyArray ∷ []) (Gives bool) ∷ []

-- + - * / of numbers
abbrev pub arithmetic : List ℕ → List Entry
arithmetic name =
    map (λ of. operator name (twice of) of) numbers ++
    operator name (int2 ∷ int4 ∷ []) int4 ∷
    operator name (int2 ∷ int8 ∷ []) int8 ∷
    operator name (int4 ∷ int2 ∷ []) int4 ∷
    operator name (int4 ∷ int8 ∷ []) int8 ∷
    operator name (int8 ∷ int2 ∷ []) int8 ∷
    operator name (int8 ∷ int4 ∷ []) int8 ∷
    operator name (float4 ∷ float8 ∷ []) float8 ∷
    operator name (float8 ∷ float4 ∷ []) float8 ∷ []

-- + of dates and times
abbrev pub sums_of_times : List Entry
sums_of_times =
    operator (codes "+") (date ∷ int4 ∷ []) date ∷
    operator (codes "+") (int4 ∷ date ∷ []) date ∷
    operator (codes "+") (date ∷ iv ∷ []) ts ∷
    operator (codes "+") (iv ∷ date ∷ []) ts ∷
    operator (codes "+") (date ∷ time ∷ []) ts ∷
    operator (codes "+") (time ∷ date ∷ []) ts ∷
    operator (codes "+") (ts ∷ iv ∷ []) ts ∷
    operator (codes "+") (iv ∷ ts ∷ []) ts ∷
    operator (codes "+") (tstz ∷ iv ∷ []) tstz ∷
    operator (codes "+") (iv ∷ tstz ∷ []) tstz ∷
    operator (codes "+") (time ∷ iv ∷ []) time ∷
    operator (codes "+") (iv ∷ time ∷ []) time ∷
    operator (codes "+") (iv ∷ iv ∷ []) iv ∷ []

-- - of dates, times and jsonb
abbrev pub differences : List Entry
differences =
    operator (codes "-") (date ∷ int4 ∷ []) date ∷
    operator (codes "-") (date ∷ date ∷ []) int4 ∷
    operator (codes "-") (date ∷ iv ∷ []) ts ∷
    operator (codes "-") (ts ∷ ts ∷ []) iv ∷
    operator (codes "-") (tstz ∷ tstz ∷ []) iv ∷
    operator (codes "-") (ts ∷ iv ∷ []) ts ∷
    operator (codes "-") (tstz ∷ iv ∷ []) tstz ∷
    operator (codes "-") (time ∷ time ∷ []) iv ∷
    operator (codes "-") (time ∷ iv ∷ []) time ∷
    operator (codes "-") (iv ∷ iv ∷ []) iv ∷
    operator (codes "-") (jsonb ∷ text ∷ []) jsonb ∷
    operator (codes "-") (jsonb ∷ int4 ∷ []) jsonb ∷ []

-- -> and, with these types, the others that take a part of JSON by name or place
abbrev pub part : List ℕ → PgType → PgType → List Entry
part name of_json of_jsonb =
    operator_may_null name (json ∷ text ∷ []) of_json ∷
    operator_may_null name (json ∷ int4 ∷ []) of_json ∷
    operator_may_null name (jsonb ∷ text ∷ []) of_jsonb ∷
    operator_may_null name (jsonb ∷ int4 ∷ []) of_jsonb ∷ []

-- #> and, with these types, the other that takes a part of JSON by a path
abbrev pub part_at_path : List ℕ → PgType → PgType → List Entry
part_at_path name of_json of_jsonb =
    operator_may_null name (json ∷ texts ∷ []) of_json ∷
    operator_may_null name (jsonb ∷ texts ∷ []) of_jsonb ∷ []

-- the operators before an operand
abbrev pub signs : List Entry
signs =
    map (λ of. operator (codes "-") (of ∷ []) of) (numbers ++ iv ∷ []) ++
    map (λ of. operator (codes "+") (of ∷ []) of) numbers

-- comparisons
abbrev pub comparisons : List Entry
comparisons =
    equation (codes "=") ++ equation (codes "<>") ++
    comparison (codes "<") ++ comparison (codes "<=") ++ comparison (codes ">") ++ comparison (codes ">=")

-- matches of patterns
abbrev pub pattern_matches : List Entry
pattern_matches =
    like (codes "~~") ++ like (codes "!~~") ++
    pattern_match (codes "~~*") ++ pattern_match (codes "!~~*") ++
    pattern_match (codes "~") ++ pattern_match (codes "~*") ++
    pattern_match (codes "!~") ++ pattern_match (codes "!~*")

-- what JSON and arrays have in common, and which keys JSON has
abbrev pub overlaps : List Entry
overlaps =
    strict Operator (codes "&&") (AnyArray ∷ AnyArray ∷ []) (Gives bool) ∷
    operator (codes "?") (jsonb ∷ text ∷ []) bool ∷
    operator (codes "?|") (jsonb ∷ texts ∷ []) bool ∷
    operator (codes "?&") (jsonb ∷ texts ∷ []) bool ∷ []

-- + of numbers, of dates and times
abbrev pub plus : List Entry
plus = arithmetic (codes "+") ++ sums_of_times

-- - of numbers, of dates and times, and of JSON
abbrev pub minus : List Entry
minus = arithmetic (codes "-") ++ differences

-- * and / of numbers and of intervals, % and ^
abbrev pub multiplications : List Entry
multiplications =
    arithmetic (codes "*") ++
    operator (codes "*") (iv ∷ float8 ∷ []) iv ∷
    operator (codes "*") (float8 ∷ iv ∷ []) iv ∷ [] ++
    arithmetic (codes "/") ++
    operator (codes "/") (iv ∷ float8 ∷ []) iv ∷ [] ++
    map (λ of. operator (codes "%") (twice of) of) (int2 ∷ int4 ∷ int8 ∷ num ∷ []) ++
    map (λ of. operator (codes "^") (twice of) of) (float8 ∷ num ∷ [])

-- || of texts, of bytes and of JSON
abbrev pub joins : List Entry
joins =
    operator (codes "||") (text ∷ text ∷ []) text ∷
    strict Operator (codes "||") (Takes text ∷ AnyNonArray ∷ []) (Gives text) ∷
    strict Operator (codes "||") (AnyNonArray ∷ Takes text ∷ []) (Gives text) ∷
    operator (codes "||") (bytea ∷ bytea ∷ []) bytea ∷
    operator (codes "||") (jsonb ∷ jsonb ∷ []) jsonb ∷ []

-- parts of JSON
abbrev pub parts_of_json : List Entry
parts_of_json =
    part (codes "->") json jsonb ++ part (codes "->>") text text ++
    part_at_path (codes "#>") json jsonb ++ part_at_path (codes "#>>") text text

-- the operators, name by name
unfoldable pub operators : List Entry
operators =
    signs ++ comparisons ++ pattern_matches ++
    containment (codes "@>") ++ containment (codes "<@") ++ overlaps ++
    plus ++ minus ++ multiplications ++ joins ++ parts_of_json
