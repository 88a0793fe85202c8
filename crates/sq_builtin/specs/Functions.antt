-- The entries of functions and aggregates, by the count of their inputs (PostgreSQL manual, chapter 9).
use Rattle.std.specs.Prelude.{ℕ, List, [], ◌∷◌, ◌++◌, map, flat_map, codes, replicate}
use Rattle.sq_base.specs.declared.types.PgType.{PgType}
use Rattle.sq_builtin.specs.declared.row.Kind.TheVariants.{Function, Aggregate}
use Rattle.sq_builtin.specs.declared.row.Pattern.TheVariants.{AnyArray, AnyElement, AnyNonArray, AnyEnum, Any, Is as Takes}
use Rattle.sq_builtin.specs.declared.row.Shape.TheVariants.{SameArray, SameElement, ArrayOf, Is as Gives}
use Rattle.sq_builtin.specs.Entries.{Entry, strict, strict_may_null, never_null, may_null, function, function_may_null, aggregate, twice, numbers, int2, int4, int8, float4, float8, num, bool, text, bpchar, bytea, date, time, ts, tstz, iv, uuid, json, jsonb, texts}

-- the types with fields of a date or a time
abbrev pub with_fields : List PgType
with_fields = date ∷ time ∷ ts ∷ tstz ∷ iv ∷ []

-- the count of the characters or bytes of these types
abbrev pub measure : List ℕ → List PgType → List Entry
measure name types = map (λ of. function name (of ∷ []) int4) types

-- a rounding, or a root, of numeric and double precision
abbrev pub rounding : List ℕ → List Entry
rounding name = function name (num ∷ []) num ∷ function name (float8 ∷ []) float8 ∷ []

-- the text of any values, one after the other
abbrev pub concat : ℕ → List Entry
concat count = never_null Function (codes "concat") (replicate count Any) (Gives text) ∷ []

-- an object of JSON of any keys and values
abbrev pub build_object : ℕ → List Entry
build_object count =
    never_null Function (codes "json_build_object") (replicate count Any) (Gives json) ∷
    never_null Function (codes "jsonb_build_object") (replicate count Any) (Gives jsonb) ∷ []

-- min and max
abbrev pub extreme : List ℕ → List Entry
extreme name =
    map (λ of. aggregate name (of ∷ []) of) (numbers ++ text ∷ bpchar ∷ date ∷ time ∷ ts ∷ tstz ∷ iv ∷ []) ++
    strict Aggregate name (AnyEnum ∷ []) SameElement ∷
    strict Aggregate name (AnyArray ∷ []) SameArray ∷ []

unfoldable pub none : List Entry
none =
    map (λ name. never_null Function name [] (Gives tstz))
    (codes "now" ∷ codes "transaction_timestamp" ∷ codes "statement_timestamp" ∷ codes "clock_timestamp" ∷ []) ++
    never_null Function (codes "current_date") [] (Gives date) ∷
    never_null Function (codes "current_timestamp") [] (Gives tstz) ∷
    never_null Function (codes "localtimestamp") [] (Gives ts) ∷
    never_null Function (codes "random") [] (Gives float8) ∷
    never_null Function (codes "gen_random_uuid") [] (Gives uuid) ∷ [] ++
    build_object 0 ++
    never_null Aggregate (codes "count") [] (Gives int8) ∷ []

-- of texts and bytes
abbrev pub one_text : List Entry
one_text =
    map (λ name. function name (text ∷ []) text)
    (codes "lower" ∷ codes "upper" ∷ codes "initcap" ∷ codes "btrim" ∷ codes "ltrim" ∷ codes "rtrim" ∷ codes "reverse" ∷ []) ++
    function (codes "md5") (text ∷ []) text ∷
    function (codes "md5") (bytea ∷ []) text ∷ [] ++
    measure (codes "length") (text ∷ bpchar ∷ bytea ∷ []) ++
    measure (codes "octet_length") (text ∷ bpchar ∷ bytea ∷ []) ++
    measure (codes "char_length") (text ∷ bpchar ∷ []) ++
    function (codes "sha256") (bytea ∷ []) bytea ∷ [] ++
    concat 1

-- of numbers
abbrev pub one_number : List Entry
one_number =
    map (λ of. function (codes "abs") (of ∷ []) of) numbers ++
    rounding (codes "ceil") ++ rounding (codes "ceiling") ++ rounding (codes "floor") ++
    rounding (codes "sqrt") ++ rounding (codes "round")

-- of dates and times
abbrev pub one_time : List Entry
one_time =
    function (codes "age") (ts ∷ []) iv ∷
    function (codes "age") (tstz ∷ []) iv ∷
    function (codes "to_timestamp") (float8 ∷ []) tstz ∷ [] ++
    map (λ of. function_may_null (codes "extract") (of ∷ []) num) with_fields

-- of JSON and of arrays
abbrev pub one_json : List Entry
one_json =
    strict Function (codes "to_json") (AnyElement ∷ []) (Gives json) ∷
    strict Function (codes "to_jsonb") (AnyElement ∷ []) (Gives jsonb) ∷
    function (codes "json_typeof") (json ∷ []) text ∷
    function (codes "jsonb_typeof") (jsonb ∷ []) text ∷
    function (codes "json_array_length") (json ∷ []) int4 ∷
    function (codes "jsonb_array_length") (jsonb ∷ []) int4 ∷
    strict Function (codes "cardinality") (AnyArray ∷ []) (Gives int4) ∷ []

-- aggregates
abbrev pub one_aggregate : List Entry
one_aggregate =
    never_null Aggregate (codes "count") (Any ∷ []) (Gives int8) ∷
    aggregate (codes "sum") (int2 ∷ []) int8 ∷
    aggregate (codes "sum") (int4 ∷ []) int8 ∷
    aggregate (codes "sum") (int8 ∷ []) num ∷ [] ++
    map (λ of. aggregate (codes "sum") (of ∷ []) of) (float4 ∷ float8 ∷ num ∷ iv ∷ []) ++
    map (λ of. aggregate (codes "avg") (of ∷ []) num) (int2 ∷ int4 ∷ int8 ∷ num ∷ []) ++
    map (λ of. aggregate (codes "avg") (of ∷ []) float8) (float4 ∷ float8 ∷ []) ++
    aggregate (codes "avg") (iv ∷ []) iv ∷ [] ++
    extreme (codes "min") ++ extreme (codes "max") ++
    map (λ name. aggregate name (bool ∷ []) bool) (codes "bool_and" ∷ codes "bool_or" ∷ codes "every" ∷ []) ++
    strict Aggregate (codes "array_agg") (AnyNonArray ∷ []) ArrayOf ∷
    strict Aggregate (codes "json_agg") (Any ∷ []) (Gives json) ∷
    strict Aggregate (codes "jsonb_agg") (Any ∷ []) (Gives jsonb) ∷ []

unfoldable pub one : List Entry
one = one_text ++ one_number ++ one_time ++ one_json ++ one_aggregate

-- of texts and bytes
abbrev pub two_texts : List Entry
two_texts =
    flat_map (λ name. function name (text ∷ int4 ∷ []) text ∷ function name (bytea ∷ int4 ∷ []) bytea ∷ [])
    (codes "substr" ∷ codes "substring" ∷ []) ++
    map (λ name. function name (text ∷ int4 ∷ []) text)
    (codes "left" ∷ codes "right" ∷ codes "repeat" ∷ codes "lpad" ∷ codes "rpad" ∷ []) ++
    function (codes "strpos") (text ∷ text ∷ []) int4 ∷
    function (codes "starts_with") (text ∷ text ∷ []) bool ∷
    function (codes "encode") (bytea ∷ text ∷ []) text ∷
    function (codes "decode") (text ∷ text ∷ []) bytea ∷ [] ++
    concat 2

-- of numbers
abbrev pub two_numbers : List Entry
two_numbers =
    function (codes "round") (num ∷ int4 ∷ []) num ∷ [] ++
    map (λ of. function (codes "power") (twice of) of) (float8 ∷ num ∷ []) ++
    map (λ of. function (codes "mod") (twice of) of) (int2 ∷ int4 ∷ int8 ∷ num ∷ [])

-- of dates and times
abbrev pub two_times : List Entry
two_times =
    map (λ of. function (codes "date_trunc") (text ∷ of ∷ []) of) (ts ∷ tstz ∷ iv ∷ []) ++
    function (codes "age") (ts ∷ ts ∷ []) iv ∷
    function (codes "age") (tstz ∷ tstz ∷ []) iv ∷
    function (codes "timezone") (text ∷ ts ∷ []) tstz ∷
    function (codes "timezone") (text ∷ tstz ∷ []) ts ∷ [] ++
    map (λ of. function_may_null (codes "date_part") (text ∷ of ∷ []) float8) with_fields ++
    map (λ of. function_may_null (codes "to_char") (of ∷ text ∷ []) text)
    (ts ∷ tstz ∷ iv ∷ int4 ∷ int8 ∷ num ∷ float8 ∷ []) ++
    function_may_null (codes "to_timestamp") (text ∷ text ∷ []) tstz ∷
    function_may_null (codes "to_date") (text ∷ text ∷ []) date ∷ []

-- of JSON and of arrays
abbrev pub two_json : List Entry
two_json =
    build_object 2 ++
    strict_may_null Function (codes "array_length") (AnyArray ∷ Takes int4 ∷ []) (Gives int4) ∷
    may_null Function (codes "array_append") (AnyArray ∷ AnyElement ∷ []) SameArray ∷
    may_null Function (codes "array_remove") (AnyArray ∷ AnyElement ∷ []) SameArray ∷
    may_null Function (codes "array_cat") (AnyArray ∷ AnyArray ∷ []) SameArray ∷
    may_null Function (codes "array_position") (AnyArray ∷ AnyElement ∷ []) (Gives int4) ∷
    may_null Function (codes "array_to_string") (AnyArray ∷ Takes text ∷ []) (Gives text) ∷
    may_null Function (codes "string_to_array") (Takes text ∷ Takes text ∷ []) (Gives texts) ∷ []

-- aggregates
abbrev pub two_aggregate : List Entry
two_aggregate =
    map (λ of. aggregate (codes "string_agg") (twice of) of) (text ∷ bytea ∷ []) ++
    strict Aggregate (codes "json_object_agg") (Any ∷ Any ∷ []) (Gives json) ∷
    strict Aggregate (codes "jsonb_object_agg") (Any ∷ Any ∷ []) (Gives jsonb) ∷ []

unfoldable pub two : List Entry
two = two_texts ++ two_numbers ++ two_times ++ two_json ++ two_aggregate

unfoldable pub three : List Entry
three =
    flat_map (λ name. function name (text ∷ int4 ∷ int4 ∷ []) text ∷ function name (bytea ∷ int4 ∷ int4 ∷ []) bytea ∷ [])
    (codes "substr" ∷ codes "substring" ∷ []) ++
    function (codes "replace") (text ∷ text ∷ text ∷ []) text ∷
    function (codes "lpad") (text ∷ int4 ∷ text ∷ []) text ∷
    function (codes "rpad") (text ∷ int4 ∷ text ∷ []) text ∷
    function (codes "split_part") (text ∷ text ∷ int4 ∷ []) text ∷
    function (codes "regexp_replace") (text ∷ text ∷ text ∷ []) text ∷ [] ++
    concat 3 ++
    function_may_null (codes "jsonb_set") (jsonb ∷ texts ∷ jsonb ∷ []) jsonb ∷ []

unfoldable pub four : List Entry
four =
    function (codes "regexp_replace") (text ∷ text ∷ text ∷ text ∷ []) text ∷ [] ++
    concat 4 ++
    function_may_null (codes "jsonb_set") (jsonb ∷ texts ∷ jsonb ∷ bool ∷ []) jsonb ∷ [] ++
    build_object 4

unfoldable pub five : List Entry
five = concat 5

unfoldable pub six : List Entry
six = concat 6 ++ build_object 6

unfoldable pub seven : List Entry
seven = concat 7

unfoldable pub eight : List Entry
eight = concat 8 ++ build_object 8

unfoldable pub ten : List Entry
ten = build_object 10

unfoldable pub twelve : List Entry
twelve = build_object 12

unfoldable pub fourteen : List Entry
fourteen = build_object 14

unfoldable pub sixteen : List Entry
sixteen = build_object 16

-- the functions and aggregates, by the count of their inputs
abbrev pub functions : List Entry
functions =
    none ++ one ++ two ++ three ++ four ++ five ++ six ++ seven ++ eight ++ ten ++ twelve ++ fourteen ++ sixteen
