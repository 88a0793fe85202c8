-- The entries of the table of built-in operators, functions and aggregates, and how they are written
-- down. A row of the program is an entry whose lists stand behind references.
use Rattle.std.specs.Prelude.{ℕ, Bool, true, false, List, [], ◌∷◌, map}
use Rattle.sq_base.specs.declared.types.PgType.{PgType}
use Rattle.sq_base.specs.declared.types.Scalar.{Scalar}
use Rattle.sq_base.specs.declared.types.Scalar.TheVariants.{SmallInt, Integer, BigInt, Real, DoublePrecision, Numeric, Boolean, Text, Character, Bytea, Date, Time, Timestamp, TimestampTz, Interval, Uuid, Json, Jsonb, Opaque}
use Rattle.sq_builtin.specs.declared.row.Kind.{Kind}
use Rattle.sq_builtin.specs.declared.row.Kind.TheVariants.{Operator, Function, Aggregate}
use Rattle.sq_builtin.specs.declared.row.Pattern.{Pattern}
use Rattle.sq_builtin.specs.declared.row.Pattern.TheVariants.{Is as Takes}
use Rattle.sq_builtin.specs.declared.row.Shape.{Shape}
use Rattle.sq_builtin.specs.declared.row.Shape.TheVariants.{Is as Gives}
use Rattle.sq_builtin.specs.declared.row.Row.{Row}

-- an entry of the table
pub record Entry : Type 0 where
  pub name : List ℕ
  pub inputs : List Pattern
  pub result : Shape
  pub strict : Bool
  pub may_null : Bool
  pub kind : Kind

-- the entry that a row of the program is
abbrev pub entry_of : Row → Entry
entry_of row = record {
  name = row.name.now;
  inputs = row.inputs.now;
  result = row.result;
  strict = row.strict;
  may_null = row.may_null;
  kind = row.kind;
}

-- the short names of types
abbrev pub scalar : Scalar → PgType
scalar of = record { scalar = of; array = false }

abbrev pub int2 : PgType
int2 = scalar SmallInt

abbrev pub int4 : PgType
int4 = scalar Integer

abbrev pub int8 : PgType
int8 = scalar BigInt

abbrev pub float4 : PgType
float4 = scalar Real

abbrev pub float8 : PgType
float8 = scalar DoublePrecision

abbrev pub num : PgType
num = scalar Numeric

abbrev pub bool : PgType
bool = scalar Boolean

abbrev pub text : PgType
text = scalar Text

abbrev pub bpchar : PgType
bpchar = scalar Character

abbrev pub bytea : PgType
bytea = scalar Bytea

abbrev pub date : PgType
date = scalar Date

abbrev pub time : PgType
time = scalar Time

abbrev pub ts : PgType
ts = scalar Timestamp

abbrev pub tstz : PgType
tstz = scalar TimestampTz

abbrev pub iv : PgType
iv = scalar Interval

abbrev pub uuid : PgType
uuid = scalar Uuid

abbrev pub json : PgType
json = scalar Json

abbrev pub jsonb : PgType
jsonb = scalar Jsonb

abbrev pub texts : PgType
texts = record { scalar = Text; array = true }

-- inet, cidr, macaddr, citext, money, tsvector, ltree and hstore
abbrev pub named_types : List PgType
named_types = map (λ place. scalar (Opaque place)) (0 ∷ 1 ∷ 2 ∷ 3 ∷ 5 ∷ 7 ∷ 8 ∷ 9 ∷ [])

-- smallint, integer, bigint, real, double precision and numeric
abbrev pub numbers : List PgType
numbers = int2 ∷ int4 ∷ int8 ∷ float4 ∷ float8 ∷ num ∷ []

-- inputs that take these types, and what converts to them
abbrev pub takes : List PgType → List Pattern
takes types = map Takes types

-- the two inputs that take one type
abbrev pub twice : PgType → List PgType
twice of = of ∷ of ∷ []

-- null exactly where an input is null; of an aggregate, not null where it has a row and no input is null
abbrev pub strict : Kind → List ℕ → List Pattern → Shape → Entry
strict kind name inputs result =
    record { name = name; inputs = inputs; result = result; strict = true; may_null = false; kind = kind }

-- null where an input is null, and maybe elsewhere
abbrev pub strict_may_null : Kind → List ℕ → List Pattern → Shape → Entry
strict_may_null kind name inputs result =
    record { name = name; inputs = inputs; result = result; strict = true; may_null = true; kind = kind }

-- never null
abbrev pub never_null : Kind → List ℕ → List Pattern → Shape → Entry
never_null kind name inputs result =
    record { name = name; inputs = inputs; result = result; strict = false; may_null = false; kind = kind }

-- maybe null, whatever the inputs are
abbrev pub may_null : Kind → List ℕ → List Pattern → Shape → Entry
may_null kind name inputs result =
    record { name = name; inputs = inputs; result = result; strict = false; may_null = true; kind = kind }

-- an operator that is null exactly where an operand is null, from types to a type
abbrev pub operator : List ℕ → List PgType → PgType → Entry
operator name inputs result = strict Operator name (takes inputs) (Gives result)

-- an operator that may also be null elsewhere
abbrev pub operator_may_null : List ℕ → List PgType → PgType → Entry
operator_may_null name inputs result = strict_may_null Operator name (takes inputs) (Gives result)

-- a function that is null exactly where an input is null
abbrev pub function : List ℕ → List PgType → PgType → Entry
function name inputs result = strict Function name (takes inputs) (Gives result)

-- a function that may also be null elsewhere
abbrev pub function_may_null : List ℕ → List PgType → PgType → Entry
function_may_null name inputs result = strict_may_null Function name (takes inputs) (Gives result)

-- an aggregate that is not null where it has a row and no input is null, and else may be
abbrev pub aggregate : List ℕ → List PgType → PgType → Entry
aggregate name inputs result = strict Aggregate name (takes inputs) (Gives result)
