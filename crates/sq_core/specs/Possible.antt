-- A picked row for each entry of the table of built-in rows.
use Rattle.std.specs.Prelude.{◌≡◌, ℕ, true, false, Bool, if◌then◌else◌, List, map, Some, slice_get}
use Rattle.std.specs.List.{list_any}
use Rattle.sq_base.specs.declared.types.PgType.{PgType}
use Rattle.sq_base.specs.declared.types.Scalar.TheVariants.{Enum, Integer}
use Rattle.sq_builtin.specs.declared.row.Pattern.{Pattern}
use Rattle.sq_builtin.specs.declared.row.Pattern.TheVariants.{Is as Takes, AnyArray, AnyElement, AnyNonArray, AnyEnum, Any}
use Rattle.sq_builtin.specs.declared.row.Shape.{Shape}
use Rattle.sq_builtin.specs.declared.row.Shape.TheVariants.{Is as Gives, SameArray, SameElement, ArrayOf}
use Rattle.sq_builtin.specs.Entries.{Entry, int4}
use Rattle.sq_builtin.specs.Rows.{table}
use Rattle.sq_core.specs.declared.routine.Routine.{Routine}
use Rattle.sq_core.specs.Routines.{is_aggregate, is_routine}
use Rattle.sq_core.specs.Values.{array_tag}

abbrev pub is_any_enum : Pattern → Bool
is_any_enum AnyEnum = true
is_any_enum _ = false

-- the element of an entry's polymorphic inputs: an enumeration where one is asked for, else whole numbers
abbrev pub element : Entry → PgType
element entry = if list_any is_any_enum entry.inputs then record { scalar = Enum 0; array = false } else int4

-- a type that an input takes
abbrev pub taken : PgType → Pattern → PgType
taken of (Takes own) = own
taken of AnyArray = array_tag of
taken of AnyElement = of
taken of AnyNonArray = of
taken of AnyEnum = of
taken of Any = of

-- the type of the result
abbrev pub given_back : PgType → Shape → PgType
given_back of (Gives own) = own
given_back of SameArray = array_tag of
given_back of SameElement = of
given_back of ArrayOf = array_tag of

-- an entry as it is picked over these types
abbrev pub picked : Entry → Routine
picked entry = record {
  name = entry.name;
  given = map (taken (element entry)) entry.inputs;
  of = given_back (element entry) entry.result;
  strict = entry.strict;
  may_null = entry.may_null;
}

-- each entry of the table can be picked, and is then a row of the table
abbrev pub EveryRowIsPossible : Type 0
EveryRowIsPossible =
    (place : ℕ) (entry : Entry) → slice_get table place ≡ Some entry
    → is_routine (is_aggregate entry.kind) (picked entry) ≡ true
