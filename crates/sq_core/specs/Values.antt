-- Values, and which of them a type and a mark allow.
use Rattle.std.specs.Prelude.{ℕ, Bool, true, false, not, ◌&&◌, ◌||◌, ◌==◌, if◌then◌else◌, List, [], ◌∷◌, map, IsTrue}
use Rattle.std.specs.List.{AllZip, AllByRecursion, list_any, list_all}
use Rattle.sq_base.specs.declared.types.PgType.{PgType}
use Rattle.sq_base.specs.declared.types.Scalar.{Scalar}
use Rattle.sq_base.specs.declared.types.Scalar.TheVariants.{SmallInt, Integer, BigInt, Real, DoublePrecision, Numeric, Boolean, Text, Varchar, Character, Bytea, Date, Time, Timestamp, TimestampTz, Interval, Uuid, Json, Jsonb, Opaque, Enum, Domain, Unknown}
use Rattle.sq_base.specs.Casts.{is_same}
use Rattle.sq_catalog.specs.Contents.{Contents}
use Rattle.sq_catalog.specs.UserTypes.{base}
use Rattle.sq_catalog.specs.declared.table.Column.{Column}
use Rattle.sq_catalog.specs.declared.table.Table.{Table}
use Rattle.sq_shown.specs.declared.signature.Output.{Output}

-- A tag is a class of types with the same values, told by one type of the class.
abbrev pub Tag : Type 0
Tag = PgType

-- A value is null, a truth value, an array of a tag with its elements, or a tag with an opaque number.
mutual
  pub data Value : Type 0 where
    Null : Value
    Truth : Bool → Value
    Array : Tag → Values → Value
    Tagged : Tag → ℕ → Value

  pub data Values : Type 0 where
    End : Values
    Then : Value → Values → Values

abbrev pub same_bool : Bool → Bool → Bool
same_bool true b = b
same_bool false b = not b

-- whether two types are one
abbrev pub same_type : PgType → PgType → Bool
same_type one other = is_same one.scalar other.scalar && same_bool one.array other.array

-- text, varchar and character have the same values, and every other scalar type has its own
abbrev pub scalar_tag : Scalar → Scalar
scalar_tag Varchar = Text
scalar_tag Character = Text
scalar_tag scalar = scalar

-- the tag of a type's values; a domain has that of its base
abbrev pub tag : Contents → PgType → Tag
tag contents of = let behind : PgType = base contents of in
    record { scalar = scalar_tag behind.scalar; array = behind.array }

-- the tag of truth values
abbrev pub truth_tag : Tag
truth_tag = record { scalar = Boolean; array = false }

-- the tag of an array's elements
abbrev pub element_tag : Tag → Tag
element_tag of = record of { array = false }

abbrev pub is_null : Value → Bool
is_null Null = true
is_null _ = false

-- whether an opaque number may stand for a tag's value: it is no truth value and no array
abbrev pub is_opaque : Tag → Bool
is_opaque of = not (of.array || same_type of truth_tag)

-- whether a value is not null and has the tag; of an array each element is null or has the element's tag
abbrev mutual
  pub has_tag : Tag → Value → Bool
  has_tag of Null = false
  has_tag of (Truth b) = same_type of truth_tag
  has_tag of (Array element values) = (of.array && same_type (element_tag of) element)
      && all_have_tag (element_tag of) values
  has_tag of (Tagged own number) = is_opaque own && same_type of own

  pub all_have_tag : Tag → Values → Bool
  all_have_tag of End = true
  all_have_tag of (Then value values) = (is_null value || has_tag of value) && all_have_tag of values

abbrev pub is_unknown_scalar : Scalar → Bool
is_unknown_scalar Unknown = true
is_unknown_scalar _ = false

-- whether a tag is that of a type that is not known; there is no array of such a type
abbrev pub is_unknown : Tag → Bool
is_unknown of = is_unknown_scalar of.scalar && not of.array

-- the tag of an array of elements of a tag
abbrev pub array_tag : Tag → Tag
array_tag element = record { scalar = element.scalar; array = true }

-- the tag of whole numbers of 8 bytes, and of 4 bytes
abbrev pub bigint_tag : Tag
bigint_tag = record { scalar = BigInt; array = false }

abbrev pub integer_tag : Tag
integer_tag = record { scalar = Integer; array = false }

-- the elements of an array as a list, and back
abbrev pub list_of : Values → List Value
list_of End = []
list_of (Then value values) = value ∷ list_of values

abbrev pub values_of : List Value → Values
values_of [] = End
values_of (value ∷ values) = Then value (values_of values)

-- a tag, and a mark that says whether null is allowed
pub record Kind : Type 0 where
  pub of : Tag
  pub nullable : Bool

abbrev pub kind : Tag → Bool → Kind
kind of nullable = record { of = of; nullable = nullable }

-- the kind of a type and a mark
abbrev pub kind_of : Contents → PgType → Bool → Kind
kind_of contents of nullable = kind (tag contents of) nullable

-- null where the mark allows it, else of the tag; every value that is not null fits the unknown type
abbrev pub fits : Kind → Value → Bool
fits kind Null = kind.nullable
fits kind value = is_unknown kind.of || has_tag kind.of value

abbrev pub Fits : Kind → Value → Type 0
Fits kind value = IsTrue (fits kind value)

abbrev pub Row : Type 0
Row = List Value

-- a list of rows for each table
abbrev pub Database : Type 0
Database = List (List Row)

-- a row is as long as the kinds, and each value fits its kind
abbrev pub RowFits : List Kind → Row → Type 0
RowFits = AllZip Fits

-- each row fits
abbrev pub RowsFit : List Kind → List Row → Type 0
RowsFit kinds = AllByRecursion (RowFits kinds)

-- a column of a table allows null where it is not NOT NULL
abbrev pub column_kind : Contents → Column → Kind
column_kind contents column = kind_of contents column.of (not column.not_null)

abbrev pub table_kinds : Contents → Table → List Kind
table_kinds contents table = map (column_kind contents) table.columns

abbrev pub output_kind : Contents → Output → Kind
output_kind contents output = kind_of contents output.of output.nullable

-- each table of the catalogue has a list of rows that fit its columns
abbrev pub DatabaseFits : Contents → Database → Type 0
DatabaseFits contents = AllZip (λ table. RowsFit (table_kinds contents table)) contents.tables

-- no rows for each table
abbrev pub empty_tables : Contents → Database
empty_tables contents = map (λ (table : Table). []) contents.tables

-- whether some kind, or each, is nullable
abbrev pub any_nullable : List Kind → Bool
any_nullable = list_any (λ k. k.nullable)

abbrev pub all_nullable : List Kind → Bool
all_nullable = list_all (λ k. k.nullable)

abbrev pub tags : List Kind → List Tag
tags = map (λ k. k.of)
