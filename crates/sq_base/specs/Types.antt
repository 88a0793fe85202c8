-- The categories of types and the preferred type of each (PostgreSQL manual, chapter 10 and the page of pg_type).
use Rattle.std.specs.Prelude.{ℕ, Bool, true, false, ◌&&◌, ◌==◌, if◌then◌else◌, IsTrue, not}
use Rattle.sq_base.specs.declared.types.PgType.{PgType}
use Rattle.sq_base.specs.declared.types.Scalar.{Scalar}
use Rattle.sq_base.specs.declared.types.Scalar.TheVariants.{SmallInt, Integer, BigInt, Real, DoublePrecision, Numeric, Boolean, Text, Varchar, Character, Bytea, Date, Time, Timestamp, TimestampTz, Interval, Uuid, Json, Jsonb, Opaque, Enum, Domain, Unknown}
use Rattle.sq_base.specs.declared.conversion.Category.{Category}
use Rattle.sq_base.specs.declared.conversion.Category.TheVariants.{Numbers, Booleans, Strings, UserDefined, DatesAndTimes, Timespans, Enumerations, Arrays}

-- the list of types of which nothing is known but their name:
-- inet, cidr, macaddr, citext, xml, money, point, tsvector, ltree, hstore.
-- The places of those that have a cast or a category of their own:
abbrev pub inet : ℕ
inet = 0

abbrev pub cidr : ℕ
cidr = 1

abbrev pub citext : ℕ
citext = 3

abbrev pub money : ℕ
money = 5

-- whether a scalar type is known and no domain
abbrev pub is_base : Scalar → Bool
is_base (Domain id) = false
is_base Unknown = false
is_base _ = true

-- a type that is known and no domain
abbrev pub IsBase : PgType → Type 0
IsBase of = IsTrue (is_base of.scalar)

-- the category of a scalar type
abbrev pub scalar_category : Scalar → Category
scalar_category SmallInt = Numbers
scalar_category Integer = Numbers
scalar_category BigInt = Numbers
scalar_category Real = Numbers
scalar_category DoublePrecision = Numbers
scalar_category Numeric = Numbers
scalar_category Boolean = Booleans
scalar_category Text = Strings
scalar_category Varchar = Strings
scalar_category Character = Strings
scalar_category Bytea = UserDefined
scalar_category Date = DatesAndTimes
scalar_category Time = DatesAndTimes
scalar_category Timestamp = DatesAndTimes
scalar_category TimestampTz = DatesAndTimes
scalar_category Interval = Timespans
scalar_category Uuid = UserDefined
scalar_category Json = UserDefined
scalar_category Jsonb = UserDefined
-- citext is a string, every other type of the list has no category of its own
scalar_category (Opaque place) = if place == citext then Strings else UserDefined
scalar_category (Enum id) = Enumerations
scalar_category (Domain id) = UserDefined
scalar_category Unknown = UserDefined

-- the category of a type
abbrev pub category : PgType → Category
category of = if of.array then Arrays else scalar_category of.scalar

-- whether a scalar type is the preferred one of its category
abbrev pub scalar_preferred : Scalar → Bool
scalar_preferred DoublePrecision = true
scalar_preferred Boolean = true
scalar_preferred Text = true
scalar_preferred TimestampTz = true
scalar_preferred Interval = true
scalar_preferred _ = false

-- whether a type is the preferred one of its category: no array is
abbrev pub preferred : PgType → Bool
preferred of = not of.array && scalar_preferred of.scalar
