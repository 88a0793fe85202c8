-- How a type is printed in Go: the form of what is never null, and the form of what may be null.
use Rattle.std.specs.Prelude.{ℕ, Bool, true, false, ◌||◌, if◌then◌else◌, List, [], ◌++◌, IsTrue, codes}
use Rattle.sq_base.specs.declared.types.PgType.{PgType}
use Rattle.sq_base.specs.declared.types.Scalar.{Scalar}
use Rattle.sq_base.specs.declared.types.Scalar.TheVariants.{SmallInt, Integer, BigInt, Real, DoublePrecision, Numeric, Boolean, Text, Varchar, Character, Bytea, Date, Time, Timestamp, TimestampTz, Interval, Uuid, Json, Jsonb, Opaque, Enum, Domain, Unknown}

-- whether a scalar type has a form that needs no catalogue
abbrev pub is_printed : Scalar → Bool
is_printed (Enum id) = false
is_printed (Domain id) = false
is_printed Unknown = false
is_printed _ = true

-- a type that is no enumeration and no domain, and is known
abbrev pub IsPrinted : PgType → Type 0
IsPrinted of = IsTrue (is_printed of.scalar)

-- the form of a scalar type that is never null
abbrev pub scalar_form : Scalar → List ℕ
scalar_form SmallInt = codes "int16"
scalar_form Integer = codes "int32"
scalar_form BigInt = codes "int64"
scalar_form Real = codes "float32"
scalar_form DoublePrecision = codes "float64"
scalar_form Numeric = codes "string"
scalar_form Boolean = codes "bool"
scalar_form Text = codes "string"
scalar_form Varchar = codes "string"
scalar_form Character = codes "string"
scalar_form Bytea = codes "[]byte"
scalar_form Date = codes "time.Time"
scalar_form Time = codes "time.Time"
scalar_form Timestamp = codes "time.Time"
scalar_form TimestampTz = codes "time.Time"
scalar_form Interval = codes "string"
scalar_form Uuid = codes "uuid.UUID"
scalar_form Json = codes "json.RawMessage"
scalar_form Jsonb = codes "json.RawMessage"
scalar_form (Opaque place) = codes "string"
scalar_form (Enum id) = []
scalar_form (Domain id) = []
scalar_form Unknown = []

-- the form of a scalar type that may be null
abbrev pub nullable_scalar_form : Scalar → List ℕ
nullable_scalar_form SmallInt = codes "sql.NullInt16"
nullable_scalar_form Integer = codes "sql.NullInt32"
nullable_scalar_form BigInt = codes "sql.NullInt64"
nullable_scalar_form Real = codes "sql.NullFloat64"
nullable_scalar_form DoublePrecision = codes "sql.NullFloat64"
nullable_scalar_form Numeric = codes "sql.NullString"
nullable_scalar_form Boolean = codes "sql.NullBool"
nullable_scalar_form Text = codes "sql.NullString"
nullable_scalar_form Varchar = codes "sql.NullString"
nullable_scalar_form Character = codes "sql.NullString"
nullable_scalar_form Bytea = codes "[]byte"
nullable_scalar_form Date = codes "sql.NullTime"
nullable_scalar_form Time = codes "sql.NullTime"
nullable_scalar_form Timestamp = codes "sql.NullTime"
nullable_scalar_form TimestampTz = codes "sql.NullTime"
nullable_scalar_form Interval = codes "sql.NullString"
nullable_scalar_form Uuid = codes "uuid.NullUUID"
nullable_scalar_form Json = codes "pqtype.NullRawMessage"
nullable_scalar_form Jsonb = codes "pqtype.NullRawMessage"
nullable_scalar_form (Opaque place) = codes "sql.NullString"
nullable_scalar_form (Enum id) = []
nullable_scalar_form (Domain id) = []
nullable_scalar_form Unknown = []

-- the form of a type that is never null: of an array `[]` and its element's
abbrev pub form : PgType → List ℕ
form of = if of.array then codes "[]" ++ scalar_form of.scalar else scalar_form of.scalar

-- the form of a type that may be null: an array has one form
abbrev pub nullable_form : PgType → List ℕ
nullable_form of = if of.array then form of else nullable_scalar_form of.scalar

-- the form that stands in a written file
abbrev pub printed_form : PgType → Bool → List ℕ
printed_form of nullable = if nullable then nullable_form of else form of

-- whether a scalar type's form admits null although it is the form of what is never null
abbrev pub weak_scalar : Scalar → Bool
weak_scalar Bytea = true
weak_scalar Json = true
weak_scalar Jsonb = true
weak_scalar _ = false

-- whether a type's form admits null although it is the form of what is never null
abbrev pub weak : PgType → Bool
weak of = of.array || weak_scalar of.scalar
