-- How a type is printed in each language. A printed form is a shape, told by one type of those that
-- are printed alike, and whether it is written as one that may be null. The texts stand at the end:
-- nothing reads them.
use Rattle.std.specs.Prelude.{ℕ, Bool, true, false, not, ◌&&◌, ◌||◌, ◌==◌, if◌then◌else◌, List, [], ◌∷◌, ◌++◌, Option, find, unwrap_or, slice_get, codes, bytes_eq}
use Rattle.std.specs.Option.{option_map_or}
use Rattle.sq_base.specs.declared.types.PgType.{PgType}
use Rattle.sq_base.specs.declared.types.Scalar.{Scalar}
use Rattle.sq_base.specs.declared.types.Scalar.TheVariants.{SmallInt, Integer, BigInt, Real, DoublePrecision, Numeric, Boolean, Text, Varchar, Character, Bytea, Date, Time, Timestamp, TimestampTz, Interval, Uuid, Json, Jsonb, Opaque, Enum, Domain, Unknown}
use Rattle.sq_catalog.specs.Contents.{Contents}
use Rattle.sq_catalog.specs.declared.table.EnumType.{EnumType}
use Rattle.sq_shown.specs.declared.signature.Language.{Language}
use Rattle.sq_shown.specs.declared.signature.Language.TheVariants.{Go, Python, Plain}
use Rattle.sq_core.specs.declared.weak.Weak.{Weak}
use Rattle.sq_shown.specs.Identifiers.{model_identifier}
use Rattle.sq_catalog.specs.UserTypes.{base}
use Rattle.sq_core.specs.Values.{}

-- the type that stands for all scalar types that are printed as this one is, where it is never null
abbrev pub scalar_shape : Language → Scalar → Scalar
scalar_shape Go Numeric = Text
scalar_shape Go Varchar = Text
scalar_shape Go Character = Text
scalar_shape Go Interval = Text
scalar_shape Go (Opaque place) = Text
scalar_shape Go Date = Timestamp
scalar_shape Go Time = Timestamp
scalar_shape Go TimestampTz = Timestamp
scalar_shape Go Jsonb = Json
scalar_shape Python SmallInt = Integer
scalar_shape Python BigInt = Integer
scalar_shape Python Real = DoublePrecision
scalar_shape Python Varchar = Text
scalar_shape Python Character = Text
scalar_shape Python (Opaque place) = Text
scalar_shape Python TimestampTz = Timestamp
scalar_shape Python Jsonb = Json
scalar_shape language of = of

-- the same where it may be null: Go has one nullable form for both floating types
abbrev pub nullable_scalar_shape : Language → Scalar → Scalar
nullable_scalar_shape Go Real = DoublePrecision
nullable_scalar_shape language of = scalar_shape language of

-- a shape: what a form holds, without what makes it nullable
abbrev pub Shape : Type 0
Shape = PgType

-- the shape of a type's form; an array has the shape of its element's form that is never null
abbrev pub shape : Language → PgType → Bool → Shape
shape language of nullable =
    if of.array || not nullable then record { scalar = scalar_shape language of.scalar; array = of.array }
    else record { scalar = nullable_scalar_shape language of.scalar; array = of.array }

-- whether the form of a shape admits null although it is the form of what is never null
abbrev pub weak_scalar : Language → Scalar → Bool
weak_scalar Go Bytea = true
weak_scalar Go Json = true
weak_scalar Python Json = true
weak_scalar language of = false

abbrev pub weak_shape : Language → Shape → Bool
weak_shape Go of = of.array || weak_scalar Go of.scalar
weak_shape Python of = not of.array && weak_scalar Python of.scalar
weak_shape Plain of = false

-- whether a type's form admits null although it is the form of what is never null
abbrev pub weak_in : Language → PgType → Bool
weak_in language of = weak_shape language (shape language of false)

-- whether a language counts
abbrev pub counts : Weak → Language → Bool
counts weak Go = weak.go
counts weak Python = weak.python
counts weak Plain = true

-- whether a type is weak for a language that counts
abbrev pub weak_holds : Weak → PgType → Bool
weak_holds weak of = (weak.go && weak_in Go of) || (weak.python && weak_in Python of)

-- a printed form: a shape, and whether it is written as one that may be null
pub record Form : Type 0 where
  pub shape : Shape
  pub nullable : Bool

-- the form of a type; a domain is printed as its base type
abbrev pub form : Language → Contents → PgType → Bool → Form
form language contents of nullable = record { shape = shape language (base contents of) nullable; nullable = nullable }

-- whether a form admits null: where it is written so, or its shape is weak
abbrev pub admits_null : Language → Form → Bool
admits_null language form = form.nullable || weak_shape language form.shape

-- Texts.

-- the schema and the name of an enumeration
abbrev pub enum_named : Contents → ℕ → Option EnumType
enum_named contents id = find (λ (enum : EnumType). enum.id == id) contents.enums

abbrev pub enum_identifier : Contents → ℕ → List ℕ
enum_identifier contents id =
    option_map_or (λ (enum : EnumType). model_identifier enum.schema enum.name) (enum_named contents id) []

-- the name of an enumeration, behind that of its schema unless this is `public`
abbrev pub enum_name : Contents → ℕ → List ℕ
enum_name contents id =
    option_map_or (λ (enum : EnumType). if bytes_eq enum.schema (codes "public") then enum.name else enum.schema
    ++ codes "." ++ enum.name)
    (enum_named contents id) []

-- the names of the opaque types, by their places
abbrev pub opaque_names : List (List ℕ)
opaque_names =
    codes "inet" ∷ codes "cidr" ∷ codes "macaddr" ∷ codes "citext" ∷ codes "xml" ∷ codes "money" ∷ codes "point"
    ∷ codes "tsvector" ∷ codes "ltree" ∷ codes "hstore" ∷ []

-- the name of a scalar type
abbrev pub type_name : Contents → Scalar → List ℕ
type_name contents SmallInt = codes "smallint"
type_name contents Integer = codes "integer"
type_name contents BigInt = codes "bigint"
type_name contents Real = codes "real"
type_name contents DoublePrecision = codes "double precision"
type_name contents Numeric = codes "numeric"
type_name contents Boolean = codes "boolean"
type_name contents Text = codes "text"
type_name contents Varchar = codes "varchar"
type_name contents Character = codes "character"
type_name contents Bytea = codes "bytea"
type_name contents Date = codes "date"
type_name contents Time = codes "time"
type_name contents Timestamp = codes "timestamp"
type_name contents TimestampTz = codes "timestamptz"
type_name contents Interval = codes "interval"
type_name contents Uuid = codes "uuid"
type_name contents Json = codes "json"
type_name contents Jsonb = codes "jsonb"
type_name contents (Opaque place) = unwrap_or (slice_get opaque_names place) []
type_name contents (Enum id) = enum_name contents id
type_name contents (Domain id) = []
type_name contents Unknown = []

-- Go, never null
abbrev pub go_text : Contents → Scalar → List ℕ
go_text contents SmallInt = codes "int16"
go_text contents Integer = codes "int32"
go_text contents BigInt = codes "int64"
go_text contents Real = codes "float32"
go_text contents DoublePrecision = codes "float64"
go_text contents Boolean = codes "bool"
go_text contents Text = codes "string"
go_text contents Bytea = codes "[]byte"
go_text contents Timestamp = codes "time.Time"
go_text contents Uuid = codes "uuid.UUID"
go_text contents Json = codes "json.RawMessage"
go_text contents (Enum id) = enum_identifier contents id
go_text contents _ = []

-- Go, nullable
abbrev pub go_nullable_text : Contents → Scalar → List ℕ
go_nullable_text contents SmallInt = codes "sql.NullInt16"
go_nullable_text contents Integer = codes "sql.NullInt32"
go_nullable_text contents BigInt = codes "sql.NullInt64"
go_nullable_text contents DoublePrecision = codes "sql.NullFloat64"
go_nullable_text contents Boolean = codes "sql.NullBool"
go_nullable_text contents Text = codes "sql.NullString"
go_nullable_text contents Bytea = codes "[]byte"
go_nullable_text contents Timestamp = codes "sql.NullTime"
go_nullable_text contents Uuid = codes "uuid.NullUUID"
go_nullable_text contents Json = codes "pqtype.NullRawMessage"
go_nullable_text contents (Enum id) = codes "Null" ++ enum_identifier contents id
go_nullable_text contents _ = []

-- Python, never null
abbrev pub python_text : Contents → Scalar → List ℕ
python_text contents Integer = codes "int"
python_text contents DoublePrecision = codes "float"
python_text contents Numeric = codes "decimal.Decimal"
python_text contents Boolean = codes "bool"
python_text contents Text = codes "str"
python_text contents Bytea = codes "memoryview"
python_text contents Date = codes "datetime.date"
python_text contents Time = codes "datetime.time"
python_text contents Timestamp = codes "datetime.datetime"
python_text contents Interval = codes "datetime.timedelta"
python_text contents Uuid = codes "uuid.UUID"
python_text contents Json = codes "Any"
python_text contents (Enum id) = codes "models." ++ enum_identifier contents id
python_text contents _ = []

abbrev pub python_shape_text : Contents → Shape → List ℕ
python_shape_text contents of = if of.array then codes "List[" ++ python_text contents of.scalar ++ codes "]"
    else python_text contents of.scalar

abbrev pub plain_text : Contents → Shape → List ℕ
plain_text contents of = if of.array then type_name contents of.scalar ++ codes "[]" else type_name contents of.scalar

-- the text of a form
abbrev pub text : Language → Contents → Form → List ℕ
text Go contents form =
    if form.shape.array then codes "[]" ++ go_text contents form.shape.scalar
    else if form.nullable then go_nullable_text contents form.shape.scalar
    else go_text contents form.shape.scalar
text Python contents form =
    if form.nullable then codes "Optional[" ++ python_shape_text contents form.shape ++ codes "]"
    else python_shape_text contents form.shape
text Plain contents form = if form.nullable then plain_text contents form.shape ++ codes "?"
    else plain_text contents form.shape

-- the text that stands in a written file for a type and a mark
abbrev pub printed_text : Language → Contents → PgType → Bool → List ℕ
printed_text language contents of nullable = text language contents (form language contents of nullable)
