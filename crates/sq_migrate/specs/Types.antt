-- Types by their names (PostgreSQL manual, chapter 8).
use Rattle.std.specs.Prelude.{ℕ, ◌&&◌, ◌||◌, Bool, true, false, if◌then◌else◌, List, [], ◌∷◌, Option, Some, None, Result, Ok, Err, codes, length, nat_lt}
use Rattle.std.specs.List.{list_any}
use Rattle.std.specs.Option.{option_or}
use Rattle.std.specs.Str.{bytes_eq}
use Rattle.sq_base.specs.Refusals.{refused_naming}
use Rattle.sq_base.specs.declared.code.Code.TheVariants.{UnknownType, UnknownSchema}
use Rattle.sq_base.specs.declared.place.Place.{Place}
use Rattle.sq_base.specs.declared.refusal.Refusal.{Refusal}
use Rattle.sq_base.specs.declared.types.PgType.{PgType}
use Rattle.sq_base.specs.declared.types.Scalar.{Scalar}
use Rattle.sq_base.specs.declared.types.Scalar.TheVariants.{SmallInt, Integer, BigInt, Real, DoublePrecision, Numeric, Boolean, Text, Varchar, Character, Bytea, Date, Time, Timestamp, TimestampTz, Interval, Uuid, Json, Jsonb, Opaque, Domain}
use Rattle.sq_syntax.specs.declared.name.Identifier.{Identifier}
use Rattle.sq_syntax.specs.declared.name.QualifiedName.{QualifiedName}
use Rattle.sq_syntax.specs.declared.name.TimeZone.{TimeZone}
use Rattle.sq_syntax.specs.declared.name.TimeZone.TheVariants as zone
use Rattle.sq_syntax.specs.declared.name.TypeName.{TypeName}
use Rattle.sq_syntax.specs.declared.name.TypeWord.TheVariants as word
use Rattle.sq_catalog.specs.Contents.{Contents}
use Rattle.sq_catalog.specs.Catalogue.{public, has_schema}
use Rattle.sq_catalog.specs.UserTypes.{type_named}
use Rattle.sq_migrate.specs.Refused.{and_then}
use Rattle.sq_migrate.specs.declared.types.Typed.{Typed}

-- whether a name is one of these words
abbrev pub is_one : List ℕ → List (List ℕ) → Bool
is_one name words = list_any (λ (word : List ℕ). bytes_eq word name) words

-- NUMBERS
unfoldable pub number_named : List ℕ → Option Scalar
number_named name =
    if is_one name (codes "smallint" ∷ codes "int2" ∷ []) then Some SmallInt
    else if is_one name (codes "integer" ∷ codes "int4" ∷ codes "int" ∷ []) then Some Integer
    else if is_one name (codes "bigint" ∷ codes "int8" ∷ []) then Some BigInt
    else if is_one name (codes "real" ∷ codes "float4" ∷ []) then Some Real
    else if is_one name (codes "float8" ∷ codes "float" ∷ []) then Some DoublePrecision
    else if is_one name (codes "numeric" ∷ codes "decimal" ∷ codes "dec" ∷ []) then Some Numeric
    else None

-- DATES AND TIMES
unfoldable pub time_named : List ℕ → Option Scalar
time_named name =
    if bytes_eq name (codes "date") then Some Date
    else if bytes_eq name (codes "time") then Some Time
    else if bytes_eq name (codes "timestamp") then Some Timestamp
    else if bytes_eq name (codes "timestamptz") then Some TimestampTz
    else if bytes_eq name (codes "interval") then Some Interval
    else None

-- TRUTH VALUES, TEXTS AND VALUES OF OTHER FORMS
unfoldable pub text_named : List ℕ → Option Scalar
text_named name =
    if is_one name (codes "boolean" ∷ codes "bool" ∷ []) then Some Boolean
    else if bytes_eq name (codes "text") then Some Text
    else if bytes_eq name (codes "varchar") then Some Varchar
    else if is_one name (codes "character" ∷ codes "bpchar" ∷ codes "char" ∷ []) then Some Character
    else if bytes_eq name (codes "bytea") then Some Bytea
    else if bytes_eq name (codes "uuid") then Some Uuid
    else if bytes_eq name (codes "json") then Some Json
    else if bytes_eq name (codes "jsonb") then Some Jsonb
    else None

-- TYPES OF WHICH NOTHING IS KNOWN BUT THEIR NAME
unfoldable pub opaque_named : List ℕ → Option Scalar
opaque_named name =
    if bytes_eq name (codes "inet") then Some (Opaque 0)
    else if bytes_eq name (codes "cidr") then Some (Opaque 1)
    else if bytes_eq name (codes "macaddr") then Some (Opaque 2)
    else if bytes_eq name (codes "citext") then Some (Opaque 3)
    else if bytes_eq name (codes "xml") then Some (Opaque 4)
    else if bytes_eq name (codes "money") then Some (Opaque 5)
    else if bytes_eq name (codes "point") then Some (Opaque 6)
    else if bytes_eq name (codes "tsvector") then Some (Opaque 7)
    else if bytes_eq name (codes "ltree") then Some (Opaque 8)
    else if bytes_eq name (codes "hstore") then Some (Opaque 9)
    else None

-- the built-in type of this name in one word
unfoldable pub scalar_named : List ℕ → Option Scalar
scalar_named name = option_or (number_named name) (option_or (time_named name) (option_or (text_named name) (opaque_named name)))

-- the types of columns that a sequence fills (PostgreSQL manual, section 8.1.4)
unfoldable pub serial_named : List ℕ → Option Scalar
serial_named name =
    if is_one name (codes "smallserial" ∷ codes "serial2" ∷ []) then Some SmallInt
    else if is_one name (codes "serial" ∷ codes "serial4" ∷ []) then Some Integer
    else if is_one name (codes "bigserial" ∷ codes "serial8" ∷ []) then Some BigInt
    else None

-- WHAT A NAME STANDS FOR

-- a type that is no array, and whether a sequence fills it
abbrev pub scalar : Bool → Scalar → Typed
scalar is_serial of = record { of = record { scalar = of; array = false }; is_serial = is_serial }

-- the quoted name of an internal type that is no type here
abbrev pub is_char : Identifier → Bool
is_char x = x.is_quoted && bytes_eq x.name (codes "char")

-- no type of that name
abbrev pub unknown : {A : Type 0} → Place → Identifier → Result A Refusal
unknown place x = Err (refused_naming UnknownType place x.name)

-- a serial spelling is a type in a column alone
abbrev pub serial_type : Bool → Place → Identifier → Scalar → Result Typed Refusal
serial_type in_column place x of = if in_column then Ok (scalar true of) else unknown place x

-- a type of the catalogue
abbrev pub found_type : Place → Identifier → Option PgType → Result Typed Refusal
found_type place x None = unknown place x
found_type place x (Some of) = Ok (record { of = of; is_serial = false })

-- a schema that is there
abbrev pub known_schema : Contents → Place → List ℕ → Result (Unit {0}) Refusal
known_schema c place schema = if has_schema c schema then Ok tt else Err (refused_naming UnknownSchema place schema)

-- the enumeration or domain of this name in a schema
abbrev pub type_in : Contents → Place → List ℕ → Identifier → Result Typed Refusal
type_in c place schema x = and_then (known_schema c place schema) (λ done. found_type place x (type_named c schema x.name))

-- a serial spelling, or a type of a schema
abbrev pub serial_or_in : Contents → Bool → Place → List ℕ → Identifier → Result Typed Refusal
serial_or_in c in_column place schema x = elim (serial_named x.name) [
  | Some of ↦ serial_type in_column place x of
  | None ↦ type_in c place schema x
]

-- a built-in type, or a type of a schema
abbrev pub built_in_or_in : Contents → Bool → Place → List ℕ → Identifier → Result Typed Refusal
built_in_or_in c in_column place schema x =
    if is_char x then unknown place x
    else elim (scalar_named x.name) [
      | Some of ↦ Ok (scalar false of)
      | None ↦ serial_or_in c in_column place schema x
    ]

-- a name without a schema: a built-in type, or one of the schema "public"
abbrev pub bare_type : Contents → Bool → Identifier → Result Typed Refusal
bare_type c in_column x = built_in_or_in c in_column x.place public x

-- whether a built-in type of this name may stand in the schema "public", since an extension makes it
abbrev pub is_extension : List ℕ → Bool
is_extension name = is_one name (codes "citext" ∷ codes "ltree" ∷ codes "hstore" ∷ [])

-- whether a built-in type of this name may have this schema before it
abbrev pub holds_built_in : List ℕ → List ℕ → Bool
holds_built_in schema name = bytes_eq schema (codes "pg_catalog") || (bytes_eq schema public && is_extension name)

-- a name with a schema, which no serial spelling may have
abbrev pub type_of_schema : Contents → Identifier → Identifier → Result Typed Refusal
type_of_schema c schema x =
    if holds_built_in schema.name x.name then built_in_or_in c false schema.place schema.name x
    else type_in c schema.place schema.name x

-- the type of a name
abbrev pub named_type : Contents → Bool → QualifiedName → Result Typed Refusal
named_type c in_column x = elim x.schema [
  | None ↦ bare_type c in_column x.name
  | Some schema ↦ type_of_schema c schema x.name
]

-- the place of a name: that of its first part
abbrev pub place_of : QualifiedName → Place
place_of x = elim x.schema [
  | None ↦ x.name.place
  | Some schema ↦ schema.place
]

-- a time with a time zone is a type of its own
abbrev pub zoned : TimeZone → Scalar → Scalar
zoned zone.With Timestamp = TimestampTz
zoned other of = of

-- whether a type is a domain
abbrev pub is_domain : Scalar → Bool
is_domain (Domain id) = true
is_domain of = false

-- whether square brackets are written
abbrev pub has_squares : TypeName → Bool
has_squares x = nat_lt 0 (length x.arrays)

-- a type with its time zone, or an array of it
abbrev pub completed : TypeName → Typed → Typed
completed x of = record { of = record { scalar = zoned x.zone of.of.scalar; array = has_squares x }; is_serial = of.is_serial }

-- there are no arrays of a domain
abbrev pub arrayed : TypeName → QualifiedName → Typed → Result Typed Refusal
arrayed x name of = if has_squares x && is_domain of.of.scalar then unknown (place_of name) name.name else Ok (completed x of)

-- the type that is written, in a column or elsewhere
abbrev pub type_of : Contents → Bool → TypeName → Result Typed Refusal
type_of c in_column x = elim x.word [
  | word.Named name ↦ and_then (named_type c in_column name) (arrayed x name)
  | word.DoublePrecision place ↦ Ok (completed x (scalar false DoublePrecision))
  | word.CharacterVarying place ↦ Ok (completed x (scalar false Varchar))
]
