-- The names of types, as refusals print them (PostgreSQL manual, chapter 8).
use Rattle.std.specs.Prelude.{ℕ, if◌then◌else◌, List, [], ◌∷◌, ◌++◌, Option, Some, None, codes, slice_get}
use Rattle.std.specs.Str.{bytes_eq}
use Rattle.sq_base.specs.declared.types.PgType.{PgType}
use Rattle.sq_base.specs.declared.types.Scalar.{Scalar}
use Rattle.sq_base.specs.declared.types.Scalar.TheVariants.{SmallInt, Integer, BigInt, Real, DoublePrecision, Numeric, Boolean, Text, Varchar, Character, Bytea, Date, Time, Timestamp, TimestampTz, Interval, Uuid, Json, Jsonb, Opaque, Enum, Domain, Unknown}
use Rattle.sq_catalog.specs.Contents.{Contents}
use Rattle.sq_catalog.specs.Catalogue.{public}
use Rattle.sq_catalog.specs.UserTypes.{base, enum_of}
use Rattle.sq_catalog.specs.declared.table.EnumType.{EnumType}

-- the types of which nothing is known but their name, each at its place
abbrev pub opaque_words : List (List ℕ)
opaque_words = codes "inet" ∷ codes "cidr" ∷ codes "macaddr" ∷ codes "citext" ∷ codes "xml" ∷ codes "money" ∷ codes "point" ∷ codes "tsvector" ∷ codes "ltree" ∷ codes "hstore" ∷ []

-- a word, and none where there is none
abbrev pub word_or_none : Option (List ℕ) → List ℕ
word_or_none None = []
word_or_none (Some word) = word

-- an enumeration outside the schema "public" has its schema and a dot before its name
abbrev pub enum_word : EnumType → List ℕ
enum_word of = if bytes_eq of.schema public then of.name else of.schema ++ codes "." ++ of.name

-- the name of an enumeration, and none where there is none
abbrev pub enum_word_or_none : Option EnumType → List ℕ
enum_word_or_none None = []
enum_word_or_none (Some of) = enum_word of

-- the name of a built-in type
abbrev pub built_in_word : Scalar → List ℕ
built_in_word SmallInt = codes "smallint"
built_in_word Integer = codes "integer"
built_in_word BigInt = codes "bigint"
built_in_word Real = codes "real"
built_in_word DoublePrecision = codes "double precision"
built_in_word Numeric = codes "numeric"
built_in_word Boolean = codes "boolean"
built_in_word Text = codes "text"
built_in_word Varchar = codes "varchar"
built_in_word Character = codes "character"
built_in_word Bytea = codes "bytea"
built_in_word Date = codes "date"
built_in_word Time = codes "time"
built_in_word Timestamp = codes "timestamp"
built_in_word TimestampTz = codes "timestamptz"
built_in_word Interval = codes "interval"
built_in_word Uuid = codes "uuid"
built_in_word Json = codes "json"
built_in_word Jsonb = codes "jsonb"
built_in_word (Opaque place) = word_or_none (slice_get opaque_words place)
built_in_word (Enum id) = []
built_in_word (Domain id) = []
-- a constant or parameter that nothing has given a type
built_in_word Unknown = codes "unknown"

-- the name of a type that is no array
abbrev pub scalar_word : Contents → Scalar → List ℕ
scalar_word c (Enum id) = enum_word_or_none (enum_of c id)
scalar_word c of = built_in_word of

-- the name of a type; an array has square brackets behind its name
unfoldable pub plain_word : Contents → PgType → List ℕ
plain_word c of = if of.array then scalar_word c of.scalar ++ codes "[]" else scalar_word c of.scalar

-- the name of a type, where a domain has that of its base type
abbrev pub type_word : Contents → PgType → List ℕ
type_word c of = plain_word c (base c of)
