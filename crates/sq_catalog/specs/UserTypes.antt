-- Enumerations and domains (PostgreSQL manual, CREATE TYPE, CREATE DOMAIN and ALTER TYPE).
use Rattle.std.specs.Prelude.{ℕ, zero, suc, ◌+◌, ◌&&◌, ◌==◌, Bool, false, if◌then◌else◌, List, [], ◌∷◌, ◌++◌, Option, None, Some, find, position, Result, Ok, Err, length}
use Rattle.std.specs.List.{list_any, insert}
use Rattle.std.specs.Option.{option_map, option_map_or}
use Rattle.std.specs.Str.{bytes_eq}
use Rattle.sq_base.specs.declared.types.PgType.{PgType}
use Rattle.sq_base.specs.declared.types.Scalar.TheVariants.{Enum, Domain}
use Rattle.sq_catalog.specs.Answers.{and_then}
use Rattle.sq_catalog.specs.Columns.{change_at, placed}
use Rattle.sq_catalog.specs.Contents.{Contents}
use Rattle.sq_catalog.specs.declared.table.EnumType.{EnumType}
use Rattle.sq_catalog.specs.declared.table.DomainType.{DomainType}
use Rattle.sq_catalog.specs.declared.change.Cause.{Cause}
use Rattle.sq_catalog.specs.declared.change.Cause.TheVariants.{Exists, Missing}
use Rattle.sq_catalog.specs.declared.change.Beside.{Beside}
use Rattle.sq_catalog.specs.declared.change.Beside.TheVariants.{Last, Before, After}

-- whether an enumeration has this schema and this name
abbrev pub is_enum : EnumType → List ℕ → List ℕ → Bool
is_enum of schema name = bytes_eq of.schema schema && bytes_eq of.name name

-- whether a domain has this schema and this name
abbrev pub is_domain : DomainType → List ℕ → List ℕ → Bool
is_domain of schema name = bytes_eq of.schema schema && bytes_eq of.name name

-- the place of the enumeration of this name in this schema
abbrev pub place_of_enum : Contents → List ℕ → List ℕ → Option ℕ
place_of_enum c schema name = position (λ (of : EnumType). is_enum of schema name) c.enums

-- the place of the domain of this name in this schema
abbrev pub place_of_domain : Contents → List ℕ → List ℕ → Option ℕ
place_of_domain c schema name = position (λ (of : DomainType). is_domain of schema name) c.domains

-- the type that a domain is
abbrev pub domain_type : DomainType → PgType
domain_type of = record { scalar = Domain of.id; array = false }

-- the type that an enumeration is
abbrev pub enum_type : EnumType → PgType
enum_type of = record { scalar = Enum of.id; array = false }

-- the enumeration of this name in this schema
abbrev pub enum_named : Contents → List ℕ → List ℕ → Option EnumType
enum_named c schema name = find (λ (of : EnumType). is_enum of schema name) c.enums

-- the domain of this name in this schema
abbrev pub domain_named : Contents → List ℕ → List ℕ → Option DomainType
domain_named c schema name = find (λ (of : DomainType). is_domain of schema name) c.domains

-- the enumeration or domain of this name in this schema: they share their names
abbrev pub type_named : Contents → List ℕ → List ℕ → Option PgType
type_named c schema name = elim (enum_named c schema name) [
  | Some of ↦ Some (enum_type of)
  | None ↦ option_map domain_type (domain_named c schema name)
]

-- the domain of this id
abbrev pub domain_of : Contents → ℕ → Option DomainType
domain_of c id = find (λ (domain : DomainType). domain.id == id) c.domains

-- what a domain is over, and every other type itself
abbrev pub under : Contents → PgType → PgType
under c of = elim of.scalar [
  | Domain id ↦ if of.array then of else option_map_or (λ (domain : DomainType). domain.base) (domain_of c id) of
  | other ↦ of
]

-- what a type is over, so many steps down
abbrev pub steps_under : ℕ → Contents → PgType → PgType
steps_under zero c of = of
steps_under (suc steps) c of = steps_under steps c (under c of)

-- the base type of a domain, in turn where that is a domain too, and every other type itself: a domain
-- is over fewer domains than there are
abbrev pub base : Contents → PgType → PgType
base c of = steps_under (length c.domains) c of

-- the enumeration of this id
abbrev pub enum_of : Contents → ℕ → Option EnumType
enum_of c id = find (λ (of : EnumType). of.id == id) c.enums

-- the place of a label
abbrev pub place_of_label : List (List ℕ) → List ℕ → Option ℕ
place_of_label labels label = position (λ (other : List ℕ). bytes_eq other label) labels

-- whether one of these labels is this one
abbrev pub is_among : List ℕ → List (List ℕ) → Bool
is_among label labels = list_any (λ (other : List ℕ). bytes_eq other label) labels

-- the first label that stands again behind it
abbrev pub repeated_label : List (List ℕ) → Option (List ℕ)
repeated_label [] = None
repeated_label (label ∷ labels) = if is_among label labels then Some label else repeated_label labels

-- two equal labels are refused
abbrev pub distinct_labels : List (List ℕ) → Result (Unit {0}) Cause
distinct_labels labels = elim (repeated_label labels) [
  | Some label ↦ Err (Exists label)
  | None ↦ Ok tt
]

-- refused where a type of this schema has the name
abbrev pub free_type : Contents → List ℕ → List ℕ → Result (Unit {0}) Cause
free_type c schema name = elim (type_named c schema name) [
  | Some of ↦ Err (Exists name)
  | None ↦ Ok tt
]

-- the catalogue with one more enumeration, which has the next id
abbrev pub with_enum : Contents → List ℕ → List ℕ → List (List ℕ) → Contents
with_enum c schema name labels = record c {
  enums = c.enums ++ record { id = c.given; schema = schema; name = name; labels = labels } ∷ [];
  given = c.given + 1;
}

-- a new enumeration, whose name must be free and whose labels must be different
abbrev pub enum_created : Contents → List ℕ → List ℕ → List (List ℕ) → Result Contents Cause
enum_created c schema name labels =
    and_then (free_type c schema name) (λ free. and_then (distinct_labels labels) (λ distinct. Ok (with_enum c schema name labels)))

-- the catalogue with one more domain, which has the next id
abbrev pub with_domain : Contents → List ℕ → List ℕ → PgType → Contents
with_domain c schema name base = record c {
  domains = c.domains ++ record { id = c.given; schema = schema; name = name; base = base } ∷ [];
  given = c.given + 1;
}

-- a new domain, whose name must be free
abbrev pub domain_created : Contents → List ℕ → List ℕ → PgType → Result Contents Cause
domain_created c schema name base = and_then (free_type c schema name) (λ free. Ok (with_domain c schema name base))

-- labels with one more at a place
abbrev pub with_label : List (List ℕ) → ℕ → List ℕ → List (List ℕ)
with_label labels at label = insert labels at label

-- where a new label comes: last, or beside another one
abbrev pub label_place : List (List ℕ) → Beside → Result ℕ Cause
label_place labels Last = Ok (length labels)
label_place labels (Before other) = elim (place_of_label labels other) [
  | None ↦ Err (Missing other)
  | Some at ↦ Ok at
]
label_place labels (After other) = elim (place_of_label labels other) [
  | None ↦ Err (Missing other)
  | Some at ↦ Ok (at + 1)
]

-- labels with a new one, which must be different
abbrev pub label_added : List (List ℕ) → List ℕ → Bool → Beside → Result (List (List ℕ)) Cause
label_added labels label if_not_exists beside = elim (place_of_label labels label) [
  | Some at ↦ if if_not_exists then Ok labels else Err (Exists label)
  | None ↦ and_then (label_place labels beside) (λ at. Ok (with_label labels at label))
]

-- another label in the place of one
abbrev pub instead : List ℕ → List ℕ → List ℕ
instead new old = new

-- labels where the one at a place gets a text that no other has
abbrev pub label_renamed_at : List (List ℕ) → ℕ → List ℕ → Result (List (List ℕ)) Cause
label_renamed_at labels at to = elim (place_of_label labels to) [
  | Some taken ↦ Err (Exists to)
  | None ↦ Ok (change_at (instead to) labels at)
]

-- labels where one gets a text that no other has, in its place
abbrev pub label_renamed : List (List ℕ) → List ℕ → List ℕ → Result (List (List ℕ)) Cause
label_renamed labels from to = elim (place_of_label labels from) [
  | None ↦ Err (Missing from)
  | Some at ↦ label_renamed_at labels at to
]

-- the catalogue where an enumeration has these labels
abbrev pub with_labels : Contents → ℕ → List (List ℕ) → Contents
with_labels c at labels = record c { enums = change_at (λ (of : EnumType). record of { labels = labels }) c.enums at }

-- the labels of an enumeration that is found are changed
abbrev pub labelled : Contents → List ℕ → (List (List ℕ) → Result (List (List ℕ)) Cause) → Option (ℕ × EnumType) → Result Contents Cause
labelled c name change None = Err (Missing name)
labelled c name change (Some found) = and_then (change found.1.labels) (λ labels. Ok (with_labels c found.0 labels))

-- a new label of an enumeration
abbrev pub value_added : Contents → List ℕ → List ℕ → List ℕ → Bool → Beside → Result Contents Cause
value_added c schema name label if_not_exists beside =
    labelled c name (λ labels. label_added labels label if_not_exists beside) (placed c.enums (place_of_enum c schema name))

-- a label of an enumeration gets another text
abbrev pub value_renamed : Contents → List ℕ → List ℕ → List ℕ → List ℕ → Result Contents Cause
value_renamed c schema name from to = labelled c name (λ labels. label_renamed labels from to) (placed c.enums (place_of_enum c schema name))

-- an enumeration under another name
abbrev pub enum_titled : List ℕ → EnumType → EnumType
enum_titled name of = record of { name = name }

-- a domain under another name
abbrev pub domain_titled : List ℕ → DomainType → DomainType
domain_titled name of = record of { name = name }

-- an enumeration in another schema
abbrev pub enum_housed : List ℕ → EnumType → EnumType
enum_housed schema of = record of { schema = schema }

-- a domain in another schema
abbrev pub domain_housed : List ℕ → DomainType → DomainType
domain_housed schema of = record of { schema = schema }

-- the domain of this name is changed in its place
abbrev pub domain_changed : (DomainType → DomainType) → Contents → List ℕ → List ℕ → Result Contents Cause
domain_changed f c schema name = elim (place_of_domain c schema name) [
  | None ↦ Err (Missing name)
  | Some at ↦ Ok (record c { domains = change_at f c.domains at })
]

-- the enumeration or domain of this name is changed in its place, and keeps its id
abbrev pub type_changed : (EnumType → EnumType) → (DomainType → DomainType) → Contents → List ℕ → List ℕ → Result Contents Cause
type_changed f g c schema name = elim (place_of_enum c schema name) [
  | Some at ↦ Ok (record c { enums = change_at f c.enums at })
  | None ↦ domain_changed g c schema name
]

-- a type of this schema that is there
abbrev pub known_type : Contents → List ℕ → List ℕ → Result (Unit {0}) Cause
known_type c schema name = elim (type_named c schema name) [
  | None ↦ Err (Missing name)
  | Some of ↦ Ok tt
]

-- a type gets a name that is free in its schema
abbrev pub type_renamed : Contents → List ℕ → List ℕ → List ℕ → Result Contents Cause
type_renamed c schema name to =
    and_then (known_type c schema name) (λ known. and_then (free_type c schema to) (λ free. type_changed (enum_titled to) (domain_titled to) c schema name))

-- a type comes into a schema where its name is free
abbrev pub type_moved : Contents → List ℕ → List ℕ → List ℕ → Result Contents Cause
type_moved c schema name to =
    and_then (known_type c schema name) (λ known. and_then (free_type c to name) (λ free. type_changed (enum_housed to) (domain_housed to) c schema name))
