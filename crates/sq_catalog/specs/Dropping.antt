-- What goes with a type or a schema (PostgreSQL manual, DROP TYPE, DROP DOMAIN and DROP SCHEMA).
use Rattle.std.specs.Prelude.{ℕ, zero, suc, ◌&&◌, ◌||◌, ◌==◌, not, Bool, false, if◌then◌else◌, List, [], ◌∷◌, ◌++◌, Option, None, Some, Result, Ok, Err, length, map, filter, slice_get}
use Rattle.std.specs.List.{list_any, filter_map}
use Rattle.std.specs.Option.{option_map, option_and_then}
use Rattle.std.specs.Str.{bytes_eq}
use Rattle.sq_base.specs.declared.types.PgType.{PgType}
use Rattle.sq_base.specs.declared.types.Scalar.{Scalar}
use Rattle.sq_base.specs.declared.types.Scalar.TheVariants.{Enum, Domain}
use Rattle.sq_catalog.specs.Contents.{Contents}
use Rattle.sq_catalog.specs.Schemas.{has_schema}
use Rattle.sq_catalog.specs.Keys.{without_column}
use Rattle.sq_catalog.specs.UserTypes.{type_named, domain_named}
use Rattle.sq_catalog.specs.declared.table.Column.{Column}
use Rattle.sq_catalog.specs.declared.table.Table.{Table}
use Rattle.sq_catalog.specs.declared.table.EnumType.{EnumType}
use Rattle.sq_catalog.specs.declared.table.DomainType.{DomainType}
use Rattle.sq_catalog.specs.declared.change.Cause.{Cause}
use Rattle.sq_catalog.specs.declared.change.Cause.TheVariants.{Missing, InUse}
use Rattle.sq_catalog.specs.declared.change.Target.{Target}

-- a change of what is not there: no effect under IF EXISTS
abbrev pub absent : Contents → Target → Result Contents Cause
absent c target = if target.if_exists then Ok c else Err (Missing target.name)

-- the id of an enumeration or a domain
abbrev pub id_of : Scalar → Option ℕ
id_of (Enum id) = Some id
id_of (Domain id) = Some id
id_of _ = None

-- whether an id is one of these
abbrev pub has_id : List ℕ → ℕ → Bool
has_id ids id = list_any (λ other. other == id) ids

-- whether a type is one of these enumerations and domains, or an array of one
abbrev pub is_of : List ℕ → PgType → Bool
is_of ids of = elim (id_of of.scalar) [
  | None ↦ false
  | Some id ↦ has_id ids id
]

-- whether a table has a column of one of these types
abbrev pub uses : List ℕ → Table → Bool
uses ids table = list_any (λ (column : Column). is_of ids column.of) table.columns

-- whether a domain is over one of these types
abbrev pub is_over : List ℕ → DomainType → Bool
is_over ids of = is_of ids of.base

-- whether a column or a domain has one of these types
abbrev pub in_use : Contents → List ℕ → Bool
in_use c ids = list_any (uses ids) c.tables || list_any (is_over ids) c.domains

-- these ids, and that of a domain over one of them
abbrev pub with_fallen : List ℕ → DomainType → List ℕ
with_fallen ids of = if is_over ids of then ids ++ of.id ∷ [] else ids

-- these ids, and in turn those of all domains over one of them: a domain is made after its base
abbrev pub fallen : List ℕ → List DomainType → List ℕ
fallen ids [] = ids
fallen ids (of ∷ later) = fallen (with_fallen ids of) later

-- whether the column at a place has one of these types
abbrev pub goes_at : List ℕ → Table → ℕ → Bool
goes_at ids table at = elim (slice_get table.columns at) [
  | None ↦ false
  | Some column ↦ is_of ids column.of
]

-- the column at a place goes, as by DROP COLUMN, where it has one of these types
abbrev pub strip_at : List ℕ → Table → ℕ → Table
strip_at ids table at = if goes_at ids table at then without_column table at else table

-- the columns of these types below a place go, the last first
abbrev pub stripped_below : List ℕ → ℕ → Table → Table
stripped_below ids zero table = table
stripped_below ids (suc at) table = stripped_below ids at (strip_at ids table at)

-- a table without its columns of these types
abbrev pub stripped : List ℕ → Table → Table
stripped ids table = stripped_below ids (length table.columns) table

-- whether an enumeration is none of these
abbrev pub enum_stays : List ℕ → EnumType → Bool
enum_stays ids of = not (has_id ids of.id)

-- whether a domain is none of these
abbrev pub domain_stays : List ℕ → DomainType → Bool
domain_stays ids of = not (has_id ids of.id)

-- the catalogue without these types and the columns that have one
abbrev pub without_types : Contents → List ℕ → Contents
without_types c ids = record c {
  tables = map (stripped ids) c.tables;
  enums = filter (enum_stays ids) c.enums;
  domains = filter (domain_stays ids) c.domains;
}

-- a type goes; what has it goes too under CASCADE, and is in the way else
abbrev pub id_dropped : Contents → List ℕ → ℕ → Bool → Result Contents Cause
id_dropped c name id cascade =
    if not cascade && in_use c (id ∷ []) then Err (InUse name) else Ok (without_types c (fallen (id ∷ []) c.domains))

-- the type that is found goes
abbrev pub found_dropped : Contents → Target → Bool → Option ℕ → Result Contents Cause
found_dropped c target cascade None = absent c target
found_dropped c target cascade (Some id) = id_dropped c target.name id cascade

-- the id of the enumeration or domain of this name in this schema
abbrev pub type_id : Contents → List ℕ → List ℕ → Option ℕ
type_id c schema name = option_and_then (λ (of : PgType). id_of of.scalar) (type_named c schema name)

-- an enumeration or a domain goes
abbrev pub type_dropped : Contents → Target → Bool → Result Contents Cause
type_dropped c target cascade = found_dropped c target cascade (type_id c target.schema target.name)

-- the id of the domain of this name in this schema
abbrev pub domain_id : Contents → List ℕ → List ℕ → Option ℕ
domain_id c schema name = option_map (λ (of : DomainType). of.id) (domain_named c schema name)

-- a domain goes
abbrev pub domain_dropped : Contents → Target → Bool → Result Contents Cause
domain_dropped c target cascade = found_dropped c target cascade (domain_id c target.schema target.name)

-- whether a table stands in this schema
abbrev pub table_in : List ℕ → Table → Bool
table_in schema table = bytes_eq table.schema schema

-- whether an enumeration stands in this schema
abbrev pub enum_in : List ℕ → EnumType → Bool
enum_in schema of = bytes_eq of.schema schema

-- whether a domain stands in this schema
abbrev pub domain_in : List ℕ → DomainType → Bool
domain_in schema of = bytes_eq of.schema schema

-- whether a schema holds a table or a type
abbrev pub holds : Contents → List ℕ → Bool
holds c schema = list_any (table_in schema) c.tables || list_any (enum_in schema) c.enums || list_any (domain_in schema) c.domains

-- the id of an enumeration, where it stands in this schema
abbrev pub enum_id_in : List ℕ → EnumType → Option ℕ
enum_id_in schema of = if enum_in schema of then Some of.id else None

-- the id of a domain, where it stands in this schema
abbrev pub domain_id_in : List ℕ → DomainType → Option ℕ
domain_id_in schema of = if domain_in schema of then Some of.id else None

-- the ids of a schema's types
abbrev pub types_in : Contents → List ℕ → List ℕ
types_in c schema = filter_map (enum_id_in schema) c.enums ++ filter_map (domain_id_in schema) c.domains

-- the catalogue without a schema and its tables
abbrev pub without_schema : Contents → List ℕ → Contents
without_schema c schema = record c {
  schemas = filter (λ (name : List ℕ). not (bytes_eq name schema)) c.schemas;
  tables = filter (λ (table : Table). not (table_in schema table)) c.tables;
}

-- the catalogue without a schema, all that it holds, and all that has one of its types
abbrev pub without_held : Contents → List ℕ → Contents
without_held c schema = without_types (without_schema c schema) (fallen (types_in c schema) c.domains)

-- a schema goes; what it holds goes too under CASCADE, and is in the way else
abbrev pub held_dropped : Contents → List ℕ → Bool → Result Contents Cause
held_dropped c schema cascade = if not cascade && holds c schema then Err (InUse schema) else Ok (without_held c schema)

-- a schema goes
abbrev pub schema_dropped : Contents → List ℕ → Bool → Bool → Result Contents Cause
schema_dropped c schema if_exists cascade =
    if has_schema c schema then held_dropped c schema cascade else (if if_exists then Ok c else Err (Missing schema))
