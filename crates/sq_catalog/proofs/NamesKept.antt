-- What a catalogue holds has names still, whatever a change makes of it, where the new ones are names.
use Rattle.std.proofs.Common.{◌≡◌, ◌+◌, ◌&&◌, ◌||◌, not, ℕ, Bool, cond, List, [], ◌∷◌, ◌++◌, remove, slice_get, Option, Some, None, Result, Ok, Err, IfOk, bytes_eq, refl}
use Rattle.std.specs.List.{AllByRecursion}
use Rattle.std.proofs.lemmas.Result.{IfOk-at_ok}
use Rattle.sq_base.specs.declared.types.PgType.{PgType}
use Rattle.sq_catalog.specs.Actions.{acted}
use Rattle.sq_catalog.specs.Answers.{and_then}
use Rattle.sq_catalog.specs.Catalogue.{public, has_schema, place_of_table, placed_table, schema_created, bare, new_table, with_new, table_made, table_created, table_dropped, with_table_at, instead, titled, housed, altered, renamed_at, table_renamed, moved_at, table_moved, step}
use Rattle.sq_catalog.specs.Columns.{change_at, placed}
use Rattle.sq_catalog.specs.Contents.{Contents}
use Rattle.sq_catalog.specs.Dropping.{absent, enum_stays, domain_stays, in_use, fallen, stripped, without_types, found_dropped, type_id, domain_id, holds, table_in, types_in, without_schema, without_held, held_dropped, schema_dropped}
use Rattle.sq_catalog.specs.UserTypes.{place_of_enum, place_of_domain, free_type, known_type, distinct_labels, with_enum, enum_created, with_domain, domain_created, with_labels, labelled, label_added, label_renamed, enum_titled, domain_titled, enum_housed, domain_housed, domain_changed, type_changed}
use Rattle.sq_catalog.specs.declared.table.Column.{Column}
use Rattle.sq_catalog.specs.declared.table.DomainType.{DomainType}
use Rattle.sq_catalog.specs.declared.table.EnumType.{EnumType}
use Rattle.sq_catalog.specs.declared.table.Table.{Table}
use Rattle.sq_catalog.specs.declared.change.Action.{Action}
use Rattle.sq_catalog.specs.declared.change.Change.{Change}
use Rattle.sq_catalog.specs.declared.change.Change.TheVariants.{CreateSchema, CreateTable, DropTable, AlterTable, RenameTable, SetTableSchema, CreateEnum, CreateDomain, AddValue, RenameValue, RenameType, SetTypeSchema, DropSchema, DropType, DropDomain}
use Rattle.sq_catalog.specs.declared.change.Cause.{Cause}
use Rattle.sq_catalog.specs.declared.change.Cause.TheVariants.{Exists, Missing, InUse}
use Rattle.sq_catalog.specs.declared.change.Keys.{Keys}
use Rattle.sq_catalog.specs.declared.change.Target.{Target}
use Rattle.sq_catalog.specs.Named.{IsName, IsNamed, HasName, IsNamedTable, IsNamedEnum, IsNamedDomain, HasNames, NamesColumn, BringsNames}
use Rattle.sq_catalog.proofs.Answered.{by_test, by_finding, by_next, placed_there}
use Rattle.sq_catalog.proofs.Apart.{all_pushed, all_removed, all_filtered, all_there, all_changed, all_mapped}
use Rattle.sq_catalog.proofs.NamesStay.{new_named, acted_named, stripped_named}

-- what is answered has names, where anything is answered
abbrev Keeps : Result Contents Cause → Type 0
Keeps result = IfOk result HasNames

absent_keeps : (c : Contents) (target : Target) → HasNames c → Keeps (absent c target)
absent_keeps c target have = by_test Keeps target.if_exists (Ok c) (Err (Missing target.name)) (λ passes. have) (λ fails. tt)

-- SCHEMAS AND TABLES

schema_keeps : (c : Contents) (name : List ℕ) (if_not_exists : Bool) → IsName name → HasNames c → Keeps (schema_created c name if_not_exists)
schema_keeps c name if_not_exists is have =
    by_test Keeps (has_schema c name) (cond (if_not_exists || bytes_eq name public) (Ok c) (Err (Exists name))) (Ok (record c { schemas = c.schemas ++ name ∷ [] }))
    (λ there. by_test Keeps (if_not_exists || bytes_eq name public) (Ok c) (Err (Exists name)) (λ passes. have) (λ fails. tt))
    (λ new. record { schemas = all_pushed IsName c.schemas name have.schemas is; tables = have.tables; enums = have.enums; domains = have.domains })

-- the tables change
tables_have : (c : Contents) (tables : List Table) (given : ℕ) → AllByRecursion IsNamedTable tables → HasNames c → HasNames (record c { tables = tables; given = given })
tables_have c tables given are have = record { schemas = have.schemas; tables = are; enums = have.enums; domains = have.domains }

created_keeps : (c : Contents) (schema name : List ℕ) (if_not_exists : Bool) (columns : List Column) (keys : Keys) → IsNamed schema name × AllByRecursion HasName columns
    → HasNames c → Keeps (table_created c schema name if_not_exists columns keys)
created_keeps c schema name if_not_exists columns keys is have =
    by_finding Keeps (place_of_table c schema name) (table_made c schema name columns keys) (λ at. cond if_not_exists (Ok c) (Err (Exists name)))
    (λ none. by_next HasNames (new_table (bare c.given schema name columns) keys) (λ table. Ok (with_new c table)) (λ table given.
    let named : IsNamedTable table = IfOk-at_ok IsNamedTable given (new_named (bare c.given schema name columns) keys is) in
    tables_have c (c.tables ++ table ∷ []) (c.given + 1) (all_pushed IsNamedTable c.tables table have.tables named) have))
    (λ at there. by_test Keeps if_not_exists (Ok c) (Err (Exists name)) (λ passes. have) (λ fails. tt))

dropped_keeps : (c : Contents) (target : Target) → HasNames c → Keeps (table_dropped c target)
dropped_keeps c target have =
    by_finding Keeps (place_of_table c target.schema target.name) (absent c target) (λ at. Ok (record c { tables = remove c.tables at })) (λ none. absent_keeps c target have)
    (λ at there. tables_have c (remove c.tables at) c.given (all_removed IsNamedTable c.tables at have.tables) have)

-- the table at a place has names still
changed_keeps : (f : Table → Table) (c : Contents) (at : ℕ) → ((table : Table) → IsNamedTable table → IsNamedTable (f table)) → HasNames c → HasNames (with_table_at f c at)
changed_keeps f c at keeps have = tables_have c (change_at f c.tables at) c.given (all_changed IsNamedTable f c.tables at (λ table there. keeps table) have.tables) have

altered_keeps : (c : Contents) (target : Target) (action : Action) (found : Option (ℕ × Table)) → placed_table c target.schema target.name ≡ found → NamesColumn action → HasNames c → Keeps (altered c target action found)
altered_keeps c target action None is brings have = absent_keeps c target have
altered_keeps c target action (Some found) is brings have =
    by_next HasNames (acted found.1 action) (λ changed. Ok (with_table_at (instead changed) c found.0)) (λ changed done.
    let there : slice_get c.tables found.0 ≡ Some found.1 = placed_there c.tables (place_of_table c target.schema target.name) found is in
    let named : IsNamedTable changed = IfOk-at_ok IsNamedTable done (acted_named found.1 action brings (all_there IsNamedTable c.tables found.0 found.1 there have.tables)) in
    changed_keeps (instead changed) c found.0 (λ old was. named) have)

renamed_keeps : (c : Contents) (target : Target) (to : List ℕ) → IsName to → HasNames c → Keeps (table_renamed c target to)
renamed_keeps c target to is have =
    by_finding Keeps (place_of_table c target.schema target.name) (absent c target) (λ at. renamed_at c at target.schema to) (λ none. absent_keeps c target have)
    (λ at there. by_finding Keeps (place_of_table c target.schema to) (Ok (with_table_at (titled to) c at)) (λ taken. Err (Exists to))
    (λ none. changed_keeps (titled to) c at (λ table was. (record { within = was.0.within; called = is }, was.1)) have) (λ taken e. tt))

moved_keeps : (c : Contents) (target : Target) (to : List ℕ) → IsName to → HasNames c → Keeps (table_moved c target to)
moved_keeps c target to is have =
    by_finding Keeps (place_of_table c target.schema target.name) (absent c target) (λ at. moved_at c at target.name to) (λ none. absent_keeps c target have)
    (λ at there. by_finding Keeps (place_of_table c to target.name) (Ok (with_table_at (housed to) c at)) (λ taken. Err (Exists target.name))
    (λ none. changed_keeps (housed to) c at (λ table was. (record { within = is; called = was.0.called }, was.1)) have) (λ taken e. tt))

-- ENUMERATIONS AND DOMAINS

enum_keeps : (c : Contents) (schema name : List ℕ) (labels : List (List ℕ)) → IsNamed schema name → HasNames c → Keeps (enum_created c schema name labels)
enum_keeps c schema name labels is have =
    by_next HasNames (free_type c schema name) (λ free. and_then (distinct_labels labels) (λ distinct. Ok (with_enum c schema name labels))) (λ free is_free.
    by_next HasNames (distinct_labels labels) (λ distinct. Ok (with_enum c schema name labels)) (λ distinct are. record {
      schemas = have.schemas;
      tables = have.tables;
      enums = all_pushed IsNamedEnum c.enums (record { id = c.given; schema = schema; name = name; labels = labels }) have.enums is;
      domains = have.domains;
    }))

domain_keeps : (c : Contents) (schema name : List ℕ) (base : PgType) → IsNamed schema name → HasNames c → Keeps (domain_created c schema name base)
domain_keeps c schema name base is have =
    by_next HasNames (free_type c schema name) (λ free. Ok (with_domain c schema name base)) (λ free is_free. record {
      schemas = have.schemas;
      tables = have.tables;
      enums = have.enums;
      domains = all_pushed IsNamedDomain c.domains (record { id = c.given; schema = schema; name = name; base = base }) have.domains is;
    })

-- the enumeration or the domain at a place has a name still
enums_have : (f : EnumType → EnumType) (c : Contents) (at : ℕ) → ((of : EnumType) → IsNamedEnum of → IsNamedEnum (f of)) → HasNames c → HasNames (record c { enums = change_at f c.enums at })
enums_have f c at keeps have = record {
  schemas = have.schemas;
  tables = have.tables;
  enums = all_changed IsNamedEnum f c.enums at (λ of there. keeps of) have.enums;
  domains = have.domains;
}

domains_have : (g : DomainType → DomainType) (c : Contents) (at : ℕ) → ((of : DomainType) → IsNamedDomain of → IsNamedDomain (g of)) → HasNames c → HasNames (record c { domains = change_at g c.domains at })
domains_have g c at keeps have = record {
  schemas = have.schemas;
  tables = have.tables;
  enums = have.enums;
  domains = all_changed IsNamedDomain g c.domains at (λ of there. keeps of) have.domains;
}

labelled_keeps : (c : Contents) (name : List ℕ) (change : List (List ℕ) → Result (List (List ℕ)) Cause) (found : Option (ℕ × EnumType)) → HasNames c → Keeps (labelled c name change found)
labelled_keeps c name change None have = tt
labelled_keeps c name change (Some found) have =
    by_next HasNames (change found.1.labels) (λ labels. Ok (with_labels c found.0 labels)) (λ labels done. enums_have (λ (of : EnumType). record of { labels = labels }) c found.0 (λ of was. was) have)

type_keeps : (f : EnumType → EnumType) (g : DomainType → DomainType) (c : Contents) (schema name : List ℕ)
    → ((of : EnumType) → IsNamedEnum of → IsNamedEnum (f of)) → ((of : DomainType) → IsNamedDomain of → IsNamedDomain (g of)) → HasNames c → Keeps (type_changed f g c schema name)
type_keeps f g c schema name f_keeps g_keeps have =
    by_finding Keeps (place_of_enum c schema name) (domain_changed g c schema name) (λ at. Ok (record c { enums = change_at f c.enums at }))
    (λ none. by_finding Keeps (place_of_domain c schema name) (Err (Missing name)) (λ at. Ok (record c { domains = change_at g c.domains at })) (λ missing. tt)
    (λ at there. domains_have g c at g_keeps have))
    (λ at there. enums_have f c at f_keeps have)

known_keeps : (f : EnumType → EnumType) (g : DomainType → DomainType) (c : Contents) (schema name other_schema other_name : List ℕ)
    → ((of : EnumType) → IsNamedEnum of → IsNamedEnum (f of)) → ((of : DomainType) → IsNamedDomain of → IsNamedDomain (g of)) → HasNames c
    → Keeps (and_then (known_type c schema name) (λ known. and_then (free_type c other_schema other_name) (λ free. type_changed f g c schema name)))
known_keeps f g c schema name other_schema other_name f_keeps g_keeps have =
    by_next HasNames (known_type c schema name) (λ known. and_then (free_type c other_schema other_name) (λ free. type_changed f g c schema name)) (λ known is.
    by_next HasNames (free_type c other_schema other_name) (λ free. type_changed f g c schema name) (λ free is_free. type_keeps f g c schema name f_keeps g_keeps have))

-- WHAT GOES

without_types_keeps : (c : Contents) (ids : List ℕ) → HasNames c → HasNames (without_types c ids)
without_types_keeps c ids have = record {
  schemas = have.schemas;
  tables = all_mapped IsNamedTable IsNamedTable (stripped ids) (stripped_named ids) c.tables have.tables;
  enums = all_filtered IsNamedEnum (enum_stays ids) c.enums have.enums;
  domains = all_filtered IsNamedDomain (domain_stays ids) c.domains have.domains;
}

found_keeps : (c : Contents) (target : Target) (cascade : Bool) (found : Option ℕ) → HasNames c → Keeps (found_dropped c target cascade found)
found_keeps c target cascade None have = absent_keeps c target have
found_keeps c target cascade (Some id) have =
    by_test Keeps (not cascade && in_use c (id ∷ [])) (Err (InUse target.name)) (Ok (without_types c (fallen (id ∷ []) c.domains))) (λ used. tt) (λ unused. without_types_keeps c (fallen (id ∷ []) c.domains) have)

-- a schema goes, with its tables
without_schema_keeps : (c : Contents) (schema : List ℕ) → HasNames c → HasNames (without_schema c schema)
without_schema_keeps c schema have = record {
  schemas = all_filtered IsName (λ (name : List ℕ). not (bytes_eq name schema)) c.schemas have.schemas;
  tables = all_filtered IsNamedTable (λ (table : Table). not (table_in schema table)) c.tables have.tables;
  enums = have.enums;
  domains = have.domains;
}

schema_dropped_keeps : (c : Contents) (schema : List ℕ) (if_exists cascade : Bool) → HasNames c → Keeps (schema_dropped c schema if_exists cascade)
schema_dropped_keeps c schema if_exists cascade have =
    by_test Keeps (has_schema c schema) (held_dropped c schema cascade) (cond if_exists (Ok c) (Err (Missing schema)))
    (λ there. by_test Keeps (not cascade && holds c schema) (Err (InUse schema)) (Ok (without_held c schema)) (λ held. tt)
    (λ bare. without_types_keeps (without_schema c schema) (fallen (types_in c schema) c.domains) (without_schema_keeps c schema have)))
    (λ missing. by_test Keeps if_exists (Ok c) (Err (Missing schema)) (λ passes. have) (λ fails. tt))

-- a change whose names are names leaves a catalogue that has names
pub step_keeps_names : (c : Contents) (change : Change) → BringsNames change → HasNames c → IfOk (step c change) HasNames
step_keeps_names c (CreateSchema name if_not_exists) brings have = schema_keeps c name if_not_exists brings have
step_keeps_names c (DropSchema name if_exists cascade) brings have = schema_dropped_keeps c name if_exists cascade have
step_keeps_names c (CreateTable schema name if_not_exists columns keys) brings have = created_keeps c schema name if_not_exists columns keys brings have
step_keeps_names c (DropTable table) brings have = dropped_keeps c table have
step_keeps_names c (AlterTable table action) brings have = altered_keeps c table action (placed_table c table.schema table.name) refl brings have
step_keeps_names c (RenameTable table to) brings have = renamed_keeps c table to brings have
step_keeps_names c (SetTableSchema table to) brings have = moved_keeps c table to brings have
step_keeps_names c (CreateEnum schema name labels) brings have = enum_keeps c schema name labels brings have
step_keeps_names c (CreateDomain schema name base) brings have = domain_keeps c schema name base brings have
step_keeps_names c (AddValue schema name label if_not_exists beside) brings have =
    labelled_keeps c name (λ labels. label_added labels label if_not_exists beside) (placed c.enums (place_of_enum c schema name)) have
step_keeps_names c (RenameValue schema name from to) brings have = labelled_keeps c name (λ labels. label_renamed labels from to) (placed c.enums (place_of_enum c schema name)) have
step_keeps_names c (RenameType schema name to) brings have =
    known_keeps (enum_titled to) (domain_titled to) c schema name schema to (λ of was. record { within = was.within; called = brings }) (λ of was. record { within = was.within; called = brings }) have
step_keeps_names c (SetTypeSchema schema name to) brings have =
    known_keeps (enum_housed to) (domain_housed to) c schema name to name (λ of was. record { within = brings; called = was.called }) (λ of was. record { within = brings; called = was.called }) have
step_keeps_names c (DropType of cascade) brings have = found_keeps c of cascade (type_id c of.schema of.name) have
step_keeps_names c (DropDomain of cascade) brings have = found_keeps c of cascade (domain_id c of.schema of.name) have
