-- A change of a catalogue leaves a catalogue.
use Rattle.std.proofs.Common.{◌≡◌, ◌≢◌, ◌<◌, ◌≤◌, ◌+◌, ◌&&◌, ◌||◌, not, ℕ, Bool, true, false, cond, map, List, [], ◌∷◌, ◌++◌, remove, slice_get, Option, Some, None, Result, Ok, Err, IfOk, bytes_eq, refl, sym, ap, ap₂, subst, ◌∙◌, arith}
use Rattle.std.specs.List.{AllByRecursion}
use Rattle.std.proofs.lemmas.Option.{same_Some}
use Rattle.std.proofs.lemmas.Result.{IfOk-at_ok}
use Rattle.std.proofs.lemmas.Slice.Eq.{bytes_eq-Decides}
use Rattle.sq_base.specs.declared.types.PgType.{PgType}
use Rattle.sq_catalog.specs.Actions.{acted}
use Rattle.sq_catalog.specs.Answers.{and_then}
use Rattle.sq_catalog.specs.Catalogue.{public, has_schema, is_named, place_of_table, placed_table, schema_created, bare, new_table, with_new, table_made, table_created, table_dropped, with_table_at, instead, titled, housed, altered, renamed_at, table_renamed, moved_at, table_moved, step}
use Rattle.sq_catalog.specs.Columns.{change_at, placed}
use Rattle.sq_catalog.specs.Contents.{Contents}
use Rattle.sq_catalog.specs.Dropping.{absent, enum_stays, domain_stays, in_use, fallen, stripped, without_types, found_dropped, type_id, domain_id, holds, table_in, types_in, without_schema, without_held, held_dropped, schema_dropped}
use Rattle.sq_catalog.specs.UserTypes.{place_of_enum, place_of_domain, free_type, known_type, distinct_labels, with_enum, enum_created, with_domain, domain_created, with_labels, labelled, label_added, label_renamed, enum_titled, domain_titled, enum_housed, domain_housed, domain_changed, type_changed}
use Rattle.sq_catalog.specs.declared.table.Column.{Column}
use Rattle.sq_catalog.specs.declared.table.DomainType.{DomainType}
use Rattle.sq_catalog.specs.declared.table.EnumType.{EnumType}
use Rattle.sq_catalog.specs.declared.table.Table.{Table}
use Rattle.sq_catalog.specs.declared.change.Action.{Action}
use Rattle.sq_catalog.specs.declared.change.Change.{Change}
use Rattle.sq_catalog.specs.declared.change.Change.TheVariants.{CreateSchema, CreateTable, DropTable, AlterTable, RenameTable, SetTableSchema, CreateEnum, CreateDomain, AddValue, RenameValue, RenameType, SetTypeSchema, DropSchema, DropType, DropDomain}
use Rattle.sq_catalog.specs.declared.change.Cause.{Cause}
use Rattle.sq_catalog.specs.declared.change.Cause.TheVariants.{Exists, Missing, InUse}
use Rattle.sq_catalog.specs.declared.change.Keys.{Keys}
use Rattle.sq_catalog.specs.declared.change.Target.{Target}
use Rattle.sq_catalog.specs.Kept.{BringsHeld, IsTable, IsCatalogue, HasTypes, HoldsTypes, table_ids, type_ids}
use Rattle.sq_catalog.proofs.Answered.{by_test, by_finding, by_next, placed_there}
use Rattle.sq_catalog.proofs.Apart.{all_pushed, all_removed, all_filtered, all_there, all_changed, all_weaker, all_mapped, all_of_mapped, Apart, apart_pushed, apart_removed, apart_filtered, apart_mapped, apart_changed, apart_renamed, values_apart, apart_by_values, none_passes, found_passes}
use Rattle.sq_catalog.proofs.IdsKept.{whole, part_of_same, parts_of_both, filtered_part, removed_part, changed_same, mapped_same, parts_have, table_has, enum_has, domain_has, enums_same, domains_same}
use Rattle.sq_catalog.proofs.HeldKept.{step_holds}
use Rattle.sq_catalog.proofs.ColumnsKept.{IsMadeOf, is_made, new_made, stripped_made, stripped_id, name_of, stripped_name, acted_made}
use Rattle.sq_catalog.proofs.LabelsKept.{AreDistinct, created_distinct, added_distinct, renamed_distinct}

-- the labels of an enumeration are different
abbrev HasLabels : EnumType → Type 0
HasLabels of = AreDistinct of.labels

-- the rules of a catalogue, said of its tables one by one
pub record HasTables (c : Contents) : Type 0 where
  pub given : AllByRecursion (λ (table : Table). table.id < c.given) c.tables
  pub apart : Apart (λ (table : Table). table.id) c.tables
  pub named : Apart name_of c.tables
  pub labels : AllByRecursion HasLabels c.enums
  pub tables : AllByRecursion IsTable c.tables
  pub types : HasTypes c

has_tables : (c : Contents) → IsCatalogue c → HasTables c
has_tables c is = record {
  given = all_of_mapped (λ id. id < c.given) (λ (table : Table). table.id) c.tables is.given;
  apart = apart_by_values (λ (table : Table). table.id) c.tables is.apart;
  named = apart_by_values name_of c.tables is.named;
  labels = is.labels;
  tables = is.tables;
  types = is.types;
}

ids_given : (c : Contents) → HasTables c → AllByRecursion (λ id. id < c.given) (table_ids c.tables)
ids_given c has = all_mapped (λ (table : Table). table.id < c.given) (λ id. id < c.given) (λ (table : Table). table.id) (λ table below. below) c.tables has.given

is_catalogue : (c : Contents) → HasTables c → HoldsTypes c → IsCatalogue c
is_catalogue c has held = record {
  given = ids_given c has;
  apart = values_apart (λ (table : Table). table.id) c.tables has.apart;
  named = values_apart name_of c.tables has.named;
  labels = has.labels;
  tables = has.tables;
  types = has.types;
  held = held;
}

-- a name that no table has
same_name : (table : Table) (schema name : List ℕ) → name_of table ≡ (schema, name) → is_named table schema name ≡ true
same_name table schema name same =
    let schemas : bytes_eq table.schema schema ≡ true = (bytes_eq-Decides table.schema schema).1 (ap (λ (both : List ℕ × List ℕ). both.0) same) in
    let names : bytes_eq table.name name ≡ true = (bytes_eq-Decides table.name name).1 (ap (λ (both : List ℕ × List ℕ). both.1) same) in
    rw (schemas, names) refl

free_name : (c : Contents) (schema name : List ℕ) → place_of_table c schema name ≡ None → AllByRecursion (λ (table : Table). name_of table ≢ (schema, name)) c.tables
free_name c schema name none =
    all_weaker (λ (table : Table). is_named table schema name ≡ false) (λ (table : Table). name_of table ≢ (schema, name))
    (λ table other same. let is : is_named table schema name ≡ true = same_name table schema name same in absurd (cc)) c.tables (none_passes (λ (table : Table). is_named table schema name) c.tables none)

both_so : (a b : Bool) → (a && b) ≡ true → (a ≡ true) × (b ≡ true)
both_so true b so = (refl, so)
both_so false b so = absurd (cc)

-- the table at the place that is found has this name
found_name : (c : Contents) (schema name : List ℕ) (at : ℕ) (table : Table) → place_of_table c schema name ≡ Some at → slice_get c.tables at ≡ Some table → (table.schema ≡ schema) × (table.name ≡ name)
found_name c schema name at table found there =
    let both = both_so (bytes_eq table.schema schema) (bytes_eq table.name name) (found_passes (λ (other : Table). is_named other schema name) c.tables at table found there) in
    ((bytes_eq-Decides table.schema schema).0 both.0, (bytes_eq-Decides table.name name).0 both.1)

-- what is answered is a catalogue, where anything is
abbrev Keeps : Result Contents Cause → Type 0
Keeps result = IfOk result HasTables

-- the tables stay
same_tables : (c new : Contents) → new.tables ≡ c.tables → c.given ≤ new.given → AllByRecursion HasLabels new.enums → HasTypes new → HasTables c → HasTables new
same_tables c new same more labels types has = record {
  given = subst (λ (tables : List Table). AllByRecursion (λ (table : Table). table.id < new.given) tables) (sym same)
      (all_weaker (λ (table : Table). table.id < c.given) (λ (table : Table). table.id < new.given) (λ table below. omega arith) c.tables has.given);
  apart = subst (λ (tables : List Table). Apart (λ (table : Table). table.id) tables) (sym same) has.apart;
  named = subst (λ (tables : List Table). Apart name_of tables) (sym same) has.named;
  labels = labels;
  tables = subst (λ (tables : List Table). AllByRecursion IsTable tables) (sym same) has.tables;
  types = types;
}

absent_keeps : (c : Contents) (target : Target) → HasTables c → Keeps (absent c target)
absent_keeps c target has = by_test Keeps target.if_exists (Ok c) (Err (Missing target.name)) (λ passes. has) (λ fails. tt)

-- a table with the next id
new_keeps : (c : Contents) (table : Table) (schema name : List ℕ) → table.id ≡ c.given → name_of table ≡ (schema, name) → place_of_table c schema name ≡ None → IsTable table → HasTables c
    → HasTables (with_new c table)
new_keeps c table schema name next called free is has = record {
  given = all_pushed (λ (other : Table). other.id < c.given + 1) c.tables table
      (all_weaker (λ (other : Table). other.id < c.given) (λ (other : Table). other.id < c.given + 1) (λ other below. omega arith) c.tables has.given) (omega arith);
  apart = apart_pushed (λ (other : Table). other.id) c.tables table
      (all_weaker (λ (other : Table). other.id < c.given) (λ (other : Table). other.id ≢ table.id) (λ other below same. absurd (omega arith)) c.tables has.given) has.apart;
  named = apart_pushed name_of c.tables table
      (subst (λ (new : List ℕ × List ℕ). AllByRecursion (λ (other : Table). name_of other ≢ new) c.tables) (sym called) (free_name c schema name free)) has.named;
  labels = has.labels;
  tables = all_pushed IsTable c.tables table has.tables is;
  types = table_has c table next has.types;
}

created_keeps : (c : Contents) (schema name : List ℕ) (if_not_exists : Bool) (columns : List Column) (keys : Keys) → HasTables c → Keeps (table_created c schema name if_not_exists columns keys)
created_keeps c schema name if_not_exists columns keys has =
    by_finding Keeps (place_of_table c schema name) (table_made c schema name columns keys) (λ at. cond if_not_exists (Ok c) (Err (Exists name)))
    (λ none. by_next HasTables (new_table (bare c.given schema name columns) keys) (λ table. Ok (with_new c table)) (λ table given.
    let made = IfOk-at_ok (IsMadeOf (bare c.given schema name columns)) given (new_made (bare c.given schema name columns) keys tt tt) in
    new_keeps c table schema name made.same (ap₂ (λ (a b : List ℕ). (a, b)) made.home made.called) none (is_made (bare c.given schema name columns) table made) has))
    (λ at there. by_test Keeps if_not_exists (Ok c) (Err (Exists name)) (λ passes. has) (λ fails. tt))

-- a table goes
removed_keeps : (c : Contents) (at : ℕ) → HasTables c → HasTables (record c { tables = remove c.tables at })
removed_keeps c at has = record {
  given = all_removed (λ (table : Table). table.id < c.given) c.tables at has.given;
  apart = apart_removed (λ (table : Table). table.id) c.tables at has.apart;
  named = apart_removed name_of c.tables at has.named;
  labels = has.labels;
  tables = all_removed IsTable c.tables at has.tables;
  types = parts_have c (record c { tables = remove c.tables at }) (removed_part (λ (table : Table). table.id) c.tables at) (whole (type_ids c)) (omega arith) has.types;
}

dropped_keeps : (c : Contents) (target : Target) → HasTables c → Keeps (table_dropped c target)
dropped_keeps c target has =
    by_finding Keeps (place_of_table c target.schema target.name) (absent c target) (λ at. Ok (record c { tables = remove c.tables at })) (λ none. absent_keeps c target has) (λ at there. removed_keeps c at has)

-- the table at a place keeps its id, and is a table still
changed_keeps : (f : Table → Table) (c : Contents) (at : ℕ) → ((table : Table) → slice_get c.tables at ≡ Some table → (f table).id ≡ table.id) → ((table : Table) → slice_get c.tables at ≡ Some table → IsTable table → IsTable (f table))
    → Apart name_of (change_at f c.tables at) → HasTables c → HasTables (with_table_at f c at)
changed_keeps f c at same keeps named has = record {
  given = all_changed (λ (table : Table). table.id < c.given) f c.tables at (λ table there below. subst (λ id. id < c.given) (sym (same table there)) below) has.given;
  apart = apart_changed (λ (table : Table). table.id) f c.tables at same has.apart;
  named = named;
  labels = has.labels;
  tables = all_changed IsTable f c.tables at keeps has.tables;
  types = parts_have c (with_table_at f c at) (part_of_same (table_ids (change_at f c.tables at)) (table_ids c.tables) (changed_same (λ (table : Table). table.id) f c.tables at same)) (whole (type_ids c)) (omega arith) has.types;
}

altered_keeps : (c : Contents) (target : Target) (action : Action) (found : Option (ℕ × Table)) → placed_table c target.schema target.name ≡ found → HasTables c → Keeps (altered c target action found)
altered_keeps c target action None is has = absent_keeps c target has
altered_keeps c target action (Some found) is has =
    by_next HasTables (acted found.1 action) (λ changed. Ok (with_table_at (instead changed) c found.0)) (λ changed done.
    let there : slice_get c.tables found.0 ≡ Some found.1 = placed_there c.tables (place_of_table c target.schema target.name) found is in
    let table : IsTable found.1 = all_there IsTable c.tables found.0 found.1 there has.tables in
    let made = IfOk-at_ok (IsMadeOf found.1) done (acted_made found.1 action table) in
    changed_keeps (instead changed) c found.0
    (λ old here. made.same ∙ ap (λ (t : Table). t.id) (same_Some found.1 old (sym there ∙ here)))
    (λ old here is_table. is_made found.1 changed made)
    (apart_changed name_of (instead changed) c.tables found.0
    (λ old here. ap₂ (λ (a b : List ℕ). (a, b)) made.home made.called ∙ ap name_of (same_Some found.1 old (sym there ∙ here))) has.named) has)

-- a table under another name or in another schema, where no other has this name
titled_keeps : (c : Contents) (at : ℕ) (schema name to : List ℕ) → place_of_table c schema name ≡ Some at → place_of_table c schema to ≡ None → HasTables c → HasTables (with_table_at (titled to) c at)
titled_keeps c at schema name to found free has =
    changed_keeps (titled to) c at (λ table there. refl) (λ table there is. record { distinct = is.distinct; few = is.few; keyed = is.keyed; not_null = is.not_null })
    (apart_renamed name_of (titled to) (schema, to) c.tables at (λ table there. ap (λ (home : List ℕ). (home, to)) (found_name c schema name at table found there).0) (free_name c schema to free) has.named) has

housed_keeps : (c : Contents) (at : ℕ) (schema name to : List ℕ) → place_of_table c schema name ≡ Some at → place_of_table c to name ≡ None → HasTables c → HasTables (with_table_at (housed to) c at)
housed_keeps c at schema name to found free has =
    changed_keeps (housed to) c at (λ table there. refl) (λ table there is. record { distinct = is.distinct; few = is.few; keyed = is.keyed; not_null = is.not_null })
    (apart_renamed name_of (housed to) (to, name) c.tables at (λ table there. ap (λ (called : List ℕ). (to, called)) (found_name c schema name at table found there).1) (free_name c to name free) has.named) has

renamed_keeps : (c : Contents) (target : Target) (to : List ℕ) → HasTables c → Keeps (table_renamed c target to)
renamed_keeps c target to has =
    by_finding Keeps (place_of_table c target.schema target.name) (absent c target) (λ at. renamed_at c at target.schema to) (λ none. absent_keeps c target has)
    (λ at there. by_finding Keeps (place_of_table c target.schema to) (Ok (with_table_at (titled to) c at)) (λ taken. Err (Exists to))
    (λ none. titled_keeps c at target.schema target.name to there none has) (λ taken e. tt))

moved_keeps : (c : Contents) (target : Target) (to : List ℕ) → HasTables c → Keeps (table_moved c target to)
moved_keeps c target to has =
    by_finding Keeps (place_of_table c target.schema target.name) (absent c target) (λ at. moved_at c at target.name to) (λ none. absent_keeps c target has)
    (λ at there. by_finding Keeps (place_of_table c to target.name) (Ok (with_table_at (housed to) c at)) (λ taken. Err (Exists target.name))
    (λ none. housed_keeps c at target.schema target.name to there none has) (λ taken e. tt))

schema_created_keeps : (c : Contents) (name : List ℕ) (if_not_exists : Bool) → HasTables c → Keeps (schema_created c name if_not_exists)
schema_created_keeps c name if_not_exists has =
    by_test Keeps (has_schema c name) (cond (if_not_exists || bytes_eq name public) (Ok c) (Err (Exists name))) (Ok (record c { schemas = c.schemas ++ name ∷ [] }))
    (λ there. by_test Keeps (if_not_exists || bytes_eq name public) (Ok c) (Err (Exists name)) (λ passes. has) (λ fails. tt))
    (λ new. same_tables c (record c { schemas = c.schemas ++ name ∷ [] }) refl (omega arith) has.labels
    (parts_have c (record c { schemas = c.schemas ++ name ∷ [] }) (whole (table_ids c.tables)) (whole (type_ids c)) (omega arith) has.types) has)

-- types go, with the columns that have one
without_types_keeps : (c : Contents) (ids : List ℕ) → HasTables c → HasTables (without_types c ids)
without_types_keeps c ids has = record {
  given = all_mapped (λ (table : Table). table.id < c.given) (λ (table : Table). table.id < c.given) (stripped ids) (λ table below. subst (λ id. id < c.given) (sym (stripped_id ids table)) below) c.tables has.given;
  apart = apart_mapped (λ (table : Table). table.id) (stripped ids) (stripped_id ids) c.tables has.apart;
  named = apart_mapped name_of (stripped ids) (stripped_name ids) c.tables has.named;
  labels = all_filtered HasLabels (enum_stays ids) c.enums has.labels;
  tables = all_mapped IsTable IsTable (stripped ids) (λ table is. is_made table (stripped ids table) (stripped_made ids table is)) c.tables has.tables;
  types = parts_have c (without_types c ids)
      (part_of_same (table_ids (map (stripped ids) c.tables)) (table_ids c.tables) (mapped_same (λ (table : Table). table.id) (stripped ids) (stripped_id ids) c.tables))
      (parts_of_both (filtered_part (λ (of : EnumType). of.id) (enum_stays ids) c.enums) (filtered_part (λ (of : DomainType). of.id) (domain_stays ids) c.domains)) (omega arith) has.types;
}

found_keeps : (c : Contents) (target : Target) (cascade : Bool) (found : Option ℕ) → HasTables c → Keeps (found_dropped c target cascade found)
found_keeps c target cascade None has = absent_keeps c target has
found_keeps c target cascade (Some id) has =
    by_test Keeps (not cascade && in_use c (id ∷ [])) (Err (InUse target.name)) (Ok (without_types c (fallen (id ∷ []) c.domains))) (λ used. tt) (λ unused. without_types_keeps c (fallen (id ∷ []) c.domains) has)

-- a schema goes, with its tables
without_schema_keeps : (c : Contents) (schema : List ℕ) → HasTables c → HasTables (without_schema c schema)
without_schema_keeps c schema has = record {
  given = all_filtered (λ (table : Table). table.id < c.given) (λ (table : Table). not (table_in schema table)) c.tables has.given;
  apart = apart_filtered (λ (table : Table). table.id) (λ (table : Table). not (table_in schema table)) c.tables has.apart;
  named = apart_filtered name_of (λ (table : Table). not (table_in schema table)) c.tables has.named;
  labels = has.labels;
  tables = all_filtered IsTable (λ (table : Table). not (table_in schema table)) c.tables has.tables;
  types = parts_have c (without_schema c schema) (filtered_part (λ (table : Table). table.id) (λ (table : Table). not (table_in schema table)) c.tables) (whole (type_ids c)) (omega arith) has.types;
}

schema_dropped_keeps : (c : Contents) (schema : List ℕ) (if_exists cascade : Bool) → HasTables c → Keeps (schema_dropped c schema if_exists cascade)
schema_dropped_keeps c schema if_exists cascade has =
    by_test Keeps (has_schema c schema) (held_dropped c schema cascade) (cond if_exists (Ok c) (Err (Missing schema)))
    (λ there. by_test Keeps (not cascade && holds c schema) (Err (InUse schema)) (Ok (without_held c schema)) (λ held. tt)
    (λ bare. without_types_keeps (without_schema c schema) (fallen (types_in c schema) c.domains) (without_schema_keeps c schema has)))
    (λ missing. by_test Keeps if_exists (Ok c) (Err (Missing schema)) (λ passes. has) (λ fails. tt))

-- enumerations and domains are made and changed beside the tables
enum_keeps : (c : Contents) (schema name : List ℕ) (labels : List (List ℕ)) → HasTables c → Keeps (enum_created c schema name labels)
enum_keeps c schema name labels has =
    by_next HasTables (free_type c schema name) (λ free. and_then (distinct_labels labels) (λ distinct. Ok (with_enum c schema name labels))) (λ free is.
    by_next HasTables (distinct_labels labels) (λ distinct. Ok (with_enum c schema name labels)) (λ distinct are.
    same_tables c (with_enum c schema name labels) refl (omega arith)
    (all_pushed HasLabels c.enums (record { id = c.given; schema = schema; name = name; labels = labels }) has.labels (created_distinct labels are)) (enum_has c schema name labels (ids_given c has) has.types) has))

domain_keeps : (c : Contents) (schema name : List ℕ) (base : PgType) → HasTables c → Keeps (domain_created c schema name base)
domain_keeps c schema name base has =
    by_next HasTables (free_type c schema name) (λ free. Ok (with_domain c schema name base)) (λ free is. same_tables c (with_domain c schema name base) refl (omega arith) has.labels
    (domain_has c schema name base (ids_given c has) has.types) has)

labelled_keeps : (c : Contents) (name : List ℕ) (change : List (List ℕ) → Result (List (List ℕ)) Cause) (place : Option ℕ) (found : Option (ℕ × EnumType))
    → ((labels : List (List ℕ)) → AreDistinct labels → IfOk (change labels) AreDistinct) → placed c.enums place ≡ found → HasTables c → Keeps (labelled c name change found)
labelled_keeps c name change place None keeps is has = tt
labelled_keeps c name change place (Some found) keeps is has =
    by_next HasTables (change found.1.labels) (λ labels. Ok (with_labels c found.0 labels)) (λ labels done.
    let there : slice_get c.enums found.0 ≡ Some found.1 = placed_there c.enums place found is in
    let are : AreDistinct labels = IfOk-at_ok AreDistinct done (keeps found.1.labels (all_there HasLabels c.enums found.0 found.1 there has.labels)) in
    same_tables c (with_labels c found.0 labels) refl (omega arith)
    (all_changed HasLabels (λ (of : EnumType). record of { labels = labels }) c.enums found.0 (λ of here distinct. are) has.labels)
    (enums_same (λ (of : EnumType). record of { labels = labels }) c found.0 (λ of. refl) has.types) has)

-- an enumeration keeps its id and its labels
abbrev IsSameBut : EnumType → EnumType → Type 0
IsSameBut new old = (new.id ≡ old.id) × (new.labels ≡ old.labels)

type_keeps : (f : EnumType → EnumType) (g : DomainType → DomainType) (c : Contents) (schema name : List ℕ)
    → ((of : EnumType) → IsSameBut (f of) of) → ((of : DomainType) → (g of).id ≡ of.id) → HasTables c → Keeps (type_changed f g c schema name)
type_keeps f g c schema name f_same g_same has =
    by_finding Keeps (place_of_enum c schema name) (domain_changed g c schema name) (λ at. Ok (record c { enums = change_at f c.enums at }))
    (λ none. by_finding Keeps (place_of_domain c schema name) (Err (Missing name)) (λ at. Ok (record c { domains = change_at g c.domains at })) (λ missing. tt)
    (λ at there. same_tables c (record c { domains = change_at g c.domains at }) refl (omega arith) has.labels (domains_same g c at g_same has.types) has))
    (λ at there. same_tables c (record c { enums = change_at f c.enums at }) refl (omega arith)
    (all_changed HasLabels f c.enums at (λ of here distinct. subst AreDistinct (sym (f_same of).1) distinct) has.labels) (enums_same f c at (λ of. (f_same of).0) has.types) has)

known_keeps : (f : EnumType → EnumType) (g : DomainType → DomainType) (c : Contents) (schema name other_schema other_name : List ℕ)
    → ((of : EnumType) → IsSameBut (f of) of) → ((of : DomainType) → (g of).id ≡ of.id) → HasTables c
    → Keeps (and_then (known_type c schema name) (λ known. and_then (free_type c other_schema other_name) (λ free. type_changed f g c schema name)))
known_keeps f g c schema name other_schema other_name f_same g_same has =
    by_next HasTables (known_type c schema name) (λ known. and_then (free_type c other_schema other_name) (λ free. type_changed f g c schema name)) (λ known is.
    by_next HasTables (free_type c other_schema other_name) (λ free. type_changed f g c schema name) (λ free is_free. type_keeps f g c schema name f_same g_same has))

step_has : (c : Contents) (change : Change) → HasTables c → Keeps (step c change)
step_has c (CreateSchema name if_not_exists) has = schema_created_keeps c name if_not_exists has
step_has c (DropSchema name if_exists cascade) has = schema_dropped_keeps c name if_exists cascade has
step_has c (CreateTable schema name if_not_exists columns keys) has = created_keeps c schema name if_not_exists columns keys has
step_has c (DropTable table) has = dropped_keeps c table has
step_has c (AlterTable table action) has = altered_keeps c table action (placed_table c table.schema table.name) refl has
step_has c (RenameTable table to) has = renamed_keeps c table to has
step_has c (SetTableSchema table to) has = moved_keeps c table to has
step_has c (CreateEnum schema name labels) has = enum_keeps c schema name labels has
step_has c (CreateDomain schema name base) has = domain_keeps c schema name base has
step_has c (AddValue schema name label if_not_exists beside) has =
    labelled_keeps c name (λ labels. label_added labels label if_not_exists beside) (place_of_enum c schema name) (placed c.enums (place_of_enum c schema name)) (added_distinct label if_not_exists beside) refl has
step_has c (RenameValue schema name from to) has =
    labelled_keeps c name (λ labels. label_renamed labels from to) (place_of_enum c schema name) (placed c.enums (place_of_enum c schema name)) (renamed_distinct from to) refl has
step_has c (RenameType schema name to) has = known_keeps (enum_titled to) (domain_titled to) c schema name schema to (λ of. (refl, refl)) (λ of. refl) has
step_has c (SetTypeSchema schema name to) has = known_keeps (enum_housed to) (domain_housed to) c schema name to name (λ of. (refl, refl)) (λ of. refl) has
step_has c (DropType of cascade) has = found_keeps c of cascade (type_id c of.schema of.name) has
step_has c (DropDomain of cascade) has = found_keeps c of cascade (domain_id c of.schema of.name) has

-- what a change whose types are held makes of a catalogue is one
pub step_keeps : (c : Contents) (change : Change) → BringsHeld c change → IsCatalogue c → IfOk (step c change) IsCatalogue
step_keeps c change brings is = both (step c change) (step_has c change (has_tables c is)) (step_holds c change brings is.types is.held) where
  both : (result : Result Contents Cause) → IfOk result HasTables → IfOk result HoldsTypes → IfOk result IsCatalogue
  both (Ok new) has held = is_catalogue new has held
  both (Err fault) has held = tt
