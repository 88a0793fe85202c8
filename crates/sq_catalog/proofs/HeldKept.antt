-- The types of columns and the bases of domains stay held by the catalogue.
use Rattle.std.proofs.Common.{◌≡◌, ◌<◌, ◌+◌, ◌&&◌, ◌||◌, not, ℕ, Bool, true, false, cond, List, [], ◌∷◌, ◌++◌, filter, remove, slice_get, Option, Some, None, Result, Ok, Err, IfOk, bytes_eq, refl, sym, subst}
use Rattle.std.specs.List.{AllByRecursion}
use Rattle.std.proofs.lemmas.Result.{IfOk-at_ok}
use Rattle.sq_base.specs.declared.types.PgType.{PgType}
use Rattle.sq_base.specs.declared.types.Scalar.{Scalar}
use Rattle.sq_base.specs.declared.types.Scalar.TheVariants.{Enum, Domain}
use Rattle.sq_catalog.specs.Actions.{acted}
use Rattle.sq_catalog.specs.Answers.{and_then}
use Rattle.sq_catalog.specs.Catalogue.{public, has_schema, place_of_table, placed_table, schema_created, bare, new_table, with_new, table_made, table_created, table_dropped, with_table_at, instead, titled, housed, altered, renamed_at, table_renamed, moved_at, table_moved, step}
use Rattle.sq_catalog.specs.Columns.{change_at, placed}
use Rattle.sq_catalog.specs.Contents.{Contents}
use Rattle.sq_catalog.specs.Dropping.{absent, has_id, id_of, is_of, is_over, domain_stays, in_use, fallen, stripped, without_types, found_dropped, type_id, domain_id, holds, table_in, types_in, without_schema, without_held, held_dropped, schema_dropped}
use Rattle.sq_catalog.specs.UserTypes.{place_of_enum, place_of_domain, free_type, known_type, distinct_labels, with_enum, enum_created, with_domain, domain_created, with_labels, labelled, label_added, label_renamed, enum_titled, domain_titled, enum_housed, domain_housed, domain_changed, type_changed}
use Rattle.sq_catalog.specs.declared.table.Column.{Column}
use Rattle.sq_catalog.specs.declared.table.DomainType.{DomainType}
use Rattle.sq_catalog.specs.declared.table.EnumType.{EnumType}
use Rattle.sq_catalog.specs.declared.table.Table.{Table}
use Rattle.sq_catalog.specs.declared.change.Action.{Action}
use Rattle.sq_catalog.specs.declared.change.Change.{Change}
use Rattle.sq_catalog.specs.declared.change.Change.TheVariants.{CreateSchema, CreateTable, DropTable, AlterTable, RenameTable, SetTableSchema, CreateEnum, CreateDomain, AddValue, RenameValue, RenameType, SetTypeSchema, DropSchema, DropType, DropDomain}
use Rattle.sq_catalog.specs.declared.change.Cause.{Cause}
use Rattle.sq_catalog.specs.declared.change.Cause.TheVariants.{Exists, Missing, InUse}
use Rattle.sq_catalog.specs.declared.change.Keys.{Keys}
use Rattle.sq_catalog.specs.declared.change.Target.{Target}
use Rattle.sq_catalog.specs.Kept.{BringsHeld, TypesColumn, HasTypes, enum_ids, domain_ids, type_ids, IsHeld, HasHeldTypes, IsAfterBase, are_in_order, HoldsTypes}
use Rattle.sq_catalog.proofs.Answered.{by_test, by_finding, by_next, placed_there}
use Rattle.sq_catalog.proofs.Apart.{all_pushed, all_removed, all_filtered, all_behind, all_there, all_changed, all_weaker, all_of_both, all_passing, all_mapped}
use Rattle.sq_catalog.proofs.IdsKept.{part_ordered, ordered_pushed, filtered_part, changed_same, last_mapped}
use Rattle.sq_catalog.proofs.TypesFall.{has_more, has_behind, all_had, IsBelow, over_falls, still_has}
use Rattle.sq_catalog.proofs.TypesStay.{new_has, acted_has, stripped_has, stripped_free}

-- enumerations and domains of a catalogue are those of another one too
record IsWithin (c new : Contents) : Type 0 where
  enums : (id : ℕ) → has_id (enum_ids c.enums) id ≡ true → has_id (enum_ids new.enums) id ≡ true
  domains : (id : ℕ) → has_id (domain_ids c.domains) id ≡ true → has_id (domain_ids new.domains) id ≡ true

held_within : (c new : Contents) → IsWithin c new → (of : PgType) → IsHeld c of → IsHeld new of
held_within c new within of = by_scalar of.scalar of.array where
  by_scalar : (scalar : Scalar) (array : Bool) → IsHeld c (record { scalar = scalar; array = array }) → IsHeld new (record { scalar = scalar; array = array })
  by_scalar (Enum id) array held = within.enums id held
  by_scalar (Domain id) array held = (within.domains id held.0, held.1)
  by_scalar other array held = held

-- what is held in a catalogue is held in one that has all of its types
held_again : (c new : Contents) → IsWithin c new → AllByRecursion (HasHeldTypes c) new.tables → AllByRecursion (λ (of : DomainType). IsHeld c of.base) new.domains
    → AllByRecursion IsAfterBase new.domains → are_in_order (domain_ids new.domains) → HoldsTypes new
held_again c new within columns bases later ordered = record {
  columns = all_weaker (HasHeldTypes c) (HasHeldTypes new)
      (λ table. all_weaker (λ (column : Column). IsHeld c column.of) (λ (column : Column). IsHeld new column.of) (λ column. held_within c new within column.of) table.columns) new.tables columns;
  bases = all_weaker (λ (of : DomainType). IsHeld c of.base) (λ (of : DomainType). IsHeld new of.base) (λ of. held_within c new within of.base) new.domains bases;
  later = later;
  ordered = ordered;
}

-- what is answered holds its types, where anything is answered
abbrev Keeps : Result Contents Cause → Type 0
Keeps result = IfOk result HoldsTypes

absent_holds : (c : Contents) (target : Target) → HoldsTypes c → Keeps (absent c target)
absent_holds c target holds_all = by_test Keeps target.if_exists (Ok c) (Err (Missing target.name)) (λ passes. holds_all) (λ fails. tt)

-- the tables change, and the types stay
tables_hold : (c : Contents) (schemas : List (List ℕ)) (tables : List Table) (given : ℕ) → AllByRecursion (HasHeldTypes c) tables → HoldsTypes c → HoldsTypes (record c { schemas = schemas; tables = tables; given = given })
tables_hold c schemas tables given columns all = record { columns = columns; bases = all.bases; later = all.later; ordered = all.ordered }

created_holds : (c : Contents) (schema name : List ℕ) (if_not_exists : Bool) (columns : List Column) (keys : Keys) → AllByRecursion (λ (column : Column). IsHeld c column.of) columns
    → HoldsTypes c → Keeps (table_created c schema name if_not_exists columns keys)
created_holds c schema name if_not_exists columns keys held all =
    by_finding Keeps (place_of_table c schema name) (table_made c schema name columns keys) (λ at. cond if_not_exists (Ok c) (Err (Exists name)))
    (λ none. by_next HoldsTypes (new_table (bare c.given schema name columns) keys) (λ table. Ok (with_new c table)) (λ table given.
    let has : HasHeldTypes c table = IfOk-at_ok (HasHeldTypes c) given (new_has (IsHeld c) (bare c.given schema name columns) keys held) in
    tables_hold c c.schemas (c.tables ++ table ∷ []) (c.given + 1) (all_pushed (HasHeldTypes c) c.tables table all.columns has) all))
    (λ at there. by_test Keeps if_not_exists (Ok c) (Err (Exists name)) (λ passes. all) (λ fails. tt))

dropped_holds : (c : Contents) (target : Target) → HoldsTypes c → Keeps (table_dropped c target)
dropped_holds c target all =
    by_finding Keeps (place_of_table c target.schema target.name) (absent c target) (λ at. Ok (record c { tables = remove c.tables at })) (λ none. absent_holds c target all)
    (λ at there. tables_hold c c.schemas (remove c.tables at) c.given (all_removed (HasHeldTypes c) c.tables at all.columns) all)

-- the columns of the table at a place have held types still
changed_holds : (f : Table → Table) (c : Contents) (at : ℕ) → ((table : Table) → HasHeldTypes c table → HasHeldTypes c (f table)) → HoldsTypes c → HoldsTypes (with_table_at f c at)
changed_holds f c at keeps all = tables_hold c c.schemas (change_at f c.tables at) c.given (all_changed (HasHeldTypes c) f c.tables at (λ table there. keeps table) all.columns) all

altered_holds : (c : Contents) (target : Target) (action : Action) (found : Option (ℕ × Table)) → placed_table c target.schema target.name ≡ found → TypesColumn (IsHeld c) action → HoldsTypes c → Keeps (altered c target action found)
altered_holds c target action None is brings all = absent_holds c target all
altered_holds c target action (Some found) is brings all =
    by_next HoldsTypes (acted found.1 action) (λ changed. Ok (with_table_at (instead changed) c found.0)) (λ changed done.
    let there : slice_get c.tables found.0 ≡ Some found.1 = placed_there c.tables (place_of_table c target.schema target.name) found is in
    let has : HasHeldTypes c changed = IfOk-at_ok (HasHeldTypes c) done (acted_has (IsHeld c) found.1 action brings (all_there (HasHeldTypes c) c.tables found.0 found.1 there all.columns)) in
    changed_holds (instead changed) c found.0 (λ old held. has) all)

renamed_holds : (c : Contents) (target : Target) (to : List ℕ) → HoldsTypes c → Keeps (table_renamed c target to)
renamed_holds c target to all =
    by_finding Keeps (place_of_table c target.schema target.name) (absent c target) (λ at. renamed_at c at target.schema to) (λ none. absent_holds c target all)
    (λ at there. by_finding Keeps (place_of_table c target.schema to) (Ok (with_table_at (titled to) c at)) (λ taken. Err (Exists to))
    (λ none. changed_holds (titled to) c at (λ table held. held) all) (λ taken e. tt))

moved_holds : (c : Contents) (target : Target) (to : List ℕ) → HoldsTypes c → Keeps (table_moved c target to)
moved_holds c target to all =
    by_finding Keeps (place_of_table c target.schema target.name) (absent c target) (λ at. moved_at c at target.name to) (λ none. absent_holds c target all)
    (λ at there. by_finding Keeps (place_of_table c to target.name) (Ok (with_table_at (housed to) c at)) (λ taken. Err (Exists target.name))
    (λ none. changed_holds (housed to) c at (λ table held. held) all) (λ taken e. tt))

schema_created_holds : (c : Contents) (name : List ℕ) (if_not_exists : Bool) → HoldsTypes c → Keeps (schema_created c name if_not_exists)
schema_created_holds c name if_not_exists all =
    by_test Keeps (has_schema c name) (cond (if_not_exists || bytes_eq name public) (Ok c) (Err (Exists name))) (Ok (record c { schemas = c.schemas ++ name ∷ [] }))
    (λ there. by_test Keeps (if_not_exists || bytes_eq name public) (Ok c) (Err (Exists name)) (λ passes. all) (λ fails. tt))
    (λ new. tables_hold c (c.schemas ++ name ∷ []) c.tables c.given all.columns all)

-- ENUMERATIONS AND DOMAINS ARE MADE AND CHANGED

enum_holds : (c : Contents) (schema name : List ℕ) (labels : List (List ℕ)) → HoldsTypes c → Keeps (enum_created c schema name labels)
enum_holds c schema name labels all =
    by_next HoldsTypes (free_type c schema name) (λ free. and_then (distinct_labels labels) (λ distinct. Ok (with_enum c schema name labels))) (λ free is.
    by_next HoldsTypes (distinct_labels labels) (λ distinct. Ok (with_enum c schema name labels)) (λ distinct are.
    held_again c (with_enum c schema name labels) within all.columns all.bases all.later all.ordered)) where
      within : IsWithin c (with_enum c schema name labels)
      within = record {
        enums = λ id has. subst (λ (ids : List ℕ). has_id ids id ≡ true) (sym (last_mapped (λ (of : EnumType). of.id) c.enums (record { id = c.given; schema = schema; name = name; labels = labels })))
            (has_more (enum_ids c.enums) (c.given ∷ []) id has);
        domains = λ id has. has;
      }

-- the id of a held type, if any, has been given
held_given : (c : Contents) → HasTypes c → (of : PgType) → IsHeld c of → IsBelow c.given (id_of of.scalar)
held_given c has of = by_scalar of.scalar of.array where
  by_scalar : (scalar : Scalar) (array : Bool) → IsHeld c (record { scalar = scalar; array = array }) → IsBelow c.given (id_of scalar)
  by_scalar (Enum id) array held = all_had (λ other. other < c.given) (type_ids c) id has.given (has_more (enum_ids c.enums) (domain_ids c.domains) id held)
  by_scalar (Domain id) array held = all_had (λ other. other < c.given) (type_ids c) id has.given (has_behind (enum_ids c.enums) (domain_ids c.domains) id held.0)
  by_scalar other array held = tt

domain_holds : (c : Contents) (schema name : List ℕ) (base : PgType) → IsHeld c base → HasTypes c → HoldsTypes c → Keeps (domain_created c schema name base)
domain_holds c schema name base held has all =
    by_next HoldsTypes (free_type c schema name) (λ free. Ok (with_domain c schema name base)) (λ free is.
    held_again c (with_domain c schema name base) (record { enums = λ id there. there; domains = λ id there. subst (λ (ids : List ℕ). has_id ids id ≡ true) (sym more) (has_more (domain_ids c.domains) (c.given ∷ []) id there) })
    all.columns (all_pushed (λ (of : DomainType). IsHeld c of.base) c.domains new all.bases held) (all_pushed IsAfterBase c.domains new all.later (held_given c has base held))
    (subst are_in_order (sym more) (ordered_pushed (domain_ids c.domains) c.given (all_behind (λ id. id < c.given) (enum_ids c.enums) (domain_ids c.domains) has.given) all.ordered))) where
      new : DomainType
      new = record { id = c.given; schema = schema; name = name; base = base }

      more : domain_ids (c.domains ++ new ∷ []) ≡ domain_ids c.domains ++ c.given ∷ []
      more = last_mapped (λ (of : DomainType). of.id) c.domains new

enums_hold : (f : EnumType → EnumType) (c : Contents) (at : ℕ) → ((of : EnumType) → (f of).id ≡ of.id) → HoldsTypes c → HoldsTypes (record c { enums = change_at f c.enums at })
enums_hold f c at same all =
    held_again c (record c { enums = change_at f c.enums at }) (record {
      enums = λ id has. subst (λ (ids : List ℕ). has_id ids id ≡ true) (sym (changed_same (λ (of : EnumType). of.id) f c.enums at (λ of there. same of))) has;
      domains = λ id has. has;
    }) all.columns all.bases all.later all.ordered

-- a domain keeps its id and its base
abbrev IsSameBut : DomainType → DomainType → Type 0
IsSameBut new old = (new.id ≡ old.id) × (new.base ≡ old.base)

domains_hold : (g : DomainType → DomainType) (c : Contents) (at : ℕ) → ((of : DomainType) → IsSameBut (g of) of) → HoldsTypes c → HoldsTypes (record c { domains = change_at g c.domains at })
domains_hold g c at same all =
    held_again c (record c { domains = change_at g c.domains at }) (record { enums = λ id has. has; domains = λ id has. subst (λ (ids : List ℕ). has_id ids id ≡ true) (sym ids_same) has })
    all.columns
    (all_changed (λ (of : DomainType). IsHeld c of.base) g c.domains at (λ of there held. subst (IsHeld c) (sym (same of).1) held) all.bases)
    (all_changed IsAfterBase g c.domains at (λ of there later. after of later) all.later)
    (subst are_in_order (sym ids_same) all.ordered) where
      ids_same : domain_ids (change_at g c.domains at) ≡ domain_ids c.domains
      ids_same = changed_same (λ (of : DomainType). of.id) g c.domains at (λ of there. (same of).0)

      after : (of : DomainType) → IsAfterBase of → IsAfterBase (g of)
      after of later =
          subst (λ id. IsBelow id (id_of (g of).base.scalar)) (sym (same of).0) (subst (λ (base : PgType). IsBelow of.id (id_of base.scalar)) (sym (same of).1) later)

labelled_holds : (c : Contents) (name : List ℕ) (change : List (List ℕ) → Result (List (List ℕ)) Cause) (found : Option (ℕ × EnumType)) → HoldsTypes c → Keeps (labelled c name change found)
labelled_holds c name change None all = tt
labelled_holds c name change (Some found) all =
    by_next HoldsTypes (change found.1.labels) (λ labels. Ok (with_labels c found.0 labels)) (λ labels done. enums_hold (λ (of : EnumType). record of { labels = labels }) c found.0 (λ of. refl) all)

type_holds : (f : EnumType → EnumType) (g : DomainType → DomainType) (c : Contents) (schema name : List ℕ)
    → ((of : EnumType) → (f of).id ≡ of.id) → ((of : DomainType) → IsSameBut (g of) of) → HoldsTypes c → Keeps (type_changed f g c schema name)
type_holds f g c schema name f_same g_same all =
    by_finding Keeps (place_of_enum c schema name) (domain_changed g c schema name) (λ at. Ok (record c { enums = change_at f c.enums at }))
    (λ none. by_finding Keeps (place_of_domain c schema name) (Err (Missing name)) (λ at. Ok (record c { domains = change_at g c.domains at })) (λ missing. tt)
    (λ at there. domains_hold g c at g_same all))
    (λ at there. enums_hold f c at f_same all)

known_holds : (f : EnumType → EnumType) (g : DomainType → DomainType) (c : Contents) (schema name other_schema other_name : List ℕ)
    → ((of : EnumType) → (f of).id ≡ of.id) → ((of : DomainType) → IsSameBut (g of) of) → HoldsTypes c
    → Keeps (and_then (known_type c schema name) (λ known. and_then (free_type c other_schema other_name) (λ free. type_changed f g c schema name)))
known_holds f g c schema name other_schema other_name f_same g_same all =
    by_next HoldsTypes (known_type c schema name) (λ known. and_then (free_type c other_schema other_name) (λ free. type_changed f g c schema name)) (λ known is.
    by_next HoldsTypes (free_type c other_schema other_name) (λ free. type_changed f g c schema name) (λ free is_free. type_holds f g c schema name f_same g_same all))

-- TYPES GO

-- a held type that is none of those that go is held still
stays_held : (c : Contents) (ids : List ℕ) (of : PgType) → IsHeld c of → is_of ids of ≡ false → IsHeld (without_types c ids) of
stays_held c ids of = by_scalar of.scalar of.array where
  by_scalar : (scalar : Scalar) (array : Bool) → IsHeld c (record { scalar = scalar; array = array }) → is_of ids (record { scalar = scalar; array = array }) ≡ false
      → IsHeld (without_types c ids) (record { scalar = scalar; array = array })
  by_scalar (Enum id) array held stays = still_has (λ (of : EnumType). of.id) ids id stays c.enums held
  by_scalar (Domain id) array held stays = (still_has (λ (of : DomainType). of.id) ids id stays c.domains held.0, held.1)
  by_scalar other array held stays = held

-- what stays is over nothing that goes
over_none : (over gone : Bool) → (over ≡ true → gone ≡ true) → not gone ≡ true → over ≡ false
over_none false gone falls stays = refl
over_none true true falls stays = absurd (cc)
over_none true false falls stays = let no : false ≡ true = falls refl in absurd (cc)

without_types_holds : (c : Contents) (ids : List ℕ) → HoldsTypes c → HoldsTypes (without_types c (fallen ids c.domains))
without_types_holds c ids all = record {
  columns = all_mapped (HasHeldTypes c) (HasHeldTypes new) (stripped gone) (λ table held.
      all_of_both (λ (column : Column). IsHeld c column.of) (λ (column : Column). is_of gone column.of ≡ false) (λ (column : Column). IsHeld new column.of)
      (λ column. stays_held c gone column.of) (stripped gone table).columns (stripped_has (IsHeld c) gone table held) (stripped_free gone table)) c.tables all.columns;
  bases = all_passing (λ (of : DomainType). IsHeld new of.base) (domain_stays gone) c.domains
      (all_of_both (λ (of : DomainType). IsHeld c of.base) (λ (of : DomainType). is_over gone of ≡ true → has_id gone of.id ≡ true) (λ (of : DomainType). domain_stays gone of ≡ true → IsHeld new of.base)
      (λ of held falls stays. stays_held c gone of.base held (over_none (is_over gone of) (has_id gone of.id) falls stays)) c.domains all.bases (over_falls ids c.domains all.later all.ordered));
  later = all_filtered IsAfterBase (domain_stays gone) c.domains all.later;
  ordered = part_ordered (filtered_part (λ (of : DomainType). of.id) (domain_stays gone) c.domains) all.ordered;
} where
  gone : List ℕ
  gone = fallen ids c.domains

  new : Contents
  new = without_types c gone

found_holds : (c : Contents) (target : Target) (cascade : Bool) (found : Option ℕ) → HoldsTypes c → Keeps (found_dropped c target cascade found)
found_holds c target cascade None all = absent_holds c target all
found_holds c target cascade (Some id) all =
    by_test Keeps (not cascade && in_use c (id ∷ [])) (Err (InUse target.name)) (Ok (without_types c (fallen (id ∷ []) c.domains))) (λ used. tt) (λ unused. without_types_holds c (id ∷ []) all)

-- a schema goes, with its tables
without_schema_holds : (c : Contents) (schema : List ℕ) → HoldsTypes c → HoldsTypes (without_schema c schema)
without_schema_holds c schema all =
    tables_hold c (filter (λ (name : List ℕ). not (bytes_eq name schema)) c.schemas) (filter (λ (table : Table). not (table_in schema table)) c.tables) c.given
    (all_filtered (HasHeldTypes c) (λ (table : Table). not (table_in schema table)) c.tables all.columns) all

schema_dropped_holds : (c : Contents) (schema : List ℕ) (if_exists cascade : Bool) → HoldsTypes c → Keeps (schema_dropped c schema if_exists cascade)
schema_dropped_holds c schema if_exists cascade all =
    by_test Keeps (has_schema c schema) (held_dropped c schema cascade) (cond if_exists (Ok c) (Err (Missing schema)))
    (λ there. by_test Keeps (not cascade && holds c schema) (Err (InUse schema)) (Ok (without_held c schema)) (λ held. tt)
    (λ bare. without_types_holds (without_schema c schema) (types_in c schema) (without_schema_holds c schema all)))
    (λ missing. by_test Keeps if_exists (Ok c) (Err (Missing schema)) (λ passes. all) (λ fails. tt))

-- a change whose types are held leaves a catalogue that holds its types
pub step_holds : (c : Contents) (change : Change) → BringsHeld c change → HasTypes c → HoldsTypes c → Keeps (step c change)
step_holds c (CreateSchema name if_not_exists) brings has all = schema_created_holds c name if_not_exists all
step_holds c (DropSchema name if_exists cascade) brings has all = schema_dropped_holds c name if_exists cascade all
step_holds c (CreateTable schema name if_not_exists columns keys) brings has all = created_holds c schema name if_not_exists columns keys brings all
step_holds c (DropTable table) brings has all = dropped_holds c table all
step_holds c (AlterTable table action) brings has all = altered_holds c table action (placed_table c table.schema table.name) refl brings all
step_holds c (RenameTable table to) brings has all = renamed_holds c table to all
step_holds c (SetTableSchema table to) brings has all = moved_holds c table to all
step_holds c (CreateEnum schema name labels) brings has all = enum_holds c schema name labels all
step_holds c (CreateDomain schema name base) brings has all = domain_holds c schema name base brings has all
step_holds c (AddValue schema name label if_not_exists beside) brings has all = labelled_holds c name (λ labels. label_added labels label if_not_exists beside) (placed c.enums (place_of_enum c schema name)) all
step_holds c (RenameValue schema name from to) brings has all = labelled_holds c name (λ labels. label_renamed labels from to) (placed c.enums (place_of_enum c schema name)) all
step_holds c (RenameType schema name to) brings has all = known_holds (enum_titled to) (domain_titled to) c schema name schema to (λ of. refl) (λ of. (refl, refl)) all
step_holds c (SetTypeSchema schema name to) brings has all = known_holds (enum_housed to) (domain_housed to) c schema name to name (λ of. refl) (λ of. (refl, refl)) all
step_holds c (DropType of cascade) brings has all = found_holds c of cascade (type_id c of.schema of.name) all
step_holds c (DropDomain of cascade) brings has all = found_holds c of cascade (domain_id c of.schema of.name) all
