-- The ids of enumerations and domains are given once, and to no table.
use Rattle.std.proofs.Common.{◌≡◌, ◌≢◌, ◌<◌, ◌≤◌, ◌+◌, ℕ, zero, suc, Bool, true, false, cond, List, [], ◌∷◌, ◌++◌, map, filter, remove, slice_get, Some, refl, sym, ap, ap₂, subst, ◌∙◌, arith, append_assoc, append-nil}
use Rattle.std.specs.List.{AllByRecursion}
use Rattle.sq_base.specs.declared.types.PgType.{PgType}
use Rattle.sq_catalog.specs.Catalogue.{with_new}
use Rattle.sq_catalog.specs.Columns.{change_at}
use Rattle.sq_catalog.specs.Contents.{Contents}
use Rattle.sq_catalog.specs.UserTypes.{with_enum, with_domain}
use Rattle.sq_catalog.specs.declared.table.DomainType.{DomainType}
use Rattle.sq_catalog.specs.declared.table.EnumType.{EnumType}
use Rattle.sq_catalog.specs.declared.table.Table.{Table}
use Rattle.sq_catalog.specs.Kept.{are_apart, are_in_order, table_ids, enum_ids, domain_ids, type_ids, HasTypes}
use Rattle.sq_catalog.proofs.Apart.{all_pushed, all_weaker}

-- some of these, in their order
pub data IsPartOf : List ℕ → List ℕ → Type 0 where
  nothing : IsPartOf [] []
  kept : {xs ys : List ℕ} (id : ℕ) → IsPartOf xs ys → IsPartOf (id ∷ xs) (id ∷ ys)
  left : {xs ys : List ℕ} (id : ℕ) → IsPartOf xs ys → IsPartOf xs (id ∷ ys)

pub whole : (xs : List ℕ) → IsPartOf xs xs
whole [] = nothing
whole (x ∷ xs) = kept x (whole xs)

pub part_of_same : (xs ys : List ℕ) → xs ≡ ys → IsPartOf xs ys
part_of_same xs ys same = subst (λ (zs : List ℕ). IsPartOf xs zs) same (whole xs)

pub parts_of_both : {xs ys vs ws : List ℕ} → IsPartOf xs ys → IsPartOf vs ws → IsPartOf (xs ++ vs) (ys ++ ws)
parts_of_both nothing second = second
parts_of_both (kept id first) second = kept id (parts_of_both first second)
parts_of_both (left id first) second = left id (parts_of_both first second)

part_all : (P : ℕ → Type 0) {xs ys : List ℕ} → IsPartOf xs ys → AllByRecursion P ys → AllByRecursion P xs
part_all P nothing all = tt
part_all P (kept id part) all = (all.0, part_all P part all.1)
part_all P (left id part) all = part_all P part all.1

part_apart : {xs ys : List ℕ} → IsPartOf xs ys → are_apart ys → are_apart xs
part_apart nothing apart = tt
part_apart (kept id part) apart = (part_all (λ other. id ≢ other) part apart.0, part_apart part apart.1)
part_apart (left id part) apart = part_apart part apart.1

pub part_ordered : {xs ys : List ℕ} → IsPartOf xs ys → are_in_order ys → are_in_order xs
part_ordered nothing ordered = tt
part_ordered (kept id part) ordered = (part_all (λ other. id < other) part ordered.0, part_ordered part ordered.1)
part_ordered (left id part) ordered = part_ordered part ordered.1

pub ordered_pushed : (ids : List ℕ) (id : ℕ) → AllByRecursion (λ other. other < id) ids → are_in_order ids → are_in_order (ids ++ id ∷ [])
ordered_pushed [] id below ordered = (tt, tt)
ordered_pushed (x ∷ xs) id below ordered = (all_pushed (λ other. x < other) xs id ordered.0 below.0, ordered_pushed xs id below.1 ordered.1)

module _ {A : Type 0} (g : A → ℕ) where
  pub filtered_part : (p : A → Bool) (xs : List A) → IsPartOf (map g (filter p xs)) (map g xs)
  filtered_part p [] = nothing
  filtered_part p (x ∷ xs) =
      elim (p x) as (λ (b : Bool). IsPartOf (map g (cond b (x ∷ filter p xs) (filter p xs))) (g x ∷ map g xs)) [
        | true ↦ kept (g x) (filtered_part p xs)
        | false ↦ left (g x) (filtered_part p xs)
      ]

  pub removed_part : (xs : List A) (at : ℕ) → IsPartOf (map g (remove xs at)) (map g xs)
  removed_part [] zero = nothing
  removed_part [] (suc at) = nothing
  removed_part (x ∷ xs) zero = left (g x) (whole (map g xs))
  removed_part (x ∷ xs) (suc at) = kept (g x) (removed_part xs at)

  pub changed_same : (f : A → A) (xs : List A) (at : ℕ) → ((x : A) → slice_get xs at ≡ Some x → g (f x) ≡ g x) → map g (change_at f xs at) ≡ map g xs
  changed_same f [] at same = refl
  changed_same f (x ∷ xs) zero same = ap (λ id. id ∷ map g xs) (same x refl)
  changed_same f (x ∷ xs) (suc at) same = ap (λ ids. g x ∷ ids) (changed_same f xs at same)

  pub mapped_same : (f : A → A) → ((x : A) → g (f x) ≡ g x) → (xs : List A) → map g (map f xs) ≡ map g xs
  mapped_same f same [] = refl
  mapped_same f same (x ∷ xs) = ap₂ (λ id ids. id ∷ ids) (same x) (mapped_same f same xs)

  pub last_mapped : (xs : List A) (x : A) → map g (xs ++ x ∷ []) ≡ map g xs ++ g x ∷ []
  last_mapped [] x = refl
  last_mapped (y ∷ ys) x = ap (λ ids. g y ∷ ids) (last_mapped ys x)

all_with : (P : ℕ → Type 0) (xs ys : List ℕ) (id : ℕ) → P id → AllByRecursion P (xs ++ ys) → AllByRecursion P (xs ++ id ∷ ys)
all_with P [] ys id here all = (here, all)
all_with P (x ∷ xs) ys id here all = (all.0, all_with P xs ys id here all.1)

apart_with : (xs ys : List ℕ) (id : ℕ) → AllByRecursion (λ other. other ≢ id) (xs ++ ys) → are_apart (xs ++ ys) → are_apart (xs ++ id ∷ ys)
apart_with [] ys id new apart = (all_weaker (λ other. other ≢ id) (λ other. id ≢ other) (λ other differs same. differs (sym same)) ys new, apart)
apart_with (x ∷ xs) ys id new apart = (all_with (λ other. x ≢ other) xs ys id new.0 apart.0, apart_with xs ys id new.1 apart.1)

-- tables and types may go, and keep their ids
pub parts_have : (c new : Contents) → IsPartOf (table_ids new.tables) (table_ids c.tables) → IsPartOf (type_ids new) (type_ids c) → c.given ≤ new.given → HasTypes c → HasTypes new
parts_have c new tables types more has = record {
  given = part_all (λ id. id < new.given) types (all_weaker (λ id. id < c.given) (λ id. id < new.given) (λ id below. omega arith) (type_ids c) has.given);
  apart = part_apart types has.apart;
  beside = part_all (λ id. AllByRecursion (λ other. id ≢ other) (type_ids new)) tables
      (all_weaker (λ id. AllByRecursion (λ other. id ≢ other) (type_ids c)) (λ id. AllByRecursion (λ other. id ≢ other) (type_ids new)) (λ id all. part_all (λ other. id ≢ other) types all) (table_ids c.tables) has.beside);
}

-- a table gets the next id
pub table_has : (c : Contents) (table : Table) → table.id ≡ c.given → HasTypes c → HasTypes (with_new c table)
table_has c table next has = record {
  given = all_weaker (λ id. id < c.given) (λ id. id < c.given + 1) (λ id below. omega arith) (type_ids c) has.given;
  apart = has.apart;
  beside = subst (λ (ids : List ℕ). AllByRecursion (λ id. AllByRecursion (λ other. id ≢ other) (type_ids c)) ids) (sym (last_mapped (λ (other : Table). other.id) c.tables table))
      (all_pushed (λ id. AllByRecursion (λ other. id ≢ other) (type_ids c)) (table_ids c.tables) table.id has.beside
      (all_weaker (λ id. id < c.given) (λ id. table.id ≢ id) (λ id below same. absurd (omega arith)) (type_ids c) has.given));
}

-- a type gets the next id, wherever it comes among the types
type_has : (c new : Contents) (xs ys : List ℕ) → type_ids c ≡ xs ++ ys → type_ids new ≡ xs ++ c.given ∷ ys → new.tables ≡ c.tables → new.given ≡ c.given + 1
    → AllByRecursion (λ id. id < c.given) (table_ids c.tables) → HasTypes c → HasTypes new
type_has c new xs ys old_types new_types same more tables has = record {
  given = subst (λ (ids : List ℕ). AllByRecursion (λ id. id < new.given) ids) (sym new_types) (all_with (λ id. id < new.given) xs ys c.given (omega arith)
      (all_weaker (λ id. id < c.given) (λ id. id < new.given) (λ id below. omega arith) (xs ++ ys) below));
  apart = subst are_apart (sym new_types) (apart_with xs ys c.given (all_weaker (λ id. id < c.given) (λ id. id ≢ c.given) (λ id less equal. absurd (omega arith)) (xs ++ ys) below) (subst are_apart old_types has.apart));
  beside = subst (λ (ids : List ℕ). AllByRecursion (λ id. AllByRecursion (λ other. id ≢ other) ids) (table_ids new.tables)) (sym new_types)
      (subst (λ (all : List Table). AllByRecursion (λ id. AllByRecursion (λ other. id ≢ other) (xs ++ c.given ∷ ys)) (table_ids all)) (sym same) (beside_both (table_ids c.tables) tables
      (subst (λ (ids : List ℕ). AllByRecursion (λ id. AllByRecursion (λ other. id ≢ other) ids) (table_ids c.tables)) old_types has.beside)));
} where
  below : AllByRecursion (λ id. id < c.given) (xs ++ ys)
  below = subst (λ (ids : List ℕ). AllByRecursion (λ id. id < c.given) ids) old_types has.given

  differs : (id : ℕ) → id < c.given → id ≢ c.given
  differs id less equal = absurd (omega arith)

  beside_both : (ids : List ℕ) → AllByRecursion (λ id. id < c.given) ids → AllByRecursion (λ id. AllByRecursion (λ other. id ≢ other) (xs ++ ys)) ids
      → AllByRecursion (λ id. AllByRecursion (λ other. id ≢ other) (xs ++ c.given ∷ ys)) ids
  beside_both [] less all = tt
  beside_both (id ∷ ids) less all = (all_with (λ other. id ≢ other) xs ys c.given (differs id less.0) all.0, beside_both ids less.1 all.1)

pub enum_has : (c : Contents) (schema name : List ℕ) (labels : List (List ℕ)) → AllByRecursion (λ id. id < c.given) (table_ids c.tables) → HasTypes c → HasTypes (with_enum c schema name labels)
enum_has c schema name labels tables has =
    type_has c (with_enum c schema name labels) (enum_ids c.enums) (domain_ids c.domains) refl
    (ap (λ ids. ids ++ domain_ids c.domains) (last_mapped (λ (of : EnumType). of.id) c.enums (record { id = c.given; schema = schema; name = name; labels = labels }))
    ∙ append_assoc (enum_ids c.enums) (c.given ∷ []) (domain_ids c.domains))
    refl refl tables has

pub domain_has : (c : Contents) (schema name : List ℕ) (base : PgType) → AllByRecursion (λ id. id < c.given) (table_ids c.tables) → HasTypes c → HasTypes (with_domain c schema name base)
domain_has c schema name base tables has =
    type_has c (with_domain c schema name base) (enum_ids c.enums ++ domain_ids c.domains) [] (sym (append-nil (enum_ids c.enums ++ domain_ids c.domains)))
    (ap (λ ids. enum_ids c.enums ++ ids) (last_mapped (λ (of : DomainType). of.id) c.domains (record { id = c.given; schema = schema; name = name; base = base }))
    ∙ sym (append_assoc (enum_ids c.enums) (domain_ids c.domains) (c.given ∷ [])))
    refl refl tables has

-- enumerations are changed at a place and keep their ids
pub enums_same : (f : EnumType → EnumType) (c : Contents) (at : ℕ) → ((of : EnumType) → (f of).id ≡ of.id) → HasTypes c → HasTypes (record c { enums = change_at f c.enums at })
enums_same f c at same has =
    parts_have c (record c { enums = change_at f c.enums at }) (whole (table_ids c.tables))
    (part_of_same (enum_ids (change_at f c.enums at) ++ domain_ids c.domains) (type_ids c)
    (ap (λ ids. ids ++ domain_ids c.domains) (changed_same (λ (of : EnumType). of.id) f c.enums at (λ of there. same of)))) (omega arith) has

pub domains_same : (f : DomainType → DomainType) (c : Contents) (at : ℕ) → ((of : DomainType) → (f of).id ≡ of.id) → HasTypes c → HasTypes (record c { domains = change_at f c.domains at })
domains_same f c at same has =
    parts_have c (record c { domains = change_at f c.domains at }) (whole (table_ids c.tables))
    (part_of_same (enum_ids c.enums ++ domain_ids (change_at f c.domains at)) (type_ids c)
    (ap (λ ids. enum_ids c.enums ++ ids) (changed_same (λ (of : DomainType). of.id) f c.domains at (λ of there. same of)))) (omega arith) has
