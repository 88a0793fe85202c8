-- A type that is found by its name is held, and the base of a held type is no domain.
use Rattle.std.proofs.Common.{◌≡◌, ◌<◌, ◌≤◌, ◌-◌, ◌==◌, ◌||◌, ℕ, zero, suc, Bool, true, false, cond, map, List, [], ◌∷◌, length, take, find, Option, Some, None, IfSome, option_map, refl, sym, ap, subst, ◌∙◌, arith}
use Rattle.std.specs.Prelude.{⊤}
use Rattle.std.specs.List.{AllByRecursion}
use Rattle.std.specs.Option.{option_map_or}
use Rattle.std.proofs.lemmas.Option.{same_Some}
use Rattle.std.proofs.lemmas.List.{take_all}
use Rattle.sq_base.specs.Types.{IsBase}
use Rattle.sq_base.specs.declared.types.PgType.{PgType}
use Rattle.sq_base.specs.declared.types.Scalar.{Scalar}
use Rattle.sq_base.specs.declared.types.Scalar.TheVariants.{Enum, Domain, Opaque, Unknown}
use Rattle.sq_catalog.specs.Contents.{Contents}
use Rattle.sq_catalog.specs.Dropping.{has_id}
use Rattle.sq_catalog.specs.Kept.{IsCatalogue, IsHeld, IsAfterBase, HoldsTypes, are_in_order, domain_ids}
use Rattle.sq_catalog.specs.UserTypes.{base, domain_named, domain_type, enum_named, enum_type, is_domain, is_enum, steps_under, type_named, under}
use Rattle.sq_catalog.specs.declared.table.DomainType.{DomainType}
use Rattle.sq_catalog.specs.declared.table.EnumType.{EnumType}
use Rattle.sq_catalog.proofs.Answered.{by_test, by_finding}
use Rattle.sq_catalog.proofs.Apart.{all_of_both, all_weaker}
use Rattle.sq_catalog.proofs.TypesFall.{all_had, by_first}

-- TYPES BY THEIR NAMES

found_has : {A : Type 0} (g : A → ℕ) (p : A → Bool) (xs : List A) (x : A) → find p xs ≡ Some x → has_id (map g xs) (g x) ≡ true
found_has g p [] x found = absurd (cc)
found_has {A} g p (y ∷ ys) x found =
    by_first (λ (b : Bool). b ≡ true) (g y == g x) (has_id (map g ys) (g x)) (λ is. refl)
    (λ other. by_test (λ (o : Option A). o ≡ Some x → has_id (map g ys) (g x) ≡ true) (p y) (Some y) (find p ys)
    (λ passes e. absurd (differs (same_Some y x e) other)) (λ fails e. found_has g p ys x e) found) where
      differs : y ≡ x → (g y == g x) ≡ false → ⊥
      differs same other = let is : (g x == g x) ≡ false = subst (λ z. (g z == g x) ≡ false) same other in grind (arith, is)

pub named_held : (c : Contents) (schema name : List ℕ) → IfSome (type_named c schema name) (IsHeld c)
named_held c schema name =
    by_finding (λ (o : Option PgType). IfSome o (IsHeld c)) (enum_named c schema name) (option_map domain_type (domain_named c schema name)) (λ of. Some (enum_type of))
    (λ none. domain_held (domain_named c schema name) refl)
    (λ of there. found_has (λ (other : EnumType). other.id) (λ (other : EnumType). is_enum other schema name) c.enums of there) where
      domain_held : (o : Option DomainType) → domain_named c schema name ≡ o → IfSome (option_map domain_type o) (IsHeld c)
      domain_held None is = tt
      domain_held (Some of) is = (found_has (λ (other : DomainType). other.id) (λ (other : DomainType). is_domain other schema name) c.domains of is, refl)

-- BASES

-- what is left of some steps once one is made
pub one_more : (c : Contents) (left : ℕ) (of : PgType) → 0 < left → steps_under (left - 1) c (under c of) ≡ steps_under left c of
one_more c zero of some = absurd (omega arith)
one_more c (suc left) of some = let one_less : suc left - 1 ≡ left = omega arith in rw one_less refl

-- no step is left
pub no_steps : (c : Contents) (left : ℕ) (of : PgType) → left ≡ 0 → of ≡ steps_under left c of
no_steps c zero of none = refl
no_steps c (suc left) of none = absurd (omega arith)

-- the steps for all domains
pub all_steps : (c : Contents) (domains : List DomainType) (of : PgType) → domains ≡ c.domains → steps_under (length domains) c of ≡ base c of
all_steps c domains of same = ap (λ (left : List DomainType). steps_under (length left) c of) same

-- of two ids the lower stands before the other
earlier : (ids : List ℕ) (n low id : ℕ) → are_in_order ids → low < id → has_id ids low ≡ true → has_id (take (suc n) ids) id ≡ true → has_id (take n ids) low ≡ true
earlier [] n low id ordered below has there = absurd (cc)
earlier (x ∷ xs) zero low id ordered below has there =
    let same : id ≡ x = all_had (λ other. other ≡ x) (x ∷ []) id (refl, tt) there in
    let above : x ≤ low = all_had (λ other. x ≤ other) (x ∷ xs) low (omega arith, all_weaker (λ other. x < other) (λ other. x ≤ other) (λ other behind. omega arith) xs ordered.0) has in
    absurd (omega arith)
earlier (x ∷ xs) (suc n) low id ordered below has there =
    by_first (λ (b : Bool). b ≡ true) (x == low) (has_id (take n xs) low) (λ is. refl)
    (λ other. by_first (λ (b : Bool). b ≡ true → has_id (take n xs) low ≡ true) (x == low) (has_id xs low) (λ is e. absurd (cc)) (λ differs later. earlier xs n low id ordered.1 below later (behind later)) has) where
      behind : has_id xs low ≡ true → has_id (take (suc n) xs) id ≡ true
      behind later =
          let above : x < low = all_had (λ other. x < other) xs low ordered.0 later in
          by_first (λ (b : Bool). b ≡ true → has_id (take (suc n) xs) id ≡ true) (x == id) (has_id (take (suc n) xs) id) (λ is e. let same : x ≡ id = grind (arith, is) in absurd (omega arith)) (λ differs e. e) there

-- the domain that is found has this id, and what all have
abbrev Found : (DomainType → Type 0) → ℕ → Option DomainType → Type 0
Found P id None = ⊥
Found P id (Some domain) = (domain.id ≡ id) × P domain

found : (P : DomainType → Type 0) (domains : List DomainType) (id : ℕ) → AllByRecursion P domains → has_id (domain_ids domains) id ≡ true → Found P id (find (λ (domain : DomainType). domain.id == id) domains)
found P [] id all has = absurd (cc)
found P (x ∷ xs) id all has = by_way (found P xs id all.1) (x.id == id) refl has where
  by_way : (has_id (domain_ids xs) id ≡ true → Found P id (find (λ (domain : DomainType). domain.id == id) xs)) → (b : Bool) → (x.id == id) ≡ b → (b || has_id (domain_ids xs) id) ≡ true → Found P id (cond b (Some x) (find (λ (domain : DomainType). domain.id == id) xs))
  by_way later true is e = (grind (arith, is), all.0)
  by_way later false is e = later e

module _ (c : Contents) (is : HoldsTypes c) where
  -- what is a domain is one of the first ones
  abbrev Among : ℕ → PgType → Type 0
  Among n of = elim of.scalar [
    | Domain id ↦ has_id (take n (domain_ids c.domains)) id ≡ true
    | other ↦ ⊤
  ]

  -- what a domain is over is held, and is no later domain
  abbrev Base : DomainType → Type 0
  Base of = IsHeld c of.base × IsAfterBase of

  bases : AllByRecursion Base c.domains
  bases = all_of_both (λ (of : DomainType). IsHeld c of.base) IsAfterBase Base (λ of held after. (held, after)) c.domains is.bases is.later

  among : (n id own : ℕ) (scalar : Scalar) (array : Bool) → own ≡ id → has_id (take (suc n) (domain_ids c.domains)) id ≡ true
      → Base (record { id = own; schema = []; name = []; base = record { scalar = scalar; array = array } }) → Among n (record { scalar = scalar; array = array })
  among n id own (Domain low) array same there over = earlier (domain_ids c.domains) n low id is.ordered (subst (λ other. low < other) same over.1) over.0.0 there
  among n id own other array same there over = tt

  stepped : (n : ℕ) (scalar : Scalar) (array : Bool) → IsHeld c (record { scalar = scalar; array = array }) → Among (suc n) (record { scalar = scalar; array = array })
      → IsHeld c (under c (record { scalar = scalar; array = array })) × Among n (under c (record { scalar = scalar; array = array }))
  stepped n (Domain id) true held there = absurd (cc)
  stepped n (Domain id) false held there = by_domain (find (λ (domain : DomainType). domain.id == id) c.domains) (found Base c.domains id bases held.0) where
    reached : Option DomainType → PgType
    reached o = option_map_or (λ (domain : DomainType). domain.base) o (record { scalar = Domain id; array = false })

    by_domain : (o : Option DomainType) → Found Base id o → IsHeld c (reached o) × Among n (reached o)
    by_domain None none = absurd none
    by_domain (Some domain) has = (has.1.0, among n id domain.id domain.base.scalar domain.base.array has.0 there has.1)
  stepped n other array held there = (held, tt)

  ended : (scalar : Scalar) (array : Bool) → IsHeld c (record { scalar = scalar; array = array }) → Among 0 (record { scalar = scalar; array = array }) → IsBase (record { scalar = scalar; array = array })
  ended (Domain id) array held there = absurd (cc)
  ended Unknown array held there = absurd held
  ended other array held there = refl

  reached_held : (n : ℕ) (of : PgType) → IsHeld c of → Among n of → IsHeld c (steps_under n c of) × IsBase (steps_under n c of)
  reached_held zero of held there = (held, ended of.scalar of.array held there)
  reached_held (suc n) of held there =
      let next = stepped n of.scalar of.array held there in
      reached_held n (under c of) next.0 next.1

  all_there : (scalar : Scalar) (array : Bool) → IsHeld c (record { scalar = scalar; array = array }) → Among (length c.domains) (record { scalar = scalar; array = array })
  all_there (Domain id) array held = subst (λ (ids : List ℕ). has_id ids id ≡ true) (sym (take_all (length c.domains) (domain_ids c.domains) (whole c.domains))) held.0 where
    whole : (domains : List DomainType) → length (domain_ids domains) ≤ length domains
    whole [] = omega arith
    whole (x ∷ xs) = let rest : length (domain_ids xs) ≤ length xs = whole xs in omega arith
  all_there other array held = tt

pub base_held : (c : Contents) (of : PgType) → IsCatalogue c → IsHeld c of → IsHeld c (base c of) × IsBase (base c of)
base_held c of is held = reached_held c is.held (length c.domains) of held (all_there c is.held of.scalar of.array held)
