-- What falls with a type: all domains over it, found in one walk, since each was made after its base.
use Rattle.std.proofs.Common.{◌≡◌, ◌≢◌, ◌<◌, ◌==◌, ◌||◌, not, ℕ, Bool, true, false, cond, map, List, [], ◌∷◌, ◌++◌, filter, Option, Some, None, refl, subst, arith}
use Rattle.std.specs.List.{AllByRecursion}
use Rattle.sq_catalog.specs.Dropping.{id_of, has_id, is_over, with_fallen, fallen}
use Rattle.sq_catalog.specs.declared.table.DomainType.{DomainType}
use Rattle.sq_catalog.specs.Kept.{domain_ids, IsAfterBase, are_in_order}
use Rattle.sq_catalog.proofs.Answered.{by_test}
use Rattle.sq_catalog.proofs.Apart.{all_weaker, all_of_mapped}

either : (a b c : Bool) → (b ≡ true → c ≡ true) → (a || b) ≡ true → (a || c) ≡ true
either true b c weaker e = refl
either false b c weaker e = weaker e

-- one test or another, by both of the ways that the first can take
pub by_first : (Q : Bool → Type 0) (a b : Bool) → (a ≡ true → Q true) → (a ≡ false → Q b) → Q (a || b)
by_first Q true b first second = first refl
by_first Q false b first second = second refl

pub has_more : (ids more : List ℕ) (id : ℕ) → has_id ids id ≡ true → has_id (ids ++ more) id ≡ true
has_more [] more id has = absurd (cc)
has_more (x ∷ xs) more id has = either (x == id) (has_id xs id) (has_id (xs ++ more) id) (has_more xs more id) has

pub has_behind : (before ids : List ℕ) (id : ℕ) → has_id ids id ≡ true → has_id (before ++ ids) id ≡ true
has_behind [] ids id has = has
has_behind (x ∷ xs) ids id has = by_first (λ (b : Bool). b ≡ true) (x == id) (has_id (xs ++ ids) id) (λ is. refl) (λ other. has_behind xs ids id has)

-- what holds of all ids holds of one of them
pub all_had : (P : ℕ → Type 0) (ids : List ℕ) (id : ℕ) → AllByRecursion P ids → has_id ids id ≡ true → P id
all_had P [] id all has = absurd (cc)
all_had P (x ∷ xs) id all has =
    by_first (λ (b : Bool). b ≡ true → P id) (x == id) (has_id xs id) (λ is e. let same : x ≡ id = grind (arith, is) in subst P same all.0) (λ other there. all_had P xs id all.1 there) has

itself : (id : ℕ) → (id == id) ≡ true
itself id = grind arith

pub has_last : (ids : List ℕ) (id : ℕ) → has_id (ids ++ id ∷ []) id ≡ true
has_last [] id = rw (itself id) refl
has_last (x ∷ xs) id = by_first (λ (b : Bool). b ≡ true) (x == id) (has_id (xs ++ id ∷ []) id) (λ is. refl) (λ other. has_last xs id)

other_last : (ids : List ℕ) (last id : ℕ) → last ≢ id → has_id (ids ++ last ∷ []) id ≡ true → has_id ids id ≡ true
other_last [] last id differs has = by_first (λ (b : Bool). b ≡ true → false ≡ true) (last == id) false (λ is e. let same : last ≡ id = grind (arith, is) in absurd (differs same)) (λ other e. e) has
other_last (x ∷ xs) last id differs has = either (x == id) (has_id (xs ++ last ∷ []) id) (has_id xs id) (other_last xs last id differs) has

-- what falls stays fallen
grows : (ids : List ℕ) (domains : List DomainType) (id : ℕ) → has_id ids id ≡ true → has_id (fallen ids domains) id ≡ true
grows ids [] id has = has
grows ids (of ∷ later) id has =
    grows (with_fallen ids of) later id (by_test (λ (new : List ℕ). has_id new id ≡ true) (is_over ids of) (ids ++ of.id ∷ []) ids (λ over. has_more ids (of.id ∷ []) id has) (λ free. has))

-- what falls and is none of these domains had fallen before
was_there : (ids : List ℕ) (domains : List DomainType) (id : ℕ) → AllByRecursion (λ (of : DomainType). of.id ≢ id) domains → has_id (fallen ids domains) id ≡ true → has_id ids id ≡ true
was_there ids [] id others has = has
was_there ids (of ∷ later) id others has =
    by_test (λ (new : List ℕ). has_id new id ≡ true → has_id ids id ≡ true) (is_over ids of) (ids ++ of.id ∷ []) ids
    (λ over there. other_last ids of.id id others.0 there) (λ free there. there) (was_there (with_fallen ids of) later id others.1 has)

-- whether a type that has this id, if any, is one of these
abbrev is_one : List ℕ → Option ℕ → Bool
is_one ids None = false
is_one ids (Some id) = has_id ids id

-- a type has a lower id than this one, if any
abbrev pub IsBelow : ℕ → Option ℕ → Type 0
IsBelow own None = Unit {0}
IsBelow own (Some id) = id < own

first_falls : (ids : List ℕ) (later : List DomainType) (own : ℕ) (base : Option ℕ) → IsBelow own base
    → AllByRecursion (λ (of : DomainType). own < of.id) later
    → is_one (fallen (cond (is_one ids base) (ids ++ own ∷ []) ids) later) base ≡ true → has_id (fallen (cond (is_one ids base) (ids ++ own ∷ []) ids) later) own ≡ true
first_falls ids later own None after behind falls = absurd (cc)
first_falls ids later own (Some base) after behind falls =
    by_test (λ (new : List ℕ). has_id (fallen new later) base ≡ true → has_id (fallen new later) own ≡ true) (has_id ids base) (ids ++ own ∷ []) ids
    (λ over has. grows (ids ++ own ∷ []) later own (has_last ids own))
    (λ free has.
    let there : has_id ids base ≡ true = was_there ids later base (all_weaker (λ (of : DomainType). own < of.id) (λ (of : DomainType). of.id ≢ base) (λ of above same. absurd (omega arith)) later behind) has in
    absurd (cc)) falls

-- a domain over what falls falls
pub over_falls : (ids : List ℕ) (domains : List DomainType) → AllByRecursion IsAfterBase domains → are_in_order (domain_ids domains)
    → AllByRecursion (λ (of : DomainType). is_over (fallen ids domains) of ≡ true → has_id (fallen ids domains) of.id ≡ true) domains
over_falls ids [] after ordered = tt
over_falls ids (of ∷ later) after ordered =
    (first_falls ids later of.id (id_of of.base.scalar) after.0 (all_of_mapped (λ other. of.id < other) (λ (other : DomainType). other.id) later ordered.0), over_falls (with_fallen ids of) later after.1 ordered.1)

-- an id that stays is had still
pub still_has : {A : Type 0} (g : A → ℕ) (gone : List ℕ) (id : ℕ) → has_id gone id ≡ false → (xs : List A) → has_id (map g xs) id ≡ true → has_id (map g (filter (λ x. not (has_id gone (g x))) xs)) id ≡ true
still_has g gone id stays [] has = absurd (cc)
still_has {A} g gone id stays (x ∷ xs) has =
    by_way (still_has g gone id stays xs) (has_id gone (g x)) refl where
      rest : List A
      rest = filter (λ y. not (has_id gone (g y))) xs

      by_way : (has_id (map g xs) id ≡ true → has_id (map g rest) id ≡ true) → (b : Bool) → has_id gone (g x) ≡ b → has_id (map g (cond (not b) (x ∷ rest) rest)) id ≡ true
      by_way later true goes = by_first (λ (t : Bool). t ≡ true → has_id (map g rest) id ≡ true) (g x == id) (has_id (map g xs) id)
          (λ is e. let same : g x ≡ id = grind (arith, is) in absurd (cc)) (λ other there. later there) has
      by_way later false kept = either (g x == id) (has_id (map g xs) id) (has_id (map g rest) id) later has
