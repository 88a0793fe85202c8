-- What holds of each item of a list, and of each two, when the list is changed.
use Rattle.std.proofs.Common.{◌≡◌, ◌≢◌, ◌<◌, ◌≤◌, ℕ, zero, suc, Bool, true, false, cond, List, [], ◌∷◌, ◌++◌, map, length, filter, remove, slice_get, get_or, position, Some, None, refl, sym, ap, subst, ◌∙◌, arith, nat_lt}
use Rattle.std.specs.List.{AllByRecursion, position_or_len, insert}
use Rattle.std.proofs.lemmas.List.Elements.{recursion_from_All}
use Rattle.std.proofs.lemmas.List.Sums.{fails_before_first}
use Rattle.std.proofs.lemmas.List.Quantifiers.{position-Some}
use Rattle.std.proofs.lemmas.Option.{same_Some}
use Rattle.sq_catalog.specs.Columns.{change_at}
use Rattle.sq_catalog.specs.Kept.{are_apart}

module _ {A : Type 0} (P : A → Type 0) where
  pub all_pushed : (xs : List A) (x : A) → AllByRecursion P xs → P x → AllByRecursion P (xs ++ x ∷ [])
  all_pushed [] x all here = (here, tt)
  all_pushed (y ∷ ys) x all here = (all.0, all_pushed ys x all.1 here)

  pub all_removed : (xs : List A) (at : ℕ) → AllByRecursion P xs → AllByRecursion P (remove xs at)
  all_removed [] zero all = tt
  all_removed [] (suc at) all = tt
  all_removed (x ∷ xs) zero all = all.1
  all_removed (x ∷ xs) (suc at) all = (all.0, all_removed xs at all.1)

  pub all_filtered : (p : A → Bool) (xs : List A) → AllByRecursion P xs → AllByRecursion P (filter p xs)
  all_filtered p [] all = tt
  all_filtered p (x ∷ xs) all =
      elim (p x) as (λ (b : Bool). AllByRecursion P (cond b (x ∷ filter p xs) (filter p xs))) [ true ↦ (all.0, all_filtered p xs all.1) | false ↦ all_filtered p xs all.1 ]

  pub all_behind : (before xs : List A) → AllByRecursion P (before ++ xs) → AllByRecursion P xs
  all_behind [] xs all = all
  all_behind (x ∷ before) xs all = all_behind before xs all.1

  pub all_there : (xs : List A) (at : ℕ) (x : A) → slice_get xs at ≡ Some x → AllByRecursion P xs → P x
  all_there [] at x there all = absurd (cc)
  all_there (y ∷ ys) zero x there all = subst P (same_Some y x there) all.0
  all_there (y ∷ ys) (suc at) x there all = all_there ys at x there all.1

  pub all_changed : (f : A → A) (xs : List A) (at : ℕ) → ((x : A) → slice_get xs at ≡ Some x → P x → P (f x)) → AllByRecursion P xs → AllByRecursion P (change_at f xs at)
  all_changed f [] at keeps all = tt
  all_changed f (x ∷ xs) zero keeps all = (keeps x refl all.0, all.1)
  all_changed f (x ∷ xs) (suc at) keeps all = (all.0, all_changed f xs at keeps all.1)

pub all_weaker : {A : Type 0} (P Q : A → Type 0) → ((x : A) → P x → Q x) → (xs : List A) → AllByRecursion P xs → AllByRecursion Q xs
all_weaker P Q weaker [] all = tt
all_weaker P Q weaker (x ∷ xs) all = (weaker x all.0, all_weaker P Q weaker xs all.1)

pub all_of_both : {A : Type 0} (P Q R : A → Type 0) → ((x : A) → P x → Q x → R x) → (xs : List A) → AllByRecursion P xs → AllByRecursion Q xs → AllByRecursion R xs
all_of_both P Q R both [] first second = tt
all_of_both P Q R both (x ∷ xs) first second = (both x first.0 second.0, all_of_both P Q R both xs first.1 second.1)

-- what passes a test has what follows of passing it
pub all_passing : {A : Type 0} (P : A → Type 0) (p : A → Bool) (xs : List A) → AllByRecursion (λ x. p x ≡ true → P x) xs → AllByRecursion P (filter p xs)
all_passing P p [] all = tt
all_passing P p (x ∷ xs) all =
    elim (p x) as (λ (b : Bool). p x ≡ b → AllByRecursion P (cond b (x ∷ filter p xs) (filter p xs))) [
      | true ↦ λ passes. (all.0 passes, all_passing P p xs all.1)
      | false ↦ λ fails. all_passing P p xs all.1
    ] refl

pub all_mapped : {A B : Type 0} (P : A → Type 0) (Q : B → Type 0) (f : A → B) → ((x : A) → P x → Q (f x)) → (xs : List A) → AllByRecursion P xs → AllByRecursion Q (map f xs)
all_mapped P Q f keeps [] all = tt
all_mapped P Q f keeps (x ∷ xs) all = (keeps x all.0, all_mapped P Q f keeps xs all.1)

pub all_of_mapped : {A B : Type 0} (Q : B → Type 0) (f : A → B) (xs : List A) → AllByRecursion Q (map f xs) → AllByRecursion (λ x. Q (f x)) xs
all_of_mapped Q f [] all = tt
all_of_mapped Q f (x ∷ xs) all = (all.0, all_of_mapped Q f xs all.1)

module _ {A B : Type 0} (g : A → B) where
  -- no two items have one value
  abbrev pub Apart : List A → Type 0
  Apart [] = Unit {0}
  Apart (x ∷ xs) = AllByRecursion (λ y. g x ≢ g y) xs × Apart xs

  pub apart_pushed : (xs : List A) (x : A) → AllByRecursion (λ y. g y ≢ g x) xs → Apart xs → Apart (xs ++ x ∷ [])
  apart_pushed [] x new apart = (tt, tt)
  apart_pushed (y ∷ ys) x new apart = (all_pushed (λ z. g y ≢ g z) ys x apart.0 new.0, apart_pushed ys x new.1 apart.1)

  pub apart_removed : (xs : List A) (at : ℕ) → Apart xs → Apart (remove xs at)
  apart_removed [] zero apart = tt
  apart_removed [] (suc at) apart = tt
  apart_removed (x ∷ xs) zero apart = apart.1
  apart_removed (x ∷ xs) (suc at) apart = (all_removed (λ y. g x ≢ g y) xs at apart.0, apart_removed xs at apart.1)

  pub apart_filtered : (p : A → Bool) (xs : List A) → Apart xs → Apart (filter p xs)
  apart_filtered p [] apart = tt
  apart_filtered p (x ∷ xs) apart =
      elim (p x) as (λ (b : Bool). Apart (cond b (x ∷ filter p xs) (filter p xs))) [
        | true ↦ (all_filtered (λ y. g x ≢ g y) p xs apart.0, apart_filtered p xs apart.1)
        | false ↦ apart_filtered p xs apart.1
      ]

  pub apart_mapped : (f : A → A) → ((x : A) → g (f x) ≡ g x) → (xs : List A) → Apart xs → Apart (map f xs)
  apart_mapped f same [] apart = tt
  apart_mapped f same (x ∷ xs) apart =
      (all_mapped (λ y. g x ≢ g y) (λ y. g (f x) ≢ g y) f (λ y differs e. differs (sym (same x) ∙ e ∙ same y)) xs apart.0, apart_mapped f same xs apart.1)

  -- an item keeps its value
  pub apart_changed : (f : A → A) (xs : List A) (at : ℕ) → ((x : A) → slice_get xs at ≡ Some x → g (f x) ≡ g x) → Apart xs → Apart (change_at f xs at)
  apart_changed f [] at same apart = tt
  apart_changed f (x ∷ xs) zero same apart =
      (all_weaker (λ y. g x ≢ g y) (λ y. g (f x) ≢ g y) (λ y differs e. differs (sym (same x refl) ∙ e)) xs apart.0, apart.1)
  apart_changed f (x ∷ xs) (suc at) same apart =
      (all_changed (λ y. g x ≢ g y) f xs at (λ y there differs e. differs (e ∙ same y there)) apart.0, apart_changed f xs at same apart.1)

  -- an item gets a value that no other has
  pub apart_renamed : (f : A → A) (new : B) (xs : List A) (at : ℕ) → ((x : A) → slice_get xs at ≡ Some x → g (f x) ≡ new) → AllByRecursion (λ y. g y ≢ new) xs → Apart xs → Apart (change_at f xs at)
  apart_renamed f new [] at gets free apart = tt
  apart_renamed f new (x ∷ xs) zero gets free apart =
      (all_weaker (λ y. g y ≢ new) (λ y. g (f x) ≢ g y) (λ y differs e. differs (sym e ∙ gets x refl)) xs free.1, apart.1)
  apart_renamed f new (x ∷ xs) (suc at) gets free apart =
      (all_changed (λ y. g x ≢ g y) f xs at (λ y there differs e. free.0 (e ∙ gets y there)) apart.0, apart_renamed f new xs at gets free.1 apart.1)

  all_inserted : (P : A → Type 0) (xs : List A) (at : ℕ) (x : A) → AllByRecursion P xs → P x → AllByRecursion P (insert xs at x)
  all_inserted P [] zero x all here = (here, tt)
  all_inserted P [] (suc at) x all here = (here, tt)
  all_inserted P (y ∷ ys) zero x all here = (here, all)
  all_inserted P (y ∷ ys) (suc at) x all here = (all.0, all_inserted P ys at x all.1 here)

  pub apart_inserted : (xs : List A) (at : ℕ) (x : A) → AllByRecursion (λ y. g y ≢ g x) xs → Apart xs → Apart (insert xs at x)
  apart_inserted [] zero x new apart = (tt, tt)
  apart_inserted [] (suc at) x new apart = (tt, tt)
  apart_inserted (y ∷ ys) zero x new apart = (all_weaker (λ z. g z ≢ g x) (λ z. g x ≢ g z) (λ z differs e. differs (sym e)) (y ∷ ys) new, apart)
  apart_inserted (y ∷ ys) (suc at) x new apart = (all_inserted (λ z. g y ≢ g z) ys at x apart.0 new.0, apart_inserted ys at x new.1 apart.1)

  -- the values themselves are apart
  pub values_apart : (xs : List A) → Apart xs → are_apart (map g xs)
  values_apart [] apart = tt
  values_apart (x ∷ xs) apart = (all_mapped (λ y. g x ≢ g y) (λ value. g x ≢ value) g (λ y differs. differs) xs apart.0, values_apart xs apart.1)

  pub apart_by_values : (xs : List A) → are_apart (map g xs) → Apart xs
  apart_by_values [] apart = tt
  apart_by_values (x ∷ xs) apart = (all_of_mapped (λ value. g x ≢ value) g xs apart.0, apart_by_values xs apart.1)

pub same_length : {A : Type 0} (f : A → A) (xs : List A) (at : ℕ) → length (change_at f xs at) ≡ length xs
same_length f [] at = refl
same_length f (x ∷ xs) zero = refl
same_length f (x ∷ xs) (suc at) = ap suc (same_length f xs at)

pub no_longer : {A : Type 0} (xs : List A) (at : ℕ) → length (remove xs at) ≤ length xs
no_longer [] zero = omega arith
no_longer [] (suc at) = omega arith
no_longer (x ∷ xs) zero = omega arith
no_longer (x ∷ xs) (suc at) = let fewer : length (remove xs at) ≤ length xs = no_longer xs at in omega arith

-- where no place is found, no item passes
pub none_passes : {A : Type 0} (p : A → Bool) (xs : List A) → position p xs ≡ None → AllByRecursion (λ x. p x ≡ false) xs
none_passes p xs none =
    recursion_from_All (λ x. p x ≡ false) xs (λ k d within. fails_before_first p xs k d (by_test (nat_lt (position_or_len p xs) (length xs)) refl none k within)) where
      by_test : (b : Bool) → nat_lt (position_or_len p xs) (length xs) ≡ b → cond b (Some (position_or_len p xs)) None ≡ None → (k : ℕ) → k < length xs → k < position_or_len p xs
      by_test true is e k within = absurd (cc)
      by_test false is e k within = let past : length xs ≤ position_or_len p xs = grind (arith, is) in omega arith

got : {A : Type 0} (xs : List A) (at : ℕ) (x d : A) → slice_get xs at ≡ Some x → get_or xs at d ≡ x
got [] at x d there = absurd (cc)
got (y ∷ ys) zero x d there = same_Some y x there
got (y ∷ ys) (suc at) x d there = got ys at x d there

-- what stands at the place that is found passes
pub found_passes : {A : Type 0} (p : A → Bool) (xs : List A) (at : ℕ) (x : A) → position p xs ≡ Some at → slice_get xs at ≡ Some x → p x ≡ true
found_passes p xs at x found there = subst (λ y. p y ≡ true) (got xs at x x there) (position-Some p xs at x found).1
