-- Each entry of the table can be picked.
use Rattle.std.proofs.Common.{◌≡◌, ℕ, zero, suc, ◌&&◌, ◌||◌, ◌==◌, Bool, true, false, if◌then◌else◌, List, [], ◌∷◌, map, length, filter, Option, Some, None, slice_get, refl, sym, ap, subst, ◌∙◌}
use Rattle.std.proofs.lemmas.Bool.{eq-eqb}
use Rattle.std.proofs.lemmas.Option.{same_Some}
use Rattle.std.specs.List.{list_all, list_any}
use Rattle.std.specs.Prelude.{bytes_eq}
use Rattle.sq_builtin.specs.Entries.{Entry}
use Rattle.sq_builtin.specs.Functions.{none, one, two, three, four, five, six, seven, eight, ten, twelve, fourteen, sixteen}
use Rattle.sq_builtin.specs.Operators.{operators}
use Rattle.sq_builtin.specs.Rows.{has_name_and_count, table}
use Rattle.sq_core.specs.Possible.{EveryRowIsPossible, element, picked, taken}
use Rattle.sq_core.specs.Routines.{is_aggregate, is_entry, is_routine}
use Rattle.sq_core.proofs.TypeLemmas.{and_left, and_right, both_true, or_left, or_right}

-- whether an entry is one over the types that it is picked with
abbrev is_possible : Entry → Bool
is_possible entry = is_entry (is_aggregate entry.kind) (picked entry) entry

all_possible : list_all is_possible table ≡ true
unfolding table operators none one two three four five six seven eight ten twelve fourteen sixteen
all_possible = refl

all_at : {A : Type 0} (test : A → Bool) (xs : List A) (place : ℕ) (x : A) → list_all test xs ≡ true → slice_get xs place ≡ Some x → test x ≡ true
all_at test [] place x all there = cc
all_at test (y ∷ ys) zero x all there = subst (λ z. test z ≡ true) (same_Some _ _ there) (and_left _ _ all)
all_at test (y ∷ ys) (suc place) x all there = all_at test ys place x (and_right (test y) _ all) there

any_filtered : {A : Type 0} (test keep : A → Bool) (xs : List A) (place : ℕ) (x : A) → slice_get xs place ≡ Some x → keep x ≡ true → test x ≡ true → list_any test (filter keep xs) ≡ true
any_filtered test keep [] place x there kept is = cc
any_filtered test keep (y ∷ ys) zero x there kept is = here (keep y) (subst (λ z. keep z ≡ true) (sym (same_Some _ _ there)) kept)
  where
    here : (b : Bool) → b ≡ true → list_any test (if b then y ∷ filter keep ys else filter keep ys) ≡ true
    here true chosen = or_left (test y) _ (subst (λ z. test z ≡ true) (sym (same_Some _ _ there)) is)
    here false chosen = absurd (cc chosen)
any_filtered test keep (y ∷ ys) (suc place) x there kept is = tested (keep y) (any_filtered test keep ys place x there kept is)
  where
    tested : (b : Bool) → list_any test (filter keep ys) ≡ true → list_any test (if b then y ∷ filter keep ys else filter keep ys) ≡ true
    tested true later = or_right (test y) _ later
    tested false later = later

bytes_eq-same : (xs : List ℕ) → bytes_eq xs xs ≡ true
bytes_eq-same [] = refl
bytes_eq-same (x ∷ xs) = rw (eq-eqb x x refl, bytes_eq-same xs)

as_long : {A B : Type 0} (f : A → B) (xs : List A) → length xs ≡ length (map f xs)
as_long f [] = refl
as_long f (x ∷ xs) = ap suc (as_long f xs)

same_length : {A B : Type 0} (f : A → B) (xs : List A) → (length xs == length (map f xs)) ≡ true
same_length f xs = eq-eqb _ _ (as_long f xs)

pub every_row : EveryRowIsPossible
unfolding is_routine
every_row place entry there =
    any_filtered (is_entry (is_aggregate entry.kind) (picked entry)) (has_name_and_count entry.name (length (picked entry).given)) table place entry there
    (both_true _ _ (bytes_eq-same entry.name) (same_length (taken (element entry)) entry.inputs))
    (all_at is_possible table place entry all_possible there)
