-- The labels of an enumeration stay different, whatever is made of them.
use Rattle.std.proofs.Common.{◌≡◌, ◌≢◌, ◌||◌, ℕ, Bool, true, false, cond, List, [], ◌∷◌, Option, Some, None, Result, Ok, Err, IfOk, bytes_eq, refl, sym}
use Rattle.std.specs.List.{AllByRecursion}
use Rattle.sq_catalog.specs.Answers.{and_then}
use Rattle.sq_catalog.specs.UserTypes.{distinct_labels, instead, is_among, label_added, label_place, label_renamed, label_renamed_at, place_of_label, repeated_label, with_label}
use Rattle.sq_catalog.specs.Columns.{change_at}
use Rattle.sq_catalog.specs.declared.change.Beside.{Beside}
use Rattle.sq_catalog.specs.declared.change.Cause.{Cause}
use Rattle.sq_catalog.specs.declared.change.Cause.TheVariants.{Exists, Missing}
use Rattle.sq_catalog.proofs.Answered.{by_test, by_finding, by_next}
use Rattle.sq_catalog.proofs.Apart.{all_weaker, Apart, apart_inserted, apart_renamed, none_passes}
use Rattle.sq_catalog.proofs.ColumnsKept.{differ, differing, neither}

-- no two of these labels are equal
abbrev pub AreDistinct : List (List ℕ) → Type 0
AreDistinct labels = repeated_label labels ≡ None

abbrev ApartLabels : List (List ℕ) → Type 0
ApartLabels labels = Apart (λ (label : List ℕ). label) labels

no_repeats : (x : List ℕ) (xs : List (List ℕ)) → is_among x xs ≡ false → AllByRecursion (λ y. x ≢ y) xs
no_repeats x [] none = tt
no_repeats x (y ∷ ys) none =
    let both = neither (bytes_eq y x) (is_among x ys) none in
    (differ x y both.0, no_repeats x ys both.1)

not_repeated : (x : List ℕ) (xs : List (List ℕ)) → AllByRecursion (λ y. x ≢ y) xs → is_among x xs ≡ false
not_repeated x [] all = refl
not_repeated x (y ∷ ys) all = rw (differing x y all.0) (not_repeated x ys all.1)

apart_of : (labels : List (List ℕ)) → AreDistinct labels → ApartLabels labels
apart_of [] none = tt
apart_of (x ∷ xs) none =
    elim (is_among x xs) as (λ (t : Bool). is_among x xs ≡ t → cond t (Some x) (repeated_label xs) ≡ None → ApartLabels (x ∷ xs)) [
      | true ↦ λ is e. absurd (cc)
      | false ↦ λ is e. (no_repeats x xs is, apart_of xs e)
    ] refl none

distinct_of : (labels : List (List ℕ)) → ApartLabels labels → AreDistinct labels
distinct_of [] apart = refl
distinct_of (x ∷ xs) apart = rw (not_repeated x xs apart.0) (distinct_of xs apart.1)

-- the label is free
free : (labels : List (List ℕ)) (label : List ℕ) → place_of_label labels label ≡ None → AllByRecursion (λ other. other ≢ label) labels
free labels label none = all_weaker (λ other. bytes_eq other label ≡ false) (λ other. other ≢ label)
    (λ other is e. differ label other is (sym e)) labels (none_passes (λ (other : List ℕ). bytes_eq other label) labels none)

pub created_distinct : (labels : List (List ℕ)) {done : Unit {0}} → distinct_labels labels ≡ Ok done → AreDistinct labels
created_distinct labels {done} is = by_finding (λ (r : Result (Unit {0}) Cause). r ≡ Ok done → AreDistinct labels) (repeated_label labels) (Ok tt) (λ name. Err (Exists name))
    (λ e i. e) (λ name e i. absurd (cc)) is

pub added_distinct : (label : List ℕ) (if_not_exists : Bool) (beside : Beside) (labels : List (List ℕ)) → AreDistinct labels → IfOk (label_added labels label if_not_exists beside) AreDistinct
added_distinct label if_not_exists beside labels are =
    by_finding (λ (r : Result (List (List ℕ)) Cause). IfOk r AreDistinct) (place_of_label labels label) (and_then (label_place labels beside) (λ at. Ok (with_label labels at label))) (λ at. cond if_not_exists (Ok labels) (Err (Exists label)))
    (λ none. by_next AreDistinct (label_place labels beside) (λ at. Ok (with_label labels at label)) (λ at given.
    distinct_of (with_label labels at label) (apart_inserted (λ (other : List ℕ). other) labels at label (free labels label none) (apart_of labels are))))
    (λ at there. by_test (λ (r : Result (List (List ℕ)) Cause). IfOk r AreDistinct) if_not_exists (Ok labels) (Err (Exists label)) (λ passes. are) (λ fails. tt))

pub renamed_distinct : (from to : List ℕ) (labels : List (List ℕ)) → AreDistinct labels → IfOk (label_renamed labels from to) AreDistinct
renamed_distinct from to labels are =
    by_finding (λ (r : Result (List (List ℕ)) Cause). IfOk r AreDistinct) (place_of_label labels from) (Err (Missing from)) (λ at. label_renamed_at labels at to) (λ none. tt)
    (λ at there. by_finding (λ (r : Result (List (List ℕ)) Cause). IfOk r AreDistinct) (place_of_label labels to) (Ok (change_at (instead to) labels at)) (λ taken. Err (Exists to))
    (λ none. distinct_of (change_at (instead to) labels at) (apart_renamed (λ (other : List ℕ). other) (instead to) to labels at (λ other here. refl) (free labels to none) (apart_of labels are)))
    (λ taken e. tt))
