-- One turn over names, with those that were seen.
use Rattle.std.proofs.Common.{◌≡◌, ◌<◌, ◌≤◌, ◌+◌, ℕ, suc, Bool, true, false, not, ◌||◌, cond, List, [], ◌∷◌, length, drop, get_or, Bor, refl, sym, ◌∙◌, ap, add-one, drop-cons}
use Rattle.std.specs.BTreeSet.{BTreeSet, contains_by, Updates}
use Rattle.std.specs.Cmp.Lexicographic.{slice_cmp}
use Rattle.std.specs.Ordering.{nat_cmp}
use Rattle.std.specs.List.{list_any}
use Rattle.std.specs.Prelude.{bytes_eq}
use Rattle.std.proofs.lemmas.List.{at_drop_all}
use Rattle.std.proofs.lemmas.Map.Text.{is_eq-slice_cmp}
use Rattle.sq_shown.specs.Lines.{Text}
use Rattle.sq_shown.specs.Names.{has_equal}

-- whether a name is among those that were seen
abbrev pub is_among : List Text → Text → Bool
is_among seen name = list_any (λ other. bytes_eq other name) seen

-- whether a name is one that was seen, or one before it
abbrev pub has_seen : List Text → List Text → Bool
has_seen seen [] = false
has_seen seen (name ∷ names) = is_among seen name || has_seen (name ∷ seen) names

any_of_two : (p q : Text → Bool) (names : List Text) → list_any (λ name. p name || q name) names ≡ (list_any p names || list_any q names)
any_of_two p q [] = refl
any_of_two p q (name ∷ names) = ap (λ (t : Bool). (p name || q name) || t) (any_of_two p q names) ∙ in_order (p name) (q name) (list_any p names) (list_any q names)
  where
    in_order : (a b c d : Bool) → ((a || b) || (c || d)) ≡ ((a || c) || (b || d))
    in_order true b c d = refl
    in_order false true true d = refl
    in_order false true false d = refl
    in_order false false c d = refl

any_of_none : (names : List Text) → list_any (is_among []) names ≡ false
any_of_none [] = refl
any_of_none (name ∷ names) = any_of_none names

split : (seen names : List Text) → has_seen seen names ≡ (list_any (is_among seen) names || has_equal names)
split seen [] = refl
split seen (name ∷ names) =
    ap (λ (t : Bool). is_among seen name || t) (split (name ∷ seen) names ∙ ap (λ (t : Bool). t || has_equal names) (any_of_two (bytes_eq name) (is_among seen) names))
    ∙ in_order (is_among seen name) (list_any (bytes_eq name) names) (list_any (is_among seen) names) (has_equal names)
  where
    in_order : (a p q h : Bool) → (a || ((p || q) || h)) ≡ ((a || q) || (p || h))
    in_order true p q h = refl
    in_order false true true h = refl
    in_order false true false h = refl
    in_order false false true h = refl
    in_order false false false h = refl

-- where nothing was seen before
pub none_seen : (names : List Text) → has_seen [] names ≡ has_equal names
none_seen names = split [] names ∙ ap (λ (t : Bool). t || has_equal names) (any_of_none names)

turn : (names : List Text) (i : ℕ) (name : Text) → i < length names → name ≡ get_or names i name → drop i names ≡ name ∷ drop (i + 1) names
turn names i name within is =
    let first : drop i names ≡ get_or names i name ∷ drop (suc i) names = drop-cons names i name within in
    rw (add-one, first, ← is) refl

pub found : (seen names : List Text) (i : ℕ) (name : Text) → i < length names → name ≡ get_or names i name → is_among seen name ≡ true → has_seen seen (drop i names) ≡ true
found seen names i name within is there = rw (turn names i name within is, there) refl

pub passed : (seen names : List Text) (i : ℕ) (name : Text) → i < length names → name ≡ get_or names i name → is_among seen name ≡ false → has_seen seen (drop i names) ≡ has_seen (name ∷ seen) (drop (i + 1) names)
passed seen names i name within is new = rw (turn names i name within is, new) refl

pub none_left : (seen names : List Text) (i : ℕ) → length names ≤ i → has_seen seen (drop i names) ≡ false
none_left seen names i behind = at_drop_all (has_seen seen) names i behind

either : (a b : Bool) → cond a true b ≡ (a || b)
either true b = refl
either false b = refl

not_new : (new had : Bool) → new ≡ not had → new ≡ false → had ≡ true
not_new new true is old = refl
not_new new false is old = cc

was_new : (new had : Bool) → new ≡ not had → new ≡ true → had ≡ false
was_new new true is fresh = cc
was_new new false is fresh = refl

-- whether a set has a name
abbrev pub has : BTreeSet (Bor Text) → Text → Bool
has set name = contains_by (λ key. slice_cmp nat_cmp name key.now) set

pub seen_more : (set more : BTreeSet (Bor Text)) (key : Bor Text) (name : Text) (seen : List Text) → key.now ≡ name → Updates (λ x y. slice_cmp nat_cmp x.now y.now) set more key true
    → ((other : Text) → has set other ≡ is_among seen other) → (other : Text) → has more other ≡ is_among (name ∷ seen) other
seen_more set more key name seen named updates before other =
    let asked : Bor Text = record key { now = other } in
    updates.0 asked ∙ rw (is_eq-slice_cmp key.now other, named, before other) (either (bytes_eq name other) (is_among seen other))

pub was_seen : (set : BTreeSet (Bor Text)) (key name : Text) (seen : List Text) (new : Bool) → key ≡ name → ((other : Text) → has set other ≡ is_among seen other) → new ≡ not (has set key) → new ≡ false → is_among seen name ≡ true
was_seen set key name seen new named before added old = sym (before name) ∙ rw (← named) (not_new new (has set key) added old)

pub was_unseen : (set : BTreeSet (Bor Text)) (key name : Text) (seen : List Text) (new : Bool) → key ≡ name → ((other : Text) → has set other ≡ is_among seen other) → new ≡ not (has set key) → new ≡ true → is_among seen name ≡ false
was_unseen set key name seen new named before added fresh = sym (before name) ∙ rw (← named) (was_new new (has set key) added fresh)
