-- One turn over the outputs of a configuration, with the paths that were seen.
use Rattle.std.proofs.Common.{◌≡◌, ◌<◌, ◌+◌, ℕ, suc, Bool, true, false, not, ◌||◌, cond, List, ◌∷◌, length, drop, map, get_or, Some, Bor, refl, sym, ◌∙◌, add-one, drop-cons}
use Rattle.std.specs.BTreeSet.{BTreeSet, contains_by, Updates}
use Rattle.std.specs.Cmp.Lexicographic.{slice_cmp}
use Rattle.std.specs.Ordering.{nat_cmp}
use Rattle.std.specs.List.{list_any}
use Rattle.std.specs.Str.{bytes_eq}
use Rattle.std.proofs.lemmas.Map.Text.{is_eq-slice_cmp}
use Rattle.sq_config.specs.declared.configuration.Entry.{Entry}
use Rattle.sq_config.specs.Outs.{same_out_after}

turn : (xs : List (Bor Entry)) (i : ℕ) (x : Bor Entry) → i < length xs → x ≡ get_or xs i x → map (λ e. e.now) (drop i xs) ≡ x.now ∷ map (λ e. e.now) (drop (i + 1) xs)
turn xs i x within is =
    let first : drop i xs ≡ get_or xs i x ∷ drop (suc i) xs = drop-cons xs i x within in
    rw (add-one, first, ← is) refl

pub found : (paths : List (List ℕ)) (xs : List (Bor Entry)) (i : ℕ) (x : Bor Entry) → i < length xs → x ≡ get_or xs i x → list_any (λ path. bytes_eq path x.now.path) paths ≡ true → same_out_after paths (map (λ e. e.now) (drop i xs)) ≡ Some x.now.key
found paths xs i x within is seen = rw (turn xs i x within is, seen) refl

pub passed : (paths : List (List ℕ)) (xs : List (Bor Entry)) (i : ℕ) (x : Bor Entry) → i < length xs → x ≡ get_or xs i x → list_any (λ path. bytes_eq path x.now.path) paths ≡ false → same_out_after paths (map (λ e. e.now) (drop i xs)) ≡ same_out_after (x.now.path ∷ paths) (map (λ e. e.now) (drop (i + 1) xs))
passed paths xs i x within is unseen = rw (turn xs i x within is, unseen) refl

either : (a b : Bool) → cond a true b ≡ (a || b)
either true b = refl
either false b = refl

not_new : (new had : Bool) → new ≡ not had → new ≡ false → had ≡ true
not_new new true is old = refl
not_new new false is old = cc

was_new : (new had : Bool) → new ≡ not had → new ≡ true → had ≡ false
was_new new true is fresh = cc
was_new new false is fresh = refl

-- whether a set of texts has a text
abbrev pub has : BTreeSet (Bor (List ℕ)) → List ℕ → Bool
has seen q = contains_by (λ k. slice_cmp nat_cmp q k.now) seen

pub seen_more : (seen more : BTreeSet (Bor (List ℕ))) (key : Bor (List ℕ)) (path : List ℕ) (paths : List (List ℕ)) → key.now ≡ path → Updates (λ x y. slice_cmp nat_cmp x.now y.now) seen more key true → ((q : List ℕ) → has seen q ≡ list_any (λ path. bytes_eq path q) paths) → (q : List ℕ) → has more q ≡ list_any (λ path. bytes_eq path q) (path ∷ paths)
seen_more seen more key path paths named updates before q =
    let asked : Bor (List ℕ) = record key { now = q } in
    updates.0 asked ∙ rw (is_eq-slice_cmp key.now q, named, before q) (either (bytes_eq path q) (list_any (λ path. bytes_eq path q) paths))

pub was_seen : (seen : BTreeSet (Bor (List ℕ))) (path : List ℕ) (key : List ℕ) (paths : List (List ℕ)) (new : Bool) → key ≡ path → ((q : List ℕ) → has seen q ≡ list_any (λ path. bytes_eq path q) paths) → new ≡ not (has seen key) → new ≡ false → list_any (λ other. bytes_eq other path) paths ≡ true
was_seen seen path key paths new named before added old = sym (before path) ∙ rw (← named) (not_new new (has seen key) added old)

pub was_unseen : (seen : BTreeSet (Bor (List ℕ))) (path : List ℕ) (key : List ℕ) (paths : List (List ℕ)) (new : Bool) → key ≡ path → ((q : List ℕ) → has seen q ≡ list_any (λ path. bytes_eq path q) paths) → new ≡ not (has seen key) → new ≡ true → list_any (λ other. bytes_eq other path) paths ≡ false
was_unseen seen path key paths new named before added fresh = sym (before path) ∙ rw (← named) (was_new new (has seen key) added fresh)
