-- Steps over a list, as a loop takes them.
use Rattle.std.proofs.Common.{◌≡◌, ◌<◌, ℕ, ◌+◌, List, [], ◌∷◌, ◌++◌, length, take, drop, get_or, refl, sym, ◌∙◌, ap, subst, arith, add-one, drop-cons, take-append-drop}
use Rattle.std.proofs.lemmas.List.{length-take-le, take_more}
use Rattle.sq_plan.specs.Each.{Each, StopsAt}

-- one more step at the end
pub each_then : {S X : Type 0} (Step : X → S → S → Type 0) (xs : List X) (x : X) (old mid new : S) → Each Step xs old mid → Step x mid new → Each Step (xs ++ x ∷ []) old new
each_then Step [] x old mid new same step = (new, subst (λ s. Step x s new) same step, refl)
each_then Step (y ∷ xs) x old mid new steps step = (steps.0, steps.1, each_then Step xs x steps.0 mid new steps.2 step)

-- a list at one of its places
split_at : {X : Type 0} (xs : List X) (at : ℕ) (x : X) → at < length xs → x ≡ get_or xs at x → xs ≡ take at xs ++ x ∷ drop (at + 1) xs
split_at xs at x within is = sym (take-append-drop at xs) ∙ ap (λ rest. take at xs ++ rest) (drop-cons xs at x within ∙ (λ i. sym is i ∷ drop (sym (add-one at) i) xs))

module _ {S X : Type 0} (Step : X → S → S → Type 0) (xs : List X) (at : ℕ) (x : X) (old mid new : S) (within : at < length xs) (is : x ≡ get_or xs at x) (steps : Each Step (take at xs) old mid) where
  -- a loop's turn at the place at
  pub each_more : Step x mid new → Each Step (take (at + 1) xs) old new
  each_more step = subst (λ (l : List X). Each Step l old new) (ap (λ (y : X). take at xs ++ y ∷ []) is ∙ sym (take_more xs at x within)) (each_then Step (take at xs) x old mid new steps step)

  -- a loop that ends at the place at
  pub each_stops : (Last : X → S → S → Type 0) → Last x mid new → StopsAt Step Last xs at old new
  each_stops Last last = record {
    before = take at xs;
    item = x;
    left = drop (at + 1) xs;
    mid = mid;
    split = split_at xs at x within is;
    place = sym (length-take-le at xs (omega arith));
    steps = steps;
    last = last;
  }
