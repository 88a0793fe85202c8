-- How items that are all judged end together.
use Rattle.std.proofs.Common.{◌≡◌, ◌<◌, ◌≤◌, ℕ, ◌+◌, drop, get_or, List, [], ◌∷◌, length, Result, Ok, Err, refl, sym, ◌∙◌, subst}
use Rattle.std.proofs.Math.ListN.{drop_of_length-le}
use Rattle.sq_plan.specs.declared.halt.Finding.{Finding}
use Rattle.sq_plan.specs.declared.halt.Halt.{Halt}
use Rattle.sq_plan.specs.declared.halt.Halt.TheVariants.{Refused, Missing, Failed, Memory}
use Rattle.sq_plan.specs.Asked.{Judges, Joins, ComesTo, joined, each_judged, ended_with}
use Rattle.sq_plan.proofs.Together.{ended_together, next_item}

-- what an item came to is what it is judged to be
came_to : {A : Type 0} (r : Result (List A) Halt) (judged answer : Result (List A) (List Finding)) → Judges judged r → ComesTo r answer → answer ≡ judged
came_to (Ok value) judged answer judges comes = comes ∙ sym judges
came_to (Err (Refused findings)) judged answer judges comes = comes ∙ sym judges
came_to (Err (Missing path)) judged answer judges comes = absurd comes
came_to (Err (Failed path)) judged answer judges comes = absurd comes
came_to (Err Memory) judged answer judges comes = absurd comes

-- what is judged of two ends so
judges_both : {A : Type 0} (first rest : Result (List A) (List Finding)) (r : Result (List A) Halt) → Judges rest r → Judges (joined first rest) (ended_with first r)
judges_both (Ok a) rest (Ok value) judges = rw judges refl
judges_both (Err e) rest (Ok value) judges = rw judges refl
judges_both (Ok a) rest (Err (Refused findings)) judges = rw judges refl
judges_both (Err e) rest (Err (Refused findings)) judges = rw judges refl
judges_both first rest (Err (Missing path)) judges = absurd judges
judges_both first rest (Err (Failed path)) judges = absurd judges
judges_both (Ok a) rest (Err Memory) judges = tt
judges_both (Err e) rest (Err Memory) judges = tt

module _ {A B : Type 0} (judge : A → Result (List B) (List Finding)) (xs : List A) where
  -- what is judged before, and the items that are left, are all items
  abbrev pub Carries : List A → Result (List B) (List Finding) → Type 0
  Carries left judged = (r : Result (List B) Halt) → Judges (each_judged judge left) r → Judges (each_judged judge xs) (ended_with judged r)

  pub one_more_judged : (before : Result (List B) (List Finding)) (x : A) (left : List A) (first : Result (List B) Halt) (both : Result (List B) (List Finding)) → Carries (x ∷ left) before → Judges (judge x) first → Joins before first (Ok both) → Carries left both
  one_more_judged before x left first both goes_on judges joins r rest =
      let is = came_to first (judge x) joins.0 judges joins.1 in
      rw (joins.2, ended_together before joins.0 r) (goes_on (ended_with joins.0 r) (subst (λ (a : Result (List B) (List Finding)). Judges (joined (judge x) (each_judged judge left)) (ended_with a r)) (sym is) (judges_both (judge x) (each_judged judge left) r rest)))

  pub halted_judged : (before : Result (List B) (List Finding)) (x : A) (first : Result (List B) Halt) (halt : Halt) → Judges (judge x) first → Joins before first (Err halt) → Judges (each_judged judge xs) (Err halt)
  halted_judged before x first Memory judges joins = tt
  halted_judged before x first (Refused findings) judges joins = absurd joins
  halted_judged before x first (Missing path) judges joins = absurd (subst (Judges (judge x)) joins judges)
  halted_judged before x first (Failed path) judges joins = absurd (subst (Judges (judge x)) joins judges)

  -- the next item of a slice
  pub one_more_at : (before : Result (List B) (List Finding)) (at : ℕ) (x : A) → at < length xs → x ≡ get_or xs at x → (first : Result (List B) Halt) (both : Result (List B) (List Finding)) → Carries (drop at xs) before → Judges (judge x) first → Joins before first (Ok both) → Carries (drop (at + 1) xs) both
  one_more_at before at x within is first both goes_on judges joins =
      one_more_judged before x (drop (at + 1) xs) first both (subst (λ (left : List A). Carries left before) (next_item xs at x within is) goes_on) judges joins

  -- no item is left
  pub all_judged : (before : Result (List B) (List Finding)) → Carries [] before → Judges (each_judged judge xs) (ended_with before (Ok []))
  all_judged before goes_on = goes_on (Ok []) refl

  pub none_judged : (before : Result (List B) (List Finding)) (at : ℕ) → length xs ≤ at → Carries (drop at xs) before → Judges (each_judged judge xs) (ended_with before (Ok []))
  none_judged before at past goes_on = all_judged before (subst (λ (left : List A). Carries left before) (drop_of_length-le xs past) goes_on)
