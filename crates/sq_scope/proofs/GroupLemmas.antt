-- One more occurrence among those of each parameter.
use Rattle.std.proofs.Common.{◌≡◌, ◌<◌, ◌≤◌, ◌+◌, ◌-◌, ◌==◌, ◌++◌, ℕ, suc, zero, Bool, true, false, List, [], ◌∷◌, if◌then◌else◌, length, get_or, set, refl, sym, ap, subst, ◌∙◌, arith, add-one, rules}
use Rattle.sq_scope.specs.declared.demands.Demand.{Demand}
use Rattle.sq_scope.specs.Demands.{groups_from, of_number}

-- one of another number
other : (n : ℕ) (front : List Demand) (d : Demand) → (d.number == n) ≡ false → of_number n front ≡ of_number n (front ++ d ∷ [])
other n [] d differs = sym (ap (λ b. if b then d ∷ [] else []) differs)
other n (x ∷ xs) d differs = ap (λ rest. if x.number == n then x ∷ rest else rest) (other n xs d differs)

pushed : (b : Bool) (x d : Demand) (ys zs : List Demand) → ys ++ d ∷ [] ≡ zs → (if b then x ∷ ys else ys) ++ d ∷ [] ≡ (if b then x ∷ zs else zs)
pushed true x d ys zs same = ap (λ rest. x ∷ rest) same
pushed false x d ys zs same = same

-- one of this number
own : (n : ℕ) (front : List Demand) (d : Demand) → (d.number == n) ≡ true → of_number n front ++ d ∷ [] ≡ of_number n (front ++ d ∷ [])
own n [] d same_number = sym (ap (λ b. if b then d ∷ [] else []) same_number)
own n (x ∷ xs) d same_number = pushed (x.number == n) x d (of_number n xs) (of_number n (xs ++ d ∷ [])) (own n xs d same_number)

-- an occurrence before the first number, and one behind the last, is in no group
pub before_all : (front : List Demand) (d : Demand) (number more : ℕ) → d.number < number → groups_from number more front ≡ groups_from number more (front ++ d ∷ [])
before_all front d number zero below = refl
before_all front d number (suc more) below =
    let differs : (d.number == number) ≡ false = grind (arith) in
    ap (λ group. group ∷ groups_from (number + 1) more front) (other number front d differs)
    ∙ ap (λ groups. of_number number (front ++ d ∷ []) ∷ groups) (before_all front d (number + 1) more (omega arith))

pub behind_all : (front : List Demand) (d : Demand) (number more : ℕ) → number + more ≤ d.number → groups_from number more front ≡ groups_from number more (front ++ d ∷ [])
behind_all front d number zero above = refl
behind_all front d number (suc more) above =
    let differs : (d.number == number) ≡ false = grind (arith) in
    ap (λ group. group ∷ groups_from (number + 1) more front) (other number front d differs)
    ∙ ap (λ groups. of_number number (front ++ d ∷ []) ∷ groups) (behind_all front d (number + 1) more (omega arith))

-- an occurrence goes to the group of its number
pub put_at : (front : List Demand) (d : Demand) (number more i : ℕ) (x : List Demand) → number + i ≡ d.number → i < more → x ≡ get_or (groups_from number more front) i x
    → set (groups_from number more front) i (x ++ d ∷ []) ≡ groups_from number more (front ++ d ∷ [])
put_at front d number zero i x at within is = absurd (omega arith)
put_at front d number (suc more) zero x at within is =
    let same_number : (d.number == number) ≡ true = grind (arith) in
    ap (λ y. (y ++ d ∷ []) ∷ groups_from (number + 1) more front) is
    ∙ ap (λ group. group ∷ groups_from (number + 1) more front) (own number front d same_number)
    ∙ ap (λ groups. of_number number (front ++ d ∷ []) ∷ groups) (before_all front d (number + 1) more (omega arith))
put_at front d number (suc more) (suc i) x at within is =
    let differs : (d.number == number) ≡ false = grind (arith) in
    ap (λ group. group ∷ set (groups_from (number + 1) more front) i (x ++ d ∷ [])) (other number front d differs)
    ∙ ap (λ groups. of_number number (front ++ d ∷ []) ∷ groups) (put_at front d (number + 1) more i x (omega arith) (omega arith) is)

-- as many groups as numbers
pub groups_length : (number more : ℕ) (demands : List Demand) → length (groups_from number more demands) ≡ more
groups_length number zero demands = refl
groups_length number (suc more) demands = let rest : length (groups_from (number + 1) more demands) ≡ more = groups_length (number + 1) more demands in omega (arith, rest)

-- the same of groups that are known
pub put_none : (made : List (List Demand)) (most : ℕ) (front : List Demand) (d : Demand) → d.number ≡ 0 → made ≡ groups_from 1 most front → made ≡ groups_from 1 most (front ++ d ∷ [])
put_none made most front d none is = is ∙ before_all front d 1 most (omega arith)

pub put_above : (made : List (List Demand)) (most : ℕ) (front : List Demand) (d : Demand) → length made < d.number → made ≡ groups_from 1 most front → made ≡ groups_from 1 most (front ++ d ∷ [])
put_above made most front d above is =
    let long : length made ≡ most = ap length is ∙ groups_length 1 most front in
    is ∙ behind_all front d 1 most (omega (arith, long))

pub put_within : (made : List (List Demand)) (most : ℕ) (front : List Demand) (d : Demand) (x : List Demand) → 0 < d.number → d.number ≤ length made → x ≡ get_or made (d.number - 1) x → made ≡ groups_from 1 most front
    → set made (d.number - 1) (x ++ d ∷ []) ≡ groups_from 1 most (front ++ d ∷ [])
put_within made most front d x some below at is =
    let long : length made ≡ most = ap length is ∙ groups_length 1 most front in
    ap (λ groups. set groups (d.number - 1) (x ++ d ∷ [])) is
    ∙ put_at front d 1 most (d.number - 1) x (omega arith) (omega (arith, long)) (at ∙ ap (λ groups. get_or groups (d.number - 1) x) is)

pub groups_few : (most : ℕ) (demands : List Demand) (made : List (List Demand)) → most < 4294967296 → made ≡ groups_from 1 most demands → length made ≤ 4294967295
groups_few most demands made few is =
    let long : length made ≡ most = ap length is ∙ groups_length 1 most demands in
    omega (arith, long)

-- one more empty group
one_more : (number more : ℕ) → groups_from number more [] ++ [] ∷ [] ≡ groups_from number (suc more) []
one_more number zero = refl
one_more number (suc more) = ap (λ groups. [] ∷ groups) (one_more (number + 1) more)

pub no_group : (more : ℕ) → groups_from 1 (more + 1) [] ≡ groups_from 1 more [] ++ [] ∷ []
no_group more = ap (λ n. groups_from 1 n []) (add-one more) ∙ sym (one_more 1 more)

pub ruleset put_rules = (put_none, put_above, put_within)
