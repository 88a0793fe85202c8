-- Where the last slash of a path stands, and what parts make with slashes between them.
use Rattle.std.proofs.Common.{◌≡◌, ◌≢◌, ◌<◌, ◌==◌, ℕ, zero, suc, true, false, List, [], ◌∷◌, ◌++◌, length, take, get_or, refl, sym, ap, arith, append-nil, append_assoc}
use Rattle.std.specs.List.{list_any, join_with_byte}
use Rattle.sq_config.specs.Paths.{folder_of}

-- a path without a slash
lacks : (bs : List ℕ) → ((i : ℕ) → i < length bs → get_or bs i 0 ≢ 47) → list_any (λ c. c == 47) bs ≡ false
lacks [] none = refl
lacks (b ∷ bs) none =
    let here : b ≢ 47 = none 0 (omega arith) in
    let later : list_any (λ c. c == 47) bs ≡ false = lacks bs (λ i h. none (suc i) (omega arith)) in
    grind (arith, later)

-- a path with a slash
holds : (bs : List ℕ) (k : ℕ) → k < length bs → get_or bs k 0 ≡ 47 → list_any (λ c. c == 47) bs ≡ true
holds [] k within is = absurd (omega arith)
holds (b ∷ bs) zero within is = grind arith
holds (b ∷ bs) (suc k) within is =
    let later : list_any (λ c. c == 47) bs ≡ true = holds bs k (omega arith) is in
    grind (arith, later)

pub folder_of-none : (bs : List ℕ) → ((i : ℕ) → i < length bs → get_or bs i 0 ≢ 47) → folder_of bs ≡ []
folder_of-none [] none = refl
folder_of-none (b ∷ bs) none = rw (lacks (b ∷ bs) none) refl

pub folder_of-last : (bs : List ℕ) (k : ℕ) → k < length bs → get_or bs k 0 ≡ 47 → ((i : ℕ) → k < i → i < length bs → get_or bs i 0 ≢ 47) → folder_of bs ≡ take (suc k) bs
folder_of-last [] k within is none = absurd (omega arith)
folder_of-last (b ∷ bs) zero within is none = rw (holds (b ∷ bs) 0 within is) (ap (λ (f : List ℕ). b ∷ f) (folder_of-none bs (λ i h. none (suc i) (omega arith) (omega arith))))
folder_of-last (b ∷ bs) (suc k) within is none = rw (holds (b ∷ bs) (suc k) within is) (ap (λ (f : List ℕ). b ∷ f) (folder_of-last bs k (omega arith) is (λ i h w. none (suc i) (omega arith) (omega arith))))

-- parts, each behind a slash
abbrev pub slashed : List (List ℕ) → List ℕ
slashed [] = []
slashed (part ∷ parts) = (47 ∷ part) ++ slashed parts

pub joined_slashed : (part : List ℕ) (parts : List (List ℕ)) → join_with_byte 47 (part ∷ parts) ≡ part ++ slashed parts
joined_slashed part [] = sym (append-nil part)
joined_slashed part (next ∷ parts) = ap (λ (t : List ℕ). part ++ (47 ∷ t)) (joined_slashed next parts)

pub starts_joined : (text folder first : List ℕ) (rest : List (List ℕ)) → text ≡ folder ++ first → text ++ slashed rest ≡ folder ++ join_with_byte 47 (first ∷ rest)
starts_joined text folder first rest is = rw (is, joined_slashed first rest) (append_assoc folder first (slashed rest))
