-- What stands behind an answer that is there.
use Rattle.std.proofs.Common.{◌≡◌, ℕ, ◌+◌, List, [], ◌∷◌, ◌++◌, Option, None, Some, Result, Ok, Err, refl, sym, ap}
use Rattle.sq_plan.specs.declared.halt.Finding.{Finding}
use Rattle.std.proofs.lemmas.Option.{same_Some}
use Rattle.std.specs.List.{AllByRecursion}
use Rattle.sq_base.specs.declared.file.File.{File}
use Rattle.sq_plan.specs.Asked.{Asked, and_then, and_also, gathered, joined, each_judged}
use Rattle.sq_plan.specs.Options.{◌>>=◌}

pub bind_some : {A B : Type 0} (m : Option A) (f : A → Option B) (y : B) → (m >>= f) ≡ Some y → (x : A) × (m ≡ Some x) × (f x ≡ Some y)
bind_some None f y is = absurd (cc is)
bind_some (Some x) f y is = (x, refl, is)

by_answer : {A B : Type 0} (paths : List (List ℕ)) (answer : Option (Result A (List Finding))) (more : A → Asked B) (v : B) → (and_then (record { paths = paths; answer = answer }) more).answer ≡ Some (Ok v)
    → (x : A) × (answer ≡ Some (Ok x)) × ((more x).answer ≡ Some (Ok v))
by_answer paths None more v is = absurd (cc is)
by_answer paths (Some (Err findings)) more v is = absurd (cc is)
by_answer paths (Some (Ok x)) more v is = (x, refl, is)

-- a part and what comes after it have answered Ok
pub and_then_ok : {A B : Type 0} (first : Asked A) (more : A → Asked B) (v : B) → (and_then first more).answer ≡ Some (Ok v) → (x : A) × (first.answer ≡ Some (Ok x)) × ((more x).answer ≡ Some (Ok v))
and_then_ok first more v is = by_answer first.paths first.answer more v is

pub both_ok : {A : Type 0} (a b : Result (List A) (List Finding)) (v : List A) → joined a b ≡ Ok v → (x y : List A) × (a ≡ Ok x) × (b ≡ Ok y) × (v ≡ x ++ y)
both_ok (Ok x) (Ok y) v is = (x, y, refl, refl, cc is)
both_ok (Ok x) (Err f) v is = absurd (cc is)
both_ok (Err e) (Ok y) v is = absurd (cc is)
both_ok (Err e) (Err f) v is = absurd (cc is)

also_by : {A : Type 0} (paths : List (List ℕ)) (first : Option (Result (List A) (List Finding))) (more : Asked (List A)) (answer : Option (Result (List A) (List Finding))) (v : List A) → more.answer ≡ answer
    → (and_also (record { paths = paths; answer = first }) more).answer ≡ Some (Ok v) → (x y : List A) × (first ≡ Some (Ok x)) × (answer ≡ Some (Ok y)) × (v ≡ x ++ y)
also_by paths None more answer v there is = absurd (cc is)
also_by paths (Some a) more None v there is = absurd (cc (rw there at is))
also_by paths (Some a) more (Some b) v there is =
    let both = both_ok a b v (same_Some _ _ (rw there at is)) in
    (both.0, both.1, ap Some both.2, ap Some both.3, both.4)

-- two parts that are both asked have answered Ok
pub and_also_ok : {A : Type 0} (first more : Asked (List A)) (v : List A) → (and_also first more).answer ≡ Some (Ok v) → (x y : List A) × (first.answer ≡ Some (Ok x)) × (more.answer ≡ Some (Ok y)) × (v ≡ x ++ y)
and_also_ok first more v is = also_by first.paths first.answer more more.answer v refl is

pub no_items : {A : Type 0} (ys : List A) → ◌≡◌ {A = Result (List A) (List Finding)} (Ok []) (Ok ys) → ys ≡ []
no_items ys is = sym (cc is)

-- what each part gave, one after the other
abbrev pub Gathered : {A B : Type 0} → (ℕ → A → List File → Asked (List B)) → List File → ℕ → List A → List B → Type 0
Gathered part held n [] ys = ys ≡ []
Gathered {B = B} part held n (x ∷ xs) ys = (own later : List B) × ((part n x held).answer ≡ Some (Ok own)) × (ys ≡ own ++ later) × Gathered part held (n + 1) xs later

pub gathered_ok : {A B : Type 0} (part : ℕ → A → List File → Asked (List B)) (held : List File) (n : ℕ) (xs : List A) (ys : List B) → (gathered part n xs held).answer ≡ Some (Ok ys) → Gathered part held n xs ys
gathered_ok part held n [] ys is = no_items ys (same_Some _ _ is)
gathered_ok part held n (x ∷ xs) ys is =
    let parts = and_also_ok (part n x held) (gathered part (n + 1) xs held) ys is in
    (parts.0, parts.1, parts.2, parts.4, gathered_ok part held (n + 1) xs parts.1 parts.3)

-- what was judged of each, one after the other
abbrev pub EachOk : {A B : Type 0} → (A → Result (List B) (List Finding)) → List A → List B → Type 0
EachOk judge [] ys = ys ≡ []
EachOk {B = B} judge (x ∷ xs) ys = (own later : List B) × (judge x ≡ Ok own) × (ys ≡ own ++ later) × EachOk judge xs later

pub each_ok : {A B : Type 0} (judge : A → Result (List B) (List Finding)) (xs : List A) (ys : List B) → each_judged judge xs ≡ Ok ys → EachOk judge xs ys
each_ok judge [] ys is = no_items ys is
each_ok judge (x ∷ xs) ys is =
    let parts = both_ok (judge x) (each_judged judge xs) ys is in
    (parts.0, parts.1, parts.2, parts.4, each_ok judge xs parts.1 parts.3)

pub all_both : {X : Type 0} (P : X → Type 0) (xs ys : List X) → AllByRecursion P xs → AllByRecursion P ys → AllByRecursion P (xs ++ ys)
all_both P [] ys first second = second
all_both P (x ∷ xs) ys first second = (first.0, all_both P xs ys first.1 second)
