-- Writing at a place is a change at this place, and so is going over a list from its front.
use Rattle.std.proofs.Common.{◌≡◌, ◌<◌, ◌≤◌, ◌+◌, ℕ, suc, zero, List, [], ◌∷◌, length, get_or, set, take, drop, ◌++◌, map, refl, sym, ap, subst, ◌∙◌, arith, add-one}
use Rattle.sq_catalog.specs.declared.table.Column.{Column}
use Rattle.sq_catalog.specs.declared.table.Table.{Table}
use Rattle.sq_catalog.specs.Columns.{change_at, with_column_at}

pub written : {A : Type 0} (f : A → A) (xs : List A) (at : ℕ) (x : A) → at < length xs → x ≡ get_or xs at x → change_at f xs at ≡ set xs at (f x)
written f [] at x within is = absurd (omega arith)
written f (y ∷ xs) zero x within is = ap (λ z. f z ∷ xs) (sym is)
written f (y ∷ xs) (suc at) x within is = ap (λ ys. y ∷ ys) (written f xs at x (omega arith) is)

-- behind the end there is nothing to change
pub past : {A : Type 0} (f : A → A) (xs : List A) (at : ℕ) → length xs ≤ at → change_at f xs at ≡ xs
past f [] at behind = refl
past f (y ∷ xs) zero behind = absurd (omega arith)
past f (y ∷ xs) (suc at) behind = ap (λ ys. y ∷ ys) (past f xs at (omega arith))

-- a table whose columns were taken out, changed at a place and put back
pub put_back : (f : Column → Column) (table left : Table) (items columns : List Column) (at : ℕ) (x : Column)
    → items ≡ table.columns → left ≡ record table { columns = [] } → at < length table.columns → x ≡ get_or items at x → columns ≡ set items at (f x)
    → record left { columns = columns } ≡ with_column_at f table at
put_back f table left items columns at x taken without within is put =
    let within_items : at < length items = rw taken within in
    let changed : columns ≡ change_at f items at = put ∙ sym (written f items at x within_items is) in
    rw (without, changed, taken)

-- a list whose first items are changed
pub first_changed : {A : Type 0} → (A → A) → ℕ → List A → List A
first_changed f zero xs = xs
first_changed f (suc n) [] = []
first_changed f (suc n) (x ∷ xs) = f x ∷ first_changed f n xs

pub one_more : {A : Type 0} (f : A → A) (n : ℕ) (xs : List A) → change_at f (first_changed f n xs) n ≡ first_changed f (suc n) xs
unfolding first_changed
one_more f zero [] = refl
one_more f zero (x ∷ xs) = refl
one_more f (suc n) [] = refl
one_more f (suc n) (x ∷ xs) = ap (λ ys. f x ∷ ys) (one_more f n xs)

pub all_changed : {A : Type 0} (f : A → A) (n : ℕ) (xs : List A) → length xs ≤ n → first_changed f n xs ≡ map f xs
unfolding first_changed
all_changed f zero [] there = refl
all_changed f (suc n) [] there = refl
all_changed f zero (x ∷ xs) there = absurd (omega arith)
all_changed f (suc n) (x ∷ xs) there = ap (λ ys. f x ∷ ys) (all_changed f n xs (omega arith))

pub none_changed : {A : Type 0} (f : A → A) (xs : List A) → first_changed f 0 xs ≡ xs
unfolding first_changed
none_changed f xs = refl

pub same_length : {A : Type 0} (f : A → A) (n : ℕ) (xs : List A) → length (first_changed f n xs) ≡ length xs
unfolding first_changed
same_length f zero xs = refl
same_length f (suc n) [] = refl
same_length f (suc n) (x ∷ xs) = ap suc (same_length f n xs)

written_or : {A : Type 0} (f : A → A) (xs : List A) (at : ℕ) (d : A) → at < length xs → change_at f xs at ≡ set xs at (f (get_or xs at d))
written_or f [] at d within = absurd (omega arith)
written_or f (y ∷ xs) zero d within = refl
written_or f (y ∷ xs) (suc at) d within = ap (λ ys. y ∷ ys) (written_or f xs at d (omega arith))

-- the next item of a list of numbers is changed
pub next_changed : (f : ℕ → ℕ) (items xs : List ℕ) (n y : ℕ) → items ≡ first_changed f n xs → n < length items → y ≡ f (get_or items n 0) → set items n y ≡ first_changed f (n + 1) xs
next_changed f items xs n y same within is =
    rw (add-one, is) (sym (written_or f items n 0 within) ∙ ap (λ ys. change_at f ys n) same ∙ one_more f n xs)

-- all items are changed
pub whole_changed : {A : Type 0} (f : A → A) (items xs : List A) (n : ℕ) → items ≡ first_changed f n xs → length items ≤ n → items ≡ map f xs
whole_changed f items xs n same there =
    let sizes : length items ≡ length xs = ap length same ∙ same_length f n xs in
    same ∙ all_changed f n xs (omega arith)

-- what was written in place of a whole list is all that is left
all_back_for : (new old : List ℕ) → length new ≡ length old → take (length old) (new ++ drop (length new) old) ≡ new
all_back_for [] [] same = refl
all_back_for [] (y ∷ ys) same = absurd (omega arith)
all_back_for (x ∷ xs) [] same = absurd (omega arith)
all_back_for (x ∷ xs) (y ∷ ys) same = ap (λ zs. x ∷ zs) (all_back_for xs ys (omega arith))

pub all_back : (len : ℕ) (new old : List ℕ) → length new ≡ len → length old ≡ len → take len (new ++ drop (length new) old) ≡ new
all_back len new old new_len old_len =
    subst (λ n. take n (new ++ drop (length new) old) ≡ new) old_len (all_back_for new old (new_len ∙ sym old_len))

-- writing at a place, whatever stood there
pub put_there : {A : Type 0} (f : A → A) (y : A) (xs : List A) (at : ℕ) → ((x : A) → f x ≡ y) → at < length xs → change_at f xs at ≡ set xs at y
put_there f y [] at gives within = absurd (omega arith)
put_there f y (x ∷ xs) zero gives within = ap (λ z. z ∷ xs) (gives x)
put_there f y (x ∷ xs) (suc at) gives within = ap (λ ys. x ∷ ys) (put_there f y xs at gives (omega arith))

-- the next item is changed
pub next_item : {A : Type 0} (f : A → A) (items xs : List A) (n : ℕ) (x y : A) → items ≡ first_changed f n xs → n < length items → x ≡ get_or items n x → y ≡ f x → set items n y ≡ first_changed f (n + 1) xs
next_item f items xs n x y same within is made =
    rw (add-one, made) (sym (written f items n x within is) ∙ ap (λ ys. change_at f ys n) same ∙ one_more f n xs)
