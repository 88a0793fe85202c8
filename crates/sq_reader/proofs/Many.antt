-- Reading one after another.
use Rattle.std.proofs.Common.{◌≡◌, ℕ, zero, suc, ◌<◌, ◌≤◌, List, [], ◌∷◌, ◌++◌, length, Some, None, refl, ap, sym, ◌∙◌, append_assoc, append-nil, arith}
use Rattle.sq_reader.specs.Parts.{Text, Part, first_and, many_from, many}

-- what stands before, and what is read then
abbrev pub with_all : {A : Type 0} → List A → List A × Text → List A × Text
with_all xs more = (xs ++ more.0, more.1)

-- what a loop keeps: what was read so far, before what the rest reads as, is what all reads as
abbrev pub IsToldOf : {A : Type 0} → (Text → Part A) → Text → List A → Text → Type 0
IsToldOf at text xs rest = (n : ℕ) × (length rest ≤ n) × (with_all xs (many_from at n rest) ≡ many at text)

pub told_none : {A : Type 0} (at : Text → Part A) (text : Text) → IsToldOf at text [] text
told_none at text = (length text, omega arith, refl)

pub told_one : {A : Type 0} (at : Text → Part A) (text : Text) (xs : List A) (x : A) (rest later : Text) → at rest ≡ Some (x, later) → length later < length rest →
    IsToldOf at text xs rest → IsToldOf at text (xs ++ x ∷ []) later
told_one {A} at text xs x rest later found shorter told = go told.0 told.1 told.2
  where
    go : (n : ℕ) → length rest ≤ n → with_all xs (many_from at n rest) ≡ many at text → IsToldOf at text (xs ++ x ∷ []) later
    go zero enough same = absurd (omega arith)
    go (suc n) enough same = (
      n,
      omega arith,
      ap (λ (ys : List A). (ys, (many_from at n later).1)) (append_assoc xs (x ∷ []) (many_from at n later).0)
          ∙ sym (ap (λ (f : Part A). with_all xs (first_and f rest (many_from at n))) found) ∙ same,
    )

pub told_end : {A : Type 0} (at : Text → Part A) (text : Text) (xs : List A) (rest : Text) → at rest ≡ None → IsToldOf at text xs rest → many at text ≡ (xs, rest)
told_end {A} at text xs rest none told = go told.0 told.2
  where
    go : (n : ℕ) → with_all xs (many_from at n rest) ≡ many at text → many at text ≡ (xs, rest)
    go zero same = sym same ∙ ap (λ (ys : List A). (ys, rest)) (append-nil xs)
    go (suc n) same = sym same ∙ ap (λ (f : Part A). with_all xs (first_and f rest (many_from at n))) none ∙ ap (λ (ys : List A). (ys, rest)) (append-nil xs)
