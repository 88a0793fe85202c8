-- How many numbers a type takes.
use Rattle.std.proofs.Common.{◌≡◌, ◌≢◌, ℕ, false, true, List, [], ◌∷◌, Option, refl, length, arith}
use Rattle.sq_syntax.specs.Pieces.{size_fits, named_among, sized_types, scaled_types}

module _ (of : Option (List ℕ)) where
  pub no_size : (sizes : List (List ℕ)) → length sizes ≡ 0 → size_fits of sizes ≡ true
  no_size [] h = refl
  no_size (n ∷ sizes) h = absurd (omega arith)

  pub one_size : (sizes : List (List ℕ)) → length sizes ≡ 1 → size_fits of sizes ≡ named_among sized_types of
  one_size [] h = absurd (omega arith)
  one_size (n ∷ []) h = refl
  one_size (n ∷ m ∷ sizes) h = absurd (omega arith)

  pub two_sizes : (sizes : List (List ℕ)) → length sizes ≡ 2 → size_fits of sizes ≡ named_among scaled_types of
  two_sizes [] h = absurd (omega arith)
  two_sizes (n ∷ []) h = absurd (omega arith)
  two_sizes (n ∷ m ∷ []) h = refl
  two_sizes (n ∷ m ∷ k ∷ sizes) h = absurd (omega arith)

  pub more_sizes : (sizes : List (List ℕ)) → length sizes ≢ 0 → length sizes ≢ 1 → length sizes ≢ 2 → size_fits of sizes ≡ false
  more_sizes [] h i j = absurd (h refl)
  more_sizes (n ∷ []) h i j = absurd (i refl)
  more_sizes (n ∷ m ∷ []) h i j = absurd (j refl)
  more_sizes (n ∷ m ∷ k ∷ sizes) h i j = refl
