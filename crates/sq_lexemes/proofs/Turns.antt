-- One turn of the loop over items.
use Rattle.std.proofs.Common.{◌≡◌, ℕ, zero, suc, ◌+◌, ◌-◌, ◌<◌, Bool, true, false, List, [], ◌∷◌, ◌++◌, Some, None, refl, sym, ap, ◌∙◌, arith, append_assoc}
use Rattle.std.proofs.lemmas.List.{append-nil}
use Rattle.sq_syntax.specs.Facts.{Stream}
use Rattle.sq_grammar.specs.Reading.{Outcome, Parser, and_then, pure, many_from}

-- with these items before those that were read
abbrev pub ahead : {A : Type 0} → List A → Outcome (List A) → Outcome (List A)
ahead front None = None
ahead front (Some p) = Some (front ++ p.0, p.1)

module _ {A : Type 0} (more : Stream → Bool) (item : Parser A) where
  nothing : (n : ℕ) (now : Stream) → more now ≡ false → many_from more item n now ≡ Some ([], now)
  unfolding many_from
  nothing zero now h = refl
  nothing (suc n) now h = rw h refl

  pub found_all : (whole : Outcome (List A)) (found : List A) (n : ℕ) (now : Stream) → more now ≡ false → whole ≡ ahead found (many_from more item n now) → whole ≡ Some (found, now)
  found_all whole found n now h e = e ∙ ap (λ r. ahead found r) (nothing n now h) ∙ ap (λ (xs : List A). Some (xs, now)) (append-nil found)

  pub no_turns : (whole : Outcome (List A)) (found : List A) (n : ℕ) (now : Stream) → n ≡ 0 → whole ≡ ahead found (many_from more item n now) → whole ≡ Some (found, now)
  unfolding many_from
  no_turns whole found zero now h e = e ∙ ap (λ (xs : List A). Some (xs, now)) (append-nil found)
  no_turns whole found (suc n) now h e = absurd (omega arith)

  pub turn_fails : (whole : Outcome (List A)) (found : List A) (n : ℕ) (now : Stream) → 0 < n → more now ≡ true → item now ≡ None → whole ≡ ahead found (many_from more item n now) → whole ≡ None
  unfolding many_from
  turn_fails whole found zero now some h f e = absurd (omega arith)
  turn_fails whole found (suc n) now some h f e = e ∙ rw (h, f) refl

  grown : (found : List A) (x : A) (r : Outcome (List A)) → ahead found (and_then r (λ xs. pure (x ∷ xs))) ≡ ahead (found ++ x ∷ []) r
  grown found x None = refl
  grown found x (Some (xs, now)) = ap (λ (ys : List A). Some (ys, now)) (sym (append_assoc found (x ∷ []) xs))

  pub turn_goes : (whole : Outcome (List A)) (found : List A) (n at : ℕ) (now next : Stream) (x : A) → at < n → more now ≡ true → item now ≡ Some (x, next) → whole ≡ ahead found (many_from more item (n - at) now)
      → whole ≡ ahead (found ++ x ∷ []) (many_from more item (n - (at + 1)) next)
  unfolding many_from
  turn_goes whole found n at now next x below h f e =
      let one : n - at ≡ suc (n - (at + 1)) = omega arith in
      e ∙ ap (λ k. ahead found (many_from more item k now)) one ∙ rw (h, f) (grown found x (many_from more item (n - (at + 1)) next))
