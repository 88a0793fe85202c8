-- The lists that are read are spelled by the tokens.
use Rattle.std.proofs.Common.{◌≡◌, ℕ, zero, suc, Bool, true, List, [], ◌∷◌, length, Some, ap, subst, inl, inr}
use Rattle.std.specs.Prelude.{flat_map}
use Rattle.sq_syntax.specs.Facts.{Stream, Piece}
use Rattle.sq_grammar.specs.Reading.{Parser, many, many_from}
use Rattle.sq_grammar.proofs.Complete.{same_some}
use Rattle.sq_grammar.proofs.Takes.{Took, Spells, ◌then◌, none, behind, chosen, given}

-- each item is such
abbrev pub Each : {A : Type 0} → (A → Type 0) → List A → Type 0
Each P [] = Unit {0}
Each P (x ∷ xs) = P x × Each P xs

-- items that are read where one begins
module _ {A : Type 0} (more : Stream → Bool) (item : Parser A) (pieces : A → List Piece) (P : A → Type 0)
    (takes : (now next : Stream) (x : A) → more now ≡ true → item now ≡ Some (x, next) → Took (pieces x) now next × P x) where
  all_took : (n : ℕ) (now next : Stream) (xs : List A) → many_from more item n now ≡ Some (xs, next) → Took (flat_map pieces xs) now next × Each P xs
  unfolding many_from
  all_took zero now next xs h = (given (flat_map pieces) h (none now), subst (Each P) (ap (λ (r : List A × Stream). r.0) (same_some h)) tt)
  all_took (suc n) now next xs h = elim (chosen {b = more now} h) [
    | inl (b, e) ↦
        let one = behind e in
        let two = behind one.second in
        let first = takes now one.mid one.value b one.first in
        let rest = all_took n one.mid two.mid two.value two.first in
        (given (flat_map pieces) two.second (first.0 then rest.0), subst (Each P) (ap (λ (r : List A × Stream). r.0) (same_some two.second)) (first.1, rest.1))
    | inr (b, e) ↦ (given (flat_map pieces) e (none now), subst (Each P) (ap (λ (r : List A × Stream). r.0) (same_some e)) tt)
  ]

  pub many_took : (now next : Stream) (xs : List A) → many more item now ≡ Some (xs, next) → Took (flat_map pieces xs) now next × Each P xs
  many_took now next xs h = all_took (length now.tokens) now next xs h

-- items of which nothing more is known
pub items_took : {A : Type 0} (more : Stream → Bool) (item : Parser A) (pieces : A → List Piece) → Spells pieces item → Spells (flat_map pieces) (many more item)
items_took more item pieces f now next xs h = (many_took more item pieces (λ x. Unit {0}) (λ u v x b e. (f u v x e, tt)) now next xs h).0
