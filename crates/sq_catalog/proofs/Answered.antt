-- What holds of an answer, by the steps that lead to it.
use Rattle.std.proofs.Common.{◌≡◌, Bool, true, false, cond, List, Option, Some, None, Result, Ok, Err, IfOk, slice_get, ℕ, refl, subst, option_map}
use Rattle.std.proofs.lemmas.Option.{same_Some}
use Rattle.sq_catalog.specs.Answers.{and_then}
use Rattle.sq_catalog.specs.Columns.{placed}
use Rattle.sq_catalog.specs.declared.change.Cause.{Cause}

-- both of the ways that a test can take
pub by_test : {B : Type 0} (Q : B → Type 0) (b : Bool) (x y : B) → (b ≡ true → Q x) → (b ≡ false → Q y) → Q (cond b x y)
by_test Q true x y first second = first refl
by_test Q false x y first second = second refl

-- what is found, and what is not
pub by_finding : {A B : Type 0} (Q : B → Type 0) (o : Option A) (y : B) (f : A → B) → (o ≡ None → Q y) → ((x : A) → o ≡ Some x → Q (f x)) → Q (elim o [ None ↦ y | Some x ↦ f x ])
by_finding Q None y f first second = first refl
by_finding Q (Some x) y f first second = second x refl

-- what comes next
pub by_next : {A B : Type 0} (P : B → Type 0) (r : Result A Cause) (next : A → Result B Cause) → ((x : A) → r ≡ Ok x → IfOk (next x) P) → IfOk (and_then r next) P
by_next P (Ok x) next after = after x refl
by_next P (Err fault) next after = tt

-- what is found with its place stands there
pub placed_there : {A : Type 0} (xs : List A) (place : Option ℕ) (found : ℕ × A) → placed xs place ≡ Some found → slice_get xs found.0 ≡ Some found.1
placed_there xs None found is = absurd (cc)
placed_there {A} xs (Some at) found is = with_item (slice_get xs at) refl is where
  with_item : (o : Option A) → slice_get xs at ≡ o → option_map (λ x. (at, x)) o ≡ Some found → slice_get xs found.0 ≡ Some found.1
  with_item None there e = absurd (cc)
  with_item (Some x) there e = subst (λ (f : ℕ × A). slice_get xs f.0 ≡ Some f.1) (same_Some (at, x) found e) there
