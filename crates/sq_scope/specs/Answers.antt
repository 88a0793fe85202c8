-- Steps that may refuse, and what a function makes of them.
use Rattle.std.specs.Prelude.{◌≡◌, ⊤, ℕ, List, ◌++◌, Result, Ok, Err}
use Rattle.sq_base.specs.declared.code.Code.{Code}
use Rattle.sq_base.specs.declared.place.Place.{Place}
use Rattle.sq_base.specs.declared.refusal.Fault.{Fault}
use Rattle.sq_base.specs.declared.refusal.Fault.TheVariants.{Refused, Memory}
use Rattle.sq_base.specs.declared.refusal.Refusal.{Refusal}

-- a step, and then what is made of its answer
infixl 10 ◌>>=◌
abbrev pub ◌>>=◌ : {A B : Type 0} → Result A Refusal → (A → Result B Refusal) → Result B Refusal
(Ok x) >>= f = f x
(Err e) >>= f = Err e

-- the value that is meant, unless memory was wanting: nothing is refused
abbrev pub Makes : {A : Type 0} → A → Result A Fault → Type 0
Makes meant (Ok value) = value ≡ meant
Makes meant (Err (Refused refusal)) = ⊥
Makes meant (Err Memory) = ⊤

-- what was made so far, and then the rest
abbrev pub with_front : {A : Type 0} → List A → Result (List A) Refusal → Result (List A) Refusal
with_front front rest = rest >>= (λ xs. Ok (front ++ xs))

-- a refusal that keeps two texts
abbrev pub refused_keeping : Code → Place → List ℕ → List ℕ → Refusal
refused_keeping code place first second = record { code = code; place = place; first = first; second = second }
