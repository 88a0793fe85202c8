-- What comes behind a refusal.
use Rattle.std.specs.Prelude.{◌≡◌, List, [], ◌∷◌, ◌++◌, Result, Ok, Err}
use Rattle.sq_base.specs.declared.refusal.Fault.{Fault}
use Rattle.sq_base.specs.declared.refusal.Fault.TheVariants.{Refused, Memory}
use Rattle.sq_base.specs.declared.refusal.Refusal.{Refusal}

-- what comes next, where what comes before is not refused
abbrev pub and_then : {A B : Type 0} → Result A Refusal → (A → Result B Refusal) → Result B Refusal
and_then (Ok made) next = next made
and_then (Err refusal) next = Err refusal

-- a refusal is listed, unless memory was wanting
abbrev pub Lists : {E : Type 0} → Fault → List Refusal → List Refusal → Result (Unit {0}) E → Type 0
Lists (Refused refusal) old new (Ok done) = new ≡ old ++ refusal ∷ []
Lists (Refused refusal) old new (Err error) = Unit {0}
Lists Memory old new (Ok done) = ⊥
Lists Memory old new (Err error) = Unit {0}
