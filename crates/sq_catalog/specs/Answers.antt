-- What an answer says of a change.
use Rattle.std.specs.Prelude.{◌≡◌, Result, Ok, Err}
use Rattle.sq_catalog.specs.declared.change.Cause.{Cause}
use Rattle.sq_catalog.specs.declared.change.ChangeFault.{ChangeFault}
use Rattle.sq_catalog.specs.declared.change.ChangeFault.TheVariants.{Refused, Memory}

-- what comes next, where the step before is not refused
abbrev pub and_then : {A B : Type 0} → Result A Cause → (A → Result B Cause) → Result B Cause
and_then (Ok made) next = next made
and_then (Err cause) next = Err cause

-- an answer is what is meant, or memory was wanting
abbrev pub Gives : {A : Type 0} → Result A Cause → Result A ChangeFault → Type 0
Gives meant (Ok made) = meant ≡ Ok made
Gives meant (Err (Refused cause)) = meant ≡ Err cause
Gives meant (Err Memory) = Unit {0}

-- a change is made, or refused and all is left as it was
abbrev pub Answers : {A : Type 0} → A → Result A Cause → A → Result (Unit {0}) ChangeFault → Type 0
Answers old changed new (Ok done) = changed ≡ Ok new
Answers old changed new (Err (Refused cause)) = (changed ≡ Err cause) × (new ≡ old)
Answers old changed new (Err Memory) = new ≡ old
