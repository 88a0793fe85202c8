-- What a part of a run asks of the tree, and how a part of a run has ended.
use Rattle.std.specs.Prelude.{⊤, ◌≡◌, ◌≤◌, ℕ, ◌+◌, List, [], ◌∷◌, ◌++◌, length, Option, None, Some, IfSome, Result, Ok, Err}
use Rattle.std.specs.Option.{option_map}
use Rattle.sq_base.specs.Counts.{raised_by, Rose}
use Rattle.sq_base.specs.Tree.{TreeState}
use Rattle.sq_base.specs.declared.file.File.{File}
use Rattle.sq_plan.specs.declared.halt.Finding.{Finding}
use Rattle.sq_plan.specs.declared.halt.Halt.{Halt}
use Rattle.sq_plan.specs.declared.halt.Halt.TheVariants.{Refused, Missing, Failed, Memory}

pub record Asked (A : Type 0) : Type 0 where
  -- the paths of the calls in order, up to the first call that finds nothing
  pub paths : List (List ℕ)
  -- what is made of the answers, or None where the last call finds nothing
  pub answer : Option (Result A (List Finding))

-- asks nothing
abbrev pub nothing_asked : {A : Type 0} → Result A (List Finding) → Asked A
nothing_asked answer = record { paths = []; answer = Some answer }

-- asks more, where the first part has answered Ok
abbrev pub and_then : {A B : Type 0} → Asked A → (A → Asked B) → Asked B
and_then {A} {B} first more = elim first.answer [
  | None ↦ record { paths = first.paths; answer = None }
  | Some answer ↦ elim answer [
    | Ok value ↦ record { paths = first.paths ++ (more value).paths; answer = (more value).answer }
    | Err findings ↦ record { paths = first.paths; answer = Some (Err findings) }
  ]
]

-- what two parts give, or the findings of both
abbrev pub joined : {A : Type 0} → Result (List A) (List Finding) → Result (List A) (List Finding) → Result (List A) (List Finding)
joined (Ok before) (Ok after) = Ok (before ++ after)
joined (Ok before) (Err findings) = Err findings
joined (Err findings) (Ok after) = Err findings
joined (Err findings) (Err more) = Err (findings ++ more)

-- asks more, whatever the first part has answered
abbrev pub and_also : {A : Type 0} → Asked (List A) → Asked (List A) → Asked (List A)
and_also {A} first more = elim first.answer [
  | None ↦ record { paths = first.paths; answer = None }
  | Some answer ↦ record { paths = first.paths ++ more.paths; answer = option_map (joined {A = A} answer) more.answer }
]

-- asks each part in order, whatever the others have answered; the parts are numbered from here on
abbrev pub gathered : {A B : Type 0} → (ℕ → A → List File → Asked (List B)) → ℕ → List A → List File → Asked (List B)
gathered part number [] files = nothing_asked (Ok [])
gathered part number (x ∷ xs) files = and_also (part number x files) (gathered part (number + 1) xs files)

-- what is judged of each, or the findings of all
abbrev pub each_judged : {A B : Type 0} → (A → Result (List B) (List Finding)) → List A → Result (List B) (List Finding)
each_judged judge [] = Ok []
each_judged judge (x ∷ xs) = joined (judge x) (each_judged judge xs)

-- the calls that were made are the first of those asked
abbrev pub IsFront : List (List ℕ) → List (List ℕ) → Type 0
IsFront made asked = (left : List (List ℕ)) × (asked ≡ made ++ left)

-- the last call that was made had this path
abbrev pub EndsAt : List ℕ → List (List ℕ) → Type 0
EndsAt path made = (front : List (List ℕ)) × (made ≡ front ++ path ∷ [])

-- how a part that asks so has ended, after calls for these paths
abbrev pub Ends : {A : Type 0} → Asked A → List (List ℕ) → Result A Halt → Type 0
Ends asked made (Ok value) = (asked.answer ≡ Some (Ok value)) × (made ≡ asked.paths)
Ends asked made (Err (Refused findings)) = (asked.answer ≡ Some (Err findings)) × (made ≡ asked.paths)
Ends asked made (Err (Missing path)) = (asked.answer ≡ None) × (made ≡ asked.paths) × EndsAt path made
Ends asked made (Err (Failed path)) = IsFront made asked.paths × EndsAt path made
Ends asked made (Err Memory) = IsFront made asked.paths

-- Failed comes where the count of faults rose; other answers, but for want of memory, leave it
abbrev pub CountsFault : {A : Type 0} → Result A Halt → ℕ → ℕ → Type 0
CountsFault (Ok value) before now = now ≡ before
CountsFault (Err (Refused findings)) before now = now ≡ before
CountsFault (Err (Missing path)) before now = now ≡ before
CountsFault (Err (Failed path)) before now = Rose before now
CountsFault (Err Memory) before now = before ≤ now

-- Missing comes where the count of missings rose; other answers, but for want of memory, leave it
abbrev pub CountsMissing : {A : Type 0} → Result A Halt → ℕ → ℕ → Type 0
CountsMissing (Ok value) before now = now ≡ before
CountsMissing (Err (Refused findings)) before now = now ≡ before
CountsMissing (Err (Missing path)) before now = Rose before now
CountsMissing (Err (Failed path)) before now = now ≡ before
CountsMissing (Err Memory) before now = before ≤ now

-- over the files held, the calls made and the result are those of a part that asks so
pub record Answered {A : Type 0} (asked : Asked A) (old new : TreeState) (result : Result A Halt) : Type 0 where
  pub made : List (List ℕ)
  pub ends : Ends asked made result
  pub calls : new.calls ≡ option_map (raised_by (length made)) old.calls

-- a part of a run that asks so of the files held has ended with this result
pub record Follows {A : Type 0} (part : List File → Asked A) (old new : TreeState) (result : Result A Halt) : Type 0 where
  pub files : new.files ≡ old.files
  pub faults : CountsFault result old.faults new.faults
  pub missings : CountsMissing result old.missings new.missings
  pub asked : IfSome old.files (λ files. Answered (part files) old new result)

-- what is made of values in hand, without a call
abbrev pub Judges : {A : Type 0} → Result A (List Finding) → Result A Halt → Type 0
Judges answer (Ok value) = answer ≡ Ok value
Judges answer (Err (Refused findings)) = answer ≡ Err findings
Judges answer (Err (Missing path)) = ⊥
Judges answer (Err (Failed path)) = ⊥
Judges answer (Err Memory) = ⊤

-- how parts end together, by what was judged before and how the rest ends
abbrev pub ended_with : {A : Type 0} → Result (List A) (List Finding) → Result (List A) Halt → Result (List A) Halt
ended_with (Ok before) (Ok after) = Ok (before ++ after)
ended_with (Err findings) (Ok after) = Err (Refused findings)
ended_with (Ok before) (Err (Refused more)) = Err (Refused more)
ended_with (Err findings) (Err (Refused more)) = Err (Refused (findings ++ more))
ended_with before (Err (Missing path)) = Err (Missing path)
ended_with before (Err (Failed path)) = Err (Failed path)
ended_with before (Err Memory) = Err Memory

-- a part has come to this answer, and goes on
abbrev pub ComesTo : {A : Type 0} → Result A Halt → Result A (List Finding) → Type 0
ComesTo (Ok value) answer = answer ≡ Ok value
ComesTo (Err (Refused findings)) answer = answer ≡ Err findings
ComesTo (Err (Missing path)) answer = ⊥
ComesTo (Err (Failed path)) answer = ⊥
ComesTo (Err Memory) answer = ⊥

-- a part halts the run: a call found nothing or failed, or memory was wanting
abbrev pub HaltsRun : {A : Type 0} → Result A Halt → Halt → Type 0
HaltsRun part (Refused findings) = ⊥
HaltsRun part (Missing path) = part ≡ Err (Missing path)
HaltsRun part (Failed path) = part ≡ Err (Failed path)
HaltsRun part Memory = ⊤

-- what a part has come to, or how it halts the run
abbrev pub Comes : {A : Type 0} → Result A Halt → Result (Result A (List Finding)) Halt → Type 0
Comes part (Ok answer) = ComesTo part answer
Comes part (Err halt) = HaltsRun part halt

-- what was judged before is joined with what a part has come to, or the part halts the run
abbrev pub Joins : {A : Type 0} → Result (List A) (List Finding) → Result (List A) Halt → Result (Result (List A) (List Finding)) Halt → Type 0
Joins {A} before part (Ok both) = (answer : Result (List A) (List Finding)) × ComesTo part answer × (both ≡ joined before answer)
Joins before part (Err halt) = HaltsRun part halt
