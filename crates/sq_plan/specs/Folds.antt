-- What is read across statements and files is one fold: what was made so far, and what was found.
use Rattle.std.specs.Prelude.{◌≡◌, List, [], ◌∷◌, ◌++◌, Result, Ok, Err}
use Rattle.sq_base.specs.Tree.{TreeState}
use Rattle.sq_base.specs.declared.file.File.{File}
use Rattle.sq_plan.specs.declared.halt.Finding.{Finding}
use Rattle.sq_plan.specs.declared.halt.Halt.{Halt}
use Rattle.sq_plan.specs.declared.halt.Halt.TheVariants.{Refused}
use Rattle.sq_plan.specs.declared.so_far.SoFar.{SoFar}
use Rattle.sq_plan.specs.Asked.{Asked, ComesTo, Follows, HaltsRun}

abbrev pub so_far : {M : Type 0} → M → List Finding → SoFar M
so_far made found = record { made = made; found = found }

-- items in order, each taken by this step
abbrev pub folded : {S A : Type 0} → (S → A → S) → S → List A → S
folded step start [] = start
folded step start (x ∷ xs) = folded step (step start x) xs

-- a value, unless something was found
abbrev pub value_unless : {M : Type 0} → M → List Finding → Result M (List Finding)
value_unless made [] = Ok made
value_unless made (finding ∷ findings) = Err (finding ∷ findings)

-- what was made, unless something was found
abbrev pub unless_found : {M : Type 0} → SoFar M → Result M (List Finding)
unless_found done = value_unless done.made done.found

-- WHILE FILES ARE READ: an item is dropped as soon as its step is taken

-- what is made of the items of a part, unless it has halted
abbrev pub made_of : {S A : Type 0} → (S → A → S) → S → Result (List A) Halt → Result S Halt
made_of step start (Ok items) = Ok (folded step start items)
made_of step start (Err halt) = Err halt

-- a part that asks so has ended, and this was made of its items
pub record Makes {S A : Type 0} (step : S → A → S) (start : S) (part : List File → Asked (List A)) (old new : TreeState) (result : Result S Halt) : Type 0 where
  pub items : Result (List A) Halt
  pub follows : Follows part old new items
  pub made : result ≡ made_of step start items

-- a result, with its value seen so
abbrev pub seen : {A B E : Type 0} → (A → B) → Result A E → Result B E
seen view (Ok value) = Ok (view value)
seen view (Err error) = Err error

-- how a run ends for what was made of all items, or for their findings
abbrev pub ended_so : {S : Type 0} → Result S (List Finding) → Result S Halt
ended_so (Ok made) = Ok made
ended_so (Err findings) = Err (Refused findings)

-- the list of the one item that was read
abbrev pub alone : {A : Type 0} → Result A Halt → Result (List A) Halt
alone (Ok item) = Ok (item ∷ [])
alone (Err halt) = Err halt

-- what was made before goes on with the items of the next part, or the findings of both are listed
abbrev pub going_on : {S A : Type 0} → (S → A → S) → Result S (List Finding) → Result (List A) (List Finding) → Result S (List Finding)
going_on step (Ok made) (Ok items) = Ok (folded step made items)
going_on step (Ok made) (Err more) = Err more
going_on step (Err findings) (Ok items) = Err findings
going_on step (Err findings) (Err more) = Err (findings ++ more)

-- what was made before goes on with what a part has come to, or the part halts the run
abbrev pub GoesOn : {S A : Type 0} → (S → A → S) → Result S (List Finding) → Result (List A) Halt → Result (Result S (List Finding)) Halt → Type 0
GoesOn {A = A} step before part (Ok both) = (answer : Result (List A) (List Finding)) × ComesTo part answer × (both ≡ going_on step before answer)
GoesOn step before part (Err halt) = HaltsRun part halt
