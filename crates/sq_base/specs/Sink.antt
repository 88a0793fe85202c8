-- What a screen tells of itself, and what a write does.
use Rattle.std.specs.Prelude.{◌≡◌, ℕ, List, ◌++◌, Option, Result, Ok, Err}
use Rattle.std.specs.Option.{option_map}
use Rattle.sq_base.specs.Counts.{raised, Rose, Told}
use Rattle.sq_base.specs.declared.sink.SinkFault.{SinkFault}
use Rattle.sq_base.specs.declared.sink.SinkFault.TheVariants.{Failed, Memory}

pub record SinkState : Type 0 where
  -- all bytes written, where the screen tells them
  pub text : Option (List ℕ)
  -- the number of its calls, where the screen tells it
  pub calls : Option ℕ
  pub faults : ℕ

-- Failed raises the count of faults, and every other answer leaves it
abbrev pub CountsFault : {A : Type 0} → Result A SinkFault → ℕ → ℕ → Type 0
CountsFault (Ok value) before now = now ≡ before
CountsFault (Err Failed) before now = Rose before now
CountsFault (Err Memory) before now = now ≡ before

-- the bytes were appended
abbrev pub Appends : List ℕ → List ℕ → List ℕ → Type 0
Appends bytes before now = now ≡ before ++ bytes

-- a part of the bytes, from their first on, was appended
abbrev pub AppendsFront : List ℕ → List ℕ → List ℕ → Type 0
AppendsFront bytes before now = (front : List ℕ) × (rest : List ℕ) × (bytes ≡ front ++ rest) × (now ≡ before ++ front)

-- what a result says of the text
abbrev pub Writes : {A : Type 0} → Result A SinkFault → List ℕ → List ℕ → List ℕ → Type 0
Writes (Ok value) bytes before now = Appends bytes before now
Writes (Err fault) bytes before now = AppendsFront bytes before now

pub record IsWrite (old new : SinkState) (result : Result (Unit {0}) SinkFault) (bytes : List ℕ) : Type 0 where
  pub text : Told (Writes result bytes) old.text new.text
  pub calls : new.calls ≡ option_map raised old.calls
  pub faults : CountsFault result old.faults new.faults
