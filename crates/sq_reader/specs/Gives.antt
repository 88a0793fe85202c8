-- What the readers answer.
use Rattle.std.specs.Prelude.{◌≡◌, Option, Some, None, Result, Ok, Err}
use Rattle.sq_reader.specs.declared.parts.NoPart.{NoPart}
use Rattle.sq_reader.specs.declared.items.Spot.{Spot}
use Rattle.sq_reader.specs.declared.items.Halt.{Halt}
use Rattle.sq_reader.specs.declared.items.Halt.TheVariants.{At, NoMemory}
use Rattle.sq_reader.specs.declared.parts.NoPart.TheVariants.{Absent, Memory}

-- what was answered is what is read, seen by view, unless memory ran out
abbrev pub Gives : {X Y : Type 0} → (X → Y) → Result X NoPart → Option Y → Type 0
Gives view (Ok x) part = part ≡ Some (view x)
Gives view (Err Absent) part = part ≡ None
Gives view (Err Memory) part = Unit {0}

-- what was answered is what is read, seen by view, or the same spot, unless memory ran out
abbrev pub Halts : {X Y : Type 0} → (X → Y) → Result X Halt → Result Y Spot → Type 0
Halts view (Ok x) read = read ≡ Ok (view x)
Halts view (Err (At spot)) read = read ≡ Err spot
Halts view (Err NoMemory) read = Unit {0}
