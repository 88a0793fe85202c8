-- What an output tells of itself, and what a put does.
use Rattle.std.specs.Prelude.{◌≡◌, ◌≢◌, ℕ, List, Option, Some, Result, Ok, Err, OnOk}
use Rattle.std.specs.Option.{option_map}
use Rattle.sq_base.specs.Counts.{raised, Rose, Told}
use Rattle.sq_base.specs.Files.{bytes_at}
use Rattle.sq_base.specs.declared.file.File.{File}
use Rattle.sq_base.specs.declared.out.OutFault.{OutFault}
use Rattle.sq_base.specs.declared.out.OutFault.TheVariants.{Failed, Memory}

pub record OutState : Type 0 where
  -- the files held, where the output tells them
  pub files : Option (List File)
  -- the number of its calls, where the output tells it
  pub calls : Option ℕ
  pub faults : ℕ

-- every file but the one at this path is as before
abbrev pub SameBut : List ℕ → List File → List File → Type 0
SameBut path before now = (other : List ℕ) → other ≢ path → bytes_at now other ≡ bytes_at before other

-- Failed raises the count of faults, and every other answer leaves it
abbrev pub CountsFault : {A : Type 0} → Result A OutFault → ℕ → ℕ → Type 0
CountsFault (Ok value) before now = now ≡ before
CountsFault (Err Failed) before now = Rose before now
CountsFault (Err Memory) before now = now ≡ before

-- after Ok the file at the path holds exactly these bytes
pub record IsPut (old new : OutState) (result : Result (Unit {0}) OutFault) (path bytes : List ℕ) : Type 0 where
  pub others : Told (SameBut path) old.files new.files
  pub file : OnOk result (Told (λ before now. bytes_at now path ≡ Some bytes) old.files new.files)
  pub calls : new.calls ≡ option_map raised old.calls
  pub faults : CountsFault result old.faults new.faults
