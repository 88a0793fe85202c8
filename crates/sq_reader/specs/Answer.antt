-- What the reader answers.
use Rattle.std.specs.Prelude.{◌≡◌, ℕ, List, Result, Ok, Err}
use Rattle.sq_shown.specs.declared.signature.Shown.{Shown}
use Rattle.sq_reader.specs.declared.read.ReadBack.{ReadBack}
use Rattle.sq_reader.specs.declared.read.ReadBack.TheVariants.{NotDeclaration, Memory}

-- what was answered is the reading, unless memory ran out
abbrev pub ReadsBack : Result (List Shown) ReadBack → Result (List Shown) (ℕ × ℕ) → Type 0
ReadsBack (Ok shown) reading = reading ≡ Ok shown
ReadsBack (Err (NotDeclaration file line)) reading = reading ≡ Err (file, line)
ReadsBack (Err Memory) reading = Unit {0}
