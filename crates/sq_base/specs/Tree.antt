-- What a tree tells of itself, and what a call of it does.
use Rattle.std.specs.Prelude.{◌≡◌, ⊤, ℕ, ◌+◌, List, take, Option, None, Some, IfSome, Result, Ok, Err}
use Rattle.std.specs.Option.{option_map}
use Rattle.sq_base.specs.Counts.{raised, Rose}
use Rattle.sq_base.specs.Files.{bytes_at, IsListing, IsNowhere}
use Rattle.sq_base.specs.declared.file.File.{File}
use Rattle.sq_base.specs.declared.tree.Listing.{Listing}
use Rattle.sq_base.specs.declared.tree.TreeFault.{TreeFault}
use Rattle.sq_base.specs.declared.tree.TreeFault.TheVariants.{Missing, Failed, Memory}

pub record TreeState : Type 0 where
  -- the files held, where the tree tells them
  pub files : Option (List File)
  -- the number of its calls, where the tree tells it
  pub calls : Option ℕ
  pub faults : ℕ
  pub missings : ℕ

-- the first limit + 1 bytes of a file
abbrev pub bytes_at_most : ℕ → List File → List ℕ → Option (List ℕ)
bytes_at_most limit files path = option_map (take (limit + 1)) (bytes_at files path)

-- what an answer says, where Found says what the files held give and Nothing that they give nothing:
-- a call that finds nothing never answers Ok, and Missing comes only there
abbrev pub Answers : {A : Type 0} → (A → Type 0) → Type 0 → Result A TreeFault → Type 0
Answers Found Nothing (Ok value) = Found value
Answers Found Nothing (Err Missing) = Nothing
Answers Found Nothing (Err Failed) = ⊤
Answers Found Nothing (Err Memory) = ⊤

-- what a list says of the files held, where the tree tells them
pub record Lists (path : List ℕ) (old : TreeState) (result : Result Listing TreeFault) : Type 0 where
  pub told : IfSome old.files (λ files. Answers (IsListing files path) (IsNowhere files path) result)

-- what a read says of the files held, where the tree tells them
pub record Reads (limit : ℕ) (path : List ℕ) (old : TreeState) (result : Result (List ℕ) TreeFault) : Type 0 where
  pub told : IfSome old.files (λ files. Answers (λ bytes. bytes_at_most limit files path ≡ Some bytes) (bytes_at files path ≡ None) result)

-- Failed raises the count of faults, and every other answer leaves it
abbrev pub CountsFault : {A : Type 0} → Result A TreeFault → ℕ → ℕ → Type 0
CountsFault (Ok value) before now = now ≡ before
CountsFault (Err Missing) before now = now ≡ before
CountsFault (Err Failed) before now = Rose before now
CountsFault (Err Memory) before now = now ≡ before

-- Missing raises the count of missings, and every other answer leaves it
abbrev pub CountsMissing : {A : Type 0} → Result A TreeFault → ℕ → ℕ → Type 0
CountsMissing (Ok value) before now = now ≡ before
CountsMissing (Err Missing) before now = Rose before now
CountsMissing (Err Failed) before now = now ≡ before
CountsMissing (Err Memory) before now = now ≡ before

-- a call changes no file and is counted
pub record IsTreeCall {A : Type 0} (old new : TreeState) (result : Result A TreeFault) : Type 0 where
  pub files : new.files ≡ old.files
  pub calls : new.calls ≡ option_map raised old.calls
  pub faults : CountsFault result old.faults new.faults
  pub missings : CountsMissing result old.missings new.missings
