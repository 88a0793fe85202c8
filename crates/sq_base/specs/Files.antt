-- Files held by path, and what stands at a path.
use Rattle.std.specs.Prelude.{◌≡◌, ℕ, Bool, true, false, nat_eq, ◌==◌, if◌then◌else◌, List, [], ◌∷◌, ◌++◌, length, drop, Option, None, Some, is_some, IsPermutation}
use Rattle.std.specs.List.{starts_with, list_any, before_first}
use Rattle.std.specs.Option.{option_map}
use Rattle.std.specs.Str.{bytes_eq}
use Rattle.sq_base.specs.declared.file.File.{File}
use Rattle.sq_base.specs.declared.tree.Listing.{Listing}
use Rattle.sq_base.specs.declared.tree.Listing.TheVariants.{File as AFile, Folder}

-- the bytes of the first held file at this path
abbrev pub bytes_at : List File → List ℕ → Option (List ℕ)
bytes_at [] path = None
bytes_at (file ∷ files) path = if bytes_eq file.path path then Some file.bytes else bytes_at files path

-- whether a file is held at this path
abbrev pub is_file : List File → List ℕ → Bool
is_file files path = is_some (bytes_at files path)

-- the path of a folder, and a slash
abbrev pub inside : List ℕ → List ℕ
inside folder = folder ++ 47 ∷ []

-- what stands behind the start of a path that begins so
abbrev pub behind : List ℕ → List ℕ → Option (List ℕ)
behind start path = if starts_with nat_eq path start then Some (drop (length start) path) else None

-- the part of a path before its first slash
abbrev pub first_part : List ℕ → List ℕ
first_part path = before_first (λ b. b == 47) path

-- the name of the direct entry in which a path lies, where the path begins so
abbrev pub entry_of : List ℕ → List ℕ → Option (List ℕ)
entry_of start path = option_map first_part (behind start path)

-- a name added at the end, unless it is there
abbrev pub added : List (List ℕ) → Option (List ℕ) → List (List ℕ)
added names None = names
added names (Some name) = if list_any (λ other. bytes_eq other name) names then names else names ++ name ∷ []

-- these names, and then those of the entries of all paths that begin so, each once
abbrev pub entries_after : List (List ℕ) → List ℕ → List File → List (List ℕ)
entries_after names start [] = names
entries_after names start (file ∷ files) = entries_after (added names (entry_of start file.path)) start files

-- the names of a folder's direct entries, each once
abbrev pub entries : List ℕ → List File → List (List ℕ)
entries folder files = entries_after [] (inside folder) files

-- whether some file lies in this folder
abbrev pub is_folder : List File → List ℕ → Bool
is_folder files path = list_any (λ (file : File). starts_with nat_eq file.path (inside path)) files

-- a path is a file where one is held there, and else a folder where some file lies in it
abbrev pub IsListing : List File → List ℕ → Listing → Type 0
IsListing files path AFile = is_file files path ≡ true
IsListing files path (Folder names) = (is_file files path ≡ false) × (is_folder files path ≡ true) × IsPermutation (entries path files) names

-- neither a file nor a folder stands at this path
pub record IsNowhere (files : List File) (path : List ℕ) : Type 0 where
  pub no_file : is_file files path ≡ false
  pub no_folder : is_folder files path ≡ false
