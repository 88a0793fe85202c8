-- The files that the paths of a key stand for, and what is read of them.
use Rattle.std.specs.Prelude.{ℕ, Bool, not, nat_eq, ◌&&◌, if◌then◌else◌, List, [], ◌∷◌, ◌++◌, map, filter, Option, None, Some, codes}
use Rattle.std.specs.Cmp.Lexicographic.{slice_cmp}
use Rattle.std.specs.List.{starts_with, ends_with}
use Rattle.std.specs.Option.{option_map}
use Rattle.std.specs.Ordering.{is_lt, nat_cmp}
use Rattle.sq_base.specs.Files.{is_file, is_folder, inside, entries}
use Rattle.sq_base.specs.declared.file.File.{File}
use Rattle.sq_plan.specs.declared.entries.Purpose.{Purpose}
use Rattle.sq_plan.specs.declared.entries.Purpose.TheVariants.{Schema, Queries}
use Rattle.sq_plan.specs.Rollback.{before_rollback}
use Rattle.sq_plan.specs.Options.{◌>>=◌}

-- whether a name comes before another by its bytes
abbrev pub comes_before : List ℕ → List ℕ → Bool
comes_before name other = is_lt (slice_cmp nat_cmp name other)

-- a name put in its place among sorted names
abbrev pub inserted : List ℕ → List (List ℕ) → List (List ℕ)
inserted name [] = name ∷ []
inserted name (other ∷ names) = if comes_before other name then other ∷ inserted name names else name ∷ other ∷ names

-- names in the order of their bytes
abbrev pub sorted : List (List ℕ) → List (List ℕ)
sorted [] = []
sorted (name ∷ names) = inserted name (sorted names)

-- whether an entry of a folder may be read: its name ends in `.sql` and isn't hidden
abbrev pub is_sql : List ℕ → Bool
is_sql name = ends_with nat_eq name (codes ".sql") && not (starts_with nat_eq name (codes "."))

-- whether an entry of a folder only takes a change back
abbrev pub is_down : List ℕ → Bool
is_down name = ends_with nat_eq name (codes ".down.sql")

-- whether an entry of a folder is read for this purpose
abbrev pub is_read : Purpose → List ℕ → Bool
is_read Schema name = is_sql name && not (is_down name)
is_read Queries name = is_sql name

-- the paths of those entries of a folder that are read, in order
abbrev pub files_in : Purpose → List ℕ → List (List ℕ) → List (List ℕ)
files_in purpose folder names = map (λ name. inside folder ++ name) (filter (is_read purpose) (sorted names))

-- the files that a path stands for: a file for itself, a folder for its entries that are read
abbrev pub found_at : Purpose → List ℕ → List File → Option (List (List ℕ))
found_at purpose path files = if is_file files path then Some (path ∷ []) else (if is_folder files path then Some (files_in purpose path (entries path files)) else None)

-- the files that paths stand for, in order, where each path is that of a file or a folder
abbrev pub found_for : Purpose → List (List ℕ) → List File → Option (List (List ℕ))
found_for purpose [] files = Some []
found_for purpose (path ∷ paths) files = found_at purpose path files >>= λ own. option_map (λ later. own ++ later) (found_for purpose paths files)

-- the bytes of a file that are read for this purpose
abbrev pub bytes_read : Purpose → List ℕ → List ℕ
bytes_read Schema bytes = before_rollback bytes
bytes_read Queries bytes = bytes
