-- What is read of the tree, and which files are refused for their length.
use Rattle.std.specs.Prelude.{ℕ, nat_le, if◌then◌else◌, List, [], ◌∷◌, length, Option, None, Some, Result, Ok, Err}
use Rattle.std.specs.Option.{option_map}
use Rattle.sq_base.specs.Files.{bytes_at}
use Rattle.sq_base.specs.Refusals.{refused}
use Rattle.sq_base.specs.declared.code.Code.{Code}
use Rattle.sq_base.specs.declared.code.Code.TheVariants.{FileTooLong, NotYet}
use Rattle.sq_base.specs.declared.file.File.{File}
use Rattle.sq_base.specs.declared.limits.TheConstants.{MOST_FILE_BYTES}
use Rattle.sq_plan.specs.declared.entries.Purpose.{Purpose}
use Rattle.sq_plan.specs.declared.halt.Finding.{Finding}
use Rattle.sq_plan.specs.declared.read.Role.{Role}
use Rattle.sq_plan.specs.declared.read.Role.TheVariants.{Configuration, Source}
use Rattle.sq_plan.specs.Asked.{Asked}
use Rattle.sq_plan.specs.Findings.{start, in_source, of_whole}
use Rattle.sq_plan.specs.Sources.{found_at}

-- a file is refused: a configuration as a whole, a source where it begins
abbrev pub refused_file : Role → Code → List ℕ → Finding
refused_file Configuration code path = of_whole path code []
refused_file Source code path = in_source path (refused code start)

-- a file with a form that isn't built yet
abbrev pub not_yet : Role → List ℕ → Finding
not_yet role path = refused_file role NotYet path

-- the bytes of a file, unless it is too long
abbrev pub checked : Role → List ℕ → List ℕ → Result (List ℕ) (List Finding)
checked role path bytes = if nat_le (length bytes) MOST_FILE_BYTES then Ok bytes else Err (refused_file role FileTooLong path ∷ [])

-- reads the file at a path
abbrev pub whole_file : Role → List ℕ → List File → Asked (List ℕ)
whole_file role path files = record { paths = path ∷ []; answer = option_map (checked role path) (bytes_at files path) }

-- lists a path
abbrev pub listed : Purpose → List ℕ → List File → Asked (List (List ℕ))
listed purpose path files = record { paths = path ∷ []; answer = option_map (λ found. Ok found) (found_at purpose path files) }
