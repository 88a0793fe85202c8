-- The outputs of a configuration: no two lead to one folder, and each has a writer that is there.
use Rattle.std.specs.Prelude.{ℕ, if◌then◌else◌, List, [], ◌∷◌, ◌++◌, Option, None, Some, codes}
use Rattle.std.specs.List.{list_any}
use Rattle.std.specs.Str.{bytes_eq}
use Rattle.sq_config.specs.declared.configuration.Block.{Block}
use Rattle.sq_config.specs.declared.configuration.Entry.{Entry}

-- the entries of all blocks, in order
abbrev pub all_entries : List Block → List Entry
all_entries [] = []
all_entries (block ∷ blocks) = block.entries ++ all_entries blocks

-- the key of the first entry whose path is one of these, or that of an entry before it
abbrev pub same_out_after : List (List ℕ) → List Entry → Option (List ℕ)
same_out_after paths [] = None
same_out_after paths (entry ∷ entries) = if list_any (λ path. bytes_eq path entry.path) paths then Some entry.key else same_out_after (entry.path ∷ paths) entries

-- the key of the first entry whose path is that of an entry before it
abbrev pub same_out : List Entry → Option (List ℕ)
same_out entries = same_out_after [] entries

-- the name of the first writer that is not there: `go` alone is
abbrev pub other_writer : List Entry → Option (List ℕ)
other_writer [] = None
other_writer (entry ∷ entries) = if bytes_eq entry.writer (codes "go") then other_writer entries else Some entry.writer
