-- The words of the command line: a task, and behind it nothing, `-f PATH`, `--file PATH` or `--file=PATH`.
use Rattle.std.specs.Prelude.{ℕ, Bool, ◌||◌, if◌then◌else◌, List, [], ◌∷◌, Option, None, Some, option_and_then, codes}
use Rattle.std.specs.Option.{option_map}
use Rattle.std.specs.Str.{bytes_eq}
use Rattle.sq_base.specs.Files.{behind}
use Rattle.sq_config.specs.declared.command_line.Request.{Request}
use Rattle.sq_config.specs.declared.command_line.Task.{Task}
use Rattle.sq_config.specs.declared.command_line.Task.TheVariants.{Generate, Compile}

-- the task that a word names
abbrev pub task_of : List ℕ → Option Task
task_of word = if bytes_eq word (codes "generate") then Some Generate else (if bytes_eq word (codes "compile") then Some Compile else None)

-- a path, unless it is empty
abbrev pub not_empty : List ℕ → Option (List ℕ)
not_empty [] = None
not_empty path = Some path

-- whether a word says that the next one is the path
abbrev pub announces_path : List ℕ → Bool
announces_path word = bytes_eq word (codes "-f") || bytes_eq word (codes "--file")

-- the path in one word
abbrev pub path_in : List ℕ → Option (List ℕ)
path_in word = option_and_then not_empty (behind (codes "--file=") word)

-- the path of the configuration file that the words behind the task name
abbrev pub path_of : List (List ℕ) → Option (List ℕ)
path_of [] = Some (codes "sqlc.json")
path_of (word ∷ []) = path_in word
path_of (word ∷ path ∷ []) = if announces_path word then not_empty path else None
path_of words = None

-- the request with this task
abbrev pub with_task : Task → List ℕ → Request
with_task task path = record { task = task; path = path }

-- what the words ask for
abbrev pub request_of : List (List ℕ) → Option Request
request_of [] = None
request_of (word ∷ words) = option_and_then (λ task. option_map (with_task task) (path_of words)) (task_of word)
