-- A whole run, and what its answer says of what it met outside.
use Rattle.std.specs.Prelude.{◌≡◌, ◌≢◌, ◌⊎◌, ◌≤◌, ◌<◌, ⊤, ℕ, Bool, true, false, List, [], ◌∷◌, ◌++◌, length, map, Option, None, Some, IfSome, Result, Ok, Err, if◌then◌else◌}
use Rattle.std.specs.Option.{option_map}
use Rattle.std.specs.Str.{bytes_eq}
use Rattle.sq_base.specs.Counts.{Rose, Told, raised_by}
use Rattle.sq_base.specs.Files.{bytes_at}
use Rattle.sq_base.specs.Tree.{TreeState}
use Rattle.sq_base.specs.Out.{OutState}
use Rattle.sq_base.specs.Sink.{SinkState, Appends}
use Rattle.sq_base.specs.declared.file.File.{File}
use Rattle.sq_plan.specs.declared.halt.Finding.{Finding}
use Rattle.sq_config.specs.declared.command_line.Task.TheVariants.{Compile}
use Rattle.sq_plan.specs.declared.halt.Ending.{Ending}
use Rattle.sq_plan.specs.declared.status.Status.{Status}
use Rattle.sq_plan.specs.declared.status.Status.TheVariants.{Done, Refused, Usage, ReadFault, WriteFault, Memory, Missing}
use Rattle.sq_plan.specs.declared.deliver.Report.{Report}
use Rattle.sq_plan.specs.declared.deliver.PutFault.{PutFault}
use Rattle.sq_plan.specs.Lines.{finding_line, usage_lines}
use Rattle.sq_plan.specs.Asked.{EndsAt}
use Rattle.sq_plan.specs.Deliver.{PutsAll, Shows, TellsMemory, files_of, report_of, missing_line}
use Rattle.sq_run.specs.Project.{is_command, task_asked, asked_by, Judging}

-- all that a run meets outside
pub record Outside : Type 0 where
  pub tree : TreeState
  pub out : OutState
  pub screen : SinkState

abbrev pub outside : TreeState → OutState → SinkState → Outside
outside tree out screen = record { tree = tree; out = out; screen = screen }

-- the report was shown, or memory was wanting
abbrev pub Tells : Option Report → SinkState → SinkState → Status → Type 0
Tells report old new status = ((shown : Report) × (report ≡ Some shown) × Shows shown old new status) ⊎ (TellsMemory old new × (status ≡ Memory))

-- a run: it judges, then puts, then prints
pub record IsRun (words : List (List ℕ)) (before after : Outside) (status : Status) : Type 0 where
  pub ending : Ending
  pub put : Result (Unit {0}) PutFault
  pub judging : Judging words (is_command words) before.tree after.tree ending
  pub compiling : task_asked words ≡ Some Compile → files_of ending ≡ []
  pub putting : PutsAll (files_of ending) before.out after.out put
  pub telling : Tells (report_of ending put) before.screen after.screen status

-- no count of the tree is greater
pub record TreeServed (before after : TreeState) : Type 0 where
  pub faults : after.faults ≤ before.faults
  pub missings : after.missings ≤ before.missings

-- no count is greater
pub record Served (before after : Outside) : Type 0 where
  pub tree : TreeServed before.tree after.tree
  pub out : after.out.faults ≤ before.out.faults
  pub screen : after.screen.faults ≤ before.screen.faults

-- The words are a command. Over the files held, where the tree tells them, it comes to this, or to None where it asks for what isn't there.
pub record ComesTo (words : List (List ℕ)) (before : Outside) (P : Option (Result (List File) (List Finding)) → Type 0) : Type 0 where
  pub command : is_command words ≡ true
  pub project : IfSome before.tree.files (λ files. P (asked_by words files).answer)

abbrev pub IsAccepted : Option (Result (List File) (List Finding)) → Type 0
IsAccepted answer = (files : List File) × (answer ≡ Some (Ok files))

abbrev pub IsRefusal : Option (Result (List File) (List Finding)) → Type 0
IsRefusal answer = (findings : List Finding) × (answer ≡ Some (Err findings))

-- the files to be put for what a run comes to
abbrev pub accepted : Option (Result (List File) (List Finding)) → List File
accepted None = []
accepted (Some (Err findings)) = []
accepted (Some (Ok files)) = files

-- the files to be put for these words, over the files held
abbrev pub files_asked : List (List ℕ) → List File → List File
files_asked words held = if is_command words then accepted (asked_by words held).answer else []

-- the status and the lines that belong to what a run comes to
abbrev pub SaysFor : Option (Result (List File) (List Finding)) → List (List ℕ) → Status → List (List ℕ) → Type 0
SaysFor None paths status lines = (status ≡ Missing) × ((path : List ℕ) × EndsAt path paths × (lines ≡ missing_line path ∷ []))
SaysFor (Some (Err findings)) paths status lines = (status ≡ Refused) × (lines ≡ map finding_line findings)
SaysFor (Some (Ok files)) paths status lines = (status ≡ Done) × (lines ≡ [])

-- the status and the lines that belong to these words over the files held
abbrev pub Says : List (List ℕ) → Bool → List File → Status → List (List ℕ) → Type 0
Says words true held status lines = SaysFor (asked_by words held).answer (asked_by words held).paths status lines
Says words false held status lines = (status ≡ Usage) × (lines ≡ usage_lines)

-- the paths of the tree's calls that these words ask for
abbrev pub paths_asked : List (List ℕ) → List File → List (List ℕ)
paths_asked words held = if is_command words then (asked_by words held).paths else []

-- where the tree tells its files, there are files to be put
abbrev pub HasFiles : List (List ℕ) → Outside → Type 0
HasFiles words before = IfSome before.tree.files (λ held. files_asked words held ≢ [])

-- where the tree tells its files, there is something to be printed
abbrev pub HasLines : List (List ℕ) → Outside → Type 0
HasLines words before = IfSome before.tree.files (λ held. (meant : Status) × (lines : List (List ℕ)) × Says words (is_command words) held meant lines × (lines ≢ []))

-- why a run gave its answer
abbrev pub Cause : List (List ℕ) → Outside → Outside → Status → Type 0
Cause words before after Done = Served before after × ComesTo words before IsAccepted
Cause words before after Usage = is_command words ≡ false
Cause words before after Refused = TreeServed before.tree after.tree × ComesTo words before IsRefusal
Cause words before after Missing = Rose before.tree.missings after.tree.missings × (after.tree.faults ≤ before.tree.faults) × ComesTo words before (λ answer. answer ≡ None)
Cause words before after ReadFault = Rose before.tree.faults after.tree.faults
Cause words before after WriteFault = (Rose before.out.faults after.out.faults × HasFiles words before) ⊎ (Rose before.screen.faults after.screen.faults × HasLines words before)
Cause words before after Memory = ⊤

-- this answer, or another where the screen failed or memory was wanting
pub data Unless (wanted : Status) (before after : Outside) (status : Status) : Type 0 where
  as_wanted : status ≡ wanted → Unless wanted before after status
  no_memory : status ≡ Memory → Unless wanted before after status
  screen_failed : status ≡ WriteFault → Rose before.screen.faults after.screen.faults → Unless wanted before after status

-- the answer that a run owes where no call of the tree failed, by what it comes to over the files held
abbrev pub Owes : Option (Result (List File) (List Finding)) → Outside → Outside → Status → Type 0
Owes None before after status = (status ≡ Missing) ⊎ (status ≡ Memory)
Owes (Some (Err findings)) before after status = Unless Refused before after status
Owes (Some (Ok files)) before after status = Unless Done before after status ⊎ ((status ≡ WriteFault) × Rose before.out.faults after.out.faults)

-- the count of faults of the output or of the screen is greater
abbrev pub WriteFailed : Outside → Outside → Type 0
WriteFailed before after = (before.out.faults < after.out.faults) ⊎ (before.screen.faults < after.screen.faults)

-- what a run owes
pub record IsOwed (words : List (List ℕ)) (before after : Outside) (status : Status) : Type 0 where
  pub usage : is_command words ≡ false → Unless Usage before after status
  pub project : is_command words ≡ true → ¬ Rose before.tree.faults after.tree.faults → IfSome before.tree.files (λ files. Owes (asked_by words files).answer before after status)
  pub write : WriteFailed before after → status ≢ Missing → status ≢ ReadFault → status ≢ Memory → status ≡ WriteFault

-- what a path holds after these files were put
abbrev pub held_after : List File → Option (List ℕ) → List ℕ → Option (List ℕ)
held_after [] held path = held
held_after (file ∷ files) held path = held_after files (if bytes_eq file.path path then Some file.bytes else held) path

-- these files were put, and nothing else
abbrev pub HoldsAll : List File → List File → List File → Type 0
HoldsAll files before after = (path : List ℕ) → bytes_at after path ≡ held_after files (bytes_at before path) path

-- a path that isn't that of the next file
abbrev pub IsNotNext : List File → List ℕ → Type 0
IsNotNext [] path = ⊤
IsNotNext (file ∷ left) path = path ≢ file.path

-- the first of these files were put, whole; nothing is said of the file after them
pub record HoldsFront (files before after : List File) : Type 0 where
  pub put : List File
  pub left : List File
  pub split : files ≡ put ++ left
  pub held : (path : List ℕ) → IsNotNext left path → bytes_at after path ≡ held_after put (bytes_at before path) path

-- what the output holds after an answer, where tree and output tell their files
abbrev pub Kept : List (List ℕ) → Outside → Outside → Status → Type 0
Kept words before after Done = IfSome before.tree.files (λ held. Told (HoldsAll (files_asked words held)) before.out.files after.out.files)
Kept words before after WriteFault = IfSome before.tree.files (λ held. Told (HoldsFront (files_asked words held)) before.out.files after.out.files)
Kept words before after Memory = IfSome before.tree.files (λ held. Told (HoldsFront (files_asked words held)) before.out.files after.out.files)
Kept words before after Refused = after.out ≡ before.out
Kept words before after Usage = after.out ≡ before.out
Kept words before after ReadFault = after.out ≡ before.out
Kept words before after Missing = after.out ≡ before.out

-- the lines of a report, one after another
abbrev pub text_of : List (List ℕ) → List ℕ
text_of [] = []
text_of (line ∷ lines) = line ++ text_of lines

-- what a run does over the files held: its status, what the screen shows and the files put are the stated ones
pub record AsPlanned (words : List (List ℕ)) (held : List File) (before after : Outside) (status : Status) : Type 0 where
  pub lines : List (List ℕ)
  pub says : Says words (is_command words) held status lines
  pub shown : Told (Appends (text_of lines)) before.screen.text after.screen.text
  pub kept : Told (HoldsAll (files_asked words held)) before.out.files after.out.files

-- where the tree tells its files, no call has failed and memory wasn't wanting, the run does what is stated
abbrev pub IsStated : List (List ℕ) → Outside → Outside → Status → Type 0
IsStated words before after status =
    ¬ Rose before.tree.faults after.tree.faults → ¬ Rose before.out.faults after.out.faults → ¬ Rose before.screen.faults after.screen.faults → status ≢ Memory
    → IfSome before.tree.files (λ held. AsPlanned words held before after status)

-- so many calls at most
abbrev pub AtMost : ℕ → Option ℕ → Option ℕ → Type 0
AtMost most before now = (count : ℕ) × (count ≤ most) × (now ≡ option_map (raised_by count) before)

-- no more calls of the tree than are asked for, and no more puts than there are files
pub record WithinCalls (words : List (List ℕ)) (before after : Outside) : Type 0 where
  pub tree : IfSome before.tree.files (λ held. AtMost (length (paths_asked words held)) before.tree.calls after.tree.calls)
  pub out : IfSome before.tree.files (λ held. AtMost (length (files_asked words held)) before.out.calls after.out.calls)
