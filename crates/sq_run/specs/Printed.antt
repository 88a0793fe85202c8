-- What the screen shows after a run.
use Rattle.std.specs.Prelude.{◌≡◌, ◌≢◌, ◌⊎◌, ℕ, ◌+◌, false, List, [], ◌∷◌, ◌++◌, length, map, Some, IfSome, Err, codes}
use Rattle.std.specs.Option.{option_map}
use Rattle.sq_base.specs.Counts.{Rose, Told, raised_by}
use Rattle.sq_base.specs.Tree.{TreeState}
use Rattle.sq_base.specs.Out.{OutState}
use Rattle.sq_base.specs.Sink.{SinkState, Appends, AppendsFront}
use Rattle.sq_base.specs.declared.file.File.{File}
use Rattle.sq_plan.specs.declared.halt.Finding.{Finding}
use Rattle.sq_plan.specs.declared.status.Status.{Status}
use Rattle.sq_plan.specs.declared.status.Status.TheVariants.{Done, Refused, Usage, ReadFault, WriteFault, Memory, Missing}
use Rattle.sq_plan.specs.Asked.{IsFront, EndsAt}
use Rattle.sq_plan.specs.Status.{unless_screen_failed}
use Rattle.sq_plan.specs.Lines.{finding_line, usage_lines}
use Rattle.sq_plan.specs.Deliver.{missing_line, unread_line, unwritten_line}
use Rattle.sq_run.specs.Project.{is_command, asked_by}
use Rattle.sq_run.specs.Run.{Outside, AtMost, ComesTo, IsAccepted, files_asked, held_after, text_of}
use Rattle.sq_base.specs.Files.{bytes_at}

-- a part of the text was written, and then a part of the line for want of memory
pub record TellsAfter (text before now : List ℕ) : Type 0 where
  pub front : List ℕ
  pub rest : List ℕ
  pub told : List ℕ
  pub untold : List ℕ
  pub text_is : text ≡ front ++ rest
  pub line_is : codes "out of memory\n" ≡ told ++ untold
  pub now_is : now ≡ before ++ front ++ told

-- what the screen shows of a text, where it tells what it shows: all of it, a part of it where it failed, or a part of it and of the line for want of memory
pub data ShowsText (meant : Status) (text : List ℕ) (old new : SinkState) (status : Status) : Type 0 where
  whole : status ≡ meant → Told (Appends text) old.text new.text → ShowsText meant text old new status
  cut : status ≡ unless_screen_failed meant → Rose old.faults new.faults → Told (AppendsFront text) old.text new.text → ShowsText meant text old new status
  no_memory : status ≡ Memory → Told (TellsAfter text) old.text new.text → ShowsText meant text old new status

-- this is the path of the k-th call that is asked, where k calls were made
pub record FailedAt (path : List ℕ) (asked : List (List ℕ)) (before after : TreeState) : Type 0 where
  pub made : List (List ℕ)
  pub first : IsFront made asked
  pub last : EndsAt path made
  pub calls : after.calls ≡ option_map (raised_by (length made)) before.calls

-- what the output holds after these files were put, and nothing is said of what the next file's path holds
abbrev pub HoldsBut : File → List File → List File → List File → Type 0
HoldsBut next put before after = (path : List ℕ) → path ≢ next.path → bytes_at after path ≡ held_after put (bytes_at before path) path

-- the put of this file was the last call of the output: one for each file before it, which were put, whole
pub record StopsBefore (file : File) (files : List File) (before after : OutState) : Type 0 where
  pub put : List File
  pub left : List File
  pub split : files ≡ put ++ file ∷ left
  pub calls : after.calls ≡ option_map (raised_by (length put + 1)) before.calls
  pub held : Told (HoldsBut file put) before.files after.files

-- the lines that belong to a status, and what must have happened for them to be meant
abbrev pub AreLinesOf : List (List ℕ) → Outside → Outside → Status → List (List ℕ) → Type 0
AreLinesOf words before after Memory lines = lines ≡ []
-- nothing is printed for a project that is accepted
AreLinesOf words before after Done lines = (lines ≡ []) × ComesTo words before IsAccepted
-- the usage is printed for words alone that are no command
AreLinesOf words before after Usage lines = (lines ≡ usage_lines) × (is_command words ≡ false)
AreLinesOf words before after Refused lines = (findings : List Finding) × (lines ≡ map finding_line findings) × ComesTo words before (λ answer. answer ≡ Some (Err findings))
-- a path is missing where the count of missings is greater, and is that of the last call
AreLinesOf words before after Missing lines =
    (path : List ℕ) × (lines ≡ missing_line path ∷ []) × Rose before.tree.missings after.tree.missings × IfSome before.tree.files (λ held. EndsAt path (asked_by words held).paths)
-- a path can't be read where the count of faults is greater, and is that of the call that failed
AreLinesOf words before after ReadFault lines =
    (path : List ℕ) × (lines ≡ unread_line path ∷ []) × Rose before.tree.faults after.tree.faults × IfSome before.tree.files (λ held. FailedAt path (asked_by words held).paths before.tree after.tree)
-- a path can't be written where the output's count of faults is greater, and is that of the put that failed
AreLinesOf words before after WriteFault lines =
    (file : File) × (lines ≡ unwritten_line file.path ∷ []) × Rose before.out.faults after.out.faults × IfSome before.tree.files (λ held. StopsBefore file (files_asked words held) before.out after.out)

-- no more writes than there are lines, and for want of memory one more
abbrev pub WithinWrites : ℕ → Status → SinkState → SinkState → Type 0
WithinWrites lines status before now = AtMost lines before.calls now.calls ⊎ ((status ≡ Memory) × AtMost (lines + 1) before.calls now.calls)

-- after an answer the screen shows lines that belong to the status that was meant
pub record Printed (words : List (List ℕ)) (before after : Outside) (status : Status) : Type 0 where
  pub meant : Status
  pub lines : List (List ℕ)
  pub belongs : AreLinesOf words before after meant lines
  pub shown : ShowsText meant (text_of lines) before.screen after.screen status
  pub writes : WithinWrites (length lines) status before.screen after.screen
