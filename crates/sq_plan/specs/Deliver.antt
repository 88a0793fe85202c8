-- What is put and printed where a run has come to an end.
use Rattle.std.specs.Prelude.{◌≡◌, ℕ, List, [], ◌∷◌, map, Option, None, Some, Result, Ok, Err, codes, slice_get}
use Rattle.std.specs.Option.{option_and_then}
use Rattle.sq_base.specs.Out.{OutState, IsPut}
use Rattle.sq_base.specs.Sink.{SinkState, IsWrite}
use Rattle.sq_base.specs.declared.file.File.{File}
use Rattle.sq_base.specs.declared.out.OutFault.{OutFault}
use Rattle.sq_base.specs.declared.out.OutFault.TheVariants.{Failed as PutFailed, Memory as PutMemory}
use Rattle.sq_base.specs.declared.sink.SinkFault.{SinkFault}
use Rattle.sq_base.specs.declared.sink.SinkFault.TheVariants.{Failed as WriteFailed, Memory as WriteMemory}
use Rattle.sq_plan.specs.declared.halt.Halt.{Halt}
use Rattle.sq_plan.specs.declared.halt.Halt.TheVariants.{Refused, Missing, Failed, Memory}
use Rattle.sq_plan.specs.declared.status.Status.{Status}
use Rattle.sq_plan.specs.declared.status.Status.TheVariants.{Done, Refused as IsRefused, Usage as IsUsage, ReadFault, WriteFault, Memory as NoMemory, Missing as IsMissing}
use Rattle.sq_plan.specs.declared.halt.Ending.{Ending}
use Rattle.sq_plan.specs.declared.halt.Ending.TheVariants.{Usage, Judged}
use Rattle.sq_plan.specs.declared.deliver.Report.{Report}
use Rattle.sq_plan.specs.declared.deliver.PutFault.{PutFault}
use Rattle.sq_plan.specs.Lines.{line, finding_line, usage_lines}
use Rattle.sq_plan.specs.Status.{unless_screen_failed}
use Rattle.sq_plan.specs.Each.{Each, StopsAt}

-- a put of this file that answered Ok
abbrev pub Put : File → OutState → OutState → Type 0
Put file old new = IsPut old new (Ok tt) file.path file.bytes

-- a put of this file that answered a fault
abbrev pub PutFails : OutFault → File → OutState → OutState → Type 0
PutFails fault file old new = IsPut old new (Err fault) file.path file.bytes

-- the files were put in order, up to the first put that answered a fault
abbrev pub PutsAll : List File → OutState → OutState → Result (Unit {0}) PutFault → Type 0
PutsAll files old new (Ok done) = Each Put files old new
PutsAll files old new (Err stop) = StopsAt Put (PutFails stop.fault) files stop.at old new

-- the files to be put
abbrev pub files_of : Ending → List File
files_of Usage = []
files_of (Judged (Ok files)) = files
files_of (Judged (Err halt)) = []

-- the lines that name a path that a call found nothing at, couldn't read, or couldn't write
abbrev pub missing_line : List ℕ → List ℕ
missing_line path = line path (codes ": no such file or folder")

abbrev pub unread_line : List ℕ → List ℕ
unread_line path = line path (codes ": cannot be read")

abbrev pub unwritten_line : List ℕ → List ℕ
unwritten_line path = line path (codes ": cannot be written")

abbrev pub report : Status → List (List ℕ) → Option Report
report status lines = Some (record { status = status; lines = lines })

-- the status and lines where a put has failed
abbrev pub put_failed : List File → ℕ → OutFault → Option Report
put_failed files at PutFailed = option_and_then (λ (file : File). report WriteFault (unwritten_line file.path ∷ [])) (slice_get files at)
put_failed files at PutMemory = None

-- the status and lines of a run that has ended so, or None where memory was wanting
abbrev pub report_of : Ending → Result (Unit {0}) PutFault → Option Report
report_of Usage put = report IsUsage usage_lines
report_of (Judged (Ok files)) (Ok done) = report Done []
report_of (Judged (Ok files)) (Err stop) = put_failed files stop.at stop.fault
report_of (Judged (Err (Refused findings))) put = report IsRefused (map finding_line findings)
report_of (Judged (Err (Missing path))) put = report IsMissing (missing_line path ∷ [])
report_of (Judged (Err (Failed path))) put = report ReadFault (unread_line path ∷ [])
report_of (Judged (Err Memory)) put = None

-- a write of this line that answered Ok
abbrev pub Print : List ℕ → SinkState → SinkState → Type 0
Print line old new = IsWrite old new (Ok tt) line

-- a write of this line that answered a fault
abbrev pub PrintFails : SinkFault → List ℕ → SinkState → SinkState → Type 0
PrintFails fault line old new = IsWrite old new (Err fault) line

-- the lines were written in order, up to the first write that answered a fault
abbrev pub PrintsAll : List (List ℕ) → SinkState → SinkState → Result (Unit {0}) SinkFault → Type 0
PrintsAll lines old new (Ok done) = Each Print lines old new
PrintsAll lines old new (Err fault) = (at : ℕ) × StopsAt Print (PrintFails fault) lines at old new

-- the line for want of memory was written, or a part of it
abbrev pub TellsMemory : SinkState → SinkState → Type 0
TellsMemory old new = (told : Result (Unit {0}) SinkFault) × IsWrite old new told (codes "out of memory\n")

-- what follows the lines of a report
abbrev pub Concludes : Status → Result (Unit {0}) SinkFault → SinkState → SinkState → Status → Type 0
Concludes intended (Ok done) old new status = (new ≡ old) × (status ≡ intended)
Concludes intended (Err WriteFailed) old new status = (new ≡ old) × (status ≡ unless_screen_failed intended)
Concludes intended (Err WriteMemory) old new status = TellsMemory old new × (status ≡ NoMemory)

-- a report was shown, and the run ended with this status
pub record Shows (shown : Report) (old new : SinkState) (status : Status) : Type 0 where
  pub printed : Result (Unit {0}) SinkFault
  pub mid : SinkState
  pub lines : PrintsAll shown.lines old mid printed
  pub conclusion : Concludes shown.status printed mid new status
