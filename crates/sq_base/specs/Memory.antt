-- What the objects in memory tell.
use Rattle.std.specs.Prelude.{ℕ, List, [], ◌∷◌, Some, if◌then◌else◌}
use Rattle.std.specs.Str.{bytes_eq}
use Rattle.sq_base.specs.Calls.{CallLog}
use Rattle.sq_base.specs.Tree.{TreeState}
use Rattle.sq_base.specs.Out.{OutState}
use Rattle.sq_base.specs.Sink.{SinkState}
use Rattle.sq_base.specs.declared.file.File.{File}

-- a tree in memory: its files, its calls, and how many of them found nothing
pub record TreeMemory : Type 0 where
  pub files : List File
  pub calls : CallLog
  pub missings : ℕ

-- an output in memory: its files and its calls
pub record OutMemory : Type 0 where
  pub files : List File
  pub calls : CallLog

-- a screen in memory: all bytes written and its calls
pub record SinkMemory : Type 0 where
  pub text : List ℕ
  pub calls : CallLog

-- the same where no call fails: how many calls there were
pub record StillTreeMemory : Type 0 where
  pub files : List File
  pub calls : ℕ
  pub missings : ℕ

pub record StillOutMemory : Type 0 where
  pub files : List File
  pub calls : ℕ

pub record StillSinkMemory : Type 0 where
  pub text : List ℕ
  pub calls : ℕ

-- the files after a put: in the place of the first file at this path, or at the end
abbrev pub put_file : List File → List ℕ → List ℕ → List File
put_file [] path bytes = record { path = path; bytes = bytes } ∷ []
put_file (file ∷ files) path bytes = if bytes_eq file.path path then record { path = path; bytes = bytes } ∷ files else file ∷ put_file files path bytes

-- what each of them tells of itself

abbrev pub tree_state : TreeMemory → TreeState
tree_state tree = record { files = Some tree.files; calls = Some tree.calls.made; faults = tree.calls.faults; missings = tree.missings }

abbrev pub out_state : OutMemory → OutState
out_state out = record { files = Some out.files; calls = Some out.calls.made; faults = out.calls.faults }

abbrev pub sink_state : SinkMemory → SinkState
sink_state sink = record { text = Some sink.text; calls = Some sink.calls.made; faults = sink.calls.faults }

abbrev pub still_tree_state : StillTreeMemory → TreeState
still_tree_state tree = record { files = Some tree.files; calls = Some tree.calls; faults = 0; missings = tree.missings }

abbrev pub still_out_state : StillOutMemory → OutState
still_out_state out = record { files = Some out.files; calls = Some out.calls; faults = 0 }

abbrev pub still_sink_state : StillSinkMemory → SinkState
still_sink_state sink = record { text = Some sink.text; calls = Some sink.calls; faults = 0 }
