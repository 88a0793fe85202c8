-- The calls of an object in memory, some of which are to fail.
use Rattle.std.specs.Prelude.{ℕ, Bool, nat_eq, List, if◌then◌else◌}
use Rattle.std.specs.List.{list_any}
use Rattle.sq_base.specs.Counts.{raised}

-- the numbers of the calls that fail, and how many calls there were and how many of them failed
pub record CallLog : Type 0 where
  pub failing : List ℕ
  pub made : ℕ
  pub faults : ℕ

-- whether the next call fails
abbrev pub next_fails : CallLog → Bool
next_fails log = list_any (λ number. nat_eq number log.made) log.failing

-- after the next call
abbrev pub called : CallLog → CallLog
called log = record {
  failing = log.failing;
  made = raised log.made;
  faults = if next_fails log then raised log.faults else log.faults;
}
