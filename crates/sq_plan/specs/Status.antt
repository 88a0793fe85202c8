-- The numbers of the statuses, and what a failing screen makes of them.
use Rattle.std.specs.Prelude.{ℕ}
use Rattle.sq_plan.specs.declared.status.Status.{Status}
use Rattle.sq_plan.specs.declared.status.Status.TheVariants.{Done, Refused as IsRefused, Usage as IsUsage, ReadFault, WriteFault, Memory as NoMemory, Missing as IsMissing}

abbrev pub code_of : Status → ℕ
code_of Done = 0
code_of IsRefused = 1
code_of IsUsage = 2
code_of ReadFault = 3
code_of WriteFault = 4
code_of NoMemory = 5
code_of IsMissing = 6

-- the status where the screen failed
abbrev pub unless_screen_failed : Status → Status
unless_screen_failed Done = WriteFault
unless_screen_failed IsRefused = WriteFault
unless_screen_failed IsUsage = WriteFault
unless_screen_failed ReadFault = ReadFault
unless_screen_failed WriteFault = WriteFault
unless_screen_failed NoMemory = NoMemory
unless_screen_failed IsMissing = IsMissing
