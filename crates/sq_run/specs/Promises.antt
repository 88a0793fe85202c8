-- What a run of the program promises.
use Rattle.std.specs.Prelude.{◌≡◌, ℕ, List, Some}
use Rattle.sq_config.specs.declared.command_line.Task.TheVariants.{Compile}
use Rattle.sq_plan.specs.declared.status.Status.{Status}
use Rattle.sq_run.specs.Headline.{Headline}
use Rattle.sq_run.specs.Printed.{Printed}
use Rattle.sq_run.specs.Project.{task_asked}
use Rattle.sq_run.specs.Run.{Outside, IsRun, IsStated, Cause, IsOwed, Kept, WithinCalls}

-- for these words, by what the tree, the output and the screen were before and after, and by the status
pub record Promises (words : List (List ℕ)) (before after : Outside) (status : Status) : Type 0 where
  -- it judges what it reads, then puts files, then prints lines
  pub runs : IsRun words before after status
  -- where no call has failed and memory was there, it does what is stated of the files held
  pub stated : IsStated words before after status
  -- its status comes only where it has its cause
  pub cause : Cause words before after status
  -- and always where it is owed
  pub owed : IsOwed words before after status
  -- `compile` puts nothing
  pub compiles : task_asked words ≡ Some Compile → after.out ≡ before.out
  -- the output holds the files in full after `Done`, and what it held where the run doesn't come to files
  pub kept : Kept words before after status
  -- the screen shows what the status says
  pub printed : Printed words before after status
  -- no call is made but those that are asked for
  pub calls : WithinCalls words before after
  -- after `Done` the files read back as exactly the annotated queries, whose texts run as they say
  pub headline : Headline words before after status
