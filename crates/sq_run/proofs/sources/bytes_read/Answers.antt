use Rattle.sq_plan.specs.declared.entries.Purpose.TheVariants.{Schema}
use Rattle.sq_plan.proofs.Marked.{bytes_read_size}
use Rattle.sq_run.proofs.sources.bytes_read.Goals as goal

pub returns-in-Schema-clause-within : goal.returns-in-Schema-clause-within
returns-in-Schema-clause-within c = rw c.before_rollback.ensures (bytes_read_size Schema c.args.bytes.now)
