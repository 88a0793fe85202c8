use Rattle.sq_plan.proofs.Folds.{wanting}
use Rattle.sq_run.specs.Project.{schema_read}
use Rattle.sq_run.proofs.schema.read_schema.Goals as goal

pub returns-in-Err : goal.returns-in-Err
returns-in-Err g c = wanting (schema_read c.args.configuration.now c.args.paths.now) _
