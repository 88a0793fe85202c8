use Rattle.std.proofs.lemmas.Result.{err_from_is_err_and}
use Rattle.sq_run.specs.Project.{configured}
use Rattle.sq_plan.proofs.Steps.{followed, stopped, judged_follows}
use Rattle.sq_run.proofs.project.read_configuration.Goals as goal

pub returns-in_err-bytes : goal.returns-in_err-bytes
returns-in_err-bytes g c = let p = err_from_is_err_and c.from_residual.result c.from_residual.ensures.1 in rw (p.1, p.2) (stopped _ _ _ _ _ c.in_err-bytes.ensures.follows)

pub returns : goal.returns
returns g c =
    followed _ _ _ _ _ _ _ c.in_ok-bytes.ensures.follows (judged_follows (configured c.args.path.now c.in_ok-bytes.bytes) _ c.configure.result (rw (← c.as_slice.ensures) c.configure.ensures))
