use Rattle.std.proofs.lemmas.Result.{err_from_is_err_and}
use Rattle.sq_plan.proofs.Steps.{followed, stopped}
use Rattle.sq_run.proofs.project.judge_request.Goals as goal

pub returns-in_err-blocks : goal.returns-in_err-blocks
returns-in_err-blocks g c = let p = err_from_is_err_and c.from_residual.result c.from_residual.ensures.1 in rw (p.1, p.2) (record { follows = stopped _ _ _ _ _ c.in_err-blocks.ensures; compiling = tt })

pub returns : goal.returns
returns g c = record { follows = followed _ _ _ _ _ _ _ c.in_ok-blocks.ensures c.judge_task.ensures.follows; compiling = c.judge_task.ensures.compiling }
