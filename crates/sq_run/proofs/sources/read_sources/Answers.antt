use Rattle.std.proofs.lemmas.Result.{err_from_is_err_and}
use Rattle.sq_plan.proofs.Folds.{makes_after, makes_stopped}
use Rattle.sq_run.proofs.sources.read_sources.Goals as goal

pub returns-in_err-found : goal.returns-in_err-found
returns-in_err-found g c = let p = err_from_is_err_and c.from_residual.result c.from_residual.ensures.1 in rw (p.1, p.2) (makes_stopped _ _ _ _ _ _ _ c.in_err-found.ensures)

pub returns : goal.returns
returns g c = makes_after _ _ _ _ _ _ _ _ _ c.in_ok-found.ensures c.read_found.ensures
