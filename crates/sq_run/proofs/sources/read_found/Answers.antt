use Rattle.std.proofs.Common.{Ok, Err}
use Rattle.std.proofs.lemmas.Result.{err_from_is_err_and}
use Rattle.sq_plan.proofs.Folds.{makes_after, makes_stopped}
use Rattle.sq_plan.proofs.Steps.{judged_follows}
use Rattle.sq_run.specs.Project.{counted}
use Rattle.sq_run.proofs.sources.read_found.Goals as goal

pub returns-in_err-few : goal.returns-in_err-few
returns-in_err-few g c =
    let p = err_from_is_err_and c.from_residual.result c.from_residual.ensures.1 in
    rw (p.1, p.2) (makes_stopped _ _ _ _ _ _ _ (judged_follows (counted c.args.found) _ (Err c.in_err-few.field-0.0) c.in_err-few.ensures.judges))

pub returns : goal.returns
returns g c =
    makes_after _ _ _ _ _ _ _ _ _ (judged_follows (counted c.args.found) _ (Ok c.in_ok-few.few) c.in_ok-few.ensures.judges) (rw (← c.as_slice.ensures) c.read_all.ensures)
