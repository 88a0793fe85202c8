use Rattle.std.proofs.Common.{Ok, refl, ap, ◌∙◌}
use Rattle.std.proofs.lemmas.Result.{err_from_is_err_and}
use Rattle.sq_config.specs.declared.command_line.Task.{Task}
use Rattle.sq_run.specs.Project.{put_by}
use Rattle.sq_plan.proofs.Steps.{followed, stopped, judged_follows}
use Rattle.sq_run.proofs.project.judge_task.Goals as goal

pub returns-in_err-files : goal.returns-in_err-files
returns-in_err-files g c = let p = err_from_is_err_and c.from_residual.result c.from_residual.ensures.1 in rw (p.1, p.2) (record { follows = stopped _ _ _ _ _ c.in_err-files.ensures; compiling = tt })

pub returns : goal.returns
returns g c =
    record {
      follows = followed _ _ _ _ _ _ _ c.in_ok-files.ensures (judged_follows (Ok (put_by c.args.task c.in_ok-files.files)) _ (Ok c.put_by.result) (rw c.put_by.ensures refl));
      compiling = λ is. c.put_by.ensures ∙ ap (λ (task : Task). put_by task c.in_ok-files.files) is;
    }
