use Rattle.std.proofs.lemmas.Result.{err_from_is_err_and}
use Rattle.sq_lexer.specs.TokenList.{token_list}
use Rattle.sq_plan.specs.Folds.{alone}
use Rattle.sq_run.specs.Project.{with_tokens}
use Rattle.sq_plan.specs.Sources.{bytes_read}
use Rattle.sq_plan.proofs.Steps.{followed, stopped, judged_follows}
use Rattle.sq_run.proofs.sources.read_source.Goals as goal

pub returns-in_err-bytes : goal.returns-in_err-bytes
returns-in_err-bytes g c = let p = err_from_is_err_and c.from_residual.result c.from_residual.ensures.1 in rw (p.1, p.2) (stopped _ _ _ _ _ c.in_err-bytes.ensures.follows)

pub returns : goal.returns
returns g c =
    followed _ _ _ _ _ _ _ c.in_ok-bytes.ensures.follows
    (judged_follows (with_tokens c.args.path.now (token_list c.args.number (bytes_read c.args.purpose c.in_ok-bytes.bytes))) _ (alone c.source_of.result)
    (rw (← c.as_slice.ensures, ← c.bytes_read.ensures.is) c.source_of.ensures))
