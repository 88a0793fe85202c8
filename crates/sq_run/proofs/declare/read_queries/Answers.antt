use Rattle.std.proofs.Common.{Ok, Err, refl}
use Rattle.std.proofs.lemmas.Result.{err_from_is_err_and}
use Rattle.sq_run.proofs.Declared.{queries_then, queries_stopped}
use Rattle.sq_run.proofs.declare.read_queries.Goals as goal

pub returns-in_err-all : goal.returns-in_err-all
returns-in_err-all g c =
    let p = err_from_is_err_and c.from_residual.result c.from_residual.ensures.1 in
    rw (p.1, p.2) (queries_stopped c.args.catalogue.now c.args.paths.now _ _ _ c.in_err-all.field-0.0 c.in_err-all.ensures)

pub returns : goal.returns
returns g c =
    queries_then c.args.catalogue.now c.args.paths.now _ _ _ (c.in_ok-all.all.catalogue.now, c.in_ok-all.all.done) c.unless_found.result (rw (c.new.ensures, c.new-2.ensures) refl) c.in_ok-all.ensures c.unless_found.ensures
