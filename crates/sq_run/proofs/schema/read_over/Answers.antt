use Rattle.std.proofs.Common.{[], Ok, Err, refl}
use Rattle.std.proofs.lemmas.Result.{err_from_is_err_and}
use Rattle.sq_run.proofs.Origins.{schema_then, schema_stopped}
use Rattle.sq_run.proofs.schema.read_over.Goals as goal

pub returns-in_err-done : goal.returns-in_err-done
returns-in_err-done g c =
    let p = err_from_is_err_and c.from_residual.result c.from_residual.ensures.1 in
    rw (p.1, p.2) (schema_stopped c.args.configuration.now c.args.paths.now _ _ _ c.in_err-done.field-0.0 c.in_err-done.ensures)

pub returns : goal.returns
returns g c = schema_then c.args.configuration.now c.args.paths.now _ _ _ c.in_ok-done.done c.catalogue_by.result (rw (c.requires, c.new.ensures) refl) c.in_ok-done.ensures c.catalogue_by.ensures
