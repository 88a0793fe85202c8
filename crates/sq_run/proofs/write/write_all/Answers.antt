use Rattle.std.proofs.lemmas.Result.{err_from_is_err_and}
use Rattle.std.proofs.Common.{arith}
use Rattle.sq_run.specs.Project.{written}
use Rattle.sq_plan.proofs.EachJudged.{one_more_at, halted_judged, none_judged}
use Rattle.sq_run.proofs.write.write_all.Goals as goal

pub returns-in_err-so_far : goal.returns-in_err-so_far
returns-in_err-so_far c =
    let p = err_from_is_err_and c.from_residual.result c.from_residual.ensures.1 in
    rw (p.1, p.2) (halted_judged (written c.args.configuration.now c.args.models.now c.args.queries.now) c.args.outputs.now c.loop-output.so_far c.output-item.result _ c.in_err-so_far.field-0.0 c.written.ensures c.in_err-so_far.ensures)

pub loop-output-preserved : goal.loop-output-preserved
loop-output-preserved c =
    one_more_at (written c.args.configuration.now c.args.models.now c.args.queries.now) c.args.outputs.now c.loop-output.so_far c.loop-output.output-index c.output-item.result c.loop-output-test.true c.output-item.is _ c.in_ok-so_far.so_far c.loop-output.invariant c.written.ensures c.in_ok-so_far.ensures

pub returns : goal.returns
returns c = rw c.ending.ensures (none_judged (written c.args.configuration.now c.args.models.now c.args.queries.now) c.args.outputs.now c.loop-output.so_far c.loop-output.output-index (omega (arith, c.loop-output-test.false)) c.loop-output.invariant)
