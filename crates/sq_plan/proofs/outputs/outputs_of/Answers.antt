use Rattle.std.proofs.lemmas.Result.{err_from_is_err_and}
use Rattle.std.proofs.Common.{arith}
use Rattle.sq_plan.specs.Outputs.{output_of_entry}
use Rattle.sq_plan.proofs.EachJudged.{one_more_at, halted_judged, none_judged}
use Rattle.sq_plan.proofs.outputs.outputs_of.Goals as goal

pub returns-in_err-so_far : goal.returns-in_err-so_far
returns-in_err-so_far c =
    let p = err_from_is_err_and c.from_residual.result c.from_residual.ensures.1 in
    rw (p.1, p.2) (halted_judged (output_of_entry c.args.configuration.now) c.args.entries.now c.loop-entry.so_far c.entry-item.result _ c.in_err-so_far.field-0.0 c.output_of_entry.ensures c.in_err-so_far.ensures)

pub loop-entry-preserved : goal.loop-entry-preserved
loop-entry-preserved c =
    one_more_at (output_of_entry c.args.configuration.now) c.args.entries.now c.loop-entry.so_far c.loop-entry.entry-index c.entry-item.result c.loop-entry-test.true c.entry-item.is _ c.in_ok-so_far.so_far c.loop-entry.invariant c.output_of_entry.ensures c.in_ok-so_far.ensures

pub returns : goal.returns
returns c = rw c.ending.ensures (none_judged (output_of_entry c.args.configuration.now) c.args.entries.now c.loop-entry.so_far c.loop-entry.entry-index (omega (arith, c.loop-entry-test.false)) c.loop-entry.invariant)
