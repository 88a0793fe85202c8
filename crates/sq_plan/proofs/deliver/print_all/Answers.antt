use Rattle.std.proofs.lemmas.Result.{err_from_is_err_and}
use Rattle.sq_plan.specs.Deliver.{Print, PrintFails}
use Rattle.sq_plan.proofs.Each.{each_more, each_stops}
use Rattle.sq_plan.proofs.deliver.print_all.Goals as goal

pub returns-in_err-write : goal.returns-in_err-write
returns-in_err-write g c =
    let p = err_from_is_err_and c.from_residual.result c.from_residual.ensures.1 in
    rw (p.1, p.2) (
      c.loop-line.line-index,
      each_stops Print c.args.lines.now c.loop-line.line-index c.line-item.result _ _ _ c.loop-line-test.true c.line-item.is c.loop-line.invariant
          (PrintFails c.in_err-write.field-0.0) (rw (← c.as_slice.ensures) c.in_err-write.ensures),
    )

pub loop-line-preserved : goal.loop-line-preserved
loop-line-preserved g c =
    each_more Print c.args.lines.now c.loop-line.line-index c.line-item.result _ _ _ c.loop-line-test.true c.line-item.is c.loop-line.invariant (rw (← c.as_slice.ensures) c.in_ok-write.ensures)
