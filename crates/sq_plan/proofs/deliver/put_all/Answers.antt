use Rattle.sq_plan.specs.Deliver.{Put, PutFails}
use Rattle.sq_plan.proofs.Each.{each_more, each_stops}
use Rattle.sq_plan.proofs.deliver.put_all.Goals as goal

pub returns-in-Err : goal.returns-in-Err
returns-in-Err g c =
    each_stops Put c.args.files.now c.loop-at.at c.index-files-at.result _ _ _ c.loop-at-test.true c.index-files-at.is c.loop-at.invariant (PutFails c.in-Err.fault) (rw (← c.as_str.ensures, ← c.as_slice.ensures) c.in-Err.ensures)

pub loop-at-preserved : goal.loop-at-preserved
loop-at-preserved g c =
    each_more Put c.args.files.now c.loop-at.at c.index-files-at.result _ _ _ c.loop-at-test.true c.index-files-at.is c.loop-at.invariant (rw (← c.as_str.ensures, ← c.as_slice.ensures) c.in-Ok.ensures)
