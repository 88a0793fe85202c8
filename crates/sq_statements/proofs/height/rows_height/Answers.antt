use Rattle.std.proofs.Common.{arith}
use Rattle.sq_statements.specs.Heights.{row_height}
use Rattle.sq_statements.proofs.Heights.{one_more}
use Rattle.sq_statements.proofs.height.rows_height.Goals as goal

pub loop-row-preserved : goal.loop-row-preserved
loop-row-preserved c =
    omega (arith, c.loop-row.invariant, c.row_height.ensures, c.max-most.ensures, one_more row_height c.args.rows.now c.loop-row.row-index c.row-item.result c.loop-row-test.true c.row-item.is)
