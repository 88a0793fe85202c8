use Rattle.std.proofs.Common.{arith, Ok}
use Rattle.std.proofs.lemmas.Result.{err_from_is_err_and}
use Rattle.sq_run.specs.Project.{block_files}
use Rattle.sq_plan.proofs.Together.{one_more, halted, none_left}
use Rattle.sq_run.proofs.blocks.judge_blocks.Goals as goal

pub returns-in_err-so_far : goal.returns-in_err-so_far
returns-in_err-so_far g c =
    let p = err_from_is_err_and c.from_residual.result c.from_residual.ensures.1 in
    rw (p.1, p.2) (halted (λ _ block. block_files c.args.configuration.now block) c.args.blocks.now c.loop-block.block-index c.block-item.result c.loop-block-test.true c.block-item.is _ _ _ c.loop-block.so_far
    c.judge_block.result c.in_err-so_far.field-0.0 c.loop-block.invariant c.judge_block.ensures c.in_err-so_far.ensures)

pub loop-block-preserved : goal.loop-block-preserved
loop-block-preserved g c =
    one_more (λ _ block. block_files c.args.configuration.now block) c.args.blocks.now c.loop-block.block-index c.block-item.result c.loop-block-test.true c.block-item.is _ _ _ c.loop-block.so_far
    c.judge_block.result c.in_ok-so_far.so_far c.loop-block.invariant c.judge_block.ensures c.in_ok-so_far.ensures

pub returns : goal.returns
returns g c =
    rw c.ending.ensures (c.loop-block.invariant _ (Ok _) (none_left (λ _ block. block_files c.args.configuration.now block) c.args.blocks.now c.loop-block.block-index _ (omega (arith, c.loop-block-test.false))))
