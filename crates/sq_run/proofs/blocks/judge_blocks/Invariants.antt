use Rattle.std.proofs.Common.{Result, List, drop}
use Rattle.sq_base.specs.Tree.{TreeState}
use Rattle.sq_base.specs.declared.file.File.{File}
use Rattle.sq_plan.specs.declared.halt.Halt.{Halt}
use Rattle.sq_plan.specs.Asked.{Follows, gathered, ended_with}
use Rattle.sq_run.specs.Project.{block_files, all_files}
use Rattle.sq_run.proofs.blocks.judge_blocks.Given as goal

abbrev pub invariant-loop-block : goal.invariant-loop-block
invariant-loop-block g l =
    (new : TreeState) (r : Result (List File) Halt) → Follows (gathered (λ _ block. block_files l.configuration block) l.block-index (drop l.block-index l.blocks)) (g.T.Tree.state l.tree) new r
    → Follows (all_files l.configuration l.blocks) (g.T.Tree.state l.fn.tree) new (ended_with l.so_far r)
