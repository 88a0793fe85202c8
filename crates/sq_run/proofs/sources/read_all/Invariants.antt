use Rattle.sq_plan.specs.Folds.{seen}
use Rattle.sq_plan.proofs.Folds.{Reading}
use Rattle.sq_run.specs.Project.{source}
use Rattle.sq_run.proofs.sources.read_all.Given as goal

abbrev pub invariant-loop-number : goal.invariant-loop-number
invariant-loop-number g l =
    Reading (source l.purpose) l.paths g.M.Made.after (g.M.Made.value l.fn.start) (g.T.Tree.state l.fn.tree) l.number (g.T.Tree.state l.tree) (seen g.M.Made.value l.made)
