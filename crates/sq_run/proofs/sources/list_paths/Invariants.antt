use Rattle.std.proofs.Common.{Result, ℕ, List, drop}
use Rattle.sq_base.specs.Tree.{TreeState}
use Rattle.sq_plan.specs.declared.halt.Halt.{Halt}
use Rattle.sq_plan.specs.Asked.{Follows, gathered, ended_with}
use Rattle.sq_plan.specs.Reading.{listed}
use Rattle.sq_run.proofs.sources.list_paths.Given as goal

abbrev pub invariant-loop-path : goal.invariant-loop-path
invariant-loop-path g l =
    (new : TreeState) (r : Result (List (List ℕ)) Halt) → Follows (gathered (λ _ path. listed l.purpose path) l.path-index (drop l.path-index l.paths)) (g.T.Tree.state l.tree) new r
    → Follows (gathered (λ _ path. listed l.purpose path) 0 l.paths) (g.T.Tree.state l.fn.tree) new (ended_with l.so_far r)
