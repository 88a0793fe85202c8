use Rattle.std.proofs.Common.{take}
use Rattle.sq_plan.specs.Each.{Each}
use Rattle.sq_plan.specs.Deliver.{Put}
use Rattle.sq_plan.proofs.deliver.put_all.Given as goal

abbrev pub invariant-loop-at : goal.invariant-loop-at
invariant-loop-at g l = Each Put (take l.at l.files) (g.O.Out.state l.fn.out) (g.O.Out.state l.out)
