use Rattle.std.proofs.Common.{take}
use Rattle.sq_plan.specs.Each.{Each}
use Rattle.sq_plan.specs.Deliver.{Print}
use Rattle.sq_plan.proofs.deliver.print_all.Given as goal

abbrev pub invariant-loop-line : goal.invariant-loop-line
invariant-loop-line g l = Each Print (take l.line-index l.lines) (g.S.Sink.state l.fn.screen) (g.S.Sink.state l.screen)
