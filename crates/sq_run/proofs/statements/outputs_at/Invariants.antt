use Rattle.std.proofs.Common.{length}
use Rattle.std.specs.Prelude.{codes}
use Rattle.sq_syntax.specs.declared.token.TokenKind.TheVariants.{Word}
use Rattle.sq_run.specs.Statements.{name_at}
use Rattle.sq_run.proofs.Items.{IsTold}
use Rattle.sq_run.proofs.statements.outputs_at.Given as goal

abbrev pub invariant-loop-outputs : goal.invariant-loop-outputs
invariant-loop-outputs l = IsTold name_at Word (codes "from") l.tokens l.outputs l.rest

abbrev pub decreases-loop-outputs : goal.decreases-loop-outputs
decreases-loop-outputs l = length l.rest
