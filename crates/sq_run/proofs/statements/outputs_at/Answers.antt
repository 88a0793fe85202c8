use Rattle.std.specs.Prelude.{codes}
use Rattle.sq_syntax.specs.declared.token.TokenKind.TheVariants.{Word}
use Rattle.sq_run.specs.Statements.{name_at}
use Rattle.sq_run.proofs.Items.{told_more}
use Rattle.sq_run.proofs.statements.outputs_at.Goals as goal

pub loop-outputs-preserved : goal.loop-outputs-preserved
loop-outputs-preserved c =
    rw c.in_ok-push.ensures.ok (told_more name_at Word (codes "from") c.args.tokens.now c.loop-outputs.outputs c.loop-outputs.rest.now c.in_ok-output.output c.in_ok-output.later.now c.in_ok-more.more c.in_ok-more.later.now
    c.loop-outputs.invariant c.in_ok-output.ensures.part c.in_ok-more.ensures.part c.if-not-more.false c.in_ok-output.ensures.shorter c.in_ok-more.ensures.shorter)
