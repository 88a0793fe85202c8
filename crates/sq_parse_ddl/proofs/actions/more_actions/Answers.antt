use Rattle.std.proofs.Common.{sym, ◌∙◌, arith}
use Rattle.std.proofs.lemmas.Result.{err_from_is_err_and}
use Rattle.sq_syntax.specs.declared.symbol.Symbol.TheVariants.{Comma}
use Rattle.sq_grammar.specs.Reading.{sees}
use Rattle.sq_parse_ddl.specs.Parts.{next_action}
use Rattle.sq_lexemes.proofs.Turns.{found_all, no_turns, turn_fails, turn_goes}
use Rattle.sq_parse_ddl.proofs.actions.more_actions.Goals as goal

pub returns-then-not-sees : goal.returns-then-not-sees
returns-then-not-sees c =
    found_all (sees Comma) next_action _ c.loop-turn.found _ c.loop-turn.tokens (sym c.sees.ensures ∙ c.if-not-sees.true) c.loop-turn.invariant

pub returns-in_err-next : goal.returns-in_err-next
returns-in_err-next c =
    let p = err_from_is_err_and c.from_residual.result c.from_residual.ensures.1 in
    rw (p.1, p.2) (λ memory. turn_fails (sees Comma) next_action _ c.loop-turn.found _ c.loop-turn.tokens (omega arith) (sym c.sees.ensures ∙ c.if-not-sees.false) (c.in_err-next.ensures memory) c.loop-turn.invariant)

pub loop-turn-preserved : goal.loop-turn-preserved
loop-turn-preserved c =
    rw c.in_ok-push.ensures.ok (turn_goes (sees Comma) next_action _ c.loop-turn.found _ c.loop-turn._turn c.loop-turn.tokens c.next_action.new.tokens c.in_ok-next.next c.loop-turn-test.true (sym c.sees.ensures ∙ c.if-not-sees.false) c.in_ok-next.ensures c.loop-turn.invariant)

pub returns : goal.returns
returns c =
    no_turns (sees Comma) next_action _ c.loop-turn.found _ c.loop-turn.tokens (omega arith) c.loop-turn.invariant
