use Rattle.std.proofs.Common.{sym, ◌∙◌, arith}
use Rattle.std.proofs.lemmas.Result.{err_from_is_err_and}
use Rattle.sq_syntax.specs.Facts.{Stream}
use Rattle.sq_grammar.specs.Schemas.{begins_constraint, constraint}
use Rattle.sq_lexemes.proofs.Turns.{found_all, no_turns, turn_fails, turn_goes}
use Rattle.sq_parse_ddl.proofs.constraints.more_constraints.Goals as goal

pub returns-then-not-begins_constraint : goal.returns-then-not-begins_constraint
returns-then-not-begins_constraint c =
    found_all (λ (now : Stream). begins_constraint now.tokens) constraint _ c.loop-turn.found _ c.loop-turn.tokens (sym c.begins_constraint.ensures ∙ c.if-not-begins_constraint.true) c.loop-turn.invariant

pub returns-in_err-next : goal.returns-in_err-next
returns-in_err-next c =
    let p = err_from_is_err_and c.from_residual.result c.from_residual.ensures.1 in
    rw (p.1, p.2) (λ memory. turn_fails (λ (now : Stream). begins_constraint now.tokens) constraint _ c.loop-turn.found _ c.loop-turn.tokens (omega arith) (sym c.begins_constraint.ensures ∙ c.if-not-begins_constraint.false) (c.in_err-next.ensures memory) c.loop-turn.invariant)

pub loop-turn-preserved : goal.loop-turn-preserved
loop-turn-preserved c =
    rw c.in_ok-push.ensures.ok (turn_goes (λ (now : Stream). begins_constraint now.tokens) constraint _ c.loop-turn.found _ c.loop-turn._turn c.loop-turn.tokens c.constraint.new.tokens c.in_ok-next.next c.loop-turn-test.true (sym c.begins_constraint.ensures ∙ c.if-not-begins_constraint.false) c.in_ok-next.ensures c.loop-turn.invariant)

pub returns : goal.returns
returns c =
    no_turns (λ (now : Stream). begins_constraint now.tokens) constraint _ c.loop-turn.found _ c.loop-turn.tokens (omega arith) c.loop-turn.invariant
