use Rattle.std.proofs.Common.{sym, ◌∙◌, arith}
use Rattle.std.proofs.lemmas.Result.{err_from_is_err_and}
use Rattle.sq_grammar.specs.Levels.{sees_link, link}
use Rattle.sq_parse_expr.specs.Depth.{operand_of}
use Rattle.sq_lexemes.proofs.Turns.{found_all, no_turns, turn_fails, turn_goes}
use Rattle.sq_parse_expr.proofs.grammar.Grammar.links.Goals as goal

pub returns-then-not-sees_link : goal.returns-then-not-sees_link
returns-then-not-sees_link g c =
    found_all (sees_link c.args.level) (link (operand_of c.args.level c.args.self.now.depth)) _ c.loop-turn.found _ c.loop-turn.tokens (sym c.sees_link.ensures ∙ c.if-not-sees_link.true) c.loop-turn.invariant

pub returns-in_err-next : goal.returns-in_err-next
returns-in_err-next g c =
    let p = err_from_is_err_and c.from_residual.result c.from_residual.ensures.1 in
    rw (p.1, p.2) (λ memory. turn_fails (sees_link c.args.level) (link (operand_of c.args.level c.args.self.now.depth)) _ c.loop-turn.found _ c.loop-turn.tokens (omega arith) (sym c.sees_link.ensures ∙ c.if-not-sees_link.false) (c.in_err-next.ensures memory) c.loop-turn.invariant)

pub loop-turn-preserved : goal.loop-turn-preserved
loop-turn-preserved g c =
    rw c.in_ok-push.ensures.ok (turn_goes (sees_link c.args.level) (link (operand_of c.args.level c.args.self.now.depth)) _ c.loop-turn.found _ c.loop-turn._turn c.loop-turn.tokens c.link.new.tokens c.in_ok-next.next c.loop-turn-test.true (sym c.sees_link.ensures ∙ c.if-not-sees_link.false) c.in_ok-next.ensures c.loop-turn.invariant)

pub returns : goal.returns
returns g c =
    no_turns (sees_link c.args.level) (link (operand_of c.args.level c.args.self.now.depth)) _ c.loop-turn.found _ c.loop-turn.tokens (omega arith) c.loop-turn.invariant
