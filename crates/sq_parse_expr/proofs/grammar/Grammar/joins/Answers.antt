use Rattle.std.proofs.Common.{sym, ◌∙◌, arith}
use Rattle.std.proofs.lemmas.Result.{err_from_is_err_and}
use Rattle.sq_grammar.specs.Queries.{begins_join, join, from_at}
use Rattle.sq_parse_expr.specs.Depth.{outer, queries}
use Rattle.sq_lexemes.proofs.Turns.{found_all, no_turns, turn_fails, turn_goes}
use Rattle.sq_parse_expr.proofs.grammar.Grammar.joins.Goals as goal

pub returns-then-not-begins_join : goal.returns-then-not-begins_join
returns-then-not-begins_join g c =
    found_all (λ now. begins_join now.tokens) (join (outer c.args.self.now.depth) (queries c.args.self.now.depth) (from_at (outer c.args.self.now.depth) (queries c.args.self.now.depth) c.args.limit)) _ c.loop-turn.found _ c.loop-turn.tokens (sym c.begins_join.ensures ∙ c.if-not-begins_join.true) c.loop-turn.invariant

pub returns-in_err-next : goal.returns-in_err-next
returns-in_err-next g c =
    let p = err_from_is_err_and c.from_residual.result c.from_residual.ensures.1 in
    rw (p.1, p.2) (λ memory. turn_fails (λ now. begins_join now.tokens) (join (outer c.args.self.now.depth) (queries c.args.self.now.depth) (from_at (outer c.args.self.now.depth) (queries c.args.self.now.depth) c.args.limit)) _ c.loop-turn.found _ c.loop-turn.tokens (omega arith) (sym c.begins_join.ensures ∙ c.if-not-begins_join.false) (c.in_err-next.ensures memory) c.loop-turn.invariant)

pub loop-turn-preserved : goal.loop-turn-preserved
loop-turn-preserved g c =
    rw c.in_ok-push.ensures.ok (turn_goes (λ now. begins_join now.tokens) (join (outer c.args.self.now.depth) (queries c.args.self.now.depth) (from_at (outer c.args.self.now.depth) (queries c.args.self.now.depth) c.args.limit)) _ c.loop-turn.found _ c.loop-turn._turn c.loop-turn.tokens c.join.new.tokens c.in_ok-next.next c.loop-turn-test.true (sym c.begins_join.ensures ∙ c.if-not-begins_join.false) c.in_ok-next.ensures c.loop-turn.invariant)

pub returns : goal.returns
returns g c =
    no_turns (λ now. begins_join now.tokens) (join (outer c.args.self.now.depth) (queries c.args.self.now.depth) (from_at (outer c.args.self.now.depth) (queries c.args.self.now.depth) c.args.limit)) _ c.loop-turn.found _ c.loop-turn.tokens (omega arith) c.loop-turn.invariant
