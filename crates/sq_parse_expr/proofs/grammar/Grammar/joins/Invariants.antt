use Rattle.std.proofs.Common.{◌≡◌, ◌-◌}
use Rattle.sq_grammar.specs.Queries.{begins_join, join, from_at}
use Rattle.sq_parse_expr.specs.Depth.{outer, queries}
use Rattle.sq_grammar.specs.Reading.{many, many_from}
use Rattle.sq_lexemes.proofs.Turns.{ahead}
use Rattle.sq_parse_expr.proofs.grammar.Grammar.joins.Given as goal

abbrev pub invariant-loop-turn : goal.invariant-loop-turn
invariant-loop-turn g l =
    let item = join (outer l.self.depth) (queries l.self.depth) (from_at (outer l.self.depth) (queries l.self.depth) l.limit) in
    many (λ now. begins_join now.tokens) item l.fn.tokens ≡ ahead l.found (many_from (λ now. begins_join now.tokens) item (l._turn-end - l._turn) l.tokens)
