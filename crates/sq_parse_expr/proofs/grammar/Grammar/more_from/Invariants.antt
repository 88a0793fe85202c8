use Rattle.std.proofs.Common.{◌≡◌, ◌-◌}
use Rattle.sq_syntax.specs.declared.symbol.Symbol.TheVariants.{Comma}
use Rattle.sq_grammar.specs.Reading.{sees}
use Rattle.sq_grammar.specs.Queries.{next_from}
use Rattle.sq_parse_expr.specs.Depth.{outer, queries}
use Rattle.sq_grammar.specs.Reading.{many, many_from}
use Rattle.sq_lexemes.proofs.Turns.{ahead}
use Rattle.sq_parse_expr.proofs.grammar.Grammar.more_from.Given as goal

abbrev pub invariant-loop-turn : goal.invariant-loop-turn
invariant-loop-turn g l =
    let item = next_from (outer l.self.depth) (queries l.self.depth) in
    many (sees Comma) item l.fn.tokens ≡ ahead l.found (many_from (sees Comma) item (l._turn-end - l._turn) l.tokens)
