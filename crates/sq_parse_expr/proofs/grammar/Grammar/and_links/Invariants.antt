use Rattle.std.proofs.Common.{◌≡◌, ◌-◌}
use Rattle.sq_syntax.specs.declared.symbol.Symbol.TheVariants.{And}
use Rattle.sq_grammar.specs.Reading.{sees, expect}
use Rattle.sq_grammar.specs.Levels.{joint}
use Rattle.sq_parse_expr.specs.Depth.{negated_at}
use Rattle.sq_grammar.specs.Reading.{many, many_from}
use Rattle.sq_lexemes.proofs.Turns.{ahead}
use Rattle.sq_parse_expr.proofs.grammar.Grammar.and_links.Given as goal

abbrev pub invariant-loop-turn : goal.invariant-loop-turn
invariant-loop-turn g l =
    let item = joint (expect And) (negated_at l.self.depth) in
    many (sees And) item l.fn.tokens ≡ ahead l.found (many_from (sees And) item (l._turn-end - l._turn) l.tokens)
