use Rattle.std.proofs.Common.{◌≡◌, ◌-◌}
use Rattle.sq_syntax.specs.declared.symbol.Symbol.TheVariants.{Or}
use Rattle.sq_grammar.specs.Reading.{sees, expect}
use Rattle.sq_grammar.specs.Levels.{joint}
use Rattle.sq_parse_expr.specs.Depth.{conjunction_at}
use Rattle.sq_grammar.specs.Reading.{many, many_from}
use Rattle.sq_lexemes.proofs.Turns.{ahead}
use Rattle.sq_parse_expr.proofs.grammar.Grammar.or_links.Given as goal

abbrev pub invariant-loop-turn : goal.invariant-loop-turn
invariant-loop-turn g l =
    let item = joint (expect Or) (conjunction_at l.self.depth) in
    many (sees Or) item l.fn.tokens ≡ ahead l.found (many_from (sees Or) item (l._turn-end - l._turn) l.tokens)
