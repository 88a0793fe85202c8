use Rattle.std.proofs.Common.{◌≡◌, ◌-◌}
use Rattle.sq_syntax.specs.declared.symbol.Symbol.TheVariants.{At, Time}
use Rattle.sq_grammar.specs.Reading.{begins_both}
use Rattle.sq_grammar.specs.Levels.{zone_link}
use Rattle.sq_parse_expr.specs.Depth.{collated_at}
use Rattle.sq_grammar.specs.Reading.{many, many_from}
use Rattle.sq_lexemes.proofs.Turns.{ahead}
use Rattle.sq_parse_expr.proofs.grammar.Grammar.zone_links.Given as goal

abbrev pub invariant-loop-turn : goal.invariant-loop-turn
invariant-loop-turn g l =
    let item = zone_link (collated_at l.self.depth) in
    many (λ now. begins_both At Time now.tokens) item l.fn.tokens ≡ ahead l.found (many_from (λ now. begins_both At Time now.tokens) item (l._turn-end - l._turn) l.tokens)
