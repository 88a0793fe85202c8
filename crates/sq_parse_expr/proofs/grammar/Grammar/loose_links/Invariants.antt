use Rattle.std.proofs.Common.{◌≡◌, ◌-◌}
use Rattle.sq_syntax.specs.declared.symbol.Symbol.TheVariants.{Union, Except}
use Rattle.sq_grammar.specs.Reading.{begins}
use Rattle.std.specs.Prelude.{◌||◌}
use Rattle.sq_grammar.specs.Queries.{set_link, loose_operation}
use Rattle.sq_parse_expr.specs.Outputs.{tight_operands}
use Rattle.sq_parse_expr.specs.Depth.{outer, queries}
use Rattle.sq_grammar.specs.Reading.{many, many_from}
use Rattle.sq_lexemes.proofs.Turns.{ahead}
use Rattle.sq_parse_expr.proofs.grammar.Grammar.loose_links.Given as goal

abbrev pub invariant-loop-turn : goal.invariant-loop-turn
invariant-loop-turn g l =
    let item = set_link loose_operation (tight_operands (outer l.self.depth) (queries l.self.depth)) in
    many (λ now. begins Union now.tokens || begins Except now.tokens) item l.fn.tokens ≡ ahead l.found (many_from (λ now. begins Union now.tokens || begins Except now.tokens) item (l._turn-end - l._turn) l.tokens)
