use Rattle.std.proofs.Common.{◌≡◌, ◌-◌}
use Rattle.sq_syntax.specs.declared.symbol.Symbol.TheVariants.{For}
use Rattle.sq_grammar.specs.Reading.{sees}
use Rattle.sq_grammar.specs.Queries.{lock}
use Rattle.sq_grammar.specs.Reading.{many, many_from}
use Rattle.sq_lexemes.proofs.Turns.{ahead}
use Rattle.sq_parse_expr.proofs.query_words.locks.Given as goal

abbrev pub invariant-loop-turn : goal.invariant-loop-turn
invariant-loop-turn l =
    let item = lock in
    many (sees For) item l.fn.tokens ≡ ahead l.found (many_from (sees For) item (l._turn-end - l._turn) l.tokens)
