use Rattle.std.proofs.Common.{◌≡◌, ◌-◌}
use Rattle.sq_syntax.specs.declared.symbol.Symbol.TheVariants.{Not}
use Rattle.sq_grammar.specs.Reading.{sees}
use Rattle.sq_grammar.specs.Levels.{negation}
use Rattle.sq_grammar.specs.Reading.{many, many_from}
use Rattle.sq_lexemes.proofs.Turns.{ahead}
use Rattle.sq_lexemes.proofs.marks.negations.Given as goal

abbrev pub invariant-loop-turn : goal.invariant-loop-turn
invariant-loop-turn l =
    let item = negation in
    many (sees Not) item l.fn.tokens ≡ ahead l.found (many_from (sees Not) item (l._turn-end - l._turn) l.tokens)
