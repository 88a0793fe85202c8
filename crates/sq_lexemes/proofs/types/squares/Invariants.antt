use Rattle.std.proofs.Common.{◌≡◌, ◌-◌}
use Rattle.sq_syntax.specs.declared.symbol.Symbol.TheVariants.{OpenSquare}
use Rattle.sq_grammar.specs.Reading.{sees}
use Rattle.sq_grammar.specs.Names.{square}
use Rattle.sq_grammar.specs.Reading.{many, many_from}
use Rattle.sq_lexemes.proofs.Turns.{ahead}
use Rattle.sq_lexemes.proofs.types.squares.Given as goal

abbrev pub invariant-loop-turn : goal.invariant-loop-turn
invariant-loop-turn l =
    let item = square in
    many (sees OpenSquare) item l.fn.tokens ≡ ahead l.found (many_from (sees OpenSquare) item (l._turn-end - l._turn) l.tokens)
