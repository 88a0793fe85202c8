use Rattle.std.proofs.Common.{◌≡◌, ◌-◌}
use Rattle.sq_syntax.specs.declared.symbol.Symbol.TheVariants.{Collate}
use Rattle.sq_grammar.specs.Reading.{sees}
use Rattle.sq_grammar.specs.Levels.{collation}
use Rattle.sq_grammar.specs.Reading.{many, many_from}
use Rattle.sq_lexemes.proofs.Turns.{ahead}
use Rattle.sq_lexemes.proofs.marks.collations.Given as goal

abbrev pub invariant-loop-turn : goal.invariant-loop-turn
invariant-loop-turn l =
    let item = collation in
    many (sees Collate) item l.fn.tokens ≡ ahead l.found (many_from (sees Collate) item (l._turn-end - l._turn) l.tokens)
