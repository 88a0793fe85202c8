use Rattle.std.proofs.Common.{◌≡◌, ◌-◌}
use Rattle.sq_syntax.specs.declared.symbol.Symbol.TheVariants.{On}
use Rattle.sq_grammar.specs.Reading.{sees}
use Rattle.sq_grammar.specs.Schemas.{reaction}
use Rattle.sq_grammar.specs.Reading.{many, many_from}
use Rattle.sq_lexemes.proofs.Turns.{ahead}
use Rattle.sq_parse_ddl.proofs.references.reactions.Given as goal

abbrev pub invariant-loop-turn : goal.invariant-loop-turn
invariant-loop-turn l =
    many (sees On) reaction l.fn.tokens ≡ ahead l.found (many_from (sees On) reaction (l._turn-end - l._turn) l.tokens)
