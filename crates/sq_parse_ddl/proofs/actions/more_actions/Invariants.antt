use Rattle.std.proofs.Common.{◌≡◌, ◌-◌}
use Rattle.sq_syntax.specs.declared.symbol.Symbol.TheVariants.{Comma}
use Rattle.sq_grammar.specs.Reading.{sees}
use Rattle.sq_parse_ddl.specs.Parts.{next_action}
use Rattle.sq_grammar.specs.Reading.{many, many_from}
use Rattle.sq_lexemes.proofs.Turns.{ahead}
use Rattle.sq_parse_ddl.proofs.actions.more_actions.Given as goal

abbrev pub invariant-loop-turn : goal.invariant-loop-turn
invariant-loop-turn l =
    many (sees Comma) next_action l.fn.tokens ≡ ahead l.found (many_from (sees Comma) next_action (l._turn-end - l._turn) l.tokens)
