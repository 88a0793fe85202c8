use Rattle.std.proofs.Common.{◌≡◌, ◌-◌}
use Rattle.sq_syntax.specs.Facts.{Stream}
use Rattle.sq_grammar.specs.Schemas.{begins_tail, tail}
use Rattle.sq_grammar.specs.Reading.{many, many_from}
use Rattle.sq_lexemes.proofs.Turns.{ahead}
use Rattle.sq_parse_ddl.proofs.tails.tails.Given as goal

abbrev pub invariant-loop-turn : goal.invariant-loop-turn
invariant-loop-turn l =
    many (λ (now : Stream). begins_tail now.tokens) tail l.fn.tokens ≡ ahead l.found (many_from (λ (now : Stream). begins_tail now.tokens) tail (l._turn-end - l._turn) l.tokens)
