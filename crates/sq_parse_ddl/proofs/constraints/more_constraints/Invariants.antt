use Rattle.std.proofs.Common.{◌≡◌, ◌-◌}
use Rattle.sq_syntax.specs.Facts.{Stream}
use Rattle.sq_grammar.specs.Schemas.{begins_constraint, constraint}
use Rattle.sq_grammar.specs.Reading.{many, many_from}
use Rattle.sq_lexemes.proofs.Turns.{ahead}
use Rattle.sq_parse_ddl.proofs.constraints.more_constraints.Given as goal

abbrev pub invariant-loop-turn : goal.invariant-loop-turn
invariant-loop-turn l =
    many (λ (now : Stream). begins_constraint now.tokens) constraint l.fn.tokens ≡ ahead l.found (many_from (λ (now : Stream). begins_constraint now.tokens) constraint (l._turn-end - l._turn) l.tokens)
