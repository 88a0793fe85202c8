use Rattle.std.proofs.Common.{◌≡◌, ◌-◌}
use Rattle.sq_syntax.specs.declared.symbol.Symbol.TheVariants.{Comma}
use Rattle.sq_grammar.specs.Reading.{sees, many, many_from}
use Rattle.sq_lexemes.proofs.Turns.{ahead}
use Rattle.sq_parse_expr.specs.Depth.{outer, queries}
use Rattle.sq_parse_stmt.specs.Changes.{next_assignment}
use Rattle.sq_parse_stmt.proofs.assignments.more_assignments.Given as goal

abbrev pub invariant-loop-turn : goal.invariant-loop-turn
invariant-loop-turn l =
    let item = next_assignment (outer 64) (queries 64) in
    many (sees Comma) item l.fn.tokens ≡ ahead l.found (many_from (sees Comma) item (l._turn-end - l._turn) l.tokens)
