use Rattle.std.proofs.Common.{◌≡◌, ◌-◌}
use Rattle.sq_grammar.specs.Levels.{sees_link, link}
use Rattle.sq_parse_expr.specs.Depth.{operand_of}
use Rattle.sq_grammar.specs.Reading.{many, many_from}
use Rattle.sq_lexemes.proofs.Turns.{ahead}
use Rattle.sq_parse_expr.proofs.grammar.Grammar.links.Given as goal

abbrev pub invariant-loop-turn : goal.invariant-loop-turn
invariant-loop-turn g l =
    let item = link (operand_of l.level l.self.depth) in
    many (sees_link l.level) item l.fn.tokens ≡ ahead l.found (many_from (sees_link l.level) item (l._turn-end - l._turn) l.tokens)
