use Rattle.std.proofs.Common.{◌≡◌, ◌-◌}
use Rattle.sq_grammar.specs.Levels.{sees_sign, sign}
use Rattle.sq_grammar.specs.Reading.{many, many_from}
use Rattle.sq_lexemes.proofs.Turns.{ahead}
use Rattle.sq_lexemes.proofs.marks.signs.Given as goal

abbrev pub invariant-loop-turn : goal.invariant-loop-turn
invariant-loop-turn l =
    let item = sign in
    many (sees_sign) item l.fn.tokens ≡ ahead l.found (many_from (sees_sign) item (l._turn-end - l._turn) l.tokens)
