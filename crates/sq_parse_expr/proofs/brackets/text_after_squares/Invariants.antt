use Rattle.std.proofs.Common.{◌≡◌, ◌+◌, ◌-◌, ◌≤◌, length}
use Rattle.sq_grammar.specs.Ahead.{text_after_squares}
use Rattle.sq_parse_expr.proofs.brackets.text_after_squares.Given as goal

abbrev pub invariant-loop-lexeme : goal.invariant-loop-lexeme
invariant-loop-lexeme l = record {
  same : text_after_squares l.tokens 0 ≡ text_after_squares l.rest l.depth;
  bound : l.depth + length l.rest ≤ length l.tokens;
}

abbrev pub decreases-loop-lexeme : goal.decreases-loop-lexeme
decreases-loop-lexeme l = length l.rest
