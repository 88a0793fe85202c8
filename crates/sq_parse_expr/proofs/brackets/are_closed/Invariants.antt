use Rattle.std.proofs.Common.{◌≡◌, ◌-◌, ◌≤◌, length, Some}
use Rattle.sq_grammar.specs.Ahead.{closed, is_some}
use Rattle.sq_parse_expr.specs.Brackets.{close_all}
use Rattle.sq_parse_expr.proofs.brackets.are_closed.Given as goal

abbrev pub invariant-loop-turn : goal.invariant-loop-turn
invariant-loop-turn l = record {
  same : is_some (close_all l.count (closed l.tokens 1)) ≡ is_some (close_all (l.count - l._turn) (Some l.rest));
  within : length l.rest ≤ length l.tokens;
}
