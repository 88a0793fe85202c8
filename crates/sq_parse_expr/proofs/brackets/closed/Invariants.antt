use Rattle.std.proofs.Common.{◌≡◌, ◌+◌, ◌-◌, ◌≤◌, length}
use Rattle.sq_grammar.specs.Ahead.{closed}
use Rattle.sq_parse_expr.proofs.brackets.closed.Given as goal

abbrev pub invariant-loop-depth : goal.invariant-loop-depth
invariant-loop-depth l = record {
  same : closed l.tokens l.count ≡ closed l.rest l.depth;
  bound : l.depth + length l.rest ≤ l.count + length l.tokens;
  within : length l.rest ≤ length l.tokens;
}

abbrev pub decreases-loop-depth : goal.decreases-loop-depth
decreases-loop-depth l = length l.rest
