use Rattle.std.proofs.Common.{◌≡◌, ◌-◌, ◌≤◌, length}
use Rattle.sq_grammar.specs.Ahead.{skip_dots}
use Rattle.sq_parse_expr.proofs.brackets.skip_dots.Given as goal

abbrev pub invariant-loop-after : goal.invariant-loop-after
invariant-loop-after l = record {
  same : skip_dots l.tokens ≡ skip_dots l.rest;
  within : length l.rest ≤ length l.tokens;
}

abbrev pub decreases-loop-after : goal.decreases-loop-after
decreases-loop-after l = length l.rest
