use Rattle.std.proofs.Common.{◌≡◌, ◌+◌, ◌≤◌, length}
use Rattle.std.specs.Prelude.{if◌then◌else◌}
use Rattle.sq_grammar.specs.Ahead.{queried, begins_core, closed, close_query}
use Rattle.sq_parse_expr.specs.Brackets.{close_all}
use Rattle.sq_parse_expr.proofs.brackets.within.Given as goal

abbrev pub invariant-loop-rest : goal.invariant-loop-rest
invariant-loop-rest l = record {
  same : queried l.tokens ≡ close_all l.count (if begins_core l.rest then closed l.rest 1 else close_query (queried l.rest));
  bound : l.count + length l.rest ≤ length l.tokens;
}

abbrev pub decreases-loop-rest : goal.decreases-loop-rest
decreases-loop-rest l = length l.rest
