use Rattle.std.proofs.Common.{◌≡◌, ◌++◌, drop}
use Rattle.sq_lexer.specs.Printed.{spaced}
use Rattle.sq_run.proofs.query.add_all_spaced.Given as goal

abbrev pub invariant-loop-token : goal.invariant-loop-token
invariant-loop-token l = l.text ++ spaced (drop l.token-index l.tokens) ≡ l.fn.text ++ spaced l.tokens
