use Rattle.std.proofs.Common.{◌<◌, sym, ◌∙◌, subst}
use Rattle.sq_scope.proofs.ScopeLemmas.{first_found}
use Rattle.sq_scope.proofs.scope.matches.Goals as goal

pub returns-then-len-gt0 : goal.returns-then-len-gt0
returns-then-len-gt0 c =
    sym (first_found c.args.levels.now c.loop-depth.depth c.index-levels-depth.result c.args.name.now c.in_ok-found.found c.loop-depth-test.true c.index-levels-depth.is
    c.in_ok-found.ensures (subst (λ n. 0 < n) c.len.ensures c.if-len-gt0.true))
    ∙ c.loop-depth.invariant
