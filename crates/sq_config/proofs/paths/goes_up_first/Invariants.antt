use Rattle.std.proofs.Common.{◌≡◌, map, length}
use Rattle.sq_config.specs.Paths as paths
use Rattle.sq_config.proofs.paths.goes_up_first.Given as goal

abbrev pub invariant-loop-rest : goal.invariant-loop-rest
invariant-loop-rest l = paths.goes_up_first (map (λ p. p.now) l.rest) ≡ paths.goes_up_first (map (λ p. p.now) l.fn.parts)

abbrev pub decreases-loop-rest : goal.decreases-loop-rest
decreases-loop-rest l = length l.rest
