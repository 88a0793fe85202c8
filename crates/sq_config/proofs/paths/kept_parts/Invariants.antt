use Rattle.std.proofs.Common.{◌≡◌, ◌++◌, drop, map}
use Rattle.std.specs.List.{filter}
use Rattle.sq_config.specs.Paths as paths
use Rattle.sq_config.proofs.paths.kept_parts.Given as goal

abbrev pub invariant-loop-part : goal.invariant-loop-part
invariant-loop-part l = map (λ p. p.now) l.kept.items ++ filter paths.is_kept (map (λ p. p.now) (drop l.part-index l.part-items)) ≡ paths.kept_parts l.path
