use Rattle.std.proofs.Common.{◌≡◌, drop, map}
use Rattle.std.specs.List.{list_any}
use Rattle.sq_config.specs.Paths as paths
use Rattle.sq_config.proofs.paths.has_above.Given as goal

abbrev pub invariant-loop-part : goal.invariant-loop-part
invariant-loop-part l = list_any paths.is_above (map (λ p. p.now) (drop l.part-index l.parts)) ≡ list_any paths.is_above (map (λ p. p.now) l.parts)
