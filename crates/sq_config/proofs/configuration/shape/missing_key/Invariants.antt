use Rattle.std.proofs.Common.{◌≡◌, drop, map}
use Rattle.serde_json.specs.View.{view}
use Rattle.sq_config.specs.Shape as shape
use Rattle.sq_config.proofs.configuration.shape.missing_key.Given as goal

abbrev pub invariant-loop-key : goal.invariant-loop-key
invariant-loop-key l = shape.missing_key (map (λ key. key.now) (drop l.key-index l.required)) l.at (view l.object) ≡ shape.missing_key (map (λ key. key.now) l.required) l.at (view l.object)
