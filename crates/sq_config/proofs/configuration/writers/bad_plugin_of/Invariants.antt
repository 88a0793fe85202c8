use Rattle.std.proofs.Common.{◌≡◌, drop}
use Rattle.serde_json.specs.View.{items_view}
use Rattle.sq_config.specs.Shape as shape
use Rattle.sq_config.proofs.configuration.writers.bad_plugin_of.Given as goal

abbrev pub invariant-loop-index : goal.invariant-loop-index
invariant-loop-index l = shape.first_bad_item shape.bad_plugin l.at l.index (items_view (drop l.index l.items)) ≡ shape.first_bad_item shape.bad_plugin l.at 0 (items_view l.items)
