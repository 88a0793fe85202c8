use Rattle.std.proofs.Common.{◌≡◌, ◌++◌, drop}
use Rattle.serde_json.specs.View.{items_view}
use Rattle.sq_config.specs.Meaning as meaning
use Rattle.sq_config.proofs.configuration.entries.add_plugins.Given as goal

abbrev pub invariant-loop-index : goal.invariant-loop-index
invariant-loop-index l = l.entries ++ meaning.plugin_entries l.folder l.at l.index (items_view (drop l.index l.items)) ≡ l.fn.entries ++ meaning.plugin_entries l.folder l.at 0 (items_view l.items)
