use Rattle.std.proofs.Common.{◌≡◌, ◌++◌, drop}
use Rattle.serde_json.specs.View.{items_view}
use Rattle.sq_config.specs.Meaning as meaning
use Rattle.sq_config.proofs.configuration.meaning.joined_items.Given as goal

abbrev pub invariant-loop-item : goal.invariant-loop-item
invariant-loop-item l = l.paths ++ meaning.joined_items l.folder (items_view (drop l.item-index l.items)) ≡ meaning.joined_items l.folder (items_view l.items)
