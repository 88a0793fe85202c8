use Rattle.std.proofs.Common.{◌≡◌, ◌++◌, drop}
use Rattle.serde_json.specs.View.{items_view}
use Rattle.sq_config.specs.Meaning as meaning
use Rattle.sq_config.proofs.configuration.entries.blocks_of.Given as goal

abbrev pub invariant-loop-index : goal.invariant-loop-index
invariant-loop-index l = l.blocks ++ meaning.blocks_of l.folder l.at l.index (items_view (drop l.index l.items)) ≡ meaning.blocks_of l.folder l.at 0 (items_view l.items)
