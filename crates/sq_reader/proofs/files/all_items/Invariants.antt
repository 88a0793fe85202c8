use Rattle.std.proofs.Common.{◌≡◌, drop}
use Rattle.sq_reader.specs.Items.{with_items}
use Rattle.sq_reader.specs.Reading.{items_from}
use Rattle.sq_reader.proofs.files.all_items.Given as goal

-- the items so far stand before those of the other files
abbrev pub invariant-loop-number : goal.invariant-loop-number
invariant-loop-number l = with_items l.items (items_from l.number (drop l.number l.files)) ≡ items_from 0 l.files
