use Rattle.std.proofs.Common.{◌<◌, ◌≤◌, length, sym, ap, ◌∙◌, arith}
use Rattle.sq_catalog.specs.Dropping.{stripped}
use Rattle.sq_catalog.proofs.ChangedAt.{none_changed, next_item, whole_changed}
use Rattle.sq_catalog.proofs.dropping.strip_all.Goals as goal

pub loop-table-init : goal.loop-table-init
loop-table-init c = sym (none_changed (stripped c.args.ids.now) c.args.tables.now)

pub loop-table-preserved : goal.loop-table-preserved
loop-table-preserved c =
    let within : c.loop-table.table-index < length c.loop-table.tables = omega arith in
    next_item (stripped c.args.ids.now) c.loop-table.tables c.args.tables.now c.loop-table.table-index c.table-item.result c.strip.new.table c.loop-table.invariant within c.table-item.is (c.strip.ensures ∙ ap (stripped c.args.ids.now) (sym c.table-item.is))

pub returns : goal.returns
returns c =
    let there : length c.loop-table.tables ≤ c.loop-table.table-index = omega arith in
    whole_changed (stripped c.args.ids.now) c.loop-table.tables c.args.tables.now c.loop-table.table-index c.loop-table.invariant there
