use Rattle.std.proofs.Common.{◌≡◌}
use Rattle.sq_catalog.specs.Dropping.{stripped}
use Rattle.sq_catalog.proofs.ChangedAt.{first_changed}
use Rattle.sq_catalog.proofs.dropping.strip_all.Given as goal

abbrev pub invariant-loop-table : goal.invariant-loop-table
invariant-loop-table l = l.tables ≡ first_changed (stripped l.ids) l.table-index l.initial.tables
