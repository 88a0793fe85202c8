use Rattle.std.proofs.Common.{rules, sym}
use Rattle.sq_catalog.specs.Columns.{marked}
use Rattle.sq_catalog.proofs.ChangedAt.{written, past}
use Rattle.sq_catalog.proofs.columns.mark_at.Goals as goal

pub returns-then-at-len : goal.returns-then-at-len
returns-then-at-len c =
    sym (written (marked c.args.not_null) c.args.columns.now.items c.args.at c.index_mut.result.now (search rules) c.index_mut.ensures.value)

pub returns-else-at-len : goal.returns-else-at-len
returns-else-at-len c = sym (past (marked c.args.not_null) c.args.columns.now.items c.args.at (search rules))
