use Rattle.std.proofs.Common.{sym, ◌∙◌, rules}
use Rattle.sq_catalog.proofs.Changed.{stands_again, goes_on}
use Rattle.sq_catalog.proofs.tables.repeated_column.Goals as goal

pub returns-then-again : goal.returns-then-again
returns-then-again c =
    sym (stands_again c.args.columns.now c.loop-at.at c.index-columns-at.result (search rules) c.index-columns-at.is (search rules)) ∙ c.loop-at.invariant

pub loop-at-preserved : goal.loop-at-preserved
loop-at-preserved c =
    sym (goes_on c.args.columns.now c.loop-at.at c.index-columns-at.result (search rules) c.index-columns-at.is (search rules)) ∙ c.loop-at.invariant
