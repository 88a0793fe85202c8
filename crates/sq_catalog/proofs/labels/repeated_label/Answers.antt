use Rattle.std.proofs.Common.{sym, ◌∙◌, rules}
use Rattle.sq_catalog.proofs.LabelsAgain.{stands_again, goes_on}
use Rattle.sq_catalog.proofs.labels.repeated_label.Goals as goal

pub returns-then-again : goal.returns-then-again
returns-then-again c =
    sym (stands_again c.args.labels.now c.loop-at.at c.index-labels-at.result (search rules) c.index-labels-at.is (search rules)) ∙ c.loop-at.invariant

pub loop-at-preserved : goal.loop-at-preserved
loop-at-preserved c =
    sym (goes_on c.args.labels.now c.loop-at.at c.index-labels-at.result (search rules) c.index-labels-at.is (search rules)) ∙ c.loop-at.invariant
