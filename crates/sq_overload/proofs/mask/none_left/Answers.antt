use Rattle.std.proofs.Common.{◌≡◌, true, false, ap, sym, ◌∙◌}
use Rattle.sq_overload.specs.Masks.{keeps}
use Rattle.sq_overload.specs.Resolution.{none_left}
use Rattle.sq_overload.proofs.Kept.{kept_skips, some_taken}
use Rattle.sq_overload.proofs.mask.none_left.Goals as goal

pub returns-then-keeps : goal.returns-then-keeps
returns-then-keeps c =
    let taken : keeps c.loop-row.left.bits ≡ true = sym c.keeps.ensures ∙ c.if-keeps.true in
    sym (some_taken c.loop-row._row-index c.loop-row.left.bits c.args.rows.now c.loop-row-test.true taken) ∙ c.loop-row.invariant

pub loop-row-preserved : goal.loop-row-preserved
loop-row-preserved c =
    let skipped : keeps c.loop-row.left.bits ≡ false = sym c.keeps.ensures ∙ c.if-keeps.false in
    ap none_left (sym (kept_skips c.loop-row._row-index c.loop-row.left.bits c.behind-left.result.bits c.args.rows.now c.loop-row-test.true skipped c.behind-left.ensures))
    ∙ c.loop-row.invariant
