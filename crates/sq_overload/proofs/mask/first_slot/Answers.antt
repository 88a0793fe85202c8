use Rattle.std.proofs.Common.{◌≡◌, false, ap, sym, ◌∙◌}
use Rattle.sq_overload.specs.Masks.{keeps}
use Rattle.sq_overload.specs.Resolution.{first_slot}
use Rattle.sq_overload.proofs.Kept.{kept_skips}
use Rattle.sq_overload.proofs.mask.first_slot.Goals as goal

pub loop-row-preserved : goal.loop-row-preserved
loop-row-preserved c =
    let skipped : keeps c.loop-row.left.bits ≡ false = sym c.keeps.ensures ∙ c.if-keeps.false in
    ap (first_slot c.args.place) (sym (kept_skips c.loop-row.row-index c.loop-row.left.bits c.behind-left.result.bits c.args.rows.now c.loop-row-test.true skipped c.behind-left.ensures))
    ∙ c.loop-row.invariant
