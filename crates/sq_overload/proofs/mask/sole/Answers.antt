use Rattle.std.proofs.Common.{◌≡◌, ◌+◌, true, false, ap, sym, ◌∙◌}
use Rattle.std.proofs.lemmas.List.{take_rest}
use Rattle.sq_overload.specs.Masks.{keeps}
use Rattle.sq_overload.specs.Resolution.{sole}
use Rattle.sq_overload.proofs.Kept.{kept_skips, sole_takes}
use Rattle.sq_overload.proofs.mask.sole.Goals as goal

pub returns-then-keeps : goal.returns-then-keeps
returns-then-keeps c =
    let taken : keeps c.loop-place.left.bits ≡ true = sym c.keeps.ensures ∙ c.if-keeps.true in
    (rw (take_rest c.args.rows.now (c.loop-place.place + 1)) at c.only.ensures)
    ∙ sole_takes c.loop-place.place c.loop-place.left.bits c.behind.result.bits c.args.rows.now c.loop-place-test.true taken c.behind.ensures
    ∙ c.loop-place.invariant

pub loop-place-preserved : goal.loop-place-preserved
loop-place-preserved c =
    let skipped : keeps c.loop-place.left.bits ≡ false = sym c.keeps.ensures ∙ c.if-keeps.false in
    ap sole (sym (kept_skips c.loop-place.place c.loop-place.left.bits c.behind-left.result.bits c.args.rows.now c.loop-place-test.true skipped c.behind-left.ensures))
    ∙ c.loop-place.invariant
