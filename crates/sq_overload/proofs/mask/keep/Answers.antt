use Rattle.std.proofs.Common.{◌^◌, ◌≤◌, length, refl, arith, ◌∙◌}
use Rattle.sq_overload.specs.Masks.{behind, passes}
use Rattle.sq_overload.proofs.Kept.{kept_narrowed, narrowed_end, narrowed_step, room}
use Rattle.sq_overload.proofs.mask.keep.Goals as goal

pub with-kept-requires-clause-room : goal.with-kept-requires-clause-room
with-kept-requires-clause-room c =
    let step = narrowed_step (passes c.args.args.now c.args.test) c.loop-place.kept.bits c.loop-place.place c.loop-place.left.bits (behind c.loop-place.left.bits) c.stays.result _ c.args.rows.now c.loop-place-test.true c.stays.ensures refl in
    room (passes c.args.args.now c.args.test) _ c.args.mask.bits _ c.args.rows.now c.requires.few (step ∙ c.loop-place.invariant)

pub loop-place-preserved : goal.loop-place-preserved
loop-place-preserved c =
    let step = narrowed_step (passes c.args.args.now c.args.test) c.loop-place.kept.bits c.loop-place.place c.loop-place.left.bits c.behind-left.result.bits c.stays.result _ c.args.rows.now c.loop-place-test.true c.stays.ensures c.behind-left.ensures in
    rw c.with-kept.ensures (step ∙ c.loop-place.invariant)

pub returns : goal.returns
returns c =
    let past : length c.args.rows.now ≤ c.loop-place.place = omega arith in
    let all = narrowed_end (passes c.args.args.now c.args.test) c.loop-place.kept.bits (2 ^ c.loop-place.place) c.loop-place.place c.loop-place.left.bits _ c.args.rows.now past c.loop-place.invariant in
    rw all (kept_narrowed (passes c.args.args.now c.args.test) 0 c.args.mask.bits c.args.rows.now)
