use Rattle.std.proofs.Common.{◌≡◌, ◌<◌, ◌≤◌, length, sym, ◌∙◌, arith, ap}
use Rattle.sq_catalog.specs.Keys.{moved}
use Rattle.sq_catalog.proofs.ChangedAt.{none_changed, next_changed, whole_changed, all_back}
use Rattle.sq_catalog.proofs.keys.moved_places.Goals as goal

pub loop-place-init : goal.loop-place-init
loop-place-init c = c.deref_mut-place-items.ensures.value ∙ c.into_vec-places.ensures ∙ sym (none_changed (moved c.args.gone) c.args.places)

pub loop-place-preserved : goal.loop-place-preserved
loop-place-preserved c =
    let within : c.loop-place.place-index < length c.loop-place.place-items = omega arith in
    next_changed (moved c.args.gone) c.loop-place.place-items c.args.places c.loop-place.place-index c.moved.result c.loop-place.invariant within c.moved.ensures

pub returns : goal.returns
returns c =
    let there : length c.loop-place.place-items ≤ c.loop-place.place-index = omega arith in
    let old_len : length c.into_vec-places.result.items ≡ c.into_vec-places.result.len = omega (arith, ap length c.deref_mut-place-items.ensures.value) in
    let new_len : length c.loop-place.place-items ≡ c.into_vec-places.result.len = omega (arith, ap length c.deref_mut-place-items.ensures.value) in
    c.from_vec.ensures ∙ all_back c.into_vec-places.result.len c.loop-place.place-items c.into_vec-places.result.items new_len old_len ∙ whole_changed (moved c.args.gone) c.loop-place.place-items c.args.places c.loop-place.place-index c.loop-place.invariant there
