use Rattle.std.proofs.Common.{◌≤◌, min, length, arith, sym, ◌∙◌}
use Rattle.sq_overload.proofs.Shortness.{all_fit_past}
use Rattle.sq_overload.proofs.fit.all_fit.Goals as goal

pub returns : goal.returns
returns c =
    let past : min (length c.args.inputs.now) (length c.args.args.now) ≤ c.loop-place.place = omega arith in
    sym (all_fit_past c.args.fit c.args.inputs.now c.args.args.now c.loop-place.place past) ∙ c.loop-place.invariant
