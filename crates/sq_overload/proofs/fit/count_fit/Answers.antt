use Rattle.std.proofs.Common.{◌≤◌, min, length, arith}
use Rattle.sq_overload.proofs.Shortness.{count_fit_past}
use Rattle.sq_overload.proofs.fit.count_fit.Goals as goal

pub returns-clause-count : goal.returns-clause-count
returns-clause-count c =
    let past : min (length c.args.inputs.now) (length c.args.args.now) ≤ c.loop-place.place = omega arith in
    let none = count_fit_past c.args.fit c.args.inputs.now c.args.args.now c.loop-place.place past in
    omega (arith, none, c.loop-place.invariant.0)
