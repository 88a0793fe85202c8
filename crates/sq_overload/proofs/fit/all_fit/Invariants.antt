use Rattle.std.proofs.Common.{◌≡◌, drop}
use Rattle.sq_overload.specs.Resolution.{all_fit}
use Rattle.sq_overload.proofs.fit.all_fit.Given as goal

-- every pattern so far fits
abbrev pub invariant-loop-place : goal.invariant-loop-place
invariant-loop-place l = all_fit l.fit (drop l.place l.inputs) (drop l.place l.args) ≡ all_fit l.fit l.inputs l.args
