use Rattle.std.proofs.Common.{◌≡◌, ◌+◌, ◌≤◌, drop}
use Rattle.sq_overload.specs.Resolution.{count_fit}
use Rattle.sq_overload.proofs.fit.count_fit.Given as goal

-- so many patterns fit so far
abbrev pub invariant-loop-place : goal.invariant-loop-place
invariant-loop-place l = (l.fitting + count_fit l.fit (drop l.place l.inputs) (drop l.place l.args) ≡ count_fit l.fit l.inputs l.args) × (l.fitting ≤ l.place)
