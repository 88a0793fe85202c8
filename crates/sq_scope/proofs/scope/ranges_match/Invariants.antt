use Rattle.std.proofs.Common.{◌≡◌, ◌++◌, drop}
use Rattle.sq_scope.specs.Scope.{ranges_match}
use Rattle.sq_scope.proofs.scope.ranges_match.Given as goal

abbrev pub invariant-loop-place : goal.invariant-loop-place
invariant-loop-place l = l.found ++ ranges_match l.depth l.place (drop l.place l.ranges) l.name ≡ ranges_match l.depth 0 l.ranges l.name
