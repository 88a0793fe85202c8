use Rattle.std.proofs.Common.{◌≡◌, drop}
use Rattle.sq_scope.specs.Scope.{all_seen, matches}
use Rattle.sq_scope.proofs.scope.matches.Given as goal

abbrev pub invariant-loop-depth : goal.invariant-loop-depth
invariant-loop-depth l = matches l.depth (all_seen (drop l.depth l.levels)) l.name ≡ matches 0 (all_seen l.levels) l.name
