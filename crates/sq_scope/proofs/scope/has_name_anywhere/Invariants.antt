use Rattle.std.proofs.Common.{◌≡◌, drop}
use Rattle.sq_scope.specs.Scope.{all_seen, has_name_anywhere}
use Rattle.sq_scope.proofs.scope.has_name_anywhere.Given as goal

abbrev pub invariant-loop-level : goal.invariant-loop-level
invariant-loop-level l = has_name_anywhere (all_seen (drop l.level-index l.levels)) l.name ≡ has_name_anywhere (all_seen l.levels) l.name
