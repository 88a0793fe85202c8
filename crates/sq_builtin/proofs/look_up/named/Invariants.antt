use Rattle.std.proofs.Common.{◌≡◌, drop}
use Rattle.sq_builtin.specs.Groups.{named}
use Rattle.sq_builtin.proofs.look_up.named.Given as goal

-- no group so far has the name
abbrev pub invariant-loop-group : goal.invariant-loop-group
invariant-loop-group l = named l.name (drop l.group-index l.groups) ≡ named l.name l.groups
