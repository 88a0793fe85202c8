use Rattle.std.proofs.Common.{◌≡◌, drop}
use Rattle.sq_migrate.specs.Replay.{state, acted}
use Rattle.sq_migrate.proofs.replaying.act.Given as goal

abbrev pub invariant-loop-action : goal.invariant-loop-action
invariant-loop-action l = acted l.place l.x (state l.catalogue l.refusals) (drop l.action-index l.actions) ≡ acted l.place l.x (state l.initial.catalogue l.initial.refusals) l.actions
