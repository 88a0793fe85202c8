use Rattle.std.proofs.Common.{◌≡◌, drop}
use Rattle.sq_migrate.specs.Replay.{state, names_dropped}
use Rattle.sq_migrate.proofs.replaying.drop_names.Given as goal

abbrev pub invariant-loop-name : goal.invariant-loop-name
invariant-loop-name l = names_dropped l.place l.x (state l.catalogue l.refusals) (drop l.name-index l.x.names) ≡ names_dropped l.place l.x (state l.initial.catalogue l.initial.refusals) l.x.names
