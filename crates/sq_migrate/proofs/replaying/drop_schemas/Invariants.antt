use Rattle.std.proofs.Common.{◌≡◌, drop}
use Rattle.sq_migrate.specs.Replay.{state, schemas_dropped}
use Rattle.sq_migrate.proofs.replaying.drop_schemas.Given as goal

abbrev pub invariant-loop-name : goal.invariant-loop-name
invariant-loop-name l = schemas_dropped l.place l.x (state l.catalogue l.refusals) (drop l.name-index l.x.names) ≡ schemas_dropped l.place l.x (state l.initial.catalogue l.initial.refusals) l.x.names
