use Rattle.std.proofs.Common.{◌≡◌, drop}
use Rattle.sq_migrate.specs.Replay.{state, after_all, replayed}
use Rattle.sq_migrate.proofs.replaying.replay.Given as goal

abbrev pub invariant-loop-statement : goal.invariant-loop-statement
invariant-loop-statement l = after_all (state l.catalogue l.refusals) (drop l.statement-index l.statements) ≡ replayed l.initial.catalogue l.statements
