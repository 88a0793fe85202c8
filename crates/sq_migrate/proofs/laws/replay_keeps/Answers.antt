use Rattle.sq_migrate.proofs.ReplayKept.{replay_keeps}
use Rattle.sq_migrate.proofs.laws.replay_keeps.Goals as goal

pub returns : goal.returns
returns c = replay_keeps
