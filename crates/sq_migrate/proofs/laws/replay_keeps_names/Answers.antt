use Rattle.sq_migrate.proofs.NamesReplayed.{replay_keeps_names}
use Rattle.sq_migrate.proofs.laws.replay_keeps_names.Goals as goal

pub returns : goal.returns
returns c = replay_keeps_names
