use Rattle.std.proofs.Common.{◌≡◌, ◌++◌}
use Rattle.serde_json.specs.View.{members_view}
use Rattle.sq_config.specs.Meaning as meaning
use Rattle.sq_config.proofs.configuration.meaning.pairs_of.Given as goal

abbrev pub invariant-loop-key : goal.invariant-loop-key
invariant-loop-key l = l.pairs ++ meaning.pairs_of l.apart (members_view l.key-iterator) ≡ meaning.pairs_of l.apart (members_view l.members.entries)
