use Rattle.std.proofs.Common.{◌≡◌}
use Rattle.serde_json.specs.View.{members_view}
use Rattle.sq_config.specs.Shape as shape
use Rattle.sq_config.proofs.configuration.writers.bad_key_of_go.Given as goal

abbrev pub invariant-loop-key : goal.invariant-loop-key
invariant-loop-key l = shape.first_bad_key shape.bad_in_go l.at (members_view l.key-iterator) ≡ shape.first_bad_key shape.bad_in_go l.at (members_view l.members.entries)
