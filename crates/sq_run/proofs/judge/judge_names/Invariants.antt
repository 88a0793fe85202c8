use Rattle.std.proofs.Common.{◌≡◌, drop}
use Rattle.sq_run.specs.Judged.{after_these, judged_names}
use Rattle.sq_run.proofs.judge.judge_names.Given as goal

abbrev pub invariant-loop-named : goal.invariant-loop-named
invariant-loop-named l = after_these l.nodes l.outputs (judged_names l.table (drop l.named-index l.names)) ≡ judged_names l.table l.names
