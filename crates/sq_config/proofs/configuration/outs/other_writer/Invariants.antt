use Rattle.std.proofs.Common.{◌≡◌, drop, map}
use Rattle.sq_config.specs.Outs as outs
use Rattle.sq_config.proofs.configuration.outs.other_writer.Given as goal

abbrev pub invariant-loop-entry : goal.invariant-loop-entry
invariant-loop-entry l = outs.other_writer (map (λ e. e.now) (drop l.entry-index l.entries)) ≡ outs.other_writer (map (λ e. e.now) l.entries)
