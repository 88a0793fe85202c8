use Rattle.std.proofs.Common.{◌≡◌, ◌++◌, drop, map}
use Rattle.sq_config.proofs.configuration.outs.add_entries.Given as goal

abbrev pub invariant-loop-entry : goal.invariant-loop-entry
invariant-loop-entry l = map (λ e. e.now) l.all.items ++ drop l.entry-index l.entries ≡ map (λ e. e.now) l.fn.all.items ++ l.entries
