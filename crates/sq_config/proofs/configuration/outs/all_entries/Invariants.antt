use Rattle.std.proofs.Common.{◌≡◌, ◌++◌, drop, map}
use Rattle.sq_config.specs.Outs as outs
use Rattle.sq_config.proofs.configuration.outs.all_entries.Given as goal

abbrev pub invariant-loop-block : goal.invariant-loop-block
invariant-loop-block l = map (λ e. e.now) l.all.items ++ outs.all_entries (drop l.block-index l.blocks) ≡ outs.all_entries l.blocks
