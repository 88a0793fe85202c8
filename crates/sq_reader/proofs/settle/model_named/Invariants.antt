use Rattle.std.proofs.Common.{◌≡◌, drop}
use Rattle.sq_reader.specs.Columns.{model_named}
use Rattle.sq_reader.proofs.settle.model_named.Given as goal

abbrev pub invariant-loop-item : goal.invariant-loop-item
invariant-loop-item l = model_named (drop l.item-index l.items) l.name ≡ model_named l.items l.name
