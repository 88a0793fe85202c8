use Rattle.std.proofs.Common.{◌≡◌, ◌++◌, drop, option_map}
use Rattle.sq_reader.specs.Columns.{picked}
use Rattle.sq_reader.proofs.settle.picked.Given as goal

-- the columns so far stand before those of the other names
abbrev pub invariant-loop-name : goal.invariant-loop-name
invariant-loop-name l = option_map (λ more. l.columns ++ more) (picked l.fields (drop l.name-index l.names)) ≡ picked l.fields l.names
