-- The cases of Logic by computation.
use Rattle.std.proofs.Common.{refl}
use Rattle.sq_builtin.specs.Functions.{none, one, two, three, four, five, six, seven, eight, ten, twelve, fourteen, sixteen}
use Rattle.sq_builtin.specs.Operators.{operators}
use Rattle.sq_builtin.specs.Rows.{table}
use Rattle.sq_core.specs.declared.node.Node.TheBlock as block
use Rattle.sq_core.specs.Routines.{is_routine}
use Rattle.core_cases.specs.World.{Hold}
use Rattle.core_cases.specs.Logic.{truth_values}

pub holds : Hold truth_values
unfolding is_routine table operators none one two three four five six seven eight ten twelve fourteen sixteen block.hidden-the_row-Node-0 block.shape-the_row-Node-0 block.hidden-the_row-Query-1 block.shape-the_row-Query-1 block.hidden-the_row-Source-2 block.shape-the_row-Source-2 block.hidden-the_row-Query-3 block.shape-the_row-Query-3 block.hidden-the_row-Source-4 block.shape-the_row-Source-4 block.hidden-the_row-Step-5 block.shape-the_row-Step-5 denote.Hole.Carrier.hidden
holds = (refl, (refl, (refl, (refl, (refl, (refl, (refl, (refl, (refl, (refl, (refl, (refl, (refl, (refl, (refl, (refl, (refl, (refl, (refl, (refl, (refl, (refl, (refl, (refl, tt))))))))))))))))))))))))
