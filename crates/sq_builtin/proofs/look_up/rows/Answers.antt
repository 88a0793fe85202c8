use Rattle.std.proofs.Common.{◌≡◌, true, arith}
use Rattle.std.specs.List.{list_all}
use Rattle.std.proofs.lemmas.Grind.{common_steps}
use Rattle.sq_builtin.specs.Groups.{are_sound, is_sound}
use Rattle.sq_builtin.proofs.Look.{found_few, found_inputs}
use Rattle.sq_builtin.proofs.Whole.{rows_found}
use Rattle.sq_builtin.proofs.look_up.rows.Goals as goal

pub returns-clause-rows : goal.returns-clause-rows
returns-clause-rows c =
    let sound : are_sound c.args.count c.part.result.now ≡ true = grind (arith, common_steps) in
    let found : _ = rows_found c.args.name.now c.args.count c.part.result.now sound c.part.ensures.entries in
    rw c.named.ensures found

pub returns-clause-few : goal.returns-clause-few
returns-clause-few c =
    let sound : list_all (is_sound c.args.count) c.part.result.now ≡ true = grind (arith, common_steps) in
    let few = found_few c.args.name.now c.args.count c.part.result.now sound in
    rw c.named.ensures few

pub returns-clause-inputs : goal.returns-clause-inputs
returns-clause-inputs c =
    let sound : list_all (is_sound c.args.count) c.part.result.now ≡ true = grind (arith, common_steps) in
    let inputs = found_inputs c.args.name.now c.args.count c.part.result.now sound in
    rw c.named.ensures inputs
