use Rattle.std.proofs.Common.{◌≡◌, true, arith, ◌∙◌}
use Rattle.std.specs.List.{list_all}
use Rattle.std.proofs.lemmas.Grind.{common_steps}
use Rattle.sq_builtin.specs.Groups.{is_of_calls}
use Rattle.sq_builtin.proofs.Calls.{groups_call}
use Rattle.sq_builtin.proofs.look_up.has_call.Goals as goal

pub returns : goal.returns
returns c =
    let sound : list_all is_of_calls c.args.groups.now ≡ true = grind (arith, common_steps) in
    c.is_named.ensures ∙ groups_call c.args.name.now c.args.groups.now sound
