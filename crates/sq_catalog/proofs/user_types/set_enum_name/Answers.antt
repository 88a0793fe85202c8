use Rattle.std.proofs.Common.{sym}
use Rattle.sq_catalog.specs.UserTypes.{enum_titled}
use Rattle.sq_catalog.proofs.ChangedAt.{written}
use Rattle.sq_catalog.proofs.user_types.set_enum_name.Goals as goal

pub returns : goal.returns
returns c = sym (written (enum_titled c.args.name) c.args.enums.now.items c.args.at c.index_mut.result.now c.requires c.index_mut.ensures.value)
