use Rattle.std.proofs.Common.{sym}
use Rattle.sq_catalog.specs.UserTypes.{enum_housed}
use Rattle.sq_catalog.proofs.ChangedAt.{written}
use Rattle.sq_catalog.proofs.user_types.set_enum_schema.Goals as goal

pub returns : goal.returns
returns c = sym (written (enum_housed c.args.schema) c.args.enums.now.items c.args.at c.index_mut.result.now c.requires c.index_mut.ensures.value)
