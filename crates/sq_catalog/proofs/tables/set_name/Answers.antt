use Rattle.std.proofs.Common.{sym}
use Rattle.sq_catalog.specs.Catalogue.{titled}
use Rattle.sq_catalog.proofs.ChangedAt.{written}
use Rattle.sq_catalog.proofs.tables.set_name.Goals as goal

pub returns : goal.returns
returns c = sym (written (titled c.args.name) c.args.tables.now.items c.args.at c.index_mut.result.now c.requires c.index_mut.ensures.value)
