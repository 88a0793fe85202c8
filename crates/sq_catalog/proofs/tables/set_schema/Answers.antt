use Rattle.std.proofs.Common.{sym}
use Rattle.sq_catalog.specs.Catalogue.{housed}
use Rattle.sq_catalog.proofs.ChangedAt.{written}
use Rattle.sq_catalog.proofs.tables.set_schema.Goals as goal

pub returns : goal.returns
returns c = sym (written (housed c.args.schema) c.args.tables.now.items c.args.at c.index_mut.result.now c.requires c.index_mut.ensures.value)
