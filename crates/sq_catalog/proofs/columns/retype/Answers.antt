use Rattle.sq_catalog.specs.Columns.{typed}
use Rattle.sq_catalog.proofs.ChangedAt.{put_back}
use Rattle.sq_catalog.proofs.columns.retype.Goals as goal

pub returns : goal.returns
returns c =
    put_back (typed c.args.of) c.args.table.now c.take_columns-columns.new.table c.take_columns-columns.result.items c.from_vec.result c.args.at c.index_mut.result.now
    c.take_columns-columns.ensures.taken c.take_columns-columns.ensures.left c.requires c.index_mut.ensures.value c.from_vec.ensures
