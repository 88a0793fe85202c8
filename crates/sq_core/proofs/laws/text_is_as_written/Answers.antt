use Rattle.sq_core.proofs.ColumnLemmas.{text-written}
use Rattle.sq_core.proofs.laws.text_is_as_written.Goals as goal

pub returns : goal.returns
returns c = text-written
