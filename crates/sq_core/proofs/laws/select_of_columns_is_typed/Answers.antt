use Rattle.sq_core.proofs.ColumnLemmas.{select_columns_typed}
use Rattle.sq_core.proofs.laws.select_of_columns_is_typed.Goals as goal

pub returns : goal.returns
returns c = select_columns_typed
