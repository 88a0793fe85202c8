use Rattle.sq_grammar.proofs.OneStatement.{statements_exactly}
use Rattle.sq_grammar.proofs.laws.read_statements_exactly.Goals as goal

pub returns : goal.returns
returns c = statements_exactly
