use Rattle.sq_grammar.proofs.Exact.{expressions_exactly, queries_exactly}
use Rattle.sq_grammar.proofs.laws.read_exactly.Goals as goal

pub returns-clause-as_expression : goal.returns-clause-as_expression
returns-clause-as_expression c = expressions_exactly

pub returns-clause-as_query : goal.returns-clause-as_query
returns-clause-as_query c = queries_exactly
