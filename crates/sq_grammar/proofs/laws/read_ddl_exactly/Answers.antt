use Rattle.sq_grammar.proofs.OneDdl.{ddl_exactly}
use Rattle.sq_grammar.proofs.laws.read_ddl_exactly.Goals as goal

pub returns : goal.returns
returns c = ddl_exactly
