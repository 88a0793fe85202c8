use Rattle.std.proofs.Common.{arith}
use Rattle.sq_plan.proofs.Files.{read_ok, read_too_long, read_halted}
use Rattle.sq_plan.proofs.read.read_whole.Goals as goal

pub returns-in-Ok-clause-follows : goal.returns-in-Ok-clause-follows
returns-in-Ok-clause-follows g c = read_too_long c.args.role c.refuse_file.result c.in-Ok.ensures.call c.in-Ok.ensures.answer (omega (arith, c.len.ensures)) c.refuse_file.ensures

pub returns-in-Ok-2-clause-follows : goal.returns-in-Ok-2-clause-follows
returns-in-Ok-2-clause-follows g c = read_ok c.args.role c.in-Ok.ensures.call c.in-Ok.ensures.answer (omega (arith, c.len.ensures))

pub returns-in-Err-clause-follows : goal.returns-in-Err-clause-follows
returns-in-Err-clause-follows g c = read_halted c.args.role c.halt.result c.in-Err.ensures.call c.in-Err.ensures.answer c.halt.ensures
