use Rattle.sq_plan.proofs.Marked.{begins_same}
use Rattle.sq_plan.proofs.rollback.begins_with.Goals as goal

pub returns-then-mark-bytes : goal.returns-then-mark-bytes
returns-then-mark-bytes c = begins_same _ c.args.bytes.now c.args.mark.now c.eq_ignore_ascii_case.ensures.test.0 c.eq_ignore_ascii_case.ensures.test.1
