use Rattle.std.proofs.Common.{sym, ◌∙◌}
use Rattle.std.proofs.lemmas.Result.{on_ok_weaker}
use Rattle.sq_base.proofs.Held.{set_at, push_at_end}
use Rattle.sq_base.proofs.memory_out.put_file.Goals as goal

pub returns-in-Some-clause-ok : goal.returns-in-Some-clause-ok
returns-in-Some-clause-ok c = c.set.ensures ∙ set_at c.args.file.path c.args.file.bytes c.args.files.now c.in-Some.at (rw (← c.as_slice.ensures, ← c.as_str.ensures) (sym c.in-Some.ensures.place))

pub returns-in-None-clause-ok : goal.returns-in-None-clause-ok
returns-in-None-clause-ok c =
    on_ok_weaker c.push.result (λ pushed. pushed ∙ push_at_end c.args.file.path c.args.file.bytes c.args.files.now (rw (← c.as_slice.ensures, ← c.as_str.ensures) (sym c.in-None.ensures.place))) c.push.ensures.ok
