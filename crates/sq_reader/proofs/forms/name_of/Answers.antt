use Rattle.sq_reader.proofs.Ascii.{run_utf8}
use Rattle.sq_reader.proofs.forms.name_of.Goals as goal

pub returns-in-Err-clause-part : goal.returns-in-Err-clause-part
returns-in-Err-clause-part c = absurd (c.in-Err.ensures.cases.0 (run_utf8 c.args.class c.args.text.now c.in_ok-bytes.bytes.now c.in_ok-bytes.rest.now c.in_ok-bytes.ensures.part))
