use Rattle.std.proofs.Common.{sym, ◌∙◌}
use Rattle.sq_reader.proofs.Raw.{at_outside, at_byte}
use Rattle.sq_reader.proofs.parts.raw_step.Goals as goal

pub returns-then-byte-eq96-clause-part : goal.returns-then-byte-eq96-clause-part
returns-then-byte-eq96-clause-part c =
    at_outside c.args.text.now c.extend_from_slice.new.self c.args.rest.now c.args.byte c.args.read _
    c.if-read-gt0.false c.if-byte-eq96.true c.in-Some.ensures c.in_ok-extend_from_slice.ensures.ok

pub returns-clause-part : goal.returns-clause-part
returns-clause-part c =
    at_byte c.args.text.now c.push.new.self c.args.rest.now c.args.byte c.args.read
    c.if-read-gt0.false c.if-byte-eq96.false (sym c.is_outside.ensures ∙ c.if-is_outside.false) c.in_ok-push.ensures.ok
