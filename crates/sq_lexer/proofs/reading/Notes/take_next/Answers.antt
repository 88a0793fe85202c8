use Rattle.std.proofs.Common.{arith, ◌∙◌, ap, sym, [], None}
use Rattle.sq_lexer.specs.Machine.{scan, begin}
use Rattle.sq_lexer.proofs.ReadingLemmas.{stops_no_item}
use Rattle.sq_lexer.proofs.SignLemmas.{lone_within, lone_signs_alone}
use Rattle.sq_lexer.proofs.reading.Notes.take_next.Goals as goal

pub returns-in-None-clause-refused : goal.returns-in-None-clause-refused
returns-in-None-clause-refused c =
    let rest = c.args.rest.now in
    stops_no_item c.args.self.now rest c.stop_at.result c.stopped.result c.requires.some
    (ap (λ first. scan [] (begin first) None rest) (sym c.begins_line.ensures) ∙ sym c.scan.ensures ∙ c.in-None.is) c.stop_at.ensures c.stopped.ensures

pub take_signs-requires-clause-within : goal.take_signs-requires-clause-within
take_signs-requires-clause-within c = omega (arith, lone_within c.args.rest.now, c.lone_signs-alone.ensures)

pub take_signs-requires-clause-alone : goal.take_signs-requires-clause-alone
take_signs-requires-clause-alone c i less = lone_signs_alone c.args.rest.now i (omega (arith, c.lone_signs-alone.ensures))
