use Rattle.std.proofs.Common.{take, drop, ◌∙◌, ap, sym}
use Rattle.sq_syntax.specs.Items.{fault_of}
use Rattle.sq_syntax.specs.Tokens.{begins_line}
use Rattle.sq_lexer.specs.Reading.{noted}
use Rattle.sq_lexer.proofs.Next.{cut_at}
use Rattle.sq_lexer.proofs.ReadingLemmas.{advances, stops_bad_item}
use Rattle.sq_lexer.proofs.reading.Notes.take_found.Goals as goal

pub split_at-requires : goal.split_at-requires
split_at-requires c = (cut_at (begins_line c.args.self.now.place) c.args.rest.now c.args.found c.requires.exact).within

pub returns-in-Some-clause-refused : goal.returns-in-Some-clause-refused
returns-in-Some-clause-refused c =
    let found = c.args.found in
    let rest = c.args.rest.now in
    let cut = cut_at (begins_line c.args.self.now.place) rest found c.requires.exact in
    stops_bad_item c.args.self.now found.kind rest (take found.size rest) (drop found.size rest) c.in-Some.stop c.stopped.result cut.next
    (sym (c.fault_of.ensures ∙ ap (λ x. fault_of found.kind x c.split_at.result.1.now) c.split_at.ensures.front ∙ ap (fault_of found.kind (take found.size rest)) c.split_at.ensures.back) ∙ c.in-Some.is)
    c.stopped.ensures

pub returns-in-Ok-clause-some : goal.returns-in-Ok-clause-some
returns-in-Ok-clause-some c = (cut_at (begins_line c.args.self.now.place) c.args.rest.now c.args.found c.requires.exact).some

pub returns-in-Ok-clause-next : goal.returns-in-Ok-clause-next
returns-in-Ok-clause-next c =
    let found = c.args.found in
    let rest = c.args.rest.now in
    let cut = cut_at (begins_line c.args.self.now.place) rest found c.requires.exact in
    advances c.args.self.now c.note.new.self found.kind rest (take found.size rest) (drop found.size rest) cut.next
    (sym (c.fault_of.ensures ∙ ap (λ x. fault_of found.kind x c.split_at.result.1.now) c.split_at.ensures.front ∙ ap (fault_of found.kind (take found.size rest)) c.split_at.ensures.back) ∙ c.in-None.is)
    (c.in-Ok.ensures.noted ∙ ap (noted c.args.self.now found.kind) c.split_at.ensures.front)
