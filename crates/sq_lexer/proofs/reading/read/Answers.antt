use Rattle.std.proofs.Common.{drop, arith}
use Rattle.std.proofs.lemmas.List.{drop_all}
use Rattle.sq_lexer.proofs.ReadingLemmas.{ends_reading}
use Rattle.sq_lexer.proofs.reading.read.Goals as goal

pub returns : goal.returns
returns c =
    let text = c.args.text.now in
    let start = c.loop-start.start in
    ends_reading c.args.gap c.args.place text (drop start text) c.loop-start.notes (drop_all start text (omega arith)) c.loop-start.invariant.holds
