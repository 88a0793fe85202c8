use Rattle.std.proofs.Common.{◌-◌, arith, take, drop, length}
use Rattle.std.proofs.lemmas.List.{take_rest}
use Rattle.sq_lexer.proofs.ReadingLemmas.{fails_later, signs_advance}
use Rattle.sq_lexer.proofs.reading.Notes.take_signs.Goals as goal

pub returns-in-Err-clause-refused : goal.returns-in-Err-clause-refused
returns-in-Err-clause-refused c =
    let rest = c.args.rest.now in
    let i = c.loop-index.index in
    fails_later c.args.self.now c.loop-index.self rest (drop i rest) (take (length rest - i) (drop i rest)) c.in-Err.fault (take_rest rest i) c.loop-index.invariant.holds c.in-Err.ensures.refused

pub loop-index-preserved : goal.loop-index-preserved
loop-index-preserved c =
    let rest = c.args.rest.now in
    let i = c.loop-index.index in
    record {
      line = omega (arith, c.in_default.ensures.line, c.in_default.ensures.exact);
      column = omega (arith, c.in_default.ensures.column, c.in_default.ensures.exact);
      holds = signs_advance c.args.self.now c.loop-index.self c.take_found.new.self rest (take (length rest - i) (drop i rest)) i c.in_default.field-0 (take_rest rest i)
          c.in_default.ensures.exact c.loop-index.invariant.holds c.in_default.ensures.next;
    }
