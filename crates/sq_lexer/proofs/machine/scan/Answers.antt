use Rattle.std.proofs.Common.{rules, ◌+◌, [], None, length, ◌∙◌, ap, sym, arith}
use Rattle.sq_lexer.specs.Machine.{scan, begin, later}
use Rattle.sq_lexer.proofs.Reaches.{scan_next, reach_next, scan_dead, scan_end}
use Rattle.sq_lexer.proofs.machine.scan.Goals as goal

pub loop-index-preserved : goal.loop-index-preserved
loop-index-preserved c =
    let l = c.loop-index in
    let bytes = c.args.bytes.now in (
      scan_next bytes l.index l.state c.step-state.result c.class_of.result c.accepts.result l.found c.later-found.result (scan [] (begin c.args.first) None bytes) (omega arith)
          c.class_of.ensures c.accepts.ensures c.later-found.ensures c.step-state.ensures l.invariant.0,
      reach_next bytes l.index l.state c.step-state.result (omega arith) c.step-state.ensures l.invariant.1,
    )

pub returns-then-eq : goal.returns-then-eq
returns-then-eq c =
    let l = c.loop-index in
    let bytes = c.args.bytes.now in
    sym (scan_dead bytes (l.index + 1) c.step-state.result c.later-found.result (search rules))
    ∙ scan_next bytes l.index l.state c.step-state.result c.class_of.result c.accepts.result l.found c.later-found.result (scan [] (begin c.args.first) None bytes) (omega arith)
    c.class_of.ensures c.accepts.ensures c.later-found.ensures c.step-state.ensures l.invariant.0

pub returns : goal.returns
returns c =
    let l = c.loop-index in
    let bytes = c.args.bytes.now in
    c.later.ensures ∙ ap (λ k. later k (length bytes) l.found) c.accepts-2.ensures ∙ sym (scan_end bytes l.index l.state l.found (omega arith)) ∙ l.invariant.0
