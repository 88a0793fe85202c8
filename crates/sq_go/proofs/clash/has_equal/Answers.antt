use Rattle.std.proofs.Common.{◌∙◌, sym, ◌∷◌, arith}
use Rattle.sq_go.proofs.Seen.{found, none_left, none_seen, passed, seen_more, was_seen, was_unseen}
use Rattle.sq_go.proofs.clash.has_equal.Goals as goal

pub returns-then-not-branch : goal.returns-then-not-branch
returns-then-not-branch c =
    let before = c.loop-name.invariant in
    let name = c.name-item.result in
    let seen = was_seen c.loop-name.seen c.as_slice.result.now name before.0 c.in_ok-insert.field-0 c.as_slice.ensures before.1 c.in_ok-insert.ensures.added c.if-not-branch.true in
    sym (found before.0 c.args.names.now c.loop-name.name-index name c.loop-name-test.true c.name-item.is seen) ∙ before.2 ∙ none_seen c.args.names.now

pub loop-name-preserved : goal.loop-name-preserved
loop-name-preserved c =
    let before = c.loop-name.invariant in
    let name = c.name-item.result in
    let unseen = was_unseen c.loop-name.seen c.as_slice.result.now name before.0 c.in_ok-insert.field-0 c.as_slice.ensures before.1 c.in_ok-insert.ensures.added c.if-not-branch.false in (
      name ∷ before.0,
      seen_more c.loop-name.seen c.insert.new.self c.as_slice.result name before.0 c.as_slice.ensures c.in_ok-insert.ensures.updates before.1,
      sym (passed before.0 c.args.names.now c.loop-name.name-index name c.loop-name-test.true c.name-item.is unseen) ∙ before.2,
    )

pub returns : goal.returns
returns c =
    let before = c.loop-name.invariant in
    sym (none_left before.0 c.args.names.now c.loop-name.name-index (omega (arith, c.loop-name-test.false))) ∙ before.2 ∙ none_seen c.args.names.now
