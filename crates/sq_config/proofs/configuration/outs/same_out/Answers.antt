use Rattle.std.proofs.Common.{◌∙◌, sym, ap, ◌∷◌, Some}
use Rattle.sq_config.proofs.Seen.{found, passed, seen_more, was_seen, was_unseen}
use Rattle.sq_config.proofs.configuration.outs.same_out.Goals as goal

pub returns-then-not-branch : goal.returns-then-not-branch
returns-then-not-branch c =
    let before = c.loop-entry.invariant in
    let entry = c.entry-item.result in
    let seen = was_seen c.loop-entry.seen entry.now.path c.as_str.result.now before.0 c.in_ok-insert.field-0 c.as_str.ensures before.1 c.in_ok-insert.ensures.added c.if-not-branch.true in
    ap Some c.in_ok-copy.ensures ∙ sym (found before.0 c.args.entries.now c.loop-entry.entry-index entry c.loop-entry-test.true c.entry-item.is seen) ∙ before.2

pub loop-entry-preserved : goal.loop-entry-preserved
loop-entry-preserved c =
    let before = c.loop-entry.invariant in
    let entry = c.entry-item.result in
    let unseen = was_unseen c.loop-entry.seen entry.now.path c.as_str.result.now before.0 c.in_ok-insert.field-0 c.as_str.ensures before.1 c.in_ok-insert.ensures.added c.if-not-branch.false in (
      entry.now.path ∷ before.0,
      seen_more c.loop-entry.seen c.insert.new.self c.as_str.result entry.now.path before.0 c.as_str.ensures c.in_ok-insert.ensures.updates before.1,
      sym (passed before.0 c.args.entries.now c.loop-entry.entry-index entry c.loop-entry-test.true c.entry-item.is unseen) ∙ before.2,
    )
