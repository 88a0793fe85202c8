use Rattle.std.proofs.Common.{◌≡◌, ◌-◌, ◌∙◌, sym, take, drop, length, arith}
use Rattle.std.proofs.lemmas.Grind.{common_steps}
use Rattle.sq_go.proofs.RawSteps.{marked_step}
use Rattle.sq_go.proofs.raw.push_raw_part.Goals as goal

pub returns-then-starts_with-clause-part : goal.returns-then-starts_with-clause-part
returns-then-starts_with-clause-part c =
    let left : take (length c.args.text.now - 3) (drop 3 c.args.text.now) ≡ drop 3 c.args.text.now = grind (arith, common_steps) in
    marked_step c.args.out.now c.push_leaving.new.out _ c.args.text.now (sym c.starts_with.ensures.value ∙ c.if-starts_with.true) c.in_ok-push_leaving.ensures left
