use Rattle.std.proofs.Common.{◌≡◌, Bool, false, cond, List, [], length, codes, Ok, ap, sym, subst, ◌∙◌}
use Rattle.sq_reader.specs.Parts.{Text, same}
use Rattle.sq_reader.specs.Items.{groups_from}
use Rattle.sq_reader.specs.declared.items.Item.{Item}
use Rattle.sq_reader.proofs.GroupSteps.{IsToldOf, told_none, told_one, told_last, told_halt}
use Rattle.sq_reader.proofs.groups.groups_of.Goals as goal

pub loop-more-init : goal.loop-more-init
loop-more-init c =
    subst (λ (items : List Item). IsToldOf c.args.group c.args.source.now c.args.text.now items c.args.text.now) (sym c.new-items.ensures)
    (told_none c.args.group c.args.source.now c.args.text.now)

pub loop-more-preserved : goal.loop-more-preserved
loop-more-preserved c =
    subst (λ (items : List Item). IsToldOf c.args.group c.args.source.now c.args.text.now items c.in-Ok.later.now) (sym c.in_ok-items-in-Ok.ensures)
    (told_one c.args.group c.args.source.now c.args.text.now c.loop-more.items c.in-Ok.more c.loop-more.rest.now c.in-Ok.later.now
    c.in-Ok.ensures.read c.in-Ok.ensures.shorter (sym c.is_empty.ensures ∙ c.if-is_empty.false) c.loop-more.invariant)

pub returns-then-is_empty : goal.returns-then-is_empty
returns-then-is_empty c =
    let different : same c.args.text.now (codes "\n") ≡ false = sym (c.if-eq.ensures ∙ ap (λ (line : Text). same c.args.text.now line) c.as_slice.ensures) in
    ap (λ (b : Bool). cond b (Ok []) (groups_from c.args.group c.args.source.now (length c.args.text.now) c.args.text.now)) different
    ∙ told_last c.args.group c.args.source.now c.args.text.now c.loop-more.items c.in-Ok.more c.loop-more.rest.now c.in-Ok.later.now
    c.in-Ok.ensures.read c.in-Ok.ensures.shorter (sym c.is_empty.ensures ∙ c.if-is_empty.true) c.loop-more.invariant
    ∙ ap Ok (sym c.in_ok-items-in-Ok.ensures)

pub returns-in-Err : goal.returns-in-Err
returns-in-Err c =
    let different : same c.args.text.now (codes "\n") ≡ false = sym (c.if-eq.ensures ∙ ap (λ (line : Text). same c.args.text.now line) c.as_slice.ensures) in
    told_halt c.args.group c.args.source.now c.args.text.now c.loop-more.items c.loop-more.rest.now c.in-Err.fault c.in-Err.ensures.read c.loop-more.invariant different
