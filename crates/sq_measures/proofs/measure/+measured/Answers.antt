use Rattle.std.proofs.Common.{◌≡◌, sym, ap, ◌∙◌, arith}
use Rattle.std.specs.Prelude.{max}
use Rattle.std.specs.Option.{option_map}
use Rattle.sq_measures.specs.Parts.{seen, groups, group}
use Rattle.sq_measures.proofs.TreeHeights.{lower}
use Rattle.sq_measures.proofs.TreeTurns.{after_group, opened, turn, closed, within_length, all_visited, whole}
use Rattle.sq_measures.proofs.measure.+measured.Goals as goal

pub parts-init : goal.parts-init
parts-init t c = c.groups.invariant ∙ ap (λ k. max c.groups.most k) (opened c.groups.group (groups (seen c.args.part)))

pub measured-requires : goal.measured-requires
measured-requires t c = (omega (arith, c.decreases, lower (seen c.args.part) c.groups.group c.parts.at (seen c.in-Some.inner) (sym c.in-Some.ensures.part)), tt)

pub parts-smaller : goal.parts-smaller
parts-smaller t c = omega (arith, within_length (group c.groups.group (groups (seen c.args.part))) c.parts.at (seen c.in-Some.inner) (sym c.in-Some.ensures.part))

pub parts-preserved : goal.parts-preserved
parts-preserved t c =
    let next = turn (groups (seen c.args.part)) c.groups.group c.parts.at (seen c.in-Some.inner) (sym c.in-Some.ensures.part) in
    omega (arith, c.parts.invariant, next, c.max-most.ensures, c.measured.ensures)

pub groups-preserved : goal.groups-preserved
groups-preserved t c =
    let over = closed (groups (seen c.args.part)) c.groups.group c.parts.at (sym c.within.ensures.part ∙ ap (option_map seen) c.in_default.is) in
    omega (arith, c.parts.invariant, over)

pub returns : goal.returns
returns t c =
    let six : c.groups.group ≡ 6 = omega (arith, c.groups-test.false, c.groups.auto.group-end) in
    let none : after_group c.groups.group (groups (seen c.args.part)) ≡ 0 = ap (λ k. after_group k (groups (seen c.args.part))) six ∙ all_visited (seen c.args.part) in
    omega (arith, c.saturating_add.ensures, c.more.ensures, c.groups.invariant, none, whole (seen c.args.part))
