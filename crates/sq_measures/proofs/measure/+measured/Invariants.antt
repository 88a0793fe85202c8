use Rattle.std.proofs.Common.{◌≡◌, ◌-◌, length}
use Rattle.std.specs.Prelude.{max}
use Rattle.sq_measures.specs.Parts.{seen, groups, group, rank}
use Rattle.sq_measures.proofs.TreeTurns.{highest_part, after_group, after_part}
use Rattle.sq_measures.proofs.measure.+measured.Given as goal

abbrev pub decreases-measured : goal.decreases-measured
decreases-measured l = rank (seen l.part)

abbrev pub invariant-groups : goal.invariant-groups
invariant-groups l = highest_part (seen l.part) ≡ max l.most (after_group l.group (groups (seen l.part)))

abbrev pub invariant-parts : goal.invariant-parts
invariant-parts l = highest_part (seen l.part) ≡ max l.most (after_part l.group l.at (groups (seen l.part)))

abbrev pub decreases-parts : goal.decreases-parts
decreases-parts l = length (group l.group (groups (seen l.part))) - l.at
