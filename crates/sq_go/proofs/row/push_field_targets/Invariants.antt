use Rattle.std.proofs.Common.{◌≡◌, ◌++◌, map, take}
use Rattle.std.specs.List.{flat_map}
use Rattle.sq_shown.specs.Layout.{field_target, target_line}
use Rattle.sq_go.proofs.row.push_field_targets.Given as goal

-- the targets so far are written
abbrev pub invariant-loop-column : goal.invariant-loop-column
invariant-loop-column l = l.out ≡ l.fn.out ++ flat_map target_line (map field_target (take l.column-index l.columns))
