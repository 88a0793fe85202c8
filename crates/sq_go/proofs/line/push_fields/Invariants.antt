use Rattle.std.proofs.Common.{◌≡◌, ◌++◌, take}
use Rattle.std.specs.List.{flat_map}
use Rattle.sq_shown.specs.Layout.{field_line}
use Rattle.sq_go.proofs.line.push_fields.Given as goal

-- the fields so far are written
abbrev pub invariant-loop-field : goal.invariant-loop-field
invariant-loop-field l = l.out ≡ l.fn.out ++ flat_map field_line (take l.field-index l.fields)
