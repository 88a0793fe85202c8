use Rattle.std.proofs.Common.{◌≡◌, drop}
use Rattle.std.specs.List.{list_any}
use Rattle.sq_shown.specs.Layout.{forms, is_of_sql}
use Rattle.sq_go.proofs.row.use_sql.Given as goal

-- no field so far has such a type
abbrev pub invariant-loop-field : goal.invariant-loop-field
invariant-loop-field l = list_any is_of_sql (forms (drop l.field-index l.fields)) ≡ list_any is_of_sql (forms l.fields)
