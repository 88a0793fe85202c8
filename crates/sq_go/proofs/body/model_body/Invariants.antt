use Rattle.std.proofs.Common.{◌≡◌, map, take}
use Rattle.std.specs.List.{flat_map, list_any}
use Rattle.sq_shown.specs.Layout.{is_of_sql, model_forms, model_struct}
use Rattle.sq_go.proofs.body.model_body.Given as goal

-- the structs of the models so far
abbrev pub invariant-loop-model : goal.invariant-loop-model
invariant-loop-model l = (l.body.declarations ≡ map model_struct (take l.model-index l.models)) × (l.body.sql ≡ list_any is_of_sql (flat_map model_forms (take l.model-index l.models)))
