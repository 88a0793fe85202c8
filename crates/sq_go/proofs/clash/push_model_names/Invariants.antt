use Rattle.std.proofs.Common.{◌≡◌, ◌++◌, map, take}
use Rattle.sq_shown.specs.Layout.{model_name}
use Rattle.sq_go.proofs.clash.push_model_names.Given as goal

-- the models so far
abbrev pub invariant-loop-model : goal.invariant-loop-model
invariant-loop-model l = l.names ≡ l.fn.names ++ map model_name (take l.model-index l.models)
