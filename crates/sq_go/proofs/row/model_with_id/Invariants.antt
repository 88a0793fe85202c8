use Rattle.std.proofs.Common.{◌≡◌, drop}
use Rattle.std.specs.Prelude.{find, nat_eq, option_map}
use Rattle.sq_shown.specs.Layout.{model_name}
use Rattle.sq_shown.specs.declared.declaration.ModelDecl.{ModelDecl}
use Rattle.sq_go.proofs.row.model_with_id.Given as goal

-- no model so far has the id
abbrev pub invariant-loop-model : goal.invariant-loop-model
invariant-loop-model l = option_map model_name (find (λ (model : ModelDecl). nat_eq model.id l.id) (drop l.model-index l.models)) ≡ option_map model_name (find (λ (model : ModelDecl). nat_eq model.id l.id) l.models)
