use Rattle.std.proofs.Common.{◌≡◌, ℕ, List, Result, subst}
use Rattle.std.proofs.lemmas.Result.{err_from_is_err_and}
use Rattle.sq_base.specs.Tree.{TreeState}
use Rattle.sq_catalog.specs.Contents.{Contents}
use Rattle.sq_plan.specs.declared.halt.Halt.{Halt}
use Rattle.sq_plan.specs.Asked.{Follows}
use Rattle.sq_run.specs.Project.{schema_read}
use Rattle.sq_plan.proofs.Steps.{followed, stopped}
use Rattle.sq_run.proofs.blocks.judge_for.Goals as goal

-- the schema at these paths was read
read_at : (path : List ℕ) {paths given : List (List ℕ)} {old new : TreeState} {r : Result Contents Halt} → given ≡ paths → Follows (schema_read path given) old new r → Follows (schema_read path paths) old new r
read_at path {old = old} {new = new} {r = r} is = subst (λ (ps : List (List ℕ)). Follows (schema_read path ps) old new r) is

pub returns-in_err-catalogue : goal.returns-in_err-catalogue
returns-in_err-catalogue g c =
    let p = err_from_is_err_and c.from_residual.result c.from_residual.ensures.1 in
    rw (p.1, p.2) (stopped _ _ _ _ _ (read_at c.args.configuration.now c.as_slice.ensures c.in_err-catalogue.ensures))

pub returns : goal.returns
returns g c = followed _ _ _ _ _ _ _ (read_at c.args.configuration.now c.as_slice.ensures c.in_ok-catalogue.ensures) c.judge_over.ensures
