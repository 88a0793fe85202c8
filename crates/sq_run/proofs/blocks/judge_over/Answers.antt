use Rattle.std.proofs.Common.{◌≡◌, ℕ, List, Result, subst}
use Rattle.std.proofs.lemmas.Result.{err_from_is_err_and}
use Rattle.sq_base.specs.Tree.{TreeState}
use Rattle.sq_catalog.specs.Contents.{Contents}
use Rattle.sq_shown.specs.declared.declaration.QueryFile.{QueryFile}
use Rattle.sq_plan.specs.declared.halt.Halt.{Halt}
use Rattle.sq_plan.specs.Asked.{Follows, Judges, each_judged}
use Rattle.sq_run.specs.Project.{models_of, queries_read, written}
use Rattle.sq_plan.proofs.Steps.{followed, stopped, judged_follows}
use Rattle.sq_run.proofs.blocks.judge_over.Goals as goal

-- the queries at these paths were read
read_at : (contents : Contents) {paths given : List (List ℕ)} {old new : TreeState} {r : Result (List QueryFile) Halt} → given ≡ paths → Follows (queries_read contents given) old new r → Follows (queries_read contents paths) old new r
read_at contents {old = old} {new = new} {r = r} is = subst (λ (ps : List (List ℕ)). Follows (queries_read contents ps) old new r) is

pub returns-in_err-queries : goal.returns-in_err-queries
returns-in_err-queries g c =
    let p = err_from_is_err_and c.from_residual.result c.from_residual.ensures.1 in
    rw (p.1, p.2) (stopped _ _ _ _ _ (read_at c.args.catalogue.now c.as_slice.ensures c.in_err-queries.ensures))

pub returns : goal.returns
returns g c =
    let judge = written c.args.configuration.now (models_of c.args.catalogue.now) in
    followed _ _ _ _ _ _ _ (read_at c.args.catalogue.now c.as_slice.ensures c.in_ok-queries.ensures)
    (judged_follows (each_judged (judge c.in_ok-queries.queries) c.args.outputs.now) _ c.write.result
    (subst (λ (qs : List QueryFile). Judges (each_judged (judge qs) c.args.outputs.now) c.write.result) c.as_slice-2.ensures c.write.ensures))
