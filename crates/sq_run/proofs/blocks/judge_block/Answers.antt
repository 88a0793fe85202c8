use Rattle.std.proofs.Common.{◌≡◌, ℕ, List, Result, Ok, Err, subst}
use Rattle.std.proofs.lemmas.Result.{err_from_is_err_and}
use Rattle.sq_base.specs.Tree.{TreeState}
use Rattle.sq_base.specs.declared.file.File.{File}
use Rattle.sq_config.specs.declared.configuration.Block.{Block}
use Rattle.sq_config.specs.declared.configuration.Entry.{Entry}
use Rattle.sq_plan.specs.declared.halt.Halt.{Halt}
use Rattle.sq_plan.specs.declared.outputs.Output.{Output}
use Rattle.sq_plan.specs.Asked.{Follows, Judges, each_judged}
use Rattle.sq_plan.specs.Outputs.{output_of_entry}
use Rattle.sq_plan.proofs.Steps.{followed, stopped, judged_follows}
use Rattle.sq_run.specs.Project.{files_for}
use Rattle.sq_run.proofs.blocks.judge_block.Goals as goal

-- these entries were judged
entries_judged : (path : List ℕ) {entries given : List Entry} (r : Result (List Output) Halt) → given ≡ entries → Judges (each_judged (output_of_entry path) given) r → Judges (each_judged (output_of_entry path) entries) r
entries_judged path r is = subst (λ (es : List Entry). Judges (each_judged (output_of_entry path) es) r) is

-- the files were those for these outputs
judged_for : (path : List ℕ) (block : Block) {outputs given : List Output} {old new : TreeState} {r : Result (List File) Halt} → given ≡ outputs → Follows (files_for path block given) old new r → Follows (files_for path block outputs) old new r
judged_for path block {old = old} {new = new} {r = r} is = subst (λ (os : List Output). Follows (files_for path block os) old new r) is

pub returns-in_err-outputs : goal.returns-in_err-outputs
returns-in_err-outputs g c =
    let p = err_from_is_err_and c.from_residual.result c.from_residual.ensures.1 in
    rw (p.1, p.2) (stopped _ _ _ _ _ (judged_follows (each_judged (output_of_entry c.args.configuration.now) c.args.block.now.entries) _ (Err c.in_err-outputs.field-0.0)
    (entries_judged c.args.configuration.now (Err c.in_err-outputs.field-0.0) c.as_slice.ensures c.in_err-outputs.ensures)))

pub returns : goal.returns
returns g c =
    followed _ _ _ _ _ _ _
    (judged_follows (each_judged (output_of_entry c.args.configuration.now) c.args.block.now.entries) _ (Ok c.in_ok-outputs.outputs) (entries_judged c.args.configuration.now (Ok c.in_ok-outputs.outputs) c.as_slice.ensures c.in_ok-outputs.ensures))
    (judged_for c.args.configuration.now c.args.block.now c.as_slice-2.ensures c.judge_for.ensures)
