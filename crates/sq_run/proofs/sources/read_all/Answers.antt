use Rattle.std.proofs.Common.{rules, ◌≡◌, ℕ, List, Result, arith, subst}
use Rattle.std.proofs.lemmas.Result.{err_from_is_err_and}
use Rattle.sq_base.specs.Tree.{TreeState}
use Rattle.sq_plan.specs.declared.entries.Purpose.{Purpose}
use Rattle.sq_plan.specs.declared.halt.Halt.{Halt}
use Rattle.sq_run.specs.declared.sources.SourceFile.{SourceFile}
use Rattle.sq_plan.specs.Asked.{Follows}
use Rattle.sq_plan.specs.Folds.{alone, seen}
use Rattle.sq_plan.proofs.Folds as folds
use Rattle.sq_run.specs.Project.{source}
use Rattle.sq_run.proofs.sources.read_all.Goals as goal

-- the source of this number and path was read
source_read : (purpose : Purpose) (number : ℕ) (path : List ℕ) {given : ℕ} {text : List ℕ} {old new : TreeState} {r : Result (List SourceFile) Halt} → Follows (source purpose given text) old new r → given ≡ number → text ≡ path
    → Follows (source purpose number path) old new r
source_read purpose number path {given = given} {text = text} {old = old} {new = new} {r = r} follows same is =
    subst (λ (p : List ℕ). Follows (source purpose number p) old new r) is (subst (λ (n : ℕ). Follows (source purpose n text) old new r) same follows)

pub loop-number-init : goal.loop-number-init
loop-number-init g c = folds.begun (source c.args.purpose) c.args.paths.now g.M.Made.after (g.M.Made.value c.args.start) _

pub returns-in_err-made : goal.returns-in_err-made
returns-in_err-made g c =
    let p = err_from_is_err_and c.from_residual.result c.from_residual.ensures.1 in
    rw (p.1, p.2) (folds.read_halted (source c.args.purpose) c.args.paths.now g.M.Made.after (g.M.Made.value c.args.start) _ c.loop-number.number c.index-paths-number.result c.loop-number-test.true c.index-paths-number.is _ _
    (seen g.M.Made.value c.loop-number.made) (alone c.read_source-part.result) c.in_err-made.field-0.0 c.loop-number.invariant
    (source_read c.args.purpose c.loop-number.number c.index-paths-number.result c.read_source-part.ensures (search rules) c.as_str.ensures) c.in_err-made.ensures)

pub loop-number-preserved : goal.loop-number-preserved
loop-number-preserved g c =
    folds.read_more (source c.args.purpose) c.args.paths.now g.M.Made.after (g.M.Made.value c.args.start) _ c.loop-number.number c.index-paths-number.result c.loop-number-test.true c.index-paths-number.is _ _
    (seen g.M.Made.value c.loop-number.made) (alone c.read_source-part.result) (seen g.M.Made.value c.in_ok-made.made) c.loop-number.invariant
    (source_read c.args.purpose c.loop-number.number c.index-paths-number.result c.read_source-part.ensures (search rules) c.as_str.ensures) c.in_ok-made.ensures

pub returns : goal.returns
returns g c =
    folds.read_all (source c.args.purpose) c.args.paths.now g.M.Made.after (g.M.Made.value c.args.start) _ c.loop-number.number _ (seen g.M.Made.value c.loop-number.made) (seen g.M.Made.value c.made_of_all.result)
    (omega (arith, c.loop-number-test.false)) c.loop-number.invariant c.made_of_all.ensures
