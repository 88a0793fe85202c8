use Rattle.std.proofs.Common.{◌≡◌, ℕ, List, Result, arith, Ok, subst}
use Rattle.std.proofs.lemmas.Result.{err_from_is_err_and}
use Rattle.sq_plan.specs.Reading.{listed}
use Rattle.sq_base.specs.Tree.{TreeState}
use Rattle.sq_plan.specs.declared.entries.Purpose.{Purpose}
use Rattle.sq_plan.specs.declared.halt.Halt.{Halt}
use Rattle.sq_plan.specs.Asked.{Follows}
use Rattle.sq_plan.proofs.Together.{one_more, halted, none_left}
use Rattle.sq_run.proofs.sources.list_paths.Goals as goal

path_listed : (purpose : Purpose) (path given : List ℕ) (old new : TreeState) {r : Result (List (List ℕ)) Halt} → given ≡ path → Follows (listed purpose given) old new r → Follows (listed purpose path) old new r
path_listed purpose path given old new {r = r} is = subst (λ (p : List ℕ). Follows (listed purpose p) old new r) is

pub returns-in_err-so_far : goal.returns-in_err-so_far
returns-in_err-so_far g c =
    let p = err_from_is_err_and c.from_residual.result c.from_residual.ensures.1 in
    rw (p.1, p.2) (halted (λ _ path. listed c.args.purpose path) c.args.paths.now c.loop-path.path-index c.path-item.result c.loop-path-test.true c.path-item.is _ _ _ c.loop-path.so_far
    c.list_path.result c.in_err-so_far.field-0.0 c.loop-path.invariant (path_listed c.args.purpose _ _ _ _ c.as_str.ensures c.list_path.ensures) c.in_err-so_far.ensures)

pub loop-path-preserved : goal.loop-path-preserved
loop-path-preserved g c =
    one_more (λ _ path. listed c.args.purpose path) c.args.paths.now c.loop-path.path-index c.path-item.result c.loop-path-test.true c.path-item.is _ _ _ c.loop-path.so_far
    c.list_path.result c.in_ok-so_far.so_far c.loop-path.invariant (path_listed c.args.purpose _ _ _ _ c.as_str.ensures c.list_path.ensures) c.in_ok-so_far.ensures

pub returns : goal.returns
returns g c =
    rw c.ending.ensures (c.loop-path.invariant _ (Ok _) (none_left (λ _ path. listed c.args.purpose path) c.args.paths.now c.loop-path.path-index _ (omega (arith, c.loop-path-test.false))))
