use Rattle.std.proofs.Common.{Some, List, ℕ, ap, sym, subst}
use Rattle.sq_reader.specs.Forms.{import_at}
use Rattle.sq_reader.proofs.Many.{IsToldOf, told_none, told_one, told_end}
use Rattle.sq_reader.proofs.forms.import_lines_of.Goals as goal

pub loop-path-init : goal.loop-path-init
loop-path-init c = subst (λ (xs : List (List ℕ)). IsToldOf import_at c.args.text.now xs c.args.text.now) (sym c.new-paths.ensures) (told_none import_at c.args.text.now)

pub loop-path-preserved : goal.loop-path-preserved
loop-path-preserved c =
    subst (λ (xs : List (List ℕ)). IsToldOf import_at c.args.text.now xs c.in-Ok.later.now) (sym c.in_ok-push-in-Ok.ensures.ok)
    (told_one import_at c.args.text.now c.loop-path.paths c.in-Ok.path c.loop-path.rest.now c.in-Ok.later.now c.in-Ok.ensures.part c.in-Ok.ensures.shorter c.loop-path.invariant)

pub returns-in-Err-Absent : goal.returns-in-Err-Absent
returns-in-Err-Absent c =
    ap Some (told_end import_at c.args.text.now c.loop-path.paths c.loop-path.rest.now (rw c.in-Err-Absent.field-0-is at c.in-Err-Absent.ensures.part) c.loop-path.invariant)
