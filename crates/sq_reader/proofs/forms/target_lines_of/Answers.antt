use Rattle.std.proofs.Common.{arith, Some, List, ℕ, ap, sym, subst}
use Rattle.sq_reader.specs.Forms.{target_at}
use Rattle.sq_reader.proofs.Many.{IsToldOf, told_none, told_one, told_end}
use Rattle.sq_reader.proofs.forms.target_lines_of.Goals as goal

pub loop-name-init : goal.loop-name-init
loop-name-init c = record {
  within = omega arith;
  told = subst (λ (xs : List (List ℕ)). IsToldOf target_at c.args.text.now xs c.args.text.now) (sym c.new-names.ensures) (told_none target_at c.args.text.now);
}

pub loop-name-preserved : goal.loop-name-preserved
loop-name-preserved c = record {
  within = omega (arith, c.in-Ok.ensures.shorter, c.loop-name.invariant.within);
  told =
      subst (λ (xs : List (List ℕ)). IsToldOf target_at c.args.text.now xs c.in-Ok.later.now) (sym c.in_ok-push-in-Ok.ensures.ok)
      (told_one target_at c.args.text.now c.loop-name.names c.in-Ok.name c.loop-name.rest.now c.in-Ok.later.now c.in-Ok.ensures.part c.in-Ok.ensures.shorter c.loop-name.invariant.told);
}

pub returns-in-Err-Absent-clause-part : goal.returns-in-Err-Absent-clause-part
returns-in-Err-Absent-clause-part c =
    ap Some (told_end target_at c.args.text.now c.loop-name.names c.loop-name.rest.now (rw c.in-Err-Absent.field-0-is at c.in-Err-Absent.ensures.part) c.loop-name.invariant.told)
