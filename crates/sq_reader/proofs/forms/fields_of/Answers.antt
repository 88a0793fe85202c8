use Rattle.std.proofs.Common.{arith, Some, List, ap, sym, subst}
use Rattle.sq_shown.specs.declared.signature.ShownField.{ShownField}
use Rattle.sq_reader.specs.Forms.{field_at}
use Rattle.sq_reader.proofs.Many.{IsToldOf, told_none, told_one, told_end}
use Rattle.sq_reader.proofs.forms.fields_of.Goals as goal

pub loop-field-init : goal.loop-field-init
loop-field-init c = record {
  within = omega arith;
  told = subst (λ (xs : List ShownField). IsToldOf field_at c.args.text.now xs c.args.text.now) (sym c.new-fields.ensures) (told_none field_at c.args.text.now);
}

pub loop-field-preserved : goal.loop-field-preserved
loop-field-preserved c = record {
  within = omega (arith, c.in-Ok.ensures.shorter, c.loop-field.invariant.within);
  told =
      subst (λ (xs : List ShownField). IsToldOf field_at c.args.text.now xs c.in-Ok.later.now) (sym c.in_ok-push-in-Ok.ensures.ok)
      (told_one field_at c.args.text.now c.loop-field.fields c.in-Ok.field c.loop-field.rest.now c.in-Ok.later.now c.in-Ok.ensures.part c.in-Ok.ensures.shorter c.loop-field.invariant.told);
}

pub returns-in-Err-Absent-clause-part : goal.returns-in-Err-Absent-clause-part
returns-in-Err-Absent-clause-part c =
    ap Some (told_end field_at c.args.text.now c.loop-field.fields c.loop-field.rest.now (rw c.in-Err-Absent.field-0-is at c.in-Err-Absent.ensures.part) c.loop-field.invariant.told)
