-- What is bound fits its parameter, and what fits an output fits what is printed for it.
use Rattle.std.proofs.Common.{◌≡◌, Bool, true, false, ◌&&◌, ◌||◌, List, [], ◌∷◌, map, refl, sym, subst}
use Rattle.std.specs.List.{AllZip, AllByRecursion}
use Rattle.std.specs.Prelude.{IsTrue}
use Rattle.sq_base.specs.declared.types.PgType.{PgType}
use Rattle.sq_catalog.specs.Contents.{Contents}
use Rattle.sq_shown.specs.declared.signature.Language.{Language}
use Rattle.sq_shown.specs.declared.signature.Language.TheVariants.{Go, Python, Plain}
use Rattle.sq_shown.specs.declared.signature.Output.{Output}
use Rattle.sq_shown.specs.declared.signature.Param.{Param}
use Rattle.sq_core.specs.declared.weak.Weak.{Weak}
use Rattle.sq_core.specs.Answer.{Keeps, stuck}
use Rattle.sq_core.specs.Client.{ClientValue, Nil, Shaped, ArgumentFits, ArgumentsFit, has_shape, bind, bound_all, param_kind, WeakIsNullable, FormFits, RowFitsPrinted, output_form}
use Rattle.sq_core.specs.Forms.{counts, shape, weak_holds, weak_in, weak_shape}
use Rattle.sq_core.specs.Items.{item_of}
use Rattle.sq_core.specs.Sound.{IsKnown}
use Rattle.sq_catalog.specs.UserTypes.{base}
use Rattle.sq_core.specs.Values.{Value, Null, Truth, Array, Tagged, Tag, Row, Fits, RowFits, RowsFit, kind_of, tag, truth_tag, array_tag, element_tag, is_unknown, is_opaque, all_have_tag, same_type, output_kind}
use Rattle.sq_core.proofs.AnswerLemmas.{bind_keeps, tested_keeps}
use Rattle.sq_core.proofs.TypeLemmas.{and_left, and_right, or_left, or_right, or_neither, both_true, same_type-true, same_type-same}
use Rattle.sq_core.proofs.ValueLemmas.{item_wider}

weak_counts : (weak : Weak) (language : Language) (of : PgType) → counts weak language ≡ true → weak_in language of ≡ true → weak_holds weak of ≡ true
weak_counts weak Go of counted is = or_left _ _ (both_true _ _ counted is)
weak_counts weak Python of counted is = or_right (weak.go && weak_in Go of) _ (both_true _ _ counted is)
weak_counts weak Plain of counted is = cc

-- a form that admits null stands at a parameter that is nullable
nil_nullable : (weak : Weak) (language : Language) (of : PgType) (nullable : Bool) → counts weak language ≡ true → (IsTrue (weak_holds weak of) → IsTrue nullable)
    → (nullable || weak_shape language (shape language of nullable)) ≡ true → nullable ≡ true
nil_nullable weak language of true counted holds admits = refl
nil_nullable weak language of false counted holds admits = holds (weak_counts weak language of counted admits)

own_shape : (language : Language) (of : PgType) (nullable : Bool) → has_shape language of (shape language of nullable) ≡ true
own_shape language of true = or_right (same_type (shape language of false) (shape language of true)) _ (same_type-same (shape language of true))
own_shape language of false = or_left _ _ (same_type-same (shape language of false))

argument_bound : (weak : Weak) (language : Language) (contents : Contents) (param : Param) (argument : ClientValue) → counts weak language ≡ true
    → (IsTrue (weak_holds weak (base contents param.of)) → IsTrue param.nullable) → ArgumentFits language contents param argument
    → Keeps (Fits (param_kind contents param)) (bind language contents param.of argument)
argument_bound weak language contents param Nil counted holds fit = λ oracle. nil_nullable weak language (base contents param.of) param.nullable counted holds fit
argument_bound weak language contents param (Shaped own number) counted holds fit =
    tested_keeps (Fits (param_kind contents param)) (has_shape language (base contents param.of) own) (item_of (kind_of contents param.of false)) stuck
    (subst (λ s. has_shape language (base contents param.of) s ≡ true) (sym fit) (own_shape language (base contents param.of) param.nullable))
    (item_wider (tag contents param.of) false param.nullable (λ e. cc))

pub arguments_bound : (weak : Weak) (language : Language) (contents : Contents) (params : List Param) (arguments : List ClientValue) → counts weak language ≡ true
    → WeakIsNullable weak contents params → ArgumentsFit language contents params arguments
    → Keeps (AllZip (λ param value. Fits (param_kind contents param) value) params) (bound_all language contents params arguments)
arguments_bound weak language contents [] [] counted holds fit = λ oracle. tt
arguments_bound weak language contents [] (argument ∷ arguments) counted holds fit = absurd fit
arguments_bound weak language contents (param ∷ params) [] counted holds fit = absurd fit
arguments_bound weak language contents (param ∷ params) (argument ∷ arguments) counted holds fit =
    bind_keeps (Fits (param_kind contents param)) (AllZip (λ param value. Fits (param_kind contents param) value) (param ∷ params)) (bind language contents param.of argument) _
    (argument_bound weak language contents param argument counted holds.0 fit.0)
    (λ value value_fits. bind_keeps (AllZip (λ param value. Fits (param_kind contents param) value) params) (AllZip (λ param value. Fits (param_kind contents param) value) (param ∷ params)) (bound_all language contents params arguments) _
    (arguments_bound weak language contents params arguments counted holds.1 fit.1) (λ values values_fit oracle. (value_fits, values_fit)))

-- an array's tag, of its element's
of_array : (of element : Tag) → of.array ≡ true → element_tag of ≡ element → of ≡ array_tag element
of_array of element array elements = λ i. record { scalar = (elements i).scalar; array = array i }

value_printed : (language : Language) (contents : Contents) (output : Output) (value : Value) → is_unknown (tag contents output.of) ≡ false → Fits (output_kind contents output) value
    → FormFits language contents (output_form language contents output) value
value_printed language contents output Null known fit = or_left output.nullable _ fit
value_printed language contents output (Truth b) known fit = record {
  of = output.of;
  nullable = output.nullable;
  same_tag = same_type-true (tag contents output.of) truth_tag (or_neither (is_unknown (tag contents output.of)) _ known fit);
  same_form = refl;
}
value_printed language contents output (Array element values) known fit =
    let tagged : (((tag contents output.of).array && same_type (element_tag (tag contents output.of)) element) && all_have_tag (element_tag (tag contents output.of)) values) ≡ true = or_neither (is_unknown (tag contents output.of)) _ known fit in
    let test : ((tag contents output.of).array && same_type (element_tag (tag contents output.of)) element) ≡ true = and_left _ _ tagged in
    record {
      of = output.of;
      nullable = output.nullable;
      same_tag = of_array (tag contents output.of) element (and_left _ _ test) (same_type-true _ _ (and_right (tag contents output.of).array _ test));
      same_form = refl;
    }
value_printed language contents output (Tagged own number) known fit = record {
  of = output.of;
  nullable = output.nullable;
  same_tag = same_type-true (tag contents output.of) own (and_right (is_opaque own) _ (or_neither (is_unknown (tag contents output.of)) _ known fit));
  same_form = refl;
}

row_printed : (language : Language) (contents : Contents) (outputs : List Output) (row : Row) → AllByRecursion (IsKnown contents) outputs → RowFits (map (output_kind contents) outputs) row
    → RowFitsPrinted language contents (map (output_form language contents) outputs) row
row_printed language contents [] [] known fit = tt
row_printed language contents [] (v ∷ row) known fit = absurd fit
row_printed language contents (output ∷ outputs) [] known fit = absurd fit
row_printed language contents (output ∷ outputs) (v ∷ row) known fit = (value_printed language contents output v known.0 fit.0, row_printed language contents outputs row known.1 fit.1)

pub rows_printed : (language : Language) (contents : Contents) (outputs : List Output) (rows : List Row) → AllByRecursion (IsKnown contents) outputs → RowsFit (map (output_kind contents) outputs) rows
    → AllByRecursion (RowFitsPrinted language contents (map (output_form language contents) outputs)) rows
rows_printed language contents outputs [] known fit = tt
rows_printed language contents outputs (row ∷ rows) known fit = (row_printed language contents outputs row known fit.0, rows_printed language contents outputs rows known fit.1)
