-- What the written code's caller hands in and is handed: client values, which printed forms they fit, and how they are
-- bound.
use Rattle.std.specs.Prelude.{◌≡◌, ℕ, Bool, true, false, ◌||◌, List, [], ◌∷◌, IsTrue}
use Rattle.std.specs.List.{AllByRecursion, AllZip}
use Rattle.sq_base.specs.declared.types.PgType.{PgType}
use Rattle.sq_catalog.specs.Contents.{Contents}
use Rattle.sq_shown.specs.declared.signature.Language.{Language}
use Rattle.sq_shown.specs.declared.signature.Output.{Output}
use Rattle.sq_shown.specs.declared.signature.Param.{Param}
use Rattle.sq_core.specs.declared.weak.Weak.{Weak}
use Rattle.sq_core.specs.Answer.{pure, stuck, ◌>>=◌}
use Rattle.sq_core.specs.Forms.{Form, Shape, admits_null, form, shape, weak_holds}
use Rattle.sq_core.specs.Items.{Run, expecting, item_of}
use Rattle.sq_catalog.specs.UserTypes.{base}
use Rattle.sq_core.specs.Values.{Value, Null, Truth, Array, Tagged, Tag, Kind, Row, kind_of, same_type, tag, truth_tag, array_tag}

-- A client value is null, or of a printed shape with an opaque number.
pub data ClientValue : Type 0 where
  Nil : ClientValue
  Shaped : Shape → ℕ → ClientValue

-- null where the form admits it, else of the form's own shape
abbrev pub ClientFits : Language → Form → ClientValue → Type 0
ClientFits language form Nil = IsTrue (admits_null language form)
ClientFits language form (Shaped own number) = own ≡ form.shape

-- each argument fits its parameter's printed form
abbrev pub ArgumentFits : Language → Contents → Param → ClientValue → Type 0
ArgumentFits language contents param = ClientFits language (form language contents param.of param.nullable)

abbrev pub ArgumentsFit : Language → Contents → List Param → List ClientValue → Type 0
ArgumentsFit language contents = AllZip (ArgumentFits language contents)

-- whether a type has this shape: that of its form, or that of its nullable form
abbrev pub has_shape : Language → PgType → Shape → Bool
has_shape language of own = same_type (shape language of false) own || same_type (shape language of true) own

-- an argument as the server reads it: null is null, a shape of the type gives the next item, and any other shape is
-- stuck
abbrev pub bind : Language → Contents → PgType → ClientValue → Run Value
bind language contents of Nil = pure Null
bind language contents of (Shaped own number) =
    expecting (has_shape language (base contents of) own) (item_of (kind_of contents of false))

-- the arguments, each bound once
abbrev pub bound_all : Language → Contents → List Param → List ClientValue → Run (List Value)
bound_all language contents [] [] = pure []
bound_all language contents (param ∷ params) (argument ∷ arguments) =
    bind language contents param.of argument
    >>= (λ value. bound_all language contents params arguments >>= (λ values. pure (value ∷ values)))
bound_all language contents _ _ = stuck

-- a parameter's mark is that of its entry
abbrev pub param_kind : Contents → Param → Kind
param_kind contents param = kind_of contents param.of param.nullable

-- a parameter whose type is weak for a language that counts is nullable
abbrev pub WeakIsNullable : Weak → Contents → List Param → Type 0
WeakIsNullable weak contents =
    AllByRecursion (λ param. IsTrue (weak_holds weak (base contents param.of)) → IsTrue param.nullable)

-- some type of a tag has this form
pub record IsFormOf (language : Language) (contents : Contents) (own : Tag) (printed : Form) : Type 0 where
  pub of : PgType
  pub nullable : Bool
  pub same_tag : tag contents of ≡ own
  pub same_form : printed ≡ form language contents of nullable

-- null where the printed form admits it, else of a tag that the form is one of
abbrev pub FormFits : Language → Contents → Form → Value → Type 0
FormFits language contents form Null = IsTrue (admits_null language form)
FormFits language contents form (Truth b) = IsFormOf language contents truth_tag form
FormFits language contents form (Array element values) = IsFormOf language contents (array_tag element) form
FormFits language contents form (Tagged of number) = IsFormOf language contents of form

-- a row is as long as the printed columns, and each value fits its column's form
abbrev pub RowFitsPrinted : Language → Contents → List Form → Row → Type 0
RowFitsPrinted language contents = AllZip (FormFits language contents)

-- the printed form of an output
abbrev pub output_form : Language → Contents → Output → Form
output_form language contents output = form language contents output.of output.nullable
