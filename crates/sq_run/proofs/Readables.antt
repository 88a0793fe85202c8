-- What is written for tables and judged queries of the first types can be read again.
use Rattle.std.proofs.Common.{◌≡◌, ℕ, ◌||◌, ◌==◌, Bool, true, false, List, [], ◌∷◌, ◌++◌, Option, None, Some, refl, sym, ◌∙◌, inl, inr, slice_get}
use Rattle.std.specs.Prelude.{codes}
use Rattle.std.specs.List.{AllByRecursion, list_all, list_any, flat_map}
use Rattle.std.specs.Char.{is_ascii_alphanumeric}
use Rattle.std.proofs.lemmas.Bool.{cases_Bool}
use Rattle.std.proofs.lemmas.List.Folds.{list_any-append}
use Rattle.sq_base.specs.declared.types.PgType.{PgType}
use Rattle.sq_base.specs.declared.types.Scalar.{Scalar}
use Rattle.sq_shown.specs.declared.declaration.ModelDecl.{ModelDecl}
use Rattle.sq_shown.specs.declared.signature.Output.{Output}
use Rattle.sq_shown.specs.declared.signature.ShownField.{ShownField}
use Rattle.sq_shown.specs.Forms.{printed_form, scalar_form, nullable_scalar_form}
use Rattle.sq_shown.specs.Identifiers.{numbered, pascal}
use Rattle.sq_shown.specs.Layout.{forms, is_of_sql, sql_import, model_forms, row_forms, row_type}
use Rattle.sq_shown.specs.Signature.{field, fields, fields_after, shown_columns}
use Rattle.sq_shown.specs.Words.{is_word}
use Rattle.sq_reader.specs.Items.{fields_stand, type_stands}
use Rattle.sq_reader.specs.Parts.{allows}
use Rattle.sq_reader.specs.Readable.{is_run, is_field, own_types_stand}
use Rattle.sq_reader.specs.declared.parts.Class.TheVariants.{Word, Spelling}
use Rattle.sq_run.proofs.FirstTypes.{IsFirst, IsFirstScalar, ShowsFirst, at_place}
use Rattle.sq_run.proofs.Models.{both, either_none}

-- the forms of these types, of what is never null and of what may be null
abbrev pub first_forms : List (List ℕ)
first_forms =
    codes "int16" ∷ codes "int32" ∷ codes "int64" ∷ codes "bool" ∷ codes "string" ∷ codes "sql.NullInt16" ∷ codes "sql.NullInt32" ∷ codes "sql.NullInt64" ∷ codes "sql.NullBool" ∷ codes "sql.NullString" ∷ []

abbrev pub IsFirstForm : List ℕ → Type 0
IsFirstForm of = (at : ℕ) × (slice_get first_forms at ≡ Some of)

scalar_form_of : (of : Scalar) → IsFirstScalar of → IsFirstForm (scalar_form of)
scalar_form_of of (inl is) = (0, rw is refl)
scalar_form_of of (inr (inl is)) = (1, rw is refl)
scalar_form_of of (inr (inr (inl is))) = (2, rw is refl)
scalar_form_of of (inr (inr (inr (inl is)))) = (3, rw is refl)
scalar_form_of of (inr (inr (inr (inr is)))) = (4, rw is refl)

nullable_form_of : (of : Scalar) → IsFirstScalar of → IsFirstForm (nullable_scalar_form of)
nullable_form_of of (inl is) = (5, rw is refl)
nullable_form_of of (inr (inl is)) = (6, rw is refl)
nullable_form_of of (inr (inr (inl is))) = (7, rw is refl)
nullable_form_of of (inr (inr (inr (inl is)))) = (8, rw is refl)
nullable_form_of of (inr (inr (inr (inr is)))) = (9, rw is refl)

form_of : (of : PgType) (nullable : Bool) → IsFirst of → IsFirstForm (printed_form of nullable)
form_of of true is = rw is.no_array (nullable_form_of of.scalar is.first)
form_of of false is = rw is.no_array (scalar_form_of of.scalar is.first)

abbrev pub HasFirstForm : ShownField → Type 0
HasFirstForm field = IsFirstForm field.of

field_form : (identifier : List ℕ) (output : Output) → ShowsFirst output → HasFirstForm (field identifier output)
unfolding field
field_form identifier output first = form_of output.of output.nullable first

fields_form : (earlier : List (List ℕ)) (outputs : List Output) → AllByRecursion ShowsFirst outputs → AllByRecursion HasFirstForm (fields_after earlier outputs)
fields_form earlier [] all = tt
fields_form earlier (output ∷ outputs) all = (field_form (numbered earlier (pascal output.name)) output all.0, fields_form (earlier ++ pascal output.name ∷ []) outputs all.1)

pub columns_form : (outputs : List Output) → AllByRecursion ShowsFirst outputs → AllByRecursion HasFirstForm (shown_columns outputs)
columns_form [] all = tt
columns_form (output ∷ []) all = (field_form (codes "_") output all.0, tt)
columns_form (output ∷ second ∷ outputs) all = fields_form [] (output ∷ second ∷ outputs) all

pub all_fields_form : (outputs : List Output) → AllByRecursion ShowsFirst outputs → AllByRecursion HasFirstForm (fields outputs)
all_fields_form outputs all = fields_form [] outputs all

-- WORDS AND SPELLINGS

spells : (xs : List ℕ) → list_all (allows Word) xs ≡ true → list_all (allows Spelling) xs ≡ true
spells [] is = refl
spells (b ∷ xs) is =
    let here : (is_ascii_alphanumeric b || (b == 95)) ≡ true = (both (is_ascii_alphanumeric b || (b == 95)) (list_all (allows Word) xs) is).0 in
    let later : list_all (allows Word) xs ≡ true = (both (is_ascii_alphanumeric b || (b == 95)) (list_all (allows Word) xs) is).1 in
    rw (here) (spells xs later)

-- a word is spelled as a type is
pub word_spelled : (xs : List ℕ) → is_run Word xs ≡ true → is_run Spelling xs ≡ true
word_spelled [] is = absurd (cc is)
word_spelled (b ∷ xs) is = spells (b ∷ xs) is

pub form_spelled : (of : List ℕ) → IsFirstForm of → is_run Spelling of ≡ true
form_spelled of there = at_place (λ (form : List ℕ). is_run Spelling form ≡ true) first_forms there.0 of (refl, (refl, (refl, (refl, (refl, (refl, (refl, (refl, (refl, (refl, tt)))))))))) there.1

-- a word by its own definition is a run of word bytes
pub word_run : (xs : List ℕ) → is_word xs ≡ true → is_run Word xs ≡ true
word_run [] is = absurd (cc is)
word_run (b ∷ xs) is = is

-- fields that have words for names and first forms
pub fields_spelled : (fs : List ShownField) → AllByRecursion HasFirstForm fs → list_all (λ (f : ShownField). is_word f.name) fs ≡ true → list_all is_field fs ≡ true
fields_spelled [] all words = refl
fields_spelled (f ∷ fs) all words =
    let here : is_word f.name ≡ true = (both (is_word f.name) (list_all (λ (g : ShownField). is_word g.name) fs) words).0 in
    let later = (both (is_word f.name) (list_all (λ (g : ShownField). is_word g.name) fs) words).1 in
    let run : is_run Word f.name ≡ true = word_run f.name here in
    rw (run, form_spelled f.of all.0) (fields_spelled fs all.1 later)

-- IMPORTS

-- where database/sql is imported, every first form's package is
with_sql : (of : List ℕ) → IsFirstForm of → (type_stands (codes "database/sql" ∷ []) of ≡ true) × (type_stands (codes "context" ∷ codes "database/sql" ∷ []) of ≡ true)
with_sql of there =
    at_place (λ (form : List ℕ). (type_stands (codes "database/sql" ∷ []) form ≡ true) × (type_stands (codes "context" ∷ codes "database/sql" ∷ []) form ≡ true)) first_forms there.0 of
    ((refl, refl), ((refl, refl), ((refl, refl), ((refl, refl), ((refl, refl), ((refl, refl), ((refl, refl), ((refl, refl), ((refl, refl), ((refl, refl), tt)))))))))) there.1

-- and a form that is no type of sql needs no import
abbrev StandsAlone : List ℕ → Type 0
StandsAlone form = is_of_sql form ≡ false → (type_stands [] form ≡ true) × (type_stands (codes "context" ∷ []) form ≡ true)

without_sql : (of : List ℕ) → IsFirstForm of → StandsAlone of
without_sql of there = at_place StandsAlone first_forms there.0 of
    ((λ none. (refl, refl)), ((λ none. (refl, refl)), ((λ none. (refl, refl)), ((λ none. (refl, refl)), ((λ none. (refl, refl)), ((λ some. absurd (cc some)), ((λ some. absurd (cc some)), ((λ some. absurd (cc some)), ((λ some. absurd (cc some)), ((λ some. absurd (cc some)), tt))))))))))
    there.1

all_with : (fs : List ShownField) → AllByRecursion HasFirstForm fs → (fields_stand (codes "database/sql" ∷ []) fs ≡ true) × (fields_stand (codes "context" ∷ codes "database/sql" ∷ []) fs ≡ true)
all_with [] all = (refl, refl)
all_with (f ∷ fs) all =
    let here = with_sql f.of all.0 in
    let later = all_with fs all.1 in
    (rw here.0 later.0, rw here.1 later.1)

all_without : (fs : List ShownField) → AllByRecursion HasFirstForm fs → list_any is_of_sql (forms fs) ≡ false → (fields_stand [] fs ≡ true) × (fields_stand (codes "context" ∷ []) fs ≡ true)
all_without [] all none = (refl, refl)
all_without (f ∷ fs) all none =
    let split = either_none (is_of_sql f.of) (list_any is_of_sql (forms fs)) none in
    let here = without_sql f.of all.0 split.0 in
    let later = all_without fs all.1 split.1 in
    (rw here.0 later.0, rw here.1 later.1)

-- the fields of each model stand over the imports of models.go
abbrev pub HasFirstForms : ModelDecl → Type 0
HasFirstForms model = AllByRecursion HasFirstForm (fields model.columns)

pub models_stand : (models : List ModelDecl) → AllByRecursion HasFirstForms models → AllByRecursion (λ (model : ModelDecl). fields_stand (sql_import (flat_map model_forms models)) (fields model.columns) ≡ true) models
models_stand models all = elim (cases_Bool (list_any is_of_sql (flat_map model_forms models))) [
  | inl some ↦ rw some (each_with models all)
  | inr none ↦ rw none (each_without models all none)
]
  where
    each_with : (ms : List ModelDecl) → AllByRecursion HasFirstForms ms → AllByRecursion (λ (model : ModelDecl). fields_stand (codes "database/sql" ∷ []) (fields model.columns) ≡ true) ms
    each_with [] each = tt
    each_with (m ∷ ms) each = ((all_with (fields m.columns) each.0).0, each_with ms each.1)

    each_without : (ms : List ModelDecl) → AllByRecursion HasFirstForms ms → list_any is_of_sql (flat_map model_forms ms) ≡ false → AllByRecursion (λ (model : ModelDecl). fields_stand [] (fields model.columns) ≡ true) ms
    each_without [] each none = tt
    each_without (m ∷ ms) each none =
        let split = either_none (list_any is_of_sql (model_forms m)) (list_any is_of_sql (flat_map model_forms ms)) (sym (list_any-append is_of_sql (model_forms m) (flat_map model_forms ms)) ∙ none) in
        ((all_without (fields m.columns) each.0 split.0).0, each_without ms each.1 split.1)

-- and those of a query over those of its file
query_stands : (fs : List ShownField) → AllByRecursion HasFirstForm fs → fields_stand (codes "context" ∷ sql_import (forms fs)) fs ≡ true
query_stands fs all = elim (cases_Bool (list_any is_of_sql (forms fs))) [
  | inl some ↦ rw some (all_with fs all).1
  | inr none ↦ rw none (all_without fs all none).1
]

pub own_stands : (model : Option (List ℕ)) (fs : List ShownField) → AllByRecursion HasFirstForm fs → own_types_stand (codes "context" ∷ sql_import (row_forms model fs)) model fs ≡ true
own_stands None [] all = refl
own_stands (Some identifier) [] all = refl
own_stands model (f ∷ []) all = query_stands (f ∷ []) all
own_stands None (f ∷ g ∷ fs) all = query_stands (f ∷ g ∷ fs) all
own_stands (Some identifier) (f ∷ g ∷ fs) all = refl

-- the type of a query's rows is spelled as a type
pub row_spelled : (model : Option (List ℕ)) (query : List ℕ) (fs : List ShownField) → AllByRecursion HasFirstForm fs → is_run Word (query ++ codes "Row") ≡ true → ((identifier : List ℕ) → model ≡ Some identifier → is_run Word identifier ≡ true)
    → is_run Spelling (row_type model query fs) ≡ true
row_spelled model query (f ∷ []) all row named = form_spelled f.of all.0
row_spelled (Some identifier) query [] all row named = word_spelled identifier (named identifier refl)
row_spelled None query [] all row named = word_spelled (query ++ codes "Row") row
row_spelled (Some identifier) query (f ∷ g ∷ fs) all row named = word_spelled identifier (named identifier refl)
row_spelled None query (f ∷ g ∷ fs) all row named = word_spelled (query ++ codes "Row") row
