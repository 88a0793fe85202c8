-- The file models.go is read again.
use Rattle.std.proofs.Common.{◌≡◌, ℕ, Bool, true, false, cond, List, [], ◌∷◌, ◌++◌, codes, map, Some, None, Option, Ok, nat_eq, refl, ap, sym, ◌∙◌, arith, length-append}
use Rattle.std.specs.Prelude.{find}
use Rattle.std.specs.List.{list_any, flat_map, AllByRecursion}
use Rattle.std.proofs.lemmas.List.Folds.{flat_map-map}
use Rattle.sq_shown.specs.Layout as layout
use Rattle.sq_shown.specs.Signature.{fields}
use Rattle.sq_shown.specs.Names.{has_equal}
use Rattle.sq_shown.specs.declared.declaration.ModelDecl.{ModelDecl}
use Rattle.sq_shown.specs.declared.signature.ShownField.{ShownField}
use Rattle.sq_reader.specs.Parts.{Text, Part, same}
use Rattle.sq_reader.specs.Items.{◌>>=◌, stands, spot, groups, model_item}
use Rattle.sq_reader.specs.Columns.{model_named, or_later}
use Rattle.sq_reader.specs.Readable.{IsReadableModel}
use Rattle.sq_reader.specs.declared.forms.Struct.{Struct}
use Rattle.sq_reader.specs.declared.items.Item.{Item}
use Rattle.sq_reader.specs.declared.items.Source.{Source}
use Rattle.sq_reader.specs.declared.items.Group.TheVariants.{Models}
use Rattle.sq_reader.specs.declared.items.Space.TheVariants.{Package, Methods, Files}
use Rattle.sq_reader.proofs.PartsAgain.{AllSome, same_as_itself}
use Rattle.sq_reader.proofs.FormsAgain.{struct_again}
use Rattle.sq_reader.proofs.SettledAgain.{neither, shown_all}
use Rattle.sq_reader.proofs.GroupsAgain.{all_items, IsReadAgain, groups_again}
use Rattle.sq_reader.proofs.QueryAgain.{gap, gapped}
use Rattle.sq_reader.proofs.NamesAgain.{names_in, AreDeclared}

-- a model's struct behind an empty line
abbrev pub model_text : ModelDecl → Text
model_text model = gap (layout.model_struct model)

-- its item
abbrev pub model_items : Source → ModelDecl → Text → List Item
model_items source model rest = model_item source (model_text model ++ rest) (record { name = layout.model_name model; fields = fields model.columns }) ∷ []

-- the items of models
abbrev pub models_items : Source → List ModelDecl → List Item
models_items source models = all_items model_text (model_items source) models

model_again : (source : Source) (model : ModelDecl) → IsReadableModel source.imports model → IsReadAgain Models source model_text (model_items source) model
model_again source model ok rest =
    let text : Text = model_text model ++ rest in
    ap (λ (found : Part Struct). stands found (spot source.file text) >>= (λ found. Ok (model_item source text found.0 ∷ [], found.1)))
    (struct_again (layout.model_name model) (fields model.columns) rest ok.model_word ok.fields_spelled)

each_again : (source : Source) (models : List ModelDecl) → AllByRecursion (IsReadableModel source.imports) models → AllByRecursion (IsReadAgain Models source model_text (model_items source)) models
each_again source [] all = tt
each_again source (model ∷ models) all = (model_again source model all.0, each_again source models all.1)

some_text : AllSome model_text
some_text model = let e = length-append (codes "\n") (layout.model_struct model) in omega (arith, e)

starts : (model : ModelDecl) (rest : Text) → same (model_text model ++ rest) (codes "\n") ≡ false
unfolding layout.struct_text
starts model rest = refl

-- models, one or more, are read again
pub models_again : (source : Source) (model : ModelDecl) (models : List ModelDecl) → AllByRecursion (IsReadableModel source.imports) (model ∷ models) →
    groups Models source (gapped (map layout.model_struct (model ∷ models))) ≡ Ok (models_items source (model ∷ models))
models_again source model models all =
    ap (groups Models source) (flat_map-map gap layout.model_struct (model ∷ models))
    ∙ groups_again Models source model_text (model_items source) model models some_text (each_again source (model ∷ models) all) (starts model (flat_map model_text models))

-- THEIR ITEMS

pub top_names : (source : Source) (models : List ModelDecl) → names_in Package (models_items source models) ≡ map layout.model_name models
top_names source [] = refl
top_names source (model ∷ models) = ap (λ (names : List Text). layout.model_name model ∷ names) (top_names source models)

pub no_called_names : (source : Source) (models : List ModelDecl) → names_in Methods (models_items source models) ≡ []
no_called_names source [] = refl
no_called_names source (model ∷ models) = no_called_names source models

pub no_file_names : (source : Source) (models : List ModelDecl) → names_in Files (models_items source models) ≡ []
no_file_names source [] = refl
no_file_names source (model ∷ models) = no_file_names source models

pub models_declared : (source : Source) (models : List ModelDecl) → AllByRecursion (IsReadableModel source.imports) models → AreDeclared (models_items source models)
models_declared source [] all = tt
models_declared source (model ∷ models) all = (all.0.model_types, models_declared source models all.1)

pub models_shown : (all : List Item) (source : Source) (models : List ModelDecl) → shown_all all (models_items source models) ≡ Ok []
models_shown all source [] = refl
models_shown all source (model ∷ models) = rw (models_shown all source models) refl

-- the model of an id
abbrev pub with_id : ℕ → ModelDecl → Bool
with_id wanted model = nat_eq model.id wanted

one_model : (a b : ModelDecl) → ◌≡◌ {A = Option ModelDecl} (Some a) (Some b) → a ≡ b
one_model a b e = cc

-- a model that is found is one of them
named_among : (p : Text → Bool) (wanted : ℕ) (models : List ModelDecl) (found : ModelDecl) → find (with_id wanted) models ≡ Some found → list_any p (map layout.model_name models) ≡ false → p (layout.model_name found) ≡ false
named_among p wanted [] found is none = absurd (cc)
named_among p wanted (model ∷ models) found is none = go (with_id wanted model) refl (λ is none. named_among p wanted models found is none)
  where
    parts : (p (layout.model_name model) ≡ false) × (list_any p (map layout.model_name models) ≡ false)
    parts = neither (p (layout.model_name model)) (list_any p (map layout.model_name models)) none

    go : (t : Bool) → with_id wanted model ≡ t → (find (with_id wanted) models ≡ Some found → list_any p (map layout.model_name models) ≡ false → p (layout.model_name found) ≡ false) → p (layout.model_name found) ≡ false
    go true e more = ap (λ (m : ModelDecl). p (layout.model_name m)) (one_model found model (sym is ∙ ap (λ (t : Bool). cond {A = Option ModelDecl} t (Some model) (find (with_id wanted) models)) e)) ∙ parts.0
    go false e more = more (sym (ap (λ (t : Bool). cond {A = Option ModelDecl} t (Some model) (find (with_id wanted) models)) e) ∙ is) parts.1

-- the first model of its name has its fields
pub model_found : (source : Source) (later : List Item) (wanted : ℕ) (models : List ModelDecl) (found : ModelDecl) → find (with_id wanted) models ≡ Some found → has_equal (map layout.model_name models) ≡ false →
    model_named (models_items source models ++ later) (layout.model_name found) ≡ Some (fields found.columns)
model_found source later wanted [] found is apart = absurd (cc)
model_found source later wanted (model ∷ models) found is apart = go (with_id wanted model) refl (λ is apart. model_found source later wanted models found is apart)
  where
    name : Text
    name = layout.model_name model

    parts : (list_any (same name) (map layout.model_name models) ≡ false) × (has_equal (map layout.model_name models) ≡ false)
    parts = neither (list_any (same name) (map layout.model_name models)) (has_equal (map layout.model_name models)) apart

    go : (t : Bool) → with_id wanted model ≡ t → (find (with_id wanted) models ≡ Some found → has_equal (map layout.model_name models) ≡ false → model_named (models_items source models ++ later) (layout.model_name found) ≡ Some (fields found.columns)) →
        model_named (models_items source (model ∷ models) ++ later) (layout.model_name found) ≡ Some (fields found.columns)
    go true e more =
        let one : found ≡ model = one_model found model (sym is ∙ ap (λ (t : Bool). cond {A = Option ModelDecl} t (Some model) (find (with_id wanted) models)) e) in
        ap (λ (m : ModelDecl). model_named (models_items source (model ∷ models) ++ later) (layout.model_name m)) one
        ∙ ap (λ (t : Bool). or_later (cond {A = Option (List ShownField)} t (Some (fields model.columns)) None) (model_named (models_items source models ++ later) name)) (same_as_itself name)
        ∙ ap (λ (m : ModelDecl). Some (fields m.columns)) (sym one)
    go false e more =
        let rest : find (with_id wanted) models ≡ Some found = sym (ap (λ (t : Bool). cond {A = Option ModelDecl} t (Some model) (find (with_id wanted) models)) e) ∙ is in
        ap (λ (t : Bool). or_later (cond {A = Option (List ShownField)} t (Some (fields model.columns)) None) (model_named (models_items source models ++ later) (layout.model_name found))) (named_among (same name) wanted models found rest parts.0)
        ∙ more rest parts.1
