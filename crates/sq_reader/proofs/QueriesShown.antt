-- The items of files of queries are shown as the queries.
use Rattle.std.proofs.Common.{◌≡◌, ℕ, ◌+◌, List, [], ◌∷◌, ◌++◌, codes, map, Some, None, Option, option_map, Result, Ok, Err, refl, ap, sym, ◌∙◌, append_assoc}
use Rattle.std.specs.Prelude.{find}
use Rattle.std.specs.List.{flat_map, AllByRecursion}
use Rattle.std.proofs.lemmas.List.{map-append}
use Rattle.sq_shown.specs.Layout as layout
use Rattle.sq_shown.specs.Signature.{fields, shown, shown_columns, field}
use Rattle.sq_shown.specs.declared.declaration.ModelDecl.{ModelDecl}
use Rattle.sq_shown.specs.declared.declaration.QueryFile.{QueryFile}
use Rattle.sq_shown.specs.declared.declaration.QuerySig.{QuerySig}
use Rattle.sq_shown.specs.declared.signature.Output.{Output}
use Rattle.sq_shown.specs.declared.signature.Shown.{Shown}
use Rattle.sq_shown.specs.declared.signature.ShownField.{ShownField}
use Rattle.sq_reader.specs.Parts.{Text}
use Rattle.sq_reader.specs.Items as items
use Rattle.sq_reader.specs.Columns.{model_named}
use Rattle.sq_reader.specs.Reading.{shown_by, with_shown}
use Rattle.sq_reader.specs.Readable.{model_with, IsReadableQuery, IsReadableFile}
use Rattle.sq_reader.specs.declared.items.Item.{Item}
use Rattle.sq_reader.specs.declared.items.Source.{Source}
use Rattle.sq_reader.specs.declared.items.Spot.{Spot}
use Rattle.sq_reader.proofs.SettledAgain.{shown_all}
use Rattle.sq_reader.proofs.QueryItems.{columns_here, query_shown}
use Rattle.sq_reader.proofs.ModelsAgain.{with_id}
use Rattle.sq_reader.proofs.QueriesAgain.{declared_text, query_items, queries_items, shown_is, source_of, file_of}
use Rattle.sq_reader.proofs.QueriesItems.{files_of}

-- ITEMS IN PARTS

abbrev then_shown : Result (List Shown) Spot → Result (List Shown) Spot → Result (List Shown) Spot
then_shown first more = items.◌>>=◌ first (λ shown. with_shown shown more)

with_both : (one other : List Shown) (more : Result (List Shown) Spot) → with_shown one (with_shown other more) ≡ with_shown (one ++ other) more
with_both one other (Ok more) = ap Ok (sym (append_assoc one other more))
with_both one other (Err spot) = refl

then_both : (first second more : Result (List Shown) Spot) → then_shown first (then_shown second more) ≡ then_shown (then_shown first second) more
then_both (Err spot) second more = refl
then_both (Ok shown) (Err spot) more = refl
then_both (Ok one) (Ok other) more = with_both one other more

shown_then : (all one other : List Item) → shown_all all (one ++ other) ≡ then_shown (shown_all all one) (shown_all all other)
shown_then all [] other = go (shown_all all other)
  where
    go : (r : Result (List Shown) Spot) → r ≡ with_shown [] r
    go (Ok shown) = refl
    go (Err spot) = refl
shown_then all (item ∷ one) other =
    ap (then_shown (shown_by all item item.meaning)) (shown_then all one other) ∙ then_both (shown_by all item item.meaning) (shown_all all one) (shown_all all other)

pub shown_parts : (all one other : List Item) (first second : List Shown) → shown_all all one ≡ Ok first → shown_all all other ≡ Ok second → shown_all all (one ++ other) ≡ Ok (first ++ second)
shown_parts all one other first second is more =
    shown_then all one other ∙ ap (λ (r : Result (List Shown) Spot). then_shown r (shown_all all other)) is ∙ ap (with_shown first) more

-- A QUERY

one_name : (a b : Text) → ◌≡◌ {A = Option Text} (Some a) (Some b) → a ≡ b
one_name a b e = cc

no_name : (b : Text) → ◌≡◌ {A = Option Text} None (Some b) → ⊥
no_name b e = cc

-- the name of the first of some columns
first_name : List ShownField → Text
first_name [] = []
first_name (column ∷ later) = column.name

-- a single column has the name `_`
single_named : (outputs : List Output) (column : ShownField) → shown_columns outputs ≡ column ∷ [] → column.name ≡ codes "_"
unfolding field first_name
single_named [] column is = absurd (cc)
single_named (output ∷ []) column is = sym (ap first_name is)
single_named (output ∷ second ∷ outputs) column is = absurd (cc)

-- each model is found by its name
abbrev pub FindsModels : List Item → List ModelDecl → Type 0
FindsModels all models = (wanted : ℕ) (found : ModelDecl) → find (with_id wanted) models ≡ Some found → model_named all (layout.model_name found) ≡ Some (fields found.columns)

modelled_here : (all : List Item) (models : List ModelDecl) → FindsModels all models → (id : Option ℕ) (columns : List ShownField) → ((model : ModelDecl) → model_with models id ≡ Some model → columns ≡ fields model.columns) →
    (identifier : Text) → layout.model_of models id ≡ Some identifier → model_named all identifier ≡ Some columns
modelled_here all models finds None columns modelled identifier is = absurd (no_name identifier is)
modelled_here all models finds (Some wanted) columns modelled identifier is = go (find (with_id wanted) models) refl is
  where
    go : (found : Option ModelDecl) → find (with_id wanted) models ≡ found → option_map layout.model_name found ≡ Some identifier → model_named all identifier ≡ Some columns
    go None e is = absurd (no_name identifier is)
    go (Some model) e is = ap (model_named all) (sym (one_name (layout.model_name model) identifier is)) ∙ finds wanted model e ∙ ap Some (sym (modelled model e))

-- what a query is shown as
abbrev pub shown_of : QuerySig → Shown
shown_of query = shown query.signature

one_shown : (all : List Item) (source : Source) (models : List ModelDecl) (query : QuerySig) (rest : Text) → FindsModels all models → IsReadableQuery models source.imports query → shown_all all (query_items source models query rest) ≡ Ok (shown_of query ∷ [])
one_shown all source models query rest finds ok =
    let model : Option Text = layout.model_of models query.model in
    let found : List ShownField = (shown query.signature).columns in
    query_shown all source model query.signature.name query.signature.text found rest
    (columns_here all model query.signature.name found ok.some_column ok.columns_apart (single_named query.signature.columns) (modelled_here all models finds query.model found ok.modelled))
    ∙ ap (λ (one : Shown). Ok (one ∷ [])) (sym (shown_is query ok.command))

-- QUERIES

queries_shown : (all : List Item) (source : Source) (models : List ModelDecl) (queries : List QuerySig) → FindsModels all models → AllByRecursion (IsReadableQuery models source.imports) queries → shown_all all (queries_items source models queries) ≡ Ok (map shown_of queries)
queries_shown all source models [] finds each = refl
queries_shown all source models (query ∷ queries) finds each =
    let rest : Text = flat_map (declared_text models) queries in
    shown_parts all (query_items source models query rest) (queries_items source models queries) (shown_of query ∷ []) (map shown_of queries)
    (one_shown all source models query rest finds each.0) (queries_shown all source models queries finds each.1)

file_shown : (all : List Item) (number : ℕ) (package_name : Text) (models : List ModelDecl) (file : QueryFile) → FindsModels all models → IsReadableFile models file → shown_all all (file_of number package_name models file) ≡ Ok (map shown_of file.queries)
file_shown all number package_name models file finds ok = ap (with_shown []) (queries_shown all (source_of number models file) models file.queries finds ok.each_query)

pub files_shown : (all : List Item) (number : ℕ) (package_name : Text) (models : List ModelDecl) (files : List QueryFile) → FindsModels all models → AllByRecursion (IsReadableFile models) files →
    shown_all all (files_of number package_name models files) ≡ Ok (map shown_of (layout.queries_of files))
files_shown all number package_name models [] finds each = refl
files_shown all number package_name models (file ∷ files) finds each =
    shown_parts all (file_of number package_name models file) (files_of (number + 1) package_name models files) (map shown_of file.queries) (map shown_of (layout.queries_of files))
    (file_shown all number package_name models file finds each.0) (files_shown all (number + 1) package_name models files finds each.1)
    ∙ ap Ok (sym (map-append shown_of file.queries (layout.queries_of files)))
