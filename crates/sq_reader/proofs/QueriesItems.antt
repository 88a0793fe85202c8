-- The items of files of queries: their names, what they use, and what they are shown as.
use Rattle.std.proofs.Common.{◌≡◌, ℕ, ◌+◌, true, List, [], ◌∷◌, ◌++◌, codes, map, Result, Ok, refl, ap, sym, ◌∙◌}
use Rattle.std.specs.List.{flat_map, AllByRecursion}
use Rattle.std.proofs.lemmas.Grind.{flat_map-append}
use Rattle.std.proofs.lemmas.List.{map-append}
use Rattle.sq_shown.specs.Layout as layout
use Rattle.sq_shown.specs.Signature.{shown}
use Rattle.sq_shown.specs.Names.{query_top}
use Rattle.sq_shown.specs.declared.declaration.ModelDecl.{ModelDecl}
use Rattle.sq_shown.specs.declared.declaration.QueryFile.{QueryFile}
use Rattle.sq_shown.specs.declared.declaration.QuerySig.{QuerySig}
use Rattle.sq_reader.specs.Parts.{Text}
use Rattle.sq_reader.specs.Items.{◌>>=◌, is_imported, with_items}
use Rattle.sq_reader.specs.Reading.{items_from}
use Rattle.sq_reader.specs.Readable.{is_run, IsReadableQuery, IsReadableFile}
use Rattle.sq_reader.specs.declared.parts.Class.TheVariants.{Word}
use Rattle.sq_reader.specs.declared.items.Item.{Item}
use Rattle.sq_reader.specs.declared.items.Source.{Source}
use Rattle.sq_reader.specs.declared.items.Spot.{Spot}
use Rattle.sq_reader.specs.declared.items.Space.{Space}
use Rattle.sq_reader.specs.declared.items.Space.TheVariants.{Package, Methods, Files}
use Rattle.sq_reader.proofs.NamesAgain.{name_in, names_in, AreDeclared, declared_parts}
use Rattle.sq_reader.proofs.QueryItems.{top_names, called_names, no_file_names, query_declared}
use Rattle.sq_reader.proofs.QueriesAgain.{declared_text, query_items, queries_items, source_of, file_of, query_file_read}

-- NAMES

-- the names of items in two parts
pub names_parts : (space : Space) (one other : List Item) (first second : List Text) → names_in space one ≡ first → names_in space other ≡ second → names_in space (one ++ other) ≡ first ++ second
names_parts space one other first second is more =
    flat_map-append (name_in space) one other ∙ ap (λ (names : List Text). names ++ names_in space other) is ∙ ap (λ (names : List Text). first ++ names) more

queries_top : (source : Source) (models : List ModelDecl) (queries : List QuerySig) → names_in Package (queries_items source models queries) ≡ flat_map (query_top models) queries
queries_top source models [] = refl
queries_top source models (query ∷ queries) =
    let rest : Text = flat_map (declared_text models) queries in
    names_parts Package (query_items source models query rest) (queries_items source models queries) (query_top models query) (flat_map (query_top models) queries)
    (top_names source (layout.model_of models query.model) query.signature.name query.signature.text (shown query.signature).columns rest) (queries_top source models queries)

abbrev pub query_name : QuerySig → Text
query_name query = query.signature.name

queries_called : (source : Source) (models : List ModelDecl) (queries : List QuerySig) → names_in Methods (queries_items source models queries) ≡ map query_name queries
queries_called source models [] = refl
queries_called source models (query ∷ queries) =
    let rest : Text = flat_map (declared_text models) queries in
    names_parts Methods (query_items source models query rest) (queries_items source models queries) (query.signature.name ∷ []) (map query_name queries)
    (called_names source (layout.model_of models query.model) query.signature.name query.signature.text (shown query.signature).columns rest) (queries_called source models queries)

queries_no_files : (source : Source) (models : List ModelDecl) (queries : List QuerySig) → names_in Files (queries_items source models queries) ≡ []
queries_no_files source models [] = refl
queries_no_files source models (query ∷ queries) =
    let rest : Text = flat_map (declared_text models) queries in
    names_parts Files (query_items source models query rest) (queries_items source models queries) [] []
    (no_file_names source (layout.model_of models query.model) query.signature.name query.signature.text (shown query.signature).columns rest) (queries_no_files source models queries)

-- the items of files, the first of which has this number
abbrev pub files_of : ℕ → Text → List ModelDecl → List QueryFile → List Item
files_of number package_name models [] = []
files_of number package_name models (file ∷ files) = file_of number package_name models file ++ files_of (number + 1) package_name models files

pub files_read : (number : ℕ) (package_name : Text) (models : List ModelDecl) (files : List QueryFile) → is_run Word package_name ≡ true → AllByRecursion (IsReadableFile models) files →
    items_from number (layout.query_files package_name models files) ≡ Ok (files_of number package_name models files)
files_read number package_name models [] word all = refl
files_read number package_name models (file ∷ files) word all =
    ap (λ (r : Result (List Item) Spot). r >>= (λ items. with_items items (items_from (number + 1) (layout.query_files package_name models files)))) (query_file_read number package_name models file word all.0)
    ∙ ap (with_items (file_of number package_name models file)) (files_read (number + 1) package_name models files word all.1)

pub files_top : (number : ℕ) (package_name : Text) (models : List ModelDecl) (files : List QueryFile) → names_in Package (files_of number package_name models files) ≡ flat_map (query_top models) (layout.queries_of files)
files_top number package_name models [] = refl
files_top number package_name models (file ∷ files) =
    names_parts Package (file_of number package_name models file) (files_of (number + 1) package_name models files) (flat_map (query_top models) file.queries) (flat_map (query_top models) (layout.queries_of files))
    (queries_top (source_of number models file) models file.queries) (files_top (number + 1) package_name models files)
    ∙ sym (flat_map-append (query_top models) file.queries (layout.queries_of files))

pub files_called : (number : ℕ) (package_name : Text) (models : List ModelDecl) (files : List QueryFile) → names_in Methods (files_of number package_name models files) ≡ map query_name (layout.queries_of files)
files_called number package_name models [] = refl
files_called number package_name models (file ∷ files) =
    names_parts Methods (file_of number package_name models file) (files_of (number + 1) package_name models files) (map query_name file.queries) (map query_name (layout.queries_of files))
    (queries_called (source_of number models file) models file.queries) (files_called (number + 1) package_name models files)
    ∙ sym (map-append query_name file.queries (layout.queries_of files))

abbrev pub path_of : QueryFile → Text
path_of file = layout.query_path file.source

pub files_named : (number : ℕ) (package_name : Text) (models : List ModelDecl) (files : List QueryFile) → names_in Files (files_of number package_name models files) ≡ map path_of files
files_named number package_name models [] = refl
files_named number package_name models (file ∷ files) =
    names_parts Files (file_of number package_name models file) (files_of (number + 1) package_name models files) (path_of file ∷ []) (map path_of files)
    (ap (λ (names : List Text). path_of file ∷ names) (queries_no_files (source_of number models file) models file.queries)) (files_named (number + 1) package_name models files)

-- USES

queries_declared : (source : Source) (models : List ModelDecl) (queries : List QuerySig) → is_imported source.imports (codes "context") ≡ true → AllByRecursion (IsReadableQuery models source.imports) queries → AreDeclared (queries_items source models queries)
queries_declared source models [] context all = tt
queries_declared source models (query ∷ queries) context all =
    let rest : Text = flat_map (declared_text models) queries in
    declared_parts (query_items source models query rest) (queries_items source models queries)
    (query_declared source (layout.model_of models query.model) query.signature.name query.signature.text (shown query.signature).columns rest context all.0.some_column all.0.query_types)
    (queries_declared source models queries context all.1)

pub files_declared : (number : ℕ) (package_name : Text) (models : List ModelDecl) (files : List QueryFile) → AllByRecursion (IsReadableFile models) files → AreDeclared (files_of number package_name models files)
files_declared number package_name models [] all = tt
files_declared number package_name models (file ∷ files) all =
    declared_parts (file_of number package_name models file) (files_of (number + 1) package_name models files)
    (refl, queries_declared (source_of number models file) models file.queries refl all.0.each_query)
    (files_declared (number + 1) package_name models files all.1)
