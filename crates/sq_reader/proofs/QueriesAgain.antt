-- A file of queries is read again.
use Rattle.std.proofs.Common.{◌≡◌, ℕ, Bool, true, false, cond, List, [], ◌∷◌, ◌++◌, codes, Option, Result, Ok, refl, ap, ◌∙◌, arith, length-append}
use Rattle.std.specs.List.{flat_map, AllByRecursion}
use Rattle.std.proofs.lemmas.Grind.{flat_map-append}
use Rattle.sq_shown.specs.Layout as layout
use Rattle.sq_shown.specs.Signature.{shown}
use Rattle.sq_shown.specs.declared.declaration.ModelDecl.{ModelDecl}
use Rattle.sq_shown.specs.declared.declaration.QueryFile.{QueryFile}
use Rattle.sq_shown.specs.declared.declaration.QuerySig.{QuerySig}
use Rattle.sq_shown.specs.declared.signature.Command.{Command}
use Rattle.sq_shown.specs.declared.signature.Command.TheVariants.{Many}
use Rattle.sq_shown.specs.declared.signature.Shown.{Shown}
use Rattle.sq_reader.specs.Parts.{Text, same}
use Rattle.sq_reader.specs.Items.{◌>>=◌, spot, is_last_part, groups, query_group, database_items}
use Rattle.sq_reader.specs.Reading.{declarations, group_named, file_items}
use Rattle.sq_reader.specs.Readable.{is_run, IsReadableQuery, IsReadableFile}
use Rattle.sq_reader.specs.declared.parts.Class.TheVariants.{Word}
use Rattle.sq_reader.specs.declared.items.Spot.{Spot}
use Rattle.sq_reader.specs.declared.items.Item.{Item}
use Rattle.sq_reader.specs.declared.items.Source.{Source}
use Rattle.sq_reader.specs.declared.items.Space.{Space}
use Rattle.sq_reader.specs.declared.items.Space.TheVariants.{Files}
use Rattle.sq_reader.specs.declared.items.Group.TheVariants.{Models, Calls}
use Rattle.sq_reader.specs.declared.items.Meaning.TheVariants.{Plain}
use Rattle.sq_reader.proofs.PartsAgain.{AllSome}
use Rattle.sq_reader.proofs.FilesAgain.{file_again, query_imports}
use Rattle.sq_reader.proofs.GroupsAgain.{all_items, IsReadAgain, groups_again}
use Rattle.sq_reader.proofs.QueryAgain.{gap, gapped, all_rows, query_text, query_again, items_of}

-- a query's declarations, each behind an empty line
abbrev pub declared_text : List ModelDecl → QuerySig → Text
declared_text models query = gapped (layout.query_declarations models query)

-- its items
abbrev pub query_items : Source → List ModelDecl → QuerySig → Text → List Item
query_items source models query rest = items_of source (layout.model_of models query.model) query.signature.name query.signature.text (shown query.signature).columns rest

-- the items of queries
abbrev pub queries_items : Source → List ModelDecl → List QuerySig → List Item
queries_items source models queries = all_items (declared_text models) (query_items source models) queries

-- a query with all rows is shown as such
pub shown_is : (query : QuerySig) → query.signature.command ≡ Many → shown query.signature ≡ all_rows query.signature.name query.signature.text (shown query.signature).columns
shown_is query command = ap (λ (k : Command). record { name = query.signature.name; command = k; text = query.signature.text; params = []; columns = (shown query.signature).columns }) command

query_read : (source : Source) (models : List ModelDecl) (query : QuerySig) → IsReadableQuery models source.imports query → IsReadAgain Calls source (declared_text models) (query_items source models) query
query_read source models query ok rest =
    let model : Option Text = layout.model_of models query.model in
    ap (λ (q : Shown). query_group source (gapped (layout.shown_declarations model q) ++ rest)) (shown_is query ok.command)
    ∙ ap (query_group source) (query_text model query.signature.name query.signature.text (shown query.signature).columns rest)
    ∙ query_again source model query.signature.name query.signature.text (shown query.signature).columns rest ok.query_word ok.constant_word ok.row_word ok.row_spelled ok.columns_spelled ok.some_column

each_read : (source : Source) (models : List ModelDecl) (queries : List QuerySig) → AllByRecursion (IsReadableQuery models source.imports) queries → AllByRecursion (IsReadAgain Calls source (declared_text models) (query_items source models)) queries
each_read source models [] all = tt
each_read source models (query ∷ queries) all = (query_read source models query all.0, each_read source models queries all.1)

some_text : (models : List ModelDecl) → AllSome (declared_text models)
unfolding layout.shown_declarations
some_text models query =
    let more : List Text = layout.row_struct (layout.model_of models query.model) query.signature.name (shown query.signature).columns ++ layout.method query.signature.command query.signature.name (layout.row_type (layout.model_of models query.model) query.signature.name (shown query.signature).columns) (layout.targets (shown query.signature).columns) in
    let e = length-append (codes "\n") (layout.constant (shown query.signature) ++ gapped more) in
    omega (arith, e)

starts : (models : List ModelDecl) (query : QuerySig) (rest : Text) → same (declared_text models query ++ rest) (codes "\n") ≡ false
unfolding layout.shown_declarations layout.constant layout.annotation
starts models query rest = refl

gapped_each : (models : List ModelDecl) (queries : List QuerySig) → gapped (flat_map (layout.query_declarations models) queries) ≡ flat_map (declared_text models) queries
gapped_each models [] = refl
gapped_each models (query ∷ queries) =
    flat_map-append gap (layout.query_declarations models query) (flat_map (layout.query_declarations models) queries)
    ∙ ap (λ (t : Text). declared_text models query ++ t) (gapped_each models queries)

block_gapped : (models : List ModelDecl) (query : QuerySig) (queries : List QuerySig) →
    codes "\n" ++ layout.declaration_block (flat_map (layout.query_declarations models) (query ∷ queries)) ≡ gapped (flat_map (layout.query_declarations models) (query ∷ queries))
unfolding layout.shown_declarations
block_gapped models query queries = refl

-- queries are read again
queries_read : (source : Source) (models : List ModelDecl) (queries : List QuerySig) → AllByRecursion (IsReadableQuery models source.imports) queries →
    groups Calls source (codes "\n" ++ layout.declaration_block (flat_map (layout.query_declarations models) queries)) ≡ Ok (queries_items source models queries)
queries_read source models [] all = refl
queries_read source models (query ∷ queries) all =
    ap (groups Calls source) (block_gapped models query queries ∙ gapped_each models (query ∷ queries))
    ∙ groups_again Calls source (declared_text models) (query_items source models) query queries (some_text models) (each_read source models (query ∷ queries) all) (starts models query (flat_map (declared_text models) queries))

-- A FILE

-- an item with nothing but a name
abbrev pub plain : Spot → Space → Text → Item
plain spot space name = record { spot = spot; space = space; name = name; declared = true; meaning = Plain }

-- a file that is neither db.go nor models.go has queries
calls_in : (path : Text) (source : Source) (text : Text) → is_last_part (codes "db.go") path ≡ false → is_last_part (codes "models.go") path ≡ false → declarations path source text ≡ groups Calls source text
calls_in path source text no_database no_models =
    ap (λ (t : Bool). cond t (database_items source text) (groups (group_named path) source text)) no_database
    ∙ ap (λ (t : Bool). groups (cond t Models Calls) source text) no_models

-- the source of a file of queries, and its bytes
abbrev pub source_of : ℕ → List ModelDecl → QueryFile → Source
source_of number models file = record { file = number; imports = layout.query_imports models file.queries }

abbrev pub bytes_of : Text → List ModelDecl → QueryFile → Text
bytes_of package_name models file = layout.file_text package_name (layout.query_imports models file.queries) (flat_map (layout.query_declarations models) file.queries)

-- its items
abbrev pub file_of : ℕ → Text → List ModelDecl → QueryFile → List Item
file_of number package_name models file = plain (spot number (bytes_of package_name models file)) Files (layout.query_path file.source) ∷ queries_items (source_of number models file) models file.queries

pub query_file_read : (number : ℕ) (package_name : Text) (models : List ModelDecl) (file : QueryFile) → is_run Word package_name ≡ true → IsReadableFile models file →
    file_items number (layout.query_file package_name models file) ≡ Ok (file_of number package_name models file)
unfolding layout.query_file
query_file_read number package_name models file word ok =
    let path : Text = layout.query_path file.source in
    let forms : List Text = flat_map (layout.query_forms models) file.queries in
    let declared : List Text = flat_map (layout.query_declarations models) file.queries in
    let source : Source = source_of number models file in
    let rest : Text = codes "\n" ++ layout.declaration_block declared in
    file_again number path package_name (layout.query_imports models file.queries) declared rest word (query_imports forms (layout.declaration_block declared))
    ∙ ap (λ (r : Result (List Item) Spot). r >>= (λ items. Ok (plain (spot number (bytes_of package_name models file)) Files path ∷ items)))
    (calls_in path source rest ok.no_database ok.no_models ∙ queries_read source models file.queries ok.each_query)
