-- What is written for models and files of queries is read again.
use Rattle.std.proofs.Common.{◌≡◌, ◌||◌, Bool, false, List, [], ◌∷◌, ◌++◌, codes, map, Result, Ok, refl, ap, subst, sym, ◌∙◌}
use Rattle.std.specs.List.{list_any, flat_map}
use Rattle.sq_base.specs.declared.file.File.{File}
use Rattle.sq_shown.specs.Layout as layout
use Rattle.sq_shown.specs.Names.{has_equal, query_top, top_level, methods, file_names, clash}
use Rattle.sq_shown.specs.declared.declaration.ModelDecl.{ModelDecl}
use Rattle.sq_shown.specs.declared.declaration.QueryFile.{QueryFile}
use Rattle.sq_shown.specs.declared.signature.Shown.{Shown}
use Rattle.sq_reader.specs.Parts.{Text, same}
use Rattle.sq_reader.specs.Items.{◌>>=◌, spot}
use Rattle.sq_reader.specs.Reading.{file_items, items_from, settled_from, told, with_shown, Reads}
use Rattle.sq_reader.specs.Readable.{IsReadable}
use Rattle.sq_reader.specs.declared.items.Item.{Item}
use Rattle.sq_reader.specs.declared.items.Spot.{Spot}
use Rattle.sq_reader.specs.declared.items.Space.TheVariants.{Package, Methods, Files}
use Rattle.sq_reader.proofs.SettledAgain.{neither, passed_over, shown_all, settled_fine}
use Rattle.sq_reader.proofs.NamesAgain.{AreApart, AreDeclared, all_fine, declared_parts}
use Rattle.sq_reader.proofs.ModelsAgain.{models_items, top_names, no_called_names, no_file_names, models_declared, models_shown, model_found}
use Rattle.sq_reader.proofs.ModelFileAgain.{model_source, model_bytes, model_file, model_file_read}
use Rattle.sq_reader.proofs.DatabaseAgain.{database_names, database_again}
use Rattle.sq_reader.proofs.QueriesAgain.{plain}
use Rattle.sq_reader.proofs.QueriesItems.{names_parts, query_name, path_of, files_of, files_read, files_top, files_called, files_named, files_declared}
use Rattle.sq_reader.proofs.QueriesShown.{FindsModels, shown_of, shown_parts, files_shown}

-- NAMES

-- the parts of names that do not clash
clash_parts : (models : List ModelDecl) (files : List QueryFile) → clash models files ≡ false →
    (has_equal (top_level models (layout.queries_of files)) ≡ false) × (has_equal (methods (layout.queries_of files)) ≡ false) × (has_equal (file_names files) ≡ false)
clash_parts models files none =
    let top : Bool = has_equal (top_level models (layout.queries_of files)) in
    let called : Bool = has_equal (methods (layout.queries_of files)) in
    let all = neither (top || called) (has_equal (file_names files)) none in
    let two = neither top called all.0 in
    (two.0, two.1, all.1)

none_in_front : (p : Text → Bool) (front back : List Text) → list_any p (front ++ back) ≡ false → list_any p front ≡ false
none_in_front p [] back none = refl
none_in_front p (x ∷ front) back none =
    let h = neither (p x) (list_any p (front ++ back)) none in
    ap (λ (t : Bool). t || list_any p front) h.0 ∙ none_in_front p front back h.1

front_apart : (front back : List Text) → has_equal (front ++ back) ≡ false → has_equal front ≡ false
front_apart [] back none = refl
front_apart (x ∷ front) back none =
    let h = neither (list_any (same x) (front ++ back)) (has_equal (front ++ back)) none in
    ap (λ (t : Bool). t || has_equal front) (none_in_front (same x) front back h.0) ∙ front_apart front back h.1

-- ALL ITEMS

-- the items of the files behind db.go
abbrev behind_database : Text → List ModelDecl → List QueryFile → List Item
behind_database package_name models files = model_file package_name models ++ files_of 2 package_name models files

abbrev all_items : Text → List ModelDecl → List QueryFile → Spot → Spot → Spot → Spot → Spot → List Item
all_items package_name models files s0 s1 s2 s3 s4 = database_names s0 s1 s2 s3 s4 ++ behind_database package_name models files

all_apart : (package_name : Text) (models : List ModelDecl) (files : List QueryFile) (s0 s1 s2 s3 s4 : Spot) → clash models files ≡ false → AreApart (all_items package_name models files s0 s1 s2 s3 s4)
all_apart package_name models files s0 s1 s2 s3 s4 none Package =
    let source = model_source models in
    subst (λ (names : List Text). has_equal (codes "DBTX" ∷ codes "New" ∷ codes "Queries" ∷ names) ≡ false)
    (sym (names_parts Package (model_file package_name models) (files_of 2 package_name models files) (map layout.model_name models) (flat_map (query_top models) (layout.queries_of files)) (top_names source models) (files_top 2 package_name models files)))
    (clash_parts models files none).0
all_apart package_name models files s0 s1 s2 s3 s4 none Methods =
    let source = model_source models in
    subst (λ (names : List Text). has_equal (codes "WithTx" ∷ names) ≡ false)
    (sym (names_parts Methods (model_file package_name models) (files_of 2 package_name models files) [] (map query_name (layout.queries_of files)) (no_called_names source models) (files_called 2 package_name models files)))
    (clash_parts models files none).1
all_apart package_name models files s0 s1 s2 s3 s4 none Files =
    let source = model_source models in
    subst (λ (names : List Text). has_equal (codes "db.go" ∷ names) ≡ false)
    (sym (names_parts Files (model_file package_name models) (files_of 2 package_name models files) (codes "models.go" ∷ []) (map path_of files) (ap (λ (names : List Text). codes "models.go" ∷ names) (no_file_names source models)) (files_named 2 package_name models files)))
    (clash_parts models files none).2

all_declared : (package_name : Text) (models : List ModelDecl) (files : List QueryFile) (s0 s1 s2 s3 s4 : Spot) → IsReadable package_name models files → AreDeclared (all_items package_name models files s0 s1 s2 s3 s4)
all_declared package_name models files s0 s1 s2 s3 s4 ok =
    declared_parts (database_names s0 s1 s2 s3 s4) (behind_database package_name models files) (refl, (refl, (refl, (refl, (refl, tt)))))
    (declared_parts (model_file package_name models) (files_of 2 package_name models files) (refl, models_declared (model_source models) models ok.each_model) (files_declared 2 package_name models files ok.each_file))

models_apart : (models : List ModelDecl) (files : List QueryFile) → clash models files ≡ false → has_equal (map layout.model_name models) ≡ false
models_apart models files none =
    let names : List Text = map layout.model_name models ++ flat_map (query_top models) (layout.queries_of files) in
    let one = neither (list_any (same (codes "DBTX")) (codes "New" ∷ codes "Queries" ∷ names)) (has_equal (codes "New" ∷ codes "Queries" ∷ names)) (clash_parts models files none).0 in
    let two = neither (list_any (same (codes "New")) (codes "Queries" ∷ names)) (has_equal (codes "Queries" ∷ names)) one.1 in
    let three = neither (list_any (same (codes "Queries")) names) (has_equal names) two.1 in
    front_apart (map layout.model_name models) (flat_map (query_top models) (layout.queries_of files)) three.1

finds_models : (package_name : Text) (models : List ModelDecl) (files : List QueryFile) (s0 s1 s2 s3 s4 : Spot) → clash models files ≡ false → FindsModels (all_items package_name models files s0 s1 s2 s3 s4) models
finds_models package_name models files s0 s1 s2 s3 s4 none wanted found is =
    let name : Text = layout.model_name found in
    let l5 : List Item = models_items (model_source models) models ++ files_of 2 package_name models files in
    let l4 : List Item = behind_database package_name models files in
    let l3 : List Item = plain s4 Methods (codes "WithTx") ∷ l4 in
    let l2 : List Item = plain s3 Package (codes "Queries") ∷ l3 in
    let l1 : List Item = plain s2 Package (codes "New") ∷ l2 in
    let l0 : List Item = plain s1 Package (codes "DBTX") ∷ l1 in
    passed_over (plain s0 Files (codes "db.go")) l0 name refl
    ∙ passed_over (plain s1 Package (codes "DBTX")) l1 name refl
    ∙ passed_over (plain s2 Package (codes "New")) l2 name refl
    ∙ passed_over (plain s3 Package (codes "Queries")) l3 name refl
    ∙ passed_over (plain s4 Methods (codes "WithTx")) l4 name refl
    ∙ passed_over (plain (spot 1 (model_bytes package_name models)) Files (codes "models.go")) l5 name refl
    ∙ model_found (model_source models) (files_of 2 package_name models files) wanted models found is (models_apart models files none)

all_shown : (package_name : Text) (models : List ModelDecl) (files : List QueryFile) (s0 s1 s2 s3 s4 : Spot) → IsReadable package_name models files →
    let all : List Item = all_items package_name models files s0 s1 s2 s3 s4 in
    shown_all all all ≡ Ok (map shown_of (layout.queries_of files))
all_shown package_name models files s0 s1 s2 s3 s4 ok =
    let all : List Item = all_items package_name models files s0 s1 s2 s3 s4 in
    let list : List Shown = map shown_of (layout.queries_of files) in
    shown_parts all (database_names s0 s1 s2 s3 s4) (behind_database package_name models files) [] list refl
    (shown_parts all (model_file package_name models) (files_of 2 package_name models files) [] list (ap (with_shown []) (models_shown all (model_source models) models))
    (files_shown all 2 package_name models files (finds_models package_name models files s0 s1 s2 s3 s4 ok.no_clash) ok.each_file))

three_read : (f0 f1 : File) (files : List File) (i0 i1 i2 : List Item) → file_items 0 f0 ≡ Ok i0 → file_items 1 f1 ≡ Ok i1 → items_from 2 files ≡ Ok i2 → items_from 0 (f0 ∷ f1 ∷ files) ≡ Ok (i0 ++ (i1 ++ i2))
three_read f0 f1 files i0 i1 i2 e0 e1 e2 = rw (e0, e1, e2) refl

-- items that are shown
shown_files : (files : List File) (all : List Item) (list : List Shown) → items_from 0 files ≡ Ok all → settled_from all [] all ≡ Ok list → Reads files list
shown_files files all list found settled = ap (λ (r : Result (List Item) Spot). told files (r >>= (λ items. settled_from items [] items))) found ∙ ap (told files) settled

-- what is written is read again
pub written_again : (package_name : Text) (models : List ModelDecl) (files : List QueryFile) → IsReadable package_name models files → Reads (layout.layout package_name models files) (map shown_of (layout.queries_of files))
written_again package_name models files ok =
    let d = database_again package_name ok.package_word in
    let all : List Item = all_items package_name models files d.0 d.1 d.2 d.3 d.4 in
    shown_files (layout.layout package_name models files) all (map shown_of (layout.queries_of files))
    (three_read (layout.db_file package_name) (layout.models_file package_name models) (layout.query_files package_name models files) (database_names d.0 d.1 d.2 d.3 d.4) (model_file package_name models) (files_of 2 package_name models files)
    d.5 (model_file_read package_name models ok.package_word ok.each_model) (files_read 2 package_name models files ok.package_word ok.each_file))
    (settled_fine all [] all (all_fine all (all_apart package_name models files d.0 d.1 d.2 d.3 d.4 ok.no_clash) (all_declared package_name models files d.0 d.1 d.2 d.3 d.4 ok))
    ∙ all_shown package_name models files d.0 d.1 d.2 d.3 d.4 ok)
