-- The file models.go is read again, whatever models there are.
use Rattle.std.proofs.Common.{◌≡◌, true, List, [], ◌∷◌, codes, map, Result, Ok, refl, ap, ◌∙◌}
use Rattle.std.specs.List.{flat_map, AllByRecursion}
use Rattle.sq_shown.specs.Layout as layout
use Rattle.sq_shown.specs.Signature.{fields}
use Rattle.sq_shown.specs.declared.declaration.ModelDecl.{ModelDecl}
use Rattle.sq_reader.specs.Parts.{Text}
use Rattle.sq_reader.specs.Forms.{import_block_at}
use Rattle.sq_reader.specs.Items.{◌>>=◌, spot}
use Rattle.sq_reader.specs.Reading.{file_items}
use Rattle.sq_reader.specs.Readable.{is_run, IsReadableModel}
use Rattle.sq_reader.specs.declared.parts.Class.TheVariants.{Word}
use Rattle.sq_reader.specs.declared.items.Item.{Item}
use Rattle.sq_reader.specs.declared.items.Source.{Source}
use Rattle.sq_reader.specs.declared.items.Spot.{Spot}
use Rattle.sq_reader.specs.declared.items.Space.TheVariants.{Files}
use Rattle.sq_reader.proofs.FilesAgain.{file_again, model_imports}
use Rattle.sq_reader.proofs.QueriesAgain.{plain}
use Rattle.sq_reader.proofs.QueryAgain.{gapped}
use Rattle.sq_reader.proofs.ModelsAgain.{models_items, models_again}

abbrev pub model_source : List ModelDecl → Source
model_source models = record { file = 1; imports = layout.sql_import (flat_map layout.model_forms models) }

abbrev pub model_bytes : Text → List ModelDecl → Text
model_bytes package_name models = layout.file_text package_name (layout.sql_import (flat_map layout.model_forms models)) (map layout.model_struct models)

-- its items
abbrev pub model_file : Text → List ModelDecl → List Item
model_file package_name models = plain (spot 1 (model_bytes package_name models)) Files (codes "models.go") ∷ models_items (model_source models) models

pub model_file_read : (package_name : Text) (models : List ModelDecl) → is_run Word package_name ≡ true → AllByRecursion (IsReadableModel (layout.sql_import (flat_map layout.model_forms models))) models →
    file_items 1 (layout.models_file package_name models) ≡ Ok (model_file package_name models)
unfolding layout.models_file import_block_at
model_file_read package_name [] word all = file_again 1 (codes "models.go") package_name [] [] (codes "\n") word refl
model_file_read package_name (model ∷ models) word all =
    let forms : List Text = flat_map layout.model_forms (model ∷ models) in
    let source : Source = model_source (model ∷ models) in
    let structs : List Text = map layout.model_struct (model ∷ models) in
    file_again 1 (codes "models.go") package_name (layout.sql_import forms) structs (gapped structs) word (model_imports forms (layout.model_name model) (fields model.columns) (gapped (map layout.model_struct models)))
    ∙ ap (λ (r : Result (List Item) Spot). r >>= (λ items. Ok (plain (spot 1 (model_bytes package_name (model ∷ models))) Files (codes "models.go") ∷ items))) (models_again source model models all)
