-- The files of a layout are read again, item by item.
use Rattle.std.proofs.Common.{◌≡◌, ℕ, Bool, true, false, cond, List, [], ◌∷◌, ◌++◌, codes, Ok, refl, ap, sym, ◌∙◌, append_assoc}
use Rattle.std.specs.List.{list_any}
use Rattle.sq_base.specs.declared.file.File.{File}
use Rattle.sq_shown.specs.Layout as layout
use Rattle.sq_shown.specs.declared.signature.ShownField.{ShownField}
use Rattle.sq_reader.specs.Parts.{Text, run_at}
use Rattle.sq_reader.specs.Forms.{header, package_at, import_at, import_block_at, imports_at}
use Rattle.sq_reader.specs.Items.{◌>>=◌}
use Rattle.sq_reader.specs.Reading.{declarations, file_item, file_items}
use Rattle.sq_reader.specs.Readable.{is_run}
use Rattle.sq_reader.specs.declared.parts.Class.TheVariants.{Word}
use Rattle.sq_reader.proofs.PartsAgain.{run_again}

start_parts : (h e k p n i d : Text) → h ++ e ++ ((k ++ p) ++ n) ++ e ++ i ++ d ≡ h ++ (e ++ (k ++ (p ++ (n ++ (e ++ (i ++ d))))))
start_parts h e k p n i d = simp append_assoc

-- the start of a file, up to its declarations
pub file_again : (number : ℕ) (path package_name : Text) (imports declared : List Text) (rest : Text) → is_run Word package_name ≡ true →
    imports_at (codes "\n" ++ (layout.import_block imports ++ layout.declaration_block declared)) ≡ (imports, rest) →
    let file : File = record { path = path; bytes = layout.file_text package_name imports declared } in
    file_items number file ≡ (declarations path (record { file = number; imports = imports }) rest >>= (λ items. Ok (file_item number file ∷ items)))
unfolding file_items package_at layout.file_text
file_again number path package_name imports declared rest word imported =
    let file : File = record { path = path; bytes = layout.file_text package_name imports declared } in
    let body : Text = codes "\n" ++ (layout.import_block imports ++ layout.declaration_block declared) in
    let bytes : layout.file_text package_name imports declared ≡ header ++ (codes "\npackage " ++ (package_name ++ (codes "\n" ++ body))) =
    start_parts header (codes "\n") (codes "package ") package_name (10 ∷ []) (layout.import_block imports) (layout.declaration_block declared) in
    ap (λ (bytes : Text). file_items number (record { path = path; bytes = bytes })) bytes
    ∙ rw (run_again Word package_name 10 body word refl, imported)
    (ap (λ (bytes : Text). declarations path (record { file = number; imports = imports }) rest >>= (λ items. Ok (file_item number (record { path = path; bytes = bytes }) ∷ items))) (sym bytes))

-- IMPORTS

pub database_imports : (rest : Text) → imports_at (codes "\n" ++ (layout.import_block layout.db_imports ++ rest)) ≡ (layout.db_imports, codes "\n" ++ rest)
unfolding import_block_at import_at run_at
database_imports rest = refl

pub query_imports : (forms : List Text) (rest : Text) → imports_at (codes "\n" ++ (layout.import_block (codes "context" ∷ layout.sql_import forms) ++ rest)) ≡ (codes "context" ∷ layout.sql_import forms, codes "\n" ++ rest)
unfolding import_block_at import_at run_at
query_imports forms rest =
    elim (list_any layout.is_of_sql forms) as (λ (t : Bool). ◌≡◌ {A = List Text × Text} (imports_at (codes "\n" ++ (layout.import_block (codes "context" ∷ cond t (codes "database/sql" ∷ []) []) ++ rest))) (codes "context" ∷ cond t (codes "database/sql" ∷ []) [], codes "\n" ++ rest)) [
      | true ↦ refl
      | false ↦ refl
    ]

pub model_imports : (forms : List Text) (name : Text) (fields : List ShownField) (rest : Text) →
    imports_at (codes "\n" ++ (layout.import_block (layout.sql_import forms) ++ (layout.struct_text name fields ++ rest))) ≡ (layout.sql_import forms, codes "\n" ++ (layout.struct_text name fields ++ rest))
unfolding import_block_at import_at run_at layout.struct_text
model_imports forms name fields rest =
    elim (list_any layout.is_of_sql forms) as (λ (t : Bool). ◌≡◌ {A = List Text × Text} (imports_at (codes "\n" ++ (layout.import_block (cond t (codes "database/sql" ∷ []) []) ++ (layout.struct_text name fields ++ rest)))) (cond t (codes "database/sql" ∷ []) [], codes "\n" ++ (layout.struct_text name fields ++ rest))) [
      | true ↦ refl
      | false ↦ refl
    ]
