-- What can be written so that it is read again.
use Rattle.std.specs.Prelude.{◌≡◌, ◌<◌, ◌&&◌, ℕ, nat_eq, Bool, true, false, List, [], ◌∷◌, ◌++◌, codes, map, flat_map, find, length, Option, Some, None, option_and_then}
use Rattle.std.specs.List.{list_all, AllByRecursion}
use Rattle.sq_shown.specs.declared.signature.ShownField.{ShownField}
use Rattle.sq_shown.specs.declared.signature.Command.TheVariants.{Many}
use Rattle.sq_shown.specs.declared.declaration.ModelDecl.{ModelDecl}
use Rattle.sq_shown.specs.declared.declaration.QueryFile.{QueryFile}
use Rattle.sq_shown.specs.declared.declaration.QuerySig.{QuerySig}
use Rattle.sq_shown.specs.Identifiers.{constant_name}
use Rattle.sq_shown.specs.Signature.{fields, shown}
use Rattle.sq_shown.specs.Layout.{model_name, model_forms, model_of, row_type, sql_import, query_imports, query_path}
use Rattle.sq_shown.specs.Names.{has_equal, clash}
use Rattle.sq_reader.specs.Items.{fields_stand, is_last_part}
use Rattle.sq_reader.specs.Parts.{Text, allows}
use Rattle.sq_reader.specs.declared.parts.Class.{Class}
use Rattle.sq_reader.specs.declared.parts.Class.TheVariants.{Word, Spelling}

-- bytes of the class, one or more
abbrev pub is_run : Class → Text → Bool
is_run class [] = false
is_run class (b ∷ bs) = list_all (allows class) (b ∷ bs)

-- a field's name is a word, and its type is spelled as a type
abbrev pub is_field : ShownField → Bool
is_field field = is_run Word field.name && is_run Spelling field.of

-- whether what the types of a query's own declarations use is imported by its file; a model's are those of models.go
abbrev pub own_types_stand : List Text → Option Text → List ShownField → Bool
own_types_stand imports model (column ∷ []) = fields_stand imports (column ∷ [])
own_types_stand imports (Some identifier) columns = true
own_types_stand imports None columns = fields_stand imports columns

-- the model of this id
abbrev pub model_with : List ModelDecl → Option ℕ → Option ModelDecl
model_with models id = option_and_then (λ wanted. find (λ (model : ModelDecl). nat_eq model.id wanted) models) id

-- a model whose struct can be read again in a file with these imports
pub record IsReadableModel (imports : List Text) (model : ModelDecl) : Type 0 where
  pub model_word : is_run Word (model_name model) ≡ true
  -- fields have words for names and types that are spelled so
  pub fields_spelled : list_all is_field (fields model.columns) ≡ true
  -- the imports declare what the types use
  pub model_types : fields_stand imports (fields model.columns) ≡ true

-- a query whose declarations can be read again in a file with these imports
pub record IsReadableQuery (models : List ModelDecl) (imports : List Text) (query : QuerySig) : Type 0 where
  -- the names are words
  pub query_word : is_run Word query.signature.name ≡ true
  pub constant_word : is_run Word (constant_name query.signature.name) ≡ true
  pub row_word : is_run Word (query.signature.name ++ codes "Row") ≡ true
  pub row_spelled : is_run Spelling (row_type (model_of models query.model) query.signature.name (shown query.signature).columns) ≡ true
  -- columns have words for names and types that are spelled so, and no two have one name
  pub columns_spelled : list_all is_field (shown query.signature).columns ≡ true
  pub columns_apart : has_equal (map (λ (field : ShownField). field.name) (shown query.signature).columns) ≡ false
  -- the imports declare what the types use
  pub query_types : own_types_stand imports (model_of models query.model) (shown query.signature).columns ≡ true
  -- the query gives all rows, of one column or more, and a model that stands for them has these columns
  pub command : query.signature.command ≡ Many
  pub some_column : 0 < length (shown query.signature).columns
  pub modelled : (model : ModelDecl) → model_with models query.model ≡ Some model → (shown query.signature).columns ≡ fields model.columns

-- queries whose file can be read again: it is neither db.go nor models.go
pub record IsReadableFile (models : List ModelDecl) (file : QueryFile) : Type 0 where
  pub no_database : is_last_part (codes "db.go") (query_path file.source) ≡ false
  pub no_models : is_last_part (codes "models.go") (query_path file.source) ≡ false
  pub each_query : AllByRecursion (IsReadableQuery models (query_imports models file.queries)) file.queries

-- a package whose files can be read again: no two names of a name space are one
pub record IsReadable (package_name : Text) (models : List ModelDecl) (files : List QueryFile) : Type 0 where
  pub package_word : is_run Word package_name ≡ true
  pub each_model : AllByRecursion (IsReadableModel (sql_import (flat_map model_forms models))) models
  pub each_file : AllByRecursion (IsReadableFile models) files
  pub no_clash : clash models files ≡ false
