-- The name spaces of a package of Go: its top level, the methods of Queries, and its files.
use Rattle.std.specs.Prelude.{Bool, false, ◌||◌, List, [], ◌∷◌, ◌++◌, map, flat_map, bytes_eq, codes, if◌then◌else◌}
use Rattle.std.specs.List.{list_any}
use Rattle.sq_shown.specs.Lines.{Text}
use Rattle.sq_shown.specs.Identifiers.{constant_name}
use Rattle.sq_shown.specs.Signature.{shown}
use Rattle.sq_shown.specs.Layout.{model_name, model_of, has_own_struct, query_path, queries_of}
use Rattle.sq_shown.specs.declared.declaration.ModelDecl.{ModelDecl}
use Rattle.sq_shown.specs.declared.declaration.QueryFile.{QueryFile}
use Rattle.sq_shown.specs.declared.declaration.QuerySig.{QuerySig}

-- whether two names of a list are equal
abbrev pub has_equal : List Text → Bool
has_equal [] = false
has_equal (name ∷ names) = list_any (bytes_eq name) names || has_equal names

-- the constant of a query's text
abbrev pub query_constant : QuerySig → Text
query_constant query = constant_name query.signature.name

-- the struct of a query's own rows, where it has one
abbrev pub query_row : List ModelDecl → QuerySig → List Text
query_row models query = if has_own_struct (model_of models query.model) (shown query.signature).columns then (query.signature.name ++ codes "Row") ∷ [] else []

-- what a query declares at the top level
abbrev pub query_top : List ModelDecl → QuerySig → List Text
query_top models query = query_constant query ∷ query_row models query

-- what stands at the top level
abbrev pub top_level : List ModelDecl → List QuerySig → List Text
top_level models queries =
    codes "DBTX" ∷ codes "New" ∷ codes "Queries" ∷ []
    ++ map model_name models
    ++ flat_map (query_top models) queries

-- the methods of Queries
abbrev pub methods : List QuerySig → List Text
methods queries = codes "WithTx" ∷ map (λ (query : QuerySig). query.signature.name) queries

-- the files: each source of queries has one, named after it
abbrev pub file_names : List QueryFile → List Text
file_names files = codes "db.go" ∷ codes "models.go" ∷ map (λ (file : QueryFile). query_path file.source) files

-- whether two identifiers of one name space are equal
abbrev pub clash : List ModelDecl → List QueryFile → Bool
clash models files = has_equal (top_level models (queries_of files)) || has_equal (methods (queries_of files)) || has_equal (file_names files)
