-- The items of a query: their names, what they use, and what they are shown as.
use Rattle.std.proofs.Common.{◌≡◌, ◌<◌, ◌&&◌, Bool, true, false, cond, List, [], ◌∷◌, ◌++◌, codes, length, map, Some, None, Option, Ok, refl, ap, sym, ◌∙◌, arith}
use Rattle.sq_shown.specs.Layout as layout
use Rattle.sq_shown.specs.Identifiers.{constant_name}
use Rattle.sq_shown.specs.Names.{has_equal}
use Rattle.sq_shown.specs.declared.signature.ShownField.{ShownField}
use Rattle.sq_reader.specs.Parts.{Text, same}
use Rattle.sq_reader.specs.Parts as option
use Rattle.sq_reader.specs.Items.{fields_stand, type_stands, result_stands, is_imported, method_stands, query_items}
use Rattle.sq_reader.specs.Columns.{columns_by, model_named, picked}
use Rattle.sq_reader.specs.Readable.{own_types_stand}
use Rattle.sq_reader.specs.declared.forms.Struct.{Struct}
use Rattle.sq_reader.specs.declared.forms.Constant.{Constant}
use Rattle.sq_reader.specs.declared.forms.Method.{Method}
use Rattle.sq_reader.specs.declared.items.Item.{Item}
use Rattle.sq_reader.specs.declared.items.Source.{Source}
use Rattle.sq_reader.specs.declared.items.Space.TheVariants.{Package, Methods, Files}
use Rattle.sq_reader.proofs.PartsAgain.{both, same_as_itself}
use Rattle.sq_reader.proofs.FormsAgain.{name_of}
use Rattle.sq_reader.proofs.SettledAgain.{picked_again, shown_all}
use Rattle.sq_reader.proofs.NamesAgain.{names_in, AreDeclared}
use Rattle.sq_reader.proofs.QueryAgain.{all_rows, read_targets, own_row, read_constant, read_method, from_constant, from_row, from_method, items_of}

-- NAMES

abbrev pub row_name : Option Struct → List Text
row_name None = []
row_name (Some row) = row.name ∷ []

package_names : (source : Source) (start here there : Text) (constant : Constant) (row : Option Struct) (method : Method) → names_in Package (query_items source start here there constant row method) ≡ constant.name ∷ row_name row
package_names source start here there constant None method = refl
package_names source start here there constant (Some row) method = refl

method_names : (source : Source) (start here there : Text) (constant : Constant) (row : Option Struct) (method : Method) → names_in Methods (query_items source start here there constant row method) ≡ constant.query ∷ []
method_names source start here there constant None method = refl
method_names source start here there constant (Some row) method = refl

file_names : (source : Source) (start here there : Text) (constant : Constant) (row : Option Struct) (method : Method) → names_in Files (query_items source start here there constant row method) ≡ []
file_names source start here there constant None method = refl
file_names source start here there constant (Some row) method = refl

own_name : (name : Text) (fields : List ShownField) (own : Bool) → row_name (cond own (Some (record { name = name; fields = fields })) None) ≡ cond own (name ∷ []) []
own_name name fields true = refl
own_name name fields false = refl

pub top_names : (source : Source) (model : Option Text) (name text : Text) (columns : List ShownField) (rest : Text) →
    names_in Package (items_of source model name text columns rest) ≡ constant_name name ∷ cond (layout.has_own_struct model columns) ((name ++ codes "Row") ∷ []) []
top_names source model name text columns rest =
    package_names source (from_constant model name text columns rest) (from_row model name columns rest) (from_method model name columns rest) (read_constant name text) (own_row model name columns) (read_method model name columns)
    ∙ ap (λ (names : List Text). constant_name name ∷ names) (own_name (name ++ codes "Row") columns (layout.has_own_struct model columns))

pub called_names : (source : Source) (model : Option Text) (name text : Text) (columns : List ShownField) (rest : Text) → names_in Methods (items_of source model name text columns rest) ≡ name ∷ []
called_names source model name text columns rest = method_names source (from_constant model name text columns rest) (from_row model name columns rest) (from_method model name columns rest) (read_constant name text) (own_row model name columns) (read_method model name columns)

pub no_file_names : (source : Source) (model : Option Text) (name text : Text) (columns : List ShownField) (rest : Text) → names_in Files (items_of source model name text columns rest) ≡ []
no_file_names source model name text columns rest = file_names source (from_constant model name text columns rest) (from_row model name columns rest) (from_method model name columns rest) (read_constant name text) (own_row model name columns) (read_method model name columns)

-- USES

abbrev pub RowStands : List Text → Option Struct → Type 0
RowStands imports None = Unit {0}
RowStands imports (Some row) = fields_stand imports row.fields ≡ true

all_declared : (source : Source) (start here there : Text) (constant : Constant) (row : Option Struct) (method : Method) → RowStands source.imports row → method_stands source constant method ≡ true → AreDeclared (query_items source start here there constant row method)
all_declared source start here there constant None method row_stands called = (refl, (called, tt))
all_declared source start here there constant (Some row) method row_stands called = (refl, (row_stands, (called, tt)))

own_stands : (imports : List Text) (model : Option Text) (name : Text) (columns : List ShownField) → own_types_stand imports model columns ≡ true → RowStands imports (own_row model name columns)
own_stands imports None name [] types = types
own_stands imports None name (column ∷ []) types = tt
own_stands imports None name (column ∷ second ∷ columns) types = types
own_stands imports (Some identifier) name [] types = tt
own_stands imports (Some identifier) name (column ∷ []) types = tt
own_stands imports (Some identifier) name (column ∷ second ∷ columns) types = tt

result_here : (imports : List Text) (model : Option Text) (name : Text) (columns : List ShownField) → 0 < length columns → own_types_stand imports model columns ≡ true → result_stands imports (read_targets columns) (layout.row_type model name columns) ≡ true
result_here imports model name [] some types = absurd (omega arith)
result_here imports None name (column ∷ []) some types = (both (type_stands imports column.of) true types).0
result_here imports (Some identifier) name (column ∷ []) some types = (both (type_stands imports column.of) true types).0
result_here imports model name (column ∷ second ∷ columns) some types = refl

pub query_declared : (source : Source) (model : Option Text) (name text : Text) (columns : List ShownField) (rest : Text) → is_imported source.imports (codes "context") ≡ true → 0 < length columns → own_types_stand source.imports model columns ≡ true →
    AreDeclared (items_of source model name text columns rest)
query_declared source model name text columns rest context some types =
    all_declared source (from_constant model name text columns rest) (from_row model name columns rest) (from_method model name columns rest) (read_constant name text) (own_row model name columns) (read_method model name columns) (own_stands source.imports model name columns types)
    (ap (λ (t : Bool). t && same (constant_name name) (constant_name name) && result_stands source.imports (read_targets columns) (layout.row_type model name columns)) context
    ∙ ap (λ (t : Bool). t && result_stands source.imports (read_targets columns) (layout.row_type model name columns)) (same_as_itself (constant_name name))
    ∙ result_here source.imports model name columns some types)

-- COLUMNS

pub columns_here : (all : List Item) (model : Option Text) (name : Text) (found : List ShownField) → 0 < length found → has_equal (map name_of found) ≡ false → ((column : ShownField) → found ≡ column ∷ [] → column.name ≡ codes "_") →
    ((identifier : Text) → model ≡ Some identifier → model_named all identifier ≡ Some found) → columns_by all (own_row model name found) (layout.row_type model name found) (read_targets found) ≡ Some found
columns_here all model name [] some apart single modelled = absurd (omega arith)
columns_here all None name (column ∷ []) some apart single modelled = ap (λ (name : Text). Some (record { name = name; of = column.of } ∷ [])) (sym (single column refl))
columns_here all (Some identifier) name (column ∷ []) some apart single modelled = ap (λ (name : Text). Some (record { name = name; of = column.of } ∷ [])) (sym (single column refl))
columns_here all None name (column ∷ second ∷ later) some apart single modelled =
    let found : List ShownField = column ∷ second ∷ later in
    ap (λ (t : Bool). option.◌>>=◌ (cond {A = Option (List ShownField)} t (Some found) (model_named all (name ++ codes "Row"))) (λ fields. picked fields (map name_of found))) (same_as_itself (name ++ codes "Row"))
    ∙ picked_again found apart
columns_here all (Some identifier) name (column ∷ second ∷ later) some apart single modelled =
    let found : List ShownField = column ∷ second ∷ later in
    ap (λ (o : Option (List ShownField)). option.◌>>=◌ o (λ fields. picked fields (map name_of found))) (modelled identifier refl) ∙ picked_again found apart

-- SHOWN

shown_call : (all : List Item) (source : Source) (start here there : Text) (constant : Constant) (row : Option Struct) (method : Method) (found : List ShownField) →
    columns_by all row method.result method.targets ≡ Some found →
    shown_all all (query_items source start here there constant row method) ≡ Ok (record { name = constant.query; command = constant.command; text = constant.text; params = []; columns = found } ∷ [])
shown_call all source start here there constant None method found is = rw is refl
shown_call all source start here there constant (Some row) method found is = rw is refl

pub query_shown : (all : List Item) (source : Source) (model : Option Text) (name text : Text) (found : List ShownField) (rest : Text) →
    columns_by all (own_row model name found) (layout.row_type model name found) (read_targets found) ≡ Some found → shown_all all (items_of source model name text found rest) ≡ Ok (all_rows name text found ∷ [])
query_shown all source model name text found rest is = shown_call all source (from_constant model name text found rest) (from_row model name found rest) (from_method model name found rest) (read_constant name text) (own_row model name found) (read_method model name found) found is
