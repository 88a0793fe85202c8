-- The columns of a query, from its struct and its scan targets.
use Rattle.std.specs.Prelude.{List, [], ◌∷◌, codes, if◌then◌else◌, Option, Some, None, option_map}
use Rattle.sq_shown.specs.declared.signature.ShownField.{ShownField}
use Rattle.sq_shown.specs.declared.signature.Shown.{Shown}
use Rattle.sq_reader.specs.Parts.{Text, same, ◌>>=◌}
use Rattle.sq_reader.specs.declared.forms.Struct.{Struct}
use Rattle.sq_reader.specs.declared.forms.Targets.{Targets}
use Rattle.sq_reader.specs.declared.forms.Targets.TheVariants.{Whole, Fields}
use Rattle.sq_reader.specs.declared.items.Item.{Item}
use Rattle.sq_reader.specs.declared.items.Call.{Call}
use Rattle.sq_reader.specs.declared.items.Meaning.{Meaning}
use Rattle.sq_reader.specs.declared.items.Meaning.TheVariants.{Plain, Model, Query}

-- the fields of a model
abbrev pub model_fields : Meaning → Option (List ShownField)
model_fields Plain = None
model_fields (Model fields) = Some fields
model_fields (Query call) = None

-- the first of two that there is
abbrev pub or_later : {A : Type 0} → Option A → Option A → Option A
or_later None later = later
or_later (Some x) later = Some x

abbrev pub model_at : Item → Text → Option (List ShownField)
model_at item name = if same item.name name then model_fields item.meaning else None

-- the fields of the first model of this name
abbrev pub model_named : List Item → Text → Option (List ShownField)
model_named [] name = None
model_named (item ∷ items) name = or_later (model_at item name) (model_named items name)

-- the fields of the struct of this name: that of the query's own rows, or a model
abbrev pub struct_named : List Item → Option Struct → Text → Option (List ShownField)
struct_named items None name = model_named items name
struct_named items (Some row) name = if same row.name name then Some row.fields else model_named items name

-- the type of the first field of this name
abbrev pub type_in : List ShownField → Text → Option Text
type_in [] name = None
type_in (field ∷ fields) name = if same field.name name then Some field.of else type_in fields name

-- the column of a name, with its field's type
abbrev pub column_in : List ShownField → Text → Option ShownField
column_in fields name = option_map (λ of. record { name = name; of = of }) (type_in fields name)

-- a column for each name, in the order of the names
abbrev pub picked : List ShownField → List Text → Option (List ShownField)
picked fields [] = Some []
picked fields (name ∷ names) = do
  column ← column_in fields name
  more ← picked fields names
  Some (column ∷ more)

-- the columns that these targets take from a row of this type
abbrev pub columns_by : List Item → Option Struct → Text → Targets → Option (List ShownField)
columns_by items row result Whole = Some (record { name = codes "_"; of = result } ∷ [])
columns_by items row result (Fields names) = struct_named items row result >>= (λ fields. picked fields names)

-- the columns of a query
abbrev pub columns : List Item → Call → Option (List ShownField)
columns items call = columns_by items call.row call.result call.targets

-- the signature of a query
abbrev pub signature : Text → Call → List ShownField → Shown
signature name call columns = record { name = name; command = call.command; text = call.text; params = []; columns = columns }
