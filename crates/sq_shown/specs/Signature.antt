-- A signature as the written files show it. A :many query without parameters is shown so far, in Go.
use Rattle.std.specs.Prelude.{List, [], ◌∷◌, ◌++◌, codes}
use Rattle.sq_shown.specs.Lines.{Text}
use Rattle.sq_shown.specs.Identifiers.{pascal, numbered}
use Rattle.sq_shown.specs.Forms.{printed_form}
use Rattle.sq_shown.specs.declared.signature.Output.{Output}
use Rattle.sq_shown.specs.declared.signature.Signature.{Signature}
use Rattle.sq_shown.specs.declared.signature.Shown.{Shown}
use Rattle.sq_shown.specs.declared.signature.ShownField.{ShownField}

-- a column under this identifier, with its type's form
unfoldable pub field : Text → Output → ShownField
field identifier column = record { name = identifier; of = printed_form column.of column.nullable }

-- the fields of columns that stand after fields with these identifiers
abbrev pub fields_after : List Text → List Output → List ShownField
fields_after earlier [] = []
fields_after earlier (column ∷ columns) = field (numbered earlier (pascal column.name)) column ∷ fields_after (earlier ++ pascal column.name ∷ []) columns

-- the fields of a struct with these columns
abbrev pub fields : List Output → List ShownField
fields columns = fields_after [] columns

-- the columns of a query: a single one is named `_`
abbrev pub shown_columns : List Output → List ShownField
shown_columns [] = []
shown_columns (column ∷ []) = field (codes "_") column ∷ []
shown_columns (column ∷ second ∷ columns) = fields (column ∷ second ∷ columns)

-- a signature has its own name, command and text, and its columns as they are written
abbrev pub shown : Signature → Shown
shown signature = record {
  name = signature.name;
  command = signature.command;
  text = signature.text;
  params = [];
  columns = shown_columns signature.columns;
}
