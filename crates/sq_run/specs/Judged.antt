-- What a query of the first forms is judged to be.
use Rattle.std.specs.Prelude.{◌≡◌, ⊤, ℕ, ◌==◌, ◌&&◌, not, nat_le, Bool, if◌then◌else◌, List, [], ◌∷◌, ◌++◌, length, zip, codes, Option, None, Some, Result, Ok, Err}
use Rattle.sq_base.specs.Refusals.{refused_naming}
use Rattle.sq_base.specs.declared.code.Code.{Code}
use Rattle.sq_base.specs.declared.code.Code.TheVariants as code
use Rattle.std.specs.List.{list_all}
use Rattle.std.specs.Str.{bytes_eq}
use Rattle.sq_base.specs.declared.refusal.Refusal.{Refusal}
use Rattle.sq_catalog.specs.Contents.{Contents}
use Rattle.sq_catalog.specs.Catalogue.{placed_table, placed_column}
use Rattle.sq_catalog.specs.declared.table.Column.{Column as TableColumn}
use Rattle.sq_catalog.specs.declared.table.Table.{Table}
use Rattle.sq_core.specs.declared.node.Node.{Node}
use Rattle.sq_core.specs.declared.node.Node.TheVariants.{Column}
use Rattle.sq_shown.specs.declared.signature.Output.{Output}
use Rattle.sq_core.specs.Columns.{own_slot, select}
use Rattle.sq_run.specs.declared.statements.Named.{Named}
use Rattle.sq_run.specs.declared.statements.Select.{Select}
use Rattle.sq_run.specs.declared.judge.Judged.{Judged}

-- a name is refused
abbrev pub unknown : Code → Named → Refusal
unknown code named = refused_naming code named.place named.name

-- a column of the table, by its place there
abbrev pub node_of : ℕ → TableColumn → Node
node_of place column = Column (own_slot place) column.of

-- a column of the rows: it may be null where the table's may be
abbrev pub output_of : TableColumn → Output
output_of column = record { name = column.name; of = column.of; nullable = not column.not_null }

-- nodes and outputs before those that follow
abbrev pub after_these : List Node → List Output → Result (List Node × List Output) Refusal → Result (List Node × List Output) Refusal
after_these nodes outputs (Ok later) = Ok (nodes ++ later.0, outputs ++ later.1)
after_these nodes outputs (Err refusal) = Err refusal

-- the columns that these names mean, or the refusal of the first name that no column has
abbrev pub judged_names : Table → List Named → Result (List Node × List Output) Refusal
judged_names table [] = Ok ([], [])
judged_names table (named ∷ later) = elim (placed_column table named.name) [
  | None ↦ Err (unknown code.UnknownColumn named)
  | Some found ↦ after_these (node_of found.0 found.1 ∷ []) (output_of found.1 ∷ []) (judged_names table later)
]

-- whether outputs and columns have the same names one by one, as far as both go
abbrev pub have_names : List Output → List TableColumn → Bool
have_names outputs columns = list_all (λ p. bytes_eq p.0.name p.1.name) (zip outputs columns)

-- whether the outputs are all columns of the table in order
abbrev pub are_all_columns : List Output → List TableColumn → Bool
are_all_columns outputs columns = (length outputs == length columns) && have_names outputs columns

-- the table's model is used for two or more outputs that are all its columns in order
abbrev pub model_used : Table → List Output → Option ℕ
model_used table outputs = if nat_le 2 (length outputs) && are_all_columns outputs table.columns then Some table.id else None

-- a query for columns of the table at this place
abbrev pub judged_select : ℕ → Table → Result (List Node × List Output) Refusal → Result Judged Refusal
judged_select place table (Ok found) = Ok (record { core = select place found.0; columns = found.1; model = model_used table found.1 })
judged_select place table (Err refusal) = Err refusal

-- a query over the catalogue: first its table, then its names
unfoldable pub judged : Contents → Select → Result Judged Refusal
judged contents query = elim (placed_table contents (codes "public") query.table.name) [
  | None ↦ Err (unknown code.UnknownTable query.table)
  | Some found ↦ judged_select found.0 found.1 (judged_names found.1 query.outputs)
]
