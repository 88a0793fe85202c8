-- The SELECT of columns of one table, and what is printed of an output.
use Rattle.std.specs.Prelude.{◌≡◌, ℕ, Bool, false, not, List, [], ◌∷◌, slice_get, IsSomeAnd}
use Rattle.std.specs.List.{AllByRecursion, AllZip}
use Rattle.sq_base.specs.declared.types.PgType.{PgType}
use Rattle.sq_catalog.specs.Contents.{Contents}
use Rattle.sq_catalog.specs.declared.table.Table.{Table as CatalogTable}
use Rattle.sq_core.specs.declared.node.Node.{Node}
use Rattle.sq_core.specs.declared.node.Node.TheVariants.{Column}
use Rattle.sq_core.specs.declared.node.Query.TheVariants.{Select as SelectQuery}
use Rattle.sq_core.specs.declared.node.Source.TheVariants.{Table}
use Rattle.sq_core.specs.declared.routine.Manner.{Manner}
use Rattle.sq_core.specs.declared.routine.Slot.{Slot}
use Rattle.sq_core.specs.declared.statement.CoreStatement.{CoreStatement}
use Rattle.sq_core.specs.declared.statement.CoreStatement.TheVariants.{Select}
use Rattle.sq_core.specs.Forms.{printed_text}
use Rattle.sq_shown.specs.Forms.{IsPrinted}
use Rattle.sq_shown.specs.declared.signature.Language.{Language}
use Rattle.sq_shown.specs.declared.signature.Output.{Output}
use Rattle.sq_shown.specs.declared.signature.ShownField.{ShownField}

-- neither groups nor DISTINCT nor ORDER BY
abbrev pub plain : Manner
plain = record { grouped = false; distinct = false; ordered = false }

-- the column of the one range of the innermost FROM
abbrev pub own_slot : ℕ → Slot
own_slot column = record { depth = 0; range = 0; column = column }

-- the SELECT of these nodes from the table at a place
abbrev pub select : ℕ → List Node → CoreStatement
select place nodes = Select (SelectQuery plain (Table place ∷ []) [] [] [] nodes [])

-- a node is a column of this table, and an output has its type, nullable where the column is not NOT NULL
abbrev pub ShowsColumn : CatalogTable → Node → Output → Type 0
ShowsColumn table (Column slot of) output =
    IsSomeAnd (slice_get table.columns slot.column)
    (λ column. (slot ≡ own_slot slot.column) × (column.of ≡ of) × (output.of ≡ column.of)
    × (output.nullable ≡ not column.not_null))
ShowsColumn table _ output = ⊥

-- the nodes are columns of the table at this place, with these outputs
abbrev pub ShowsColumns : Contents → ℕ → List Node → List Output → Type 0
ShowsColumns contents place nodes outputs =
    IsSomeAnd (slice_get contents.tables place) (λ table. AllZip (ShowsColumn table) nodes outputs)

-- the outputs are of types that are printed without the catalogue
abbrev pub ArePrinted : List Output → Type 0
ArePrinted = AllByRecursion (λ output. IsPrinted output.of)

-- a printed column has the text of this output's type and mark
abbrev pub Prints : Language → Contents → Output → ShownField → Type 0
Prints language contents output column = column.of ≡ printed_text language contents output.of output.nullable
