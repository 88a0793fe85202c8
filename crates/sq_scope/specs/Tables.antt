-- A table in FROM (PostgreSQL manual, section 7.2.1).
use Rattle.std.specs.Prelude.{ℕ, ◌+◌, ◌==◌, Bool, true, false, not, if◌then◌else◌, List, [], ◌∷◌, length, map, Option, Some, None, Result, Ok, Err, decimal, slice_get}
use Rattle.sq_base.specs.declared.code.Code.TheVariants.{ColumnCount, UnknownSchema, UnknownTable}
use Rattle.sq_base.specs.declared.place.Place.{Place}
use Rattle.sq_base.specs.declared.refusal.Refusal.{Refusal}
use Rattle.sq_base.specs.Refusals.{refused_naming}
use Rattle.sq_syntax.specs.declared.name.Identifier.{Identifier}
use Rattle.sq_syntax.specs.declared.name.QualifiedName.{QualifiedName}
use Rattle.sq_syntax.specs.declared.query.Alias.{Alias}
use Rattle.sq_catalog.specs.Catalogue.{has_schema, placed_table, public}
use Rattle.sq_catalog.specs.Contents.{Contents}
use Rattle.sq_catalog.specs.declared.table.Column.{Column}
use Rattle.sq_catalog.specs.declared.table.Table.{Table}
use Rattle.sq_scope.specs.declared.ranges.Range.{Range}
use Rattle.sq_scope.specs.declared.ranges.RangeColumn.{RangeColumn}
use Rattle.sq_scope.specs.declared.tables.TableRange.{TableRange}
use Rattle.sq_scope.specs.Answers.{◌>>=◌, refused_keeping}

-- a column of a table
abbrev pub range_column : Column → RangeColumn
range_column column = record { name = column.name; of = column.of; nullable = not column.not_null; merged = false }

-- a table under its own name
abbrev pub own_range : Table → Range
own_range table =
    record { schema = Some table.schema; name = table.name; columns = map range_column table.columns }

-- a column under the name of an alias, where there is one for its place
abbrev pub named_as : Option Identifier → RangeColumn → RangeColumn
named_as None column = column
named_as (Some identifier) column = record column { name = identifier.name }

-- columns under the names of an alias, where the first is in this place
abbrev pub renamed : List Identifier → ℕ → List RangeColumn → List RangeColumn
renamed identifiers place [] = []
renamed identifiers place (column ∷ columns) =
    named_as (slice_get identifiers place) column ∷ renamed identifiers (place + 1) columns

-- a range under an alias
abbrev pub under : Alias → Range → Range
under alias range =
    record { schema = None; name = alias.name.name; columns = renamed alias.columns 0 range.columns }

-- an alias names all columns or none
abbrev pub names_all : List Identifier → List RangeColumn → Bool
names_all [] columns = true
names_all (identifier ∷ identifiers) columns = length (identifier ∷ identifiers) == length columns

-- a range under an alias, where one is written: the place is that of the item's first token
abbrev pub aliased : Option Alias → Place → Range → Result Range Refusal
aliased None place range = Ok range
aliased (Some alias) place range =
    if names_all alias.columns range.columns then Ok (under alias range)
    else Err (refused_keeping ColumnCount place (decimal (length alias.columns)) (decimal (length range.columns)))

-- a table that is found, as a range
abbrev pub found_range : Option Alias → Place → (ℕ × Table) → Result TableRange Refusal
found_range alias place found =
    aliased alias place (own_range found.1) >>= (λ range. Ok (record { table = found.0; range = range }))

abbrev pub range_or_none : QualifiedName → Option Alias → Place → Option (ℕ × Table) → Result TableRange Refusal
range_or_none name alias place None = Err (refused_naming UnknownTable place name.name.name)
range_or_none name alias place (Some found) = found_range alias place found

-- a table of a schema, as a range
unfoldable pub range_in : Contents → List ℕ → QualifiedName → Option Alias → Place → Result TableRange Refusal
range_in c schema name alias place = range_or_none name alias place (placed_table c schema name.name.name)

-- a table of a schema that is written
unfoldable pub range_in_written : Contents → Identifier → QualifiedName → Option Alias → Place → Result TableRange Refusal
range_in_written c schema name alias place =
    if has_schema c schema.name then range_in c schema.name name alias place
    else Err (refused_naming UnknownSchema schema.place schema.name)

-- the schema that is written, and else `public`
abbrev pub range_of : Contents → Option Identifier → QualifiedName → Option Alias → Place → Result TableRange Refusal
range_of c None name alias place = range_in c public name alias place
range_of c (Some schema) name alias place = range_in_written c schema name alias place

-- the table of a name in FROM, whose first token has this place
unfoldable pub table_range : Contents → QualifiedName → Option Alias → Place → Result TableRange Refusal
table_range c name alias place = range_of c name.schema name alias place
