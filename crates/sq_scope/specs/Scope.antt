-- What the name of a column stands for (PostgreSQL manual, section 4.2.1).
use Rattle.std.specs.Prelude.{ℕ, ◌+◌, Bool, true, false, ◌&&◌, not, if◌then◌else◌, List, [], ◌∷◌, ◌++◌, length, map, Option, Some, None, Result, Ok, Err}
use Rattle.std.specs.List.{list_any}
use Rattle.std.specs.Str.{bytes_eq}
use Rattle.sq_base.specs.declared.code.Code.TheVariants.{Ambiguous, UnknownColumn, UnknownTable, WholeRow}
use Rattle.sq_base.specs.declared.place.Place.{Place}
use Rattle.sq_base.specs.declared.refusal.Refusal.{Refusal}
use Rattle.sq_base.specs.Refusals.{refused_naming}
use Rattle.sq_syntax.specs.declared.name.ColumnName.{ColumnName}
use Rattle.sq_syntax.specs.declared.name.ColumnName.TheVariants.{Bare, OfRange, OfTable}
use Rattle.sq_scope.specs.declared.ranges.Level.{Level}
use Rattle.sq_scope.specs.declared.ranges.Range.{Range}
use Rattle.sq_scope.specs.declared.ranges.RangeColumn.{RangeColumn}
use Rattle.sq_scope.specs.declared.ranges.Ranges.{Ranges}
use Rattle.sq_scope.specs.declared.scope.Found.{Found}
use Rattle.sq_scope.specs.Ranges.{has_name, seen}

-- what several levels see
abbrev pub all_seen : List Level → List Ranges
all_seen levels = map seen levels

-- the name of the column, without its range
abbrev pub last_name : ColumnName → List ℕ
last_name (Bare column) = column.name
last_name (OfRange range column) = column.name
last_name (OfTable schema range column) = column.name

-- a name has the place of its first part
abbrev pub place_of : ColumnName → Place
place_of (Bare column) = column.place
place_of (OfRange range column) = range.place
place_of (OfTable schema range column) = schema.place

-- whether a range is a table of this schema under its own name
abbrev pub is_schema : List ℕ → Option (List ℕ) → Bool
is_schema wanted None = false
is_schema wanted (Some schema) = bytes_eq schema wanted

-- whether a range has the name that is written before the column's; a schema is written only before the name of a
-- table that stands under its own name
abbrev pub is_of : ColumnName → Range → Bool
is_of (Bare column) range = true
is_of (OfRange named column) range = bytes_eq range.name named.name
is_of (OfTable schema named column) range = bytes_eq range.name named.name && is_schema schema.name range.schema

-- a column that was merged is found by its range's name alone
abbrev pub is_hidden : ColumnName → RangeColumn → Bool
is_hidden (Bare named) column = column.merged
is_hidden _ column = false

-- whether a column is meant by a name
abbrev pub is_meant : ColumnName → RangeColumn → Bool
is_meant name column = bytes_eq column.name (last_name name) && not (is_hidden name column)

-- the column in this place
abbrev pub found_at : ℕ → ℕ → ℕ → RangeColumn → Found
found_at depth range place column =
    record { depth = depth; range = range; column = place; of = column.of; nullable = column.nullable }

-- the columns that are meant, where the first is in this place
abbrev pub column_matches : ℕ → ℕ → ℕ → List RangeColumn → ColumnName → List Found
column_matches depth range place [] name = []
column_matches depth range place (column ∷ columns) name =
    if is_meant name column then found_at depth range place column ∷ column_matches depth range (place + 1) columns name
    else column_matches depth range (place + 1) columns name

-- the columns of a range that are meant
abbrev pub range_matches : ℕ → ℕ → Range → ColumnName → List Found
range_matches depth place range name =
    if is_of name range then column_matches depth place 0 range.columns name else []

-- the columns of ranges that are meant, where the first range is in this place
abbrev pub ranges_match : ℕ → ℕ → List Range → ColumnName → List Found
ranges_match depth place [] name = []
ranges_match depth place (range ∷ ranges) name =
    range_matches depth place range name ++ ranges_match depth (place + 1) ranges name

-- no name of a range finds a merged column
abbrev pub is_bare : ColumnName → Bool
is_bare (Bare column) = true
is_bare _ = false

-- the merged columns that are meant, in the place behind all ranges
abbrev pub merged_match : ℕ → ℕ → List RangeColumn → ColumnName → List Found
merged_match depth place merged name = if is_bare name then column_matches depth place 0 merged name else []

-- the columns of a level that are meant
abbrev pub level_matches : ℕ → Ranges → ColumnName → List Found
level_matches depth level name =
    ranges_match depth 0 level.ranges name ++ merged_match depth (length level.ranges) level.merged name

-- the first of two lists that has something
abbrev pub or_those : List Found → List Found → List Found
or_those [] others = others
or_those (one ∷ more) others = one ∷ more

-- all matches in the innermost level that has any
abbrev pub matches : ℕ → List Ranges → ColumnName → List Found
matches depth [] name = []
matches depth (level ∷ outer) name = or_those (level_matches depth level name) (matches (depth + 1) outer name)

-- whether a level has a range of the name that is written before the column's
abbrev pub has_range : ColumnName → Ranges → Bool
has_range name level = list_any (is_of name) level.ranges

abbrev pub has_range_anywhere : List Ranges → ColumnName → Bool
has_range_anywhere levels name = list_any (has_range name) levels

-- whether a range of some level has this name
abbrev pub has_name_anywhere : List Ranges → List ℕ → Bool
has_name_anywhere levels name = list_any (λ (level : Ranges). has_name name level.ranges) levels

-- why a name stands for nothing: a range of this name would be a whole row; there is no such column; there is no
-- such range
abbrev pub unmatched : List Ranges → ColumnName → Refusal
unmatched levels (Bare column) =
    if has_name_anywhere levels column.name then refused_naming WholeRow column.place column.name
    else refused_naming UnknownColumn column.place column.name
unmatched levels (OfRange range column) =
    if has_range_anywhere levels (OfRange range column) then refused_naming UnknownColumn range.place column.name
    else refused_naming UnknownTable range.place range.name
unmatched levels (OfTable schema range column) =
    if has_range_anywhere levels (OfTable schema range column)
    then refused_naming UnknownColumn schema.place column.name
    else refused_naming UnknownTable schema.place range.name

-- the one match; of several none
abbrev pub only_match : List Ranges → ColumnName → List Found → Result Found Refusal
only_match levels name [] = Err (unmatched levels name)
only_match levels name (one ∷ []) = Ok one
only_match levels name (one ∷ other ∷ more) = Err (refused_naming Ambiguous (place_of name) (last_name name))

-- the column that a name stands for, in levels of which the innermost is the first
unfoldable pub looked_up : List Ranges → ColumnName → Result Found Refusal
looked_up levels name = only_match levels name (matches 0 levels name)
