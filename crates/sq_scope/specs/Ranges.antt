-- What stands in a FROM: its ranges and the columns that USING merged (PostgreSQL manual, section 7.2.1).
use Rattle.std.specs.Prelude.{ℕ, ◌+◌, Bool, true, ◌&&◌, nat_le, nat_lt, if◌then◌else◌, List, [], ◌∷◌, ◌++◌, map, drop, length, Result, Ok, Err}
use Rattle.std.specs.List.{list_any}
use Rattle.std.specs.Str.{bytes_eq}
use Rattle.sq_base.specs.declared.code.Code.TheVariants.{DuplicateAlias}
use Rattle.sq_base.specs.declared.place.Place.{Place}
use Rattle.sq_base.specs.declared.refusal.Refusal.{Refusal}
use Rattle.sq_base.specs.Refusals.{refused_naming}
use Rattle.sq_scope.specs.declared.ranges.Began.{Began}
use Rattle.sq_scope.specs.declared.ranges.Level.{Level}
use Rattle.sq_scope.specs.declared.ranges.Range.{Range}
use Rattle.sq_scope.specs.declared.ranges.RangeColumn.{RangeColumn}
use Rattle.sq_scope.specs.declared.ranges.Ranges.{Ranges}

-- a FROM with nothing in it
abbrev pub no_ranges : Ranges
no_ranges = record { ranges = []; merged = [] }

-- what a level sees
abbrev pub seen : Level → Ranges
seen level = record { ranges = level.ranges.now; merged = level.merged.now }

-- where what comes next begins
abbrev pub counted : Ranges → Began
counted all = record { ranges = length all.ranges; merged = length all.merged }

-- what came from there on
abbrev pub since : Began → Ranges → Ranges
since began all = record { ranges = drop began.ranges all.ranges; merged = drop began.merged all.merged }

-- whether a range has this name
abbrev pub has_name : List ℕ → List Range → Bool
has_name name ranges = list_any (λ (range : Range). bytes_eq range.name name) ranges

-- a range behind those of its FROM, of which none has its name
unfoldable pub added : Range → Place → Ranges → Result Ranges Refusal
added range place all =
    if has_name range.name all.ranges then Err (refused_naming DuplicateAlias place range.name)
    else Ok (record all { ranges = all.ranges ++ range ∷ [] })

-- a column that may be null
abbrev pub raised_column : RangeColumn → RangeColumn
raised_column column = record column { nullable = true }

-- a range whose columns may all be null
abbrev pub raised_range : Range → Range
raised_range range = record range { columns = map raised_column range.columns }

-- whether a place is one of those from a number up to another
abbrev pub is_between : ℕ → ℕ → ℕ → Bool
is_between from to place = nat_le from place && nat_lt place to

-- the ranges, of which those in places from a number up to another are raised, where the first is in this place
abbrev pub ranges_raised : ℕ → ℕ → ℕ → List Range → List Range
ranges_raised from to place [] = []
ranges_raised from to place (range ∷ ranges) =
    (if is_between from to place then raised_range range else range) ∷ ranges_raised from to (place + 1) ranges

-- the same of columns
abbrev pub columns_raised : ℕ → ℕ → ℕ → List RangeColumn → List RangeColumn
columns_raised from to place [] = []
columns_raised from to place (column ∷ columns) =
    (if is_between from to place then raised_column column else column) ∷ columns_raised from to (place + 1) columns

-- the side of an outer join that may be missing: what came from there up to here may be null
unfoldable pub raised : Began → Began → Ranges → Ranges
raised from to all = record {
  ranges = ranges_raised from.ranges to.ranges 0 all.ranges;
  merged = columns_raised from.merged to.merged 0 all.merged;
}
