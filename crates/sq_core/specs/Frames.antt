-- What a part of a query is evaluated in, and what its columns may stand for.
use Rattle.std.specs.Prelude.{◌≡◌, ◌≢◌, List, [], ◌∷◌, ◌++◌, map, Option, Some, None, slice_get, option_and_then, true}
use Rattle.std.specs.List.{AllZip, AllByRecursion}
use Rattle.sq_core.specs.declared.routine.Slot.{Slot}
use Rattle.sq_core.specs.Values.{Value, Null, Row, Kind, kind, RowFits, RowsFit}

-- a row of each range of one FROM, and the merged columns of its USING
pub record Joined : Type 0 where
  pub ranges : List Row
  pub merged : Row

-- a row or a group of rows, and beside it all rows or groups of its query
pub data Frame : Type 0 where
  One : Joined → List Joined → Frame
  Group : List Joined → List (List Joined) → Frame

-- what a query gives: its rows, and a row of nulls of the same length
pub record Answered : Type 0 where
  pub blank : Row
  pub rows : List Row

-- what a FROM gives: its rows, and a row of nulls of the same ranges
pub record Drawn : Type 0 where
  pub blank : Joined
  pub rows : List Joined

-- where an expression is evaluated: the frames that a column may be read from, the innermost
-- first, and what the queries of WITH gave, the outermost first
pub record Setting : Type 0 where
  pub frames : List Frame
  pub commons : List Answered

-- the columns of each range of one FROM, and of its merged range
pub record Ranges : Type 0 where
  pub ranges : List (List Kind)
  pub merged : List Kind

-- a query's columns, evaluated in each row, in each group of at least one row, or over all rows, of which there may be
-- none
pub data Level : Type 0 where
  InRow : Ranges → Level
  InGroup : Ranges → Level
  InAll : Ranges → Level

-- the levels that a column may be read from, the innermost first, and the columns of the queries of WITH, the outermost
-- first
pub record Scope : Type 0 where
  pub levels : List Level
  pub commons : List (List Kind)

-- one frame further in
abbrev pub enter : Setting → Frame → Setting
enter outer frame = record outer { frames = frame ∷ outer.frames }

abbrev pub below : Scope → Level → Scope
below outer level = record outer { levels = level ∷ outer.levels }

-- the merged range stands behind all others
abbrev pub all_ranges : Ranges → List (List Kind)
all_ranges ranges = ranges.ranges ++ ranges.merged ∷ []

abbrev pub all_rows : Joined → List Row
all_rows joined = joined.ranges ++ joined.merged ∷ []

-- the columns that may be read: none over all rows, since there may be no row
abbrev pub shown : Level → Option Ranges
shown (InRow ranges) = Some ranges
shown (InGroup ranges) = Some ranges
shown (InAll ranges) = None

-- the row that a column is read from
abbrev pub first_row : Frame → Option Joined
first_row (One row all) = Some row
first_row (Group [] all) = None
first_row (Group (row ∷ more) all) = Some row

-- what stands at a range's column
abbrev pub in_ranges : {A : Type 0} → List (List A) → Slot → Option A
in_ranges ranges slot = option_and_then (λ range. slice_get range slot.column) (slice_get ranges slot.range)

-- the kind of a column
abbrev pub kind_at : Scope → Slot → Option Kind
kind_at scope slot =
    option_and_then (λ level. option_and_then (λ ranges. in_ranges (all_ranges ranges) slot) (shown level))
    (slice_get scope.levels slot.depth)

-- the value of a column
abbrev pub value_at : Setting → Slot → Option Value
value_at setting slot =
    option_and_then (λ frame. option_and_then (λ row. in_ranges (all_rows row) slot) (first_row frame))
    (slice_get setting.frames slot.depth)

-- Rows of a FROM.

abbrev pub no_ranges : Ranges
no_ranges = record { ranges = []; merged = [] }

abbrev pub no_rows : Joined
no_rows = record { ranges = []; merged = [] }

abbrev pub one_range : List Kind → Ranges
one_range kinds = record { ranges = kinds ∷ []; merged = [] }

abbrev pub one_row : Row → Joined
one_row row = record { ranges = row ∷ []; merged = [] }

-- two sides, and the columns that are merged of both
abbrev pub both_ranges : Ranges → Ranges → List Kind → Ranges
both_ranges left right merged =
    record { ranges = left.ranges ++ right.ranges; merged = left.merged ++ right.merged ++ merged }

abbrev pub both_rows : Joined → Joined → Row → Joined
both_rows left right merged =
    record { ranges = left.ranges ++ right.ranges; merged = left.merged ++ right.merged ++ merged }

-- the same tags, all nullable
abbrev pub nullable_kinds : List Kind → List Kind
nullable_kinds = map (λ k. kind k.of true)

abbrev pub nullable_ranges : Ranges → Ranges
nullable_ranges ranges = record { ranges = map nullable_kinds ranges.ranges; merged = nullable_kinds ranges.merged }

-- a null for each
abbrev pub nulls : {A : Type 0} → List A → Row
nulls = map (λ x. Null)

-- What fits.

-- the row of each range fits the range's columns
abbrev pub JoinedFits : Ranges → Joined → Type 0
JoinedFits ranges joined = AllZip RowFits ranges.ranges joined.ranges × RowFits ranges.merged joined.merged

abbrev pub AllJoinedFit : Ranges → List Joined → Type 0
AllJoinedFit ranges = AllByRecursion (JoinedFits ranges)

-- a group has a row, and all of its rows fit
abbrev pub GroupFits : Ranges → List Joined → Type 0
GroupFits ranges rows = AllJoinedFit ranges rows × (rows ≢ [])

abbrev pub FrameFits : Level → Frame → Type 0
FrameFits (InRow ranges) (One row all) = JoinedFits ranges row × AllJoinedFit ranges all
FrameFits (InGroup ranges) (Group rows all) = GroupFits ranges rows × AllByRecursion (GroupFits ranges) all
FrameFits (InAll ranges) (Group rows all) = AllJoinedFit ranges rows × AllByRecursion (AllJoinedFit ranges) all
FrameFits _ _ = ⊥

-- only nulls, one for each column
abbrev pub IsBlank : List Kind → Row → Type 0
IsBlank = AllZip (λ k value. value ≡ Null)

abbrev pub JoinedBlank : Ranges → Joined → Type 0
JoinedBlank ranges joined = AllZip IsBlank ranges.ranges joined.ranges × IsBlank ranges.merged joined.merged

-- what a query gives fits its columns
abbrev pub AnsweredFits : List Kind → Answered → Type 0
AnsweredFits kinds answered = IsBlank kinds answered.blank × RowsFit kinds answered.rows

-- what a FROM gives fits its ranges
abbrev pub DrawnFits : Ranges → Drawn → Type 0
DrawnFits ranges drawn = JoinedBlank ranges drawn.blank × AllJoinedFit ranges drawn.rows

-- what an expression is evaluated in fits its scope
abbrev pub SettingFits : Scope → Setting → Type 0
SettingFits scope setting = AllZip FrameFits scope.levels setting.frames
    × AllZip AnsweredFits scope.commons setting.commons
