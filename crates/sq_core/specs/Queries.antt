-- The steps of a query: groups, outputs, DISTINCT, ORDER BY, LIMIT, WITH and FROM, over what its parts give.
use Rattle.std.specs.Prelude.{ℕ, Bool, true, false, ◌||◌, ◌==◌, if◌then◌else◌, List, [], ◌∷◌, ◌++◌, map, Option, Some, None}
use Rattle.std.specs.List.{list_all}
use Rattle.sq_catalog.specs.Contents.{Contents}
use Rattle.sq_catalog.specs.declared.table.Column.{Column}
use Rattle.sq_catalog.specs.declared.table.Table.{Table}
use Rattle.sq_core.specs.declared.routine.Manner.{Manner}
use Rattle.sq_core.specs.declared.routine.SetLink.{SetLink}
use Rattle.sq_core.specs.Answer.{◌>>=◌, pure, fault, stuck, next_item, all_of}
use Rattle.sq_core.specs.Frames.{Setting, Frame, One, Group, Joined, Drawn, Answered, Ranges, Level, InRow, InGroup, InAll, Scope, enter, one_row, no_rows, no_ranges, both_ranges, nulls}
use Rattle.sq_core.specs.Items.{Run, expecting, places_of, sublist, permutation, stretch}
use Rattle.sq_core.specs.Joins.{QueryMeaning, kept, crossed, operated_all, all_set_kinds, LinksTyped}
use Rattle.sq_core.specs.Operations.{Meaning, evaluate}
use Rattle.sq_core.specs.Values.{Value, Row, Kind, kind, fits, bigint_tag, column_kind}

-- what a source gives in a setting
abbrev pub SourceMeaning : Type 0
SourceMeaning = Setting → Run Drawn

-- the rows of one range
abbrev pub alone : Answered → Drawn
alone answered = record { blank = one_row answered.blank; rows = map one_row answered.rows }

-- the rows of a table
abbrev pub stored : Option Table → List Row → Answered
stored (Some table) rows = record { blank = nulls table.columns; rows = rows }
stored None rows = record { blank = []; rows = rows }

-- no source: one row of no range
abbrev pub nothing_drawn : Drawn
nothing_drawn = record { blank = no_rows; rows = no_rows ∷ [] }

-- the sources of a FROM, every choice of a row of each
abbrev pub drawn_all : List SourceMeaning → SourceMeaning
drawn_all [] setting = pure nothing_drawn
drawn_all (source ∷ more) setting = source setting
    >>= (λ left. drawn_all more setting >>= (λ right. pure (crossed left right)))

abbrev pub all_sides : List Ranges → Ranges
all_sides [] = no_ranges
all_sides (ranges ∷ more) = both_ranges ranges (all_sides more) []

-- Groups.

-- a row put behind the others of its number's group, or alone behind all groups
abbrev pub put : ℕ → Joined → List (ℕ × List Joined) → List (ℕ × List Joined)
put number row [] = (number, row ∷ []) ∷ []
put number row (group ∷ more) =
    if number == group.0 then (group.0, group.1 ++ row ∷ []) ∷ more else group ∷ put number row more

-- the rows of each number, where each row has one: a group stands where its first row does
abbrev pub numbered : List ℕ → List Joined → List (ℕ × List Joined) → Run (List (ℕ × List Joined))
numbered [] [] groups = pure groups
numbered (number ∷ numbers) (row ∷ rows) groups = numbered numbers rows (put number row groups)
numbered _ _ groups = fault

-- the groups that the next item makes: a number for each row
abbrev pub split : List Joined → Run (List Frame)
split rows =
    next_item >>= places_of >>= (λ numbers. numbered numbers rows [])
    >>= (λ groups. pure (map (λ group. Group group.1 []) groups))

-- what a query's outputs are evaluated in: each row, all rows together, or each group of GROUP BY
pub data Grouping : Type 0 where
  Rows : Grouping
  Whole : Grouping
  Groups : Grouping

-- whether something is written
abbrev pub is_written : {A : Type 0} → List A → Bool
is_written [] = false
is_written (x ∷ more) = true

-- groups where GROUP BY is written, else one whole group where HAVING or the flag is, else rows
abbrev pub grouping_of : Bool → Bool → Bool → Grouping
grouping_of grouped groups having = if groups then Groups else if grouped || having then Whole else Rows

-- the frames of the outputs
abbrev pub frames_of : Grouping → List Meaning → Setting → List Joined → Run (List Frame)
frames_of Rows items outer rows = pure (map (λ row. One row []) rows)
frames_of Whole items outer rows = pure (Group rows [] ∷ [])
frames_of Groups items outer rows = all_of (map (λ row. evaluate items (enter outer (One row []))) rows)
    >>= (λ values. split rows)

-- the level of the outputs
abbrev pub level_of : Grouping → Ranges → Level
level_of Rows ranges = InRow ranges
level_of Whole ranges = InAll ranges
level_of Groups ranges = InGroup ranges

-- the row, or the rows, of each frame
abbrev pub own_rows : List Frame → List Joined
own_rows [] = []
own_rows (One row all ∷ frames) = row ∷ own_rows frames
own_rows (Group rows all ∷ frames) = own_rows frames

abbrev pub own_groups : List Frame → List (List Joined)
own_groups [] = []
own_groups (One row all ∷ frames) = own_groups frames
own_groups (Group rows all ∷ frames) = rows ∷ own_groups frames

-- a frame with all rows or groups beside it
abbrev pub with_all : List Joined → List (List Joined) → Frame → Frame
with_all rows groups (One row all) = One row rows
with_all rows groups (Group own all) = Group own groups

abbrev pub beside : List Frame → List Frame
beside frames = map (with_all (own_rows frames) (own_groups frames)) frames

-- DISTINCT, then ORDER BY
abbrev pub arranged_by : Manner → List Row → Run (List Row)
arranged_by manner rows =
    (if manner.distinct then sublist rows else pure rows)
    >>= (λ distinct. if manner.ordered then permutation distinct else pure distinct)

-- WHERE, GROUP BY, HAVING, the outputs, and the items of ORDER BY, over the rows of FROM
abbrev pub selected : Manner → List Meaning → List Meaning → List Meaning → List Meaning → List Meaning → Setting
    → Drawn → Run Answered
selected manner conditions groups having outputs keys outer drawn =
    kept conditions (λ row. enter outer (One row [])) drawn.rows
    >>= frames_of (grouping_of manner.grouped (is_written groups) (is_written having)) groups outer
    >>= kept having (enter outer)
    >>= (λ frames. all_of (map (λ frame. evaluate outputs (enter outer frame)) (beside frames))
    >>= (λ answers. all_of (map (λ frame. evaluate keys (enter outer frame)) (beside frames))
    >>= (λ values. arranged_by manner answers >>= (λ rows. pure (record { blank = nulls outputs; rows = rows })))))

-- set operations over the first query
abbrev pub combined : List SetLink → Contents → List QueryMeaning → QueryMeaning
combined links contents [] setting = stuck
combined links contents (first ∷ more) setting = first setting >>= operated_all contents links more setting

abbrev pub combined_kinds : Contents → List SetLink → List (List Kind) → List Kind
combined_kinds contents links [] = []
combined_kinds contents links (first ∷ more) = all_set_kinds contents links more first

abbrev pub CombinedTyped : Contents → List SetLink → List (List Kind) → Type 0
CombinedTyped contents links [] = ⊥
CombinedTyped contents links (first ∷ more) = LinksTyped contents links more first

-- one more query of WITH
abbrev pub seen : Setting → Answered → Setting
seen setting answered = record setting { commons = setting.commons ++ answered ∷ [] }

abbrev pub seen_kinds : Scope → List Kind → Scope
seen_kinds scope kinds = record scope { commons = scope.commons ++ kinds ∷ [] }

-- the queries of WITH in order
abbrev pub with_queries : List QueryMeaning → Setting → Run Setting
with_queries [] setting = pure setting
with_queries (query ∷ more) setting = query setting >>= (λ answered. with_queries more (seen setting answered))

-- LIMIT and OFFSET: each a bigint or null
abbrev pub is_limit : Value → Bool
is_limit = fits (kind bigint_tag true)

abbrev pub shortened : List Value → List Row → Run (List Row)
shortened [] rows = pure rows
shortened limits rows = expecting (list_all is_limit limits) (stretch rows)

-- ORDER BY, LIMIT and OFFSET over a query: an item of ORDER BY that is no output sees only what is outside, and is
-- evaluated for each row
abbrev pub limited : Bool → List Meaning → List Meaning → Setting → Answered → Run Answered
limited ordered keys limits setting answered =
    all_of (map (λ row. evaluate keys setting) answered.rows) >>= (λ keyed. evaluate limits setting)
    >>= (λ values. (if ordered then permutation answered.rows else pure answered.rows) >>= shortened values)
    >>= (λ rows. pure (record { blank = answered.blank; rows = rows }))

-- the columns of a table, none where there is no such table
abbrev pub columns_in : Option Table → List Column
columns_in (Some table) = table.columns
columns_in None = []

abbrev pub kinds_in : Contents → Option Table → List Kind
kinds_in contents table = map (column_kind contents) (columns_in table)
