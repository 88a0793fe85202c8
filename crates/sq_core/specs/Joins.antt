-- Joins, the merged columns of USING, and set operations.
use Rattle.std.specs.Prelude.{◌≡◌, Bool, true, false, ◌&&◌, ◌||◌, if◌then◌else◌, List, [], ◌∷◌, ◌++◌, map, flat_map, Option, Some, None, IsSomeAnd, ⊤}
use Rattle.std.specs.List.{AllZip, list_any}
use Rattle.sq_base.specs.declared.types.PgType.{PgType}
use Rattle.sq_catalog.specs.Contents.{Contents}
use Rattle.sq_core.specs.declared.routine.Change.{Change}
use Rattle.sq_core.specs.declared.routine.JoinKind.{JoinKind}
use Rattle.sq_core.specs.declared.routine.JoinKind.TheVariants.{Inner, Left, Right, Full}
use Rattle.sq_core.specs.declared.routine.Joining.{Joining}
use Rattle.sq_core.specs.declared.routine.Merged.{Merged}
use Rattle.sq_core.specs.declared.routine.SetKind.{SetKind}
use Rattle.sq_core.specs.declared.routine.SetKind.TheVariants.{Union, Intersect, Except}
use Rattle.sq_core.specs.declared.routine.SetLink.{SetLink}
use Rattle.sq_core.specs.Answer.{◌>>=◌, pure, stuck, all_of}
use Rattle.sq_core.specs.Frames.{Setting, One, Joined, Drawn, Answered, Ranges, enter, in_ranges, all_ranges, all_rows, both_rows, both_ranges, nullable_ranges}
use Rattle.sq_core.specs.Items.{Run, expecting, found, sublist}
use Rattle.sq_core.specs.Operations.{Meaning, become, becomes, is_true, truth_of}
use Rattle.sq_core.specs.Values.{Value, Null, Row, Tag, Kind, kind_of, tag, same_type, is_null}

-- whether every condition is true; each is evaluated
abbrev pub holds : List Meaning → Setting → Run Bool
holds [] setting = pure true
holds (condition ∷ more) setting =
    condition setting >>= truth_of >>= (λ t. holds more setting >>= (λ rest. pure (is_true t && rest)))

-- those for which the conditions are true, each in its setting
abbrev pub kept : {A : Type 0} → List Meaning → (A → Setting) → List A → Run (List A)
kept conditions place [] = pure []
kept conditions place (x ∷ more) =
    holds conditions (place x) >>= (λ b. kept conditions place more >>= (λ rest. pure (if b then x ∷ rest else rest)))

-- a row of the left side and one of the right
pub record Couple : Type 0 where
  pub left : Joined
  pub right : Joined

abbrev pub couple : Joined → Joined → Couple
couple left right = record { left = left; right = right }

-- every choice of a row of either side
abbrev pub crossed : Drawn → Drawn → Drawn
crossed left right = record {
  blank = both_rows left.blank right.blank [];
  rows = flat_map (λ l. map (λ r. both_rows l r []) right.rows) left.rows;
}

-- for each row of the left side, for each of the right, whether the conditions are true
abbrev pub hits : List Meaning → Setting → List Joined → List Joined → Run (List (List Bool))
hits conditions outer lefts rights =
    all_of (map (λ l. all_of (map (λ r. holds conditions (enter outer (One (both_rows l r []) []))) rights)) lefts)

-- those beside which there stands true
abbrev pub chosen : {A : Type 0} → List Bool → List A → List A
chosen (true ∷ bs) (x ∷ xs) = x ∷ chosen bs xs
chosen (false ∷ bs) (x ∷ xs) = chosen bs xs
chosen _ _ = []

-- whether there stands true at each place in one of the lists
abbrev pub any_of : List Bool → List Bool → List Bool
any_of (b ∷ bs) (c ∷ cs) = (b || c) ∷ any_of bs cs
any_of [] cs = cs
any_of bs [] = bs

abbrev pub anywhere : List (List Bool) → List Bool
anywhere [] = []
anywhere (bs ∷ table) = any_of bs (anywhere table)

-- the couples of which the conditions are true
abbrev pub matched : List Joined → List (List Bool) → List Joined → List Couple
matched (l ∷ lefts) (bs ∷ table) rights = map (couple l) (chosen bs rights) ++ matched lefts table rights
matched _ _ rights = []

-- the rows of the left side that match none, each with the blank row of the right side
abbrev pub left_alone : List Joined → List (List Bool) → Joined → List Couple
left_alone (l ∷ lefts) (bs ∷ table) blank = if list_any (λ b. b) bs then left_alone lefts table blank
    else couple l blank ∷ left_alone lefts table blank
left_alone _ _ blank = []

-- the rows of the right side that match none, each with the blank row of the left side; behind the last mark there
-- stands no true
abbrev pub right_alone : Joined → List Bool → List Joined → List Couple
right_alone blank bs [] = []
right_alone blank [] (r ∷ rights) = couple blank r ∷ right_alone blank [] rights
right_alone blank (b ∷ bs) (r ∷ rights) = if b then right_alone blank bs rights
    else couple blank r ∷ right_alone blank bs rights

-- whether a join keeps what matches none of the left side, or of the right
abbrev pub keeps_left : JoinKind → Bool
keeps_left Left = true
keeps_left Full = true
keeps_left _ = false

abbrev pub keeps_right : JoinKind → Bool
keeps_right Right = true
keeps_right Full = true
keeps_right _ = false

-- all couples of a join
abbrev pub couples : JoinKind → List (List Bool) → Drawn → Drawn → List Couple
couples of table left right =
    matched left.rows table right.rows
    ++ ((if keeps_left of then left_alone left.rows table right.blank else [])
    ++ (if keeps_right of then right_alone left.blank (anywhere table) right.rows else []))

-- the left, the right, or the first of both that is not null
abbrev pub merged_of : JoinKind → Value → Value → Value
merged_of Inner left right = left
merged_of Left left right = left
merged_of Right left right = right
merged_of Full left right = if is_null left then right else left

-- a merged column, of both sides' columns, converted where their types are others
abbrev pub merge : Contents → JoinKind → Couple → Merged → Run Value
merge contents of pair merged =
    found (in_ranges (all_rows pair.left) merged.left) >>= become contents merged.left_of merged.of
    >>= (λ left. found (in_ranges (all_rows pair.right) merged.right) >>= become contents merged.right_of merged.of
    >>= (λ right. pure (merged_of of left right)))

-- both sides and the columns that are merged of both
abbrev pub glued : Contents → Joining → Couple → Run Joined
glued contents joining pair =
    all_of (map (merge contents joining.kind pair) joining.merged)
    >>= (λ merged. pure (both_rows pair.left pair.right merged))

-- a join: the couples that match, and those of an outer side that match none
abbrev pub joined : Contents → Joining → List Meaning → Setting → Drawn → Drawn → Run Drawn
joined contents joining conditions outer left right =
    hits conditions outer left.rows right.rows
    >>= (λ table. all_of (map (glued contents joining) (couples joining.kind table left right)))
    >>= (λ rows. pure (record {
      blank = both_rows left.blank right.blank (map (λ m. Null) joining.merged);
      rows =
          rows;
    }))

-- Kinds of a join.

-- the other side of an outer side is nullable
abbrev pub left_ranges : JoinKind → Ranges → Ranges
left_ranges of left = if keeps_right of then nullable_ranges left else left

abbrev pub right_ranges : JoinKind → Ranges → Ranges
right_ranges of right = if keeps_left of then nullable_ranges right else right

-- what is not there counts as nullable
abbrev pub nullable_in : Option Kind → Bool
nullable_in (Some k) = k.nullable
nullable_in None = true

-- the left one's mark, the right one's, or either
abbrev pub merged_mark : JoinKind → Bool → Bool → Bool
merged_mark Inner left right = left
merged_mark Left left right = left
merged_mark Right left right = right
merged_mark Full left right = left || right

abbrev pub merged_kind : Contents → JoinKind → Ranges → Ranges → Merged → Kind
merged_kind contents of left right merged =
    kind_of contents merged.of
    (merged_mark of (nullable_in (in_ranges (all_ranges left) merged.left))
    (nullable_in (in_ranges (all_ranges right) merged.right)))

abbrev pub joined_ranges : Contents → Joining → Ranges → Ranges → Ranges
joined_ranges contents joining left right =
    both_ranges (left_ranges joining.kind left) (right_ranges joining.kind right)
    (map (merged_kind contents joining.kind left right) joining.merged)

-- a column is there, and its type may stand as the merged one's
pub record SideTyped (contents : Contents) (found : Option Kind) (from to : PgType) : Type 0 where
  pub there : IsSomeAnd found (λ k. k.of ≡ tag contents from)
  pub converts : becomes contents from to ≡ true

abbrev pub MergedTyped : Contents → Ranges → Ranges → Merged → Type 0
MergedTyped contents left right merged =
    SideTyped contents (in_ranges (all_ranges left) merged.left) merged.left_of merged.of
    × SideTyped contents (in_ranges (all_ranges right) merged.right) merged.right_of merged.of

-- Set operations.

-- a row with each value converted
abbrev pub changed_row : Contents → List Change → Row → Run Row
changed_row contents [] [] = pure []
changed_row contents (change ∷ changes) (value ∷ row) =
    become contents change.from change.to value
    >>= (λ v. changed_row contents changes row >>= (λ more. pure (v ∷ more)))
changed_row contents _ _ = stuck

-- the rows of both sides; a sublist of them; a sublist of those of the left side
abbrev pub set_result : SetKind → Bool → List Row → List Row → Run (List Row)
set_result Union true left right = pure (left ++ right)
set_result Union false left right = sublist (left ++ right)
set_result Intersect all left right = sublist left
set_result Except all left right = sublist left

abbrev pub target_tags : Contents → List Change → List Tag
target_tags contents = map (λ change. tag contents change.to)

abbrev pub same_tags : List Tag → List Tag → Bool
same_tags [] [] = true
same_tags (one ∷ more) (other ∷ others) = same_type one other && same_tags more others
same_tags _ _ = false

-- whether a row of nulls has a value for each conversion
abbrev pub as_long : {A B : Type 0} → List A → List B → Bool
as_long [] [] = true
as_long (x ∷ xs) (y ∷ ys) = as_long xs ys
as_long _ _ = false

-- one set operation: both sides have a column for each conversion, and the conversions lead to the same tags
abbrev pub operated : Contents → SetLink → Answered → Answered → Run Answered
operated contents link left right =
    expecting (same_tags (target_tags contents link.left) (target_tags contents link.right)
    && (as_long link.left left.blank && as_long link.right right.blank))
    (all_of (map (changed_row contents link.left) left.rows)
    >>= (λ lefts. all_of (map (changed_row contents link.right) right.rows)
    >>= (λ rights. set_result link.kind link.all lefts rights
    >>= (λ rows. pure (record { blank = left.blank; rows = rows })))))

-- what a query gives in a setting
abbrev pub QueryMeaning : Type 0
QueryMeaning = Setting → Run Answered

-- one set operation after the other
abbrev pub operated_all : Contents → List SetLink → List QueryMeaning → Setting → Answered → Run Answered
operated_all contents [] [] setting left = pure left
operated_all contents (link ∷ links) (query ∷ queries) setting left =
    query setting >>= operated contents link left >>= operated_all contents links queries setting
operated_all contents _ _ setting left = stuck

-- the marks of either side, or of the left
abbrev pub set_mark : SetKind → Bool → Bool → Bool
set_mark Union left right = left || right
set_mark Intersect left right = left
set_mark Except left right = left

abbrev pub set_kinds : Contents → SetKind → List Change → List Kind → List Kind → List Kind
set_kinds contents of (change ∷ changes) (l ∷ left) (r ∷ right) =
    kind_of contents change.to (set_mark of l.nullable r.nullable) ∷ set_kinds contents of changes left right
set_kinds contents of _ _ _ = []

abbrev pub ChangesTyped : Contents → List Change → List Kind → Type 0
ChangesTyped contents =
    AllZip (λ change k. (k.of ≡ tag contents change.from) × (becomes contents change.from change.to ≡ true))

pub record LinkTyped (contents : Contents) (link : SetLink) (left right : List Kind) : Type 0 where
  pub lefts : ChangesTyped contents link.left left
  pub rights : ChangesTyped contents link.right right
  pub same : target_tags contents link.left ≡ target_tags contents link.right

-- the kinds after each set operation
abbrev pub all_set_kinds : Contents → List SetLink → List (List Kind) → List Kind → List Kind
all_set_kinds contents (link ∷ links) (right ∷ rights) left =
    all_set_kinds contents links rights (set_kinds contents link.kind link.left left right)
all_set_kinds contents _ _ left = left

abbrev pub LinksTyped : Contents → List SetLink → List (List Kind) → List Kind → Type 0
LinksTyped contents [] [] left = ⊤
LinksTyped contents (link ∷ links) (right ∷ rights) left =
    LinkTyped contents link left right
    × LinksTyped contents links rights (set_kinds contents link.kind link.left left right)
LinksTyped contents _ _ left = ⊥
