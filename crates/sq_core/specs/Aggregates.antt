-- What an aggregate gives over the rows of a group, and what a query inside an expression is asked.
use Rattle.std.specs.Prelude.{◌≡◌, Bool, true, false, not, ◌&&◌, ◌||◌, if◌then◌else◌, List, [], ◌∷◌, map, ⊤}
use Rattle.std.specs.List.{list_any, list_all}
use Rattle.sq_catalog.specs.Contents.{Contents}
use Rattle.sq_core.specs.declared.routine.Aggregation.{Aggregation}
use Rattle.sq_core.specs.declared.routine.Inner.{Inner}
use Rattle.sq_core.specs.declared.routine.Inner.TheVariants.{Exists, Scalar, ArrayQuery, AnyQuery}
use Rattle.sq_core.specs.declared.routine.Routine.{Routine}
use Rattle.sq_core.specs.Answer.{◌>>=◌, pure, fault, stuck, all_of}
use Rattle.sq_core.specs.Frames.{Answered, Setting, Frame, One, Group, Level, InRow, InGroup, InAll, Scope}
use Rattle.sq_core.specs.Items.{Run, expecting, item_of}
use Rattle.sq_core.specs.Operations.{IsElement, array_of, expect, sole, with_each, with_left}
use Rattle.sq_core.specs.Routines.{IsComparison, given_tags, have_tags, is_routine}
use Rattle.sq_core.specs.Values.{Value, Null, Truth, Row, Tag, Kind, kind, kind_of, tag, tags, is_null, truth_tag, array_tag, any_nullable}

-- the settings of the rows of a group, which is the first of these frames
abbrev pub rows_inside : Setting → List Frame → Run (List Setting)
rows_inside setting (Group rows all ∷ outer) = pure (map (λ row. record setting { frames = One row [] ∷ outer }) rows)
rows_inside setting _ = stuck

-- the settings of the rows of the group that an aggregate stands in
abbrev pub rows_of : Setting → Run (List Setting)
rows_of setting = rows_inside setting setting.frames

-- whether some row has all arguments, none of them null
abbrev pub some_complete : List Row → Bool
some_complete = list_any (λ arguments. not (list_any is_null arguments))

-- over the arguments of each row: null where there is no row, not null where some row has all arguments, else either
abbrev pub over_rows : Tag → List Row → Run Value
over_rows of [] = pure Null
over_rows of (first ∷ more) = item_of (kind of (not (some_complete (first ∷ more))))

-- the table marks every aggregate but count strict, and count is never null
abbrev pub aggregated : Contents → Aggregation → List Row → Run Value
aggregated contents aggregation rows =
    expecting (is_routine true aggregation.routine
    && list_all (have_tags (given_tags contents aggregation.routine)) rows)
    (if aggregation.routine.strict then over_rows (tag contents aggregation.routine.of) rows
    else item_of (kind_of contents aggregation.routine.of false))

-- what an aggregate's operands are evaluated in
abbrev pub row_level : Level → Level
row_level (InRow ranges) = InRow ranges
row_level (InGroup ranges) = InRow ranges
row_level (InAll ranges) = InRow ranges

abbrev pub row_levels : List Level → List Level
row_levels [] = []
row_levels (level ∷ outer) = row_level level ∷ outer

abbrev pub row_scope : Scope → Scope
row_scope scope = record scope { levels = row_levels scope.levels }

-- the level is one of groups
abbrev pub HasGroups : List Level → Type 0
HasGroups [] = ⊥
HasGroups (InRow ranges ∷ outer) = ⊥
HasGroups (InGroup ranges ∷ outer) = ⊤
HasGroups (InAll ranges ∷ outer) = ⊤

-- whether a group may have no row: there is no GROUP BY
abbrev pub may_be_empty : List Level → Bool
may_be_empty (InGroup ranges ∷ outer) = false
may_be_empty _ = true

-- whether an aggregate may be null: it is no count, and there is no GROUP BY, or a FILTER, or an argument may be null
abbrev pub aggregate_mark : Aggregation → Bool → Bool → List Kind → Bool
aggregate_mark aggregation empty filtered arguments = aggregation.routine.strict
    && (empty || (filtered || any_nullable arguments))

-- an aggregate of the table over arguments of these tags
pub record AggregateTyped (contents : Contents) (aggregation : Aggregation) (arguments : List Tag) : Type 0 where
  pub row : is_routine true aggregation.routine ≡ true
  pub given : arguments ≡ given_tags contents aggregation.routine

-- Queries inside expressions.

abbrev pub exists : List Row → Run Value
exists [] = pure (Truth false)
exists (row ∷ more) = pure (Truth true)

-- the one value, null for no row
abbrev pub scalar : List Row → Run Value
scalar [] = pure Null
scalar (row ∷ []) = sole pure row
scalar (row ∷ second ∷ more) = fault

-- the values of the one column
abbrev pub column_of : List Row → Run (List Value)
column_of rows = all_of (map (sole pure) rows)

-- no operand
abbrev pub none : {A : Type 0} → Run A → List Value → Run A
none run [] = run
none run _ = stuck

-- whether a query has one column: its row of nulls has one
abbrev pub is_one : Row → Bool
is_one (value ∷ []) = true
is_one _ = false

-- of a query of one column
abbrev pub of_one : {A : Type 0} → Answered → Run A → Run A
of_one answered run = expecting (is_one answered.blank) run

-- what is asked of a query, beside what the operand gives
abbrev pub asked : Contents → Inner → List Value → Answered → Run Value
asked contents Exists operands answered = none (exists answered.rows) operands
asked contents (Scalar of) operands answered =
    none (of_one answered (scalar answered.rows >>= expect (tag contents of))) operands
asked contents (ArrayQuery of) operands answered =
    none (of_one answered (column_of answered.rows >>= array_of (tag contents of))) operands
asked contents (AnyQuery routine junction) operands answered =
    sole (λ left. of_one answered (with_left contents routine left (column_of answered.rows
    >>= with_each contents routine junction left))) operands

-- the kind of what is asked, over operands and columns of these kinds
abbrev pub inner_kind : Contents → Inner → List Kind → List Kind → Kind
inner_kind contents Exists operands columns = kind truth_tag false
inner_kind contents (Scalar of) operands columns = kind_of contents of true
inner_kind contents (ArrayQuery of) operands columns = kind (array_tag (tag contents of)) false
inner_kind contents (AnyQuery routine junction) operands columns =
    kind truth_tag (any_nullable operands || any_nullable columns)

abbrev pub OneCompared : Contents → Routine → List Kind → List Kind → Type 0
OneCompared contents routine (left ∷ []) (column ∷ []) = IsComparison contents routine left.of column.of
OneCompared contents routine _ _ = ⊥

-- the kinds of operands and columns over which what is asked is typed
abbrev pub InnerTyped : Contents → Inner → List Kind → List Kind → Type 0
InnerTyped contents Exists operands columns = operands ≡ []
InnerTyped contents (Scalar of) operands columns = (operands ≡ []) × (tags columns ≡ tag contents of ∷ [])
InnerTyped contents (ArrayQuery of) operands columns = (operands ≡ []) × IsElement (tag contents of)
    × (tags columns ≡ tag contents of ∷ [])
InnerTyped contents (AnyQuery routine junction) operands columns = OneCompared contents routine operands columns
