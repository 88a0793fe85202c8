-- The steps of a query over what fits.
use Rattle.std.proofs.Common.{◌≡◌, ◌≢◌, ◌==◌, ℕ, Bool, true, false, if◌then◌else◌, List, [], ◌∷◌, ◌++◌, map, Option, Some, None, unwrap_or, refl, subst, IsSome}
use Rattle.std.specs.List.{AllZip, AllByRecursion, list_all}
use Rattle.sq_catalog.specs.Contents.{Contents}
use Rattle.sq_catalog.specs.declared.table.Table.{Table}
use Rattle.sq_core.specs.declared.routine.Manner.{Manner}
use Rattle.sq_core.specs.declared.routine.SetLink.{SetLink}
use Rattle.sq_core.specs.Answer.{Keeps, ◌>>=◌, pure, stuck, next_item, all_of}
use Rattle.sq_core.specs.Frames.{Joined, Frame, One, Group, Answered, Drawn, Setting, Ranges, Level, InRow, InGroup, InAll, Scope, enter, below, one_range, JoinedFits, AllJoinedFit, GroupFits, FrameFits, AnsweredFits, DrawnFits, SettingFits}
use Rattle.sq_core.specs.Items.{found, places_of, sublist, permutation, stretch, rise, follow}
use Rattle.sq_core.specs.Joins.{QueryMeaning, kept, operated_all, all_set_kinds}
use Rattle.sq_core.specs.Operations.{Meaning, evaluate, AllOf}
use Rattle.sq_core.specs.Queries.{SourceMeaning, alone, stored, drawn_all, all_sides, put, numbered, split, Grouping, Rows, Whole, Groups, grouping_of, is_written, frames_of, level_of, own_rows, own_groups, with_all, beside, arranged_by, selected, combined, combined_kinds, CombinedTyped, is_limit, shortened, limited, kinds_in}
use Rattle.sq_core.specs.Values.{Value, Row, Kind, kind, Fits, RowFits, RowsFit, bigint_tag, truth_tag, table_kinds}
use Rattle.sq_core.proofs.AnswerLemmas.{bind_keeps, tested_keeps, either_keeps, each_keeps}
use Rattle.sq_core.proofs.ValueLemmas.{row_widens, arranged_keep, next_places_keep}
use Rattle.sq_core.proofs.OperationLemmas.{OperandsKeep, evaluate_keeps}
use Rattle.sq_core.proofs.FrameLemmas.{Leads, entered_fits, all_map, crossed_fit, nulls_blank, mapped_blank, one_range_fits, all_append}
use Rattle.sq_core.proofs.JoinLemmas.{ConditionsKeep, kept_keeps}
use Rattle.sq_core.proofs.SetLemmas.{operated_all_keeps}

-- in every setting that fits, a meaning gives a value of the kind
abbrev pub Sound : Scope → Kind → Meaning → Type 0
Sound scope k meaning = (setting : Setting) → SettingFits scope setting → Keeps (Fits k) (meaning setting)

abbrev pub AllSound : Scope → List Kind → List Meaning → Type 0
AllSound scope = AllZip (Sound scope)

abbrev pub ConditionsSound : Scope → List Meaning → Type 0
ConditionsSound scope = AllByRecursion (Sound scope (kind truth_tag true))

pub keep_in : (scope : Scope) (ks : List Kind) (meanings : List Meaning) → AllSound scope ks meanings → (setting : Setting) → SettingFits scope setting → OperandsKeep setting ks meanings
keep_in scope [] [] sound setting fit = tt
keep_in scope [] (m ∷ meanings) sound setting fit = absurd sound
keep_in scope (k ∷ ks) [] sound setting fit = absurd sound
keep_in scope (k ∷ ks) (m ∷ meanings) sound setting fit = (sound.0 setting fit, keep_in scope ks meanings sound.1 setting fit)

pub conditions_in : (scope : Scope) (conditions : List Meaning) → ConditionsSound scope conditions → (setting : Setting) → SettingFits scope setting → ConditionsKeep setting conditions
conditions_in scope [] sound setting fit = tt
conditions_in scope (m ∷ conditions) sound setting fit = (sound.0 setting fit, conditions_in scope conditions sound.1 setting fit)

-- FROM.

-- in every setting that fits, a source gives rows of its ranges
abbrev pub SourceSound : Scope → Ranges → SourceMeaning → Type 0
SourceSound scope ranges source = (setting : Setting) → SettingFits scope setting → Keeps (DrawnFits ranges) (source setting)

pub drawn_all_keeps : (scope : Scope) (sides : List Ranges) (sources : List SourceMeaning) → AllZip (SourceSound scope) sides sources → (setting : Setting) → SettingFits scope setting
    → Keeps (DrawnFits (all_sides sides)) (drawn_all sources setting)
drawn_all_keeps scope [] [] sound setting fit = λ oracle. ((tt, tt), ((tt, tt), tt))
drawn_all_keeps scope [] (source ∷ sources) sound setting fit = absurd sound
drawn_all_keeps scope (ranges ∷ sides) [] sound setting fit = absurd sound
drawn_all_keeps scope (ranges ∷ sides) (source ∷ sources) sound setting fit =
    bind_keeps (DrawnFits ranges) (DrawnFits (all_sides (ranges ∷ sides))) (source setting) _ (sound.0 setting fit)
    (λ left left_fits. bind_keeps (DrawnFits (all_sides sides)) (DrawnFits (all_sides (ranges ∷ sides))) (drawn_all sources setting) _ (drawn_all_keeps scope sides sources sound.1 setting fit)
    (λ right right_fits oracle. crossed_fit ranges (all_sides sides) left right left_fits right_fits))

-- the rows of a table that is there
pub table_keeps : (contents : Contents) (table : Option Table) (rows : Option (List Row)) → IsSome table → Leads (λ t rows. RowsFit (table_kinds contents t) rows) table rows
    → Keeps (DrawnFits (one_range (kinds_in contents table))) (found rows >>= (λ rows. pure (alone (stored table rows))))
table_keeps contents (Some table) (Some rows) there leads = λ oracle. one_range_fits (table_kinds contents table) (stored (Some table) rows) (mapped_blank _ table.columns, leads)
table_keeps contents (Some table) None there leads = absurd leads
table_keeps contents None rows there leads = cc

-- what a query of WITH gave
pub common_keeps : (ks : Option (List Kind)) (answered : Option Answered) → IsSome ks → Leads AnsweredFits ks answered
    → Keeps (DrawnFits (one_range (unwrap_or ks []))) (found answered >>= (λ answered. pure (alone answered)))
common_keeps (Some ks) (Some answered) there leads = λ oracle. one_range_fits ks answered leads
common_keeps (Some ks) None there leads = absurd leads
common_keeps None answered there leads = cc

-- Groups.

-- the rows of a group, of which there is one
abbrev NumberedFits : Ranges → ℕ × List Joined → Type 0
NumberedFits ranges group = AllJoinedFit ranges group.1 × (group.1 ≢ [])

some_more : {A : Type 0} (xs : List A) (x : A) → xs ++ x ∷ [] ≢ []
some_more [] x = λ e. cc
some_more (y ∷ xs) x = λ e. cc

put_fits : (ranges : Ranges) (number : ℕ) (row : Joined) (groups : List (ℕ × List Joined)) → JoinedFits ranges row → AllByRecursion (NumberedFits ranges) groups → AllByRecursion (NumberedFits ranges) (put number row groups)
put_fits ranges number row [] row_fits fit = (((row_fits, tt), λ e. cc), tt)
put_fits ranges number row (group ∷ more) row_fits fit = tested (number == group.0) (put_fits ranges number row more row_fits fit.1)
  where
    tested : (b : Bool) → AllByRecursion (NumberedFits ranges) (put number row more) → AllByRecursion (NumberedFits ranges) (if b then (group.0, group.1 ++ row ∷ []) ∷ more else group ∷ put number row more)
    tested true rest = ((all_append (JoinedFits ranges) group.1 (row ∷ []) fit.0.0 (row_fits, tt), some_more group.1 row), fit.1)
    tested false rest = (fit.0, rest)

numbered_keep : (ranges : Ranges) (numbers : List ℕ) (rows : List Joined) (groups : List (ℕ × List Joined)) → AllJoinedFit ranges rows → AllByRecursion (NumberedFits ranges) groups
    → Keeps (AllByRecursion (NumberedFits ranges)) (numbered numbers rows groups)
numbered_keep ranges [] [] groups fit groups_fit = λ oracle. groups_fit
numbered_keep ranges [] (row ∷ rows) groups fit groups_fit = λ oracle. tt
numbered_keep ranges (number ∷ numbers) [] groups fit groups_fit = λ oracle. tt
numbered_keep ranges (number ∷ numbers) (row ∷ rows) groups fit groups_fit = numbered_keep ranges numbers rows (put number row groups) fit.1 (put_fits ranges number row groups fit.0 groups_fit)

split_keeps : (ranges : Ranges) (rows : List Joined) → AllJoinedFit ranges rows → Keeps (AllByRecursion (FrameFits (InGroup ranges))) (split rows)
split_keeps ranges rows fit =
    bind_keeps (AllByRecursion (NumberedFits ranges)) (AllByRecursion (FrameFits (InGroup ranges))) (next_item >>= places_of >>= (λ numbers. numbered numbers rows [])) _
    (bind_keeps (λ places. Unit {0}) (AllByRecursion (NumberedFits ranges)) (next_item >>= places_of) _ next_places_keep (λ numbers known. numbered_keep ranges numbers rows [] fit tt))
    (λ groups groups_fit oracle. all_map (NumberedFits ranges) (FrameFits (InGroup ranges)) _ groups groups_fit (λ group group_fits. (group_fits, tt)))

frames_keep : (grouping : Grouping) (scope : Scope) (ranges : Ranges) (gks : List Kind) (items : List Meaning) → AllSound (below scope (InRow ranges)) gks items → (outer : Setting) → SettingFits scope outer
    → (rows : List Joined) → AllJoinedFit ranges rows → Keeps (AllByRecursion (FrameFits (level_of grouping ranges))) (frames_of grouping items outer rows)
frames_keep Rows scope ranges gks items sound outer fit rows rows_fit = λ oracle. all_map (JoinedFits ranges) (FrameFits (InRow ranges)) (λ row. One row []) rows rows_fit (λ row row_fits. (row_fits, tt))
frames_keep Whole scope ranges gks items sound outer fit rows rows_fit = λ oracle. ((rows_fit, tt), tt)
frames_keep Groups scope ranges gks items sound outer fit rows rows_fit =
    bind_keeps (RowsFit gks) (AllByRecursion (FrameFits (InGroup ranges))) (all_of (map (λ row. evaluate items (enter outer (One row []))) rows)) _
    (each_keeps (JoinedFits ranges) (RowFits gks) (λ row. evaluate items (enter outer (One row []))) rows rows_fit
    (λ row row_fits. evaluate_keeps (enter outer (One row [])) gks items (keep_in (below scope (InRow ranges)) gks items sound (enter outer (One row [])) (entered_fits scope outer (InRow ranges) (One row []) fit (row_fits, tt)))))
    (λ values known. split_keeps ranges rows rows_fit)

own_rows_fit : (ranges : Ranges) (frames : List Frame) → AllByRecursion (FrameFits (InRow ranges)) frames → AllJoinedFit ranges (own_rows frames)
own_rows_fit ranges [] fit = tt
own_rows_fit ranges (One row all ∷ frames) fit = (fit.0.0, own_rows_fit ranges frames fit.1)
own_rows_fit ranges (Group rows all ∷ frames) fit = absurd fit.0

own_groups_fit : (ranges : Ranges) (frames : List Frame) → AllByRecursion (FrameFits (InGroup ranges)) frames → AllByRecursion (GroupFits ranges) (own_groups frames)
own_groups_fit ranges [] fit = tt
own_groups_fit ranges (One row all ∷ frames) fit = absurd fit.0
own_groups_fit ranges (Group rows all ∷ frames) fit = (fit.0.0, own_groups_fit ranges frames fit.1)

own_wholes_fit : (ranges : Ranges) (frames : List Frame) → AllByRecursion (FrameFits (InAll ranges)) frames → AllByRecursion (AllJoinedFit ranges) (own_groups frames)
own_wholes_fit ranges [] fit = tt
own_wholes_fit ranges (One row all ∷ frames) fit = absurd fit.0
own_wholes_fit ranges (Group rows all ∷ frames) fit = (fit.0.0, own_wholes_fit ranges frames fit.1)

-- frames with all rows or groups beside them fit
beside_fit : (level : Level) (frames : List Frame) → AllByRecursion (FrameFits level) frames → AllByRecursion (FrameFits level) (beside frames)
beside_fit (InRow ranges) frames fit = all_map (FrameFits (InRow ranges)) (FrameFits (InRow ranges)) (with_all (own_rows frames) (own_groups frames)) frames fit each
  where
    each : (frame : Frame) → FrameFits (InRow ranges) frame → FrameFits (InRow ranges) (with_all (own_rows frames) (own_groups frames) frame)
    each (One row all) frame_fits = (frame_fits.0, own_rows_fit ranges frames fit)
    each (Group rows all) frame_fits = absurd frame_fits
beside_fit (InGroup ranges) frames fit = all_map (FrameFits (InGroup ranges)) (FrameFits (InGroup ranges)) (with_all (own_rows frames) (own_groups frames)) frames fit each
  where
    each : (frame : Frame) → FrameFits (InGroup ranges) frame → FrameFits (InGroup ranges) (with_all (own_rows frames) (own_groups frames) frame)
    each (One row all) frame_fits = absurd frame_fits
    each (Group rows all) frame_fits = (frame_fits.0, own_groups_fit ranges frames fit)
beside_fit (InAll ranges) frames fit = all_map (FrameFits (InAll ranges)) (FrameFits (InAll ranges)) (with_all (own_rows frames) (own_groups frames)) frames fit each
  where
    each : (frame : Frame) → FrameFits (InAll ranges) frame → FrameFits (InAll ranges) (with_all (own_rows frames) (own_groups frames) frame)
    each (One row all) frame_fits = absurd frame_fits
    each (Group rows all) frame_fits = (frame_fits.0, own_wholes_fit ranges frames fit)

arranged_by_keeps : (ks : List Kind) (manner : Manner) (rows : List Row) → RowsFit ks rows → Keeps (RowsFit ks) (arranged_by manner rows)
arranged_by_keeps ks manner rows fit =
    bind_keeps (RowsFit ks) (RowsFit ks) (if manner.distinct then sublist rows else pure rows) _
    (either_keeps (RowsFit ks) manner.distinct (sublist rows) (pure rows) (λ yes. arranged_keep (RowFits ks) rise rows fit) (λ no oracle. fit))
    (λ distinct distinct_fit. either_keeps (RowsFit ks) manner.ordered (permutation distinct) (pure distinct) (λ yes. arranged_keep (RowFits ks) _ distinct distinct_fit) (λ no oracle. distinct_fit))

-- a row of values for each frame
frame_rows : (scope : Scope) (level : Level) (ks : List Kind) (meanings : List Meaning) → AllSound (below scope level) ks meanings → (outer : Setting) → SettingFits scope outer → (frames : List Frame)
    → AllByRecursion (FrameFits level) frames → Keeps (RowsFit ks) (all_of (map (λ frame. evaluate meanings (enter outer frame)) frames))
frame_rows scope level ks meanings sound outer fit frames frames_fit =
    each_keeps (FrameFits level) (RowFits ks) (λ frame. evaluate meanings (enter outer frame)) frames frames_fit
    (λ frame frame_fits. evaluate_keeps (enter outer frame) ks meanings (keep_in (below scope level) ks meanings sound (enter outer frame) (entered_fits scope outer level frame fit frame_fits)))

pub selected_keeps : (manner : Manner) (grouping : Grouping) (scope : Scope) (ranges : Ranges) (gks ks kks : List Kind) (conditions groups having outputs keys : List Meaning)
    → grouping ≡ grouping_of manner.grouped (is_written groups) (is_written having) → ConditionsSound (below scope (InRow ranges)) conditions → AllSound (below scope (InRow ranges)) gks groups → ConditionsSound (below scope (level_of grouping ranges)) having
    → AllSound (below scope (level_of grouping ranges)) ks outputs → AllSound (below scope (level_of grouping ranges)) kks keys
    → (outer : Setting) → SettingFits scope outer → (drawn : Drawn) → DrawnFits ranges drawn → Keeps (AnsweredFits ks) (selected manner conditions groups having outputs keys outer drawn)
selected_keeps manner grouping scope ranges gks ks kks conditions groups having outputs keys same conditions_sound groups_sound having_sound outputs_sound keys_sound outer fit drawn drawn_fits =
    let level : Level = level_of grouping ranges in
    bind_keeps (AllByRecursion (FrameFits level)) (AnsweredFits ks) _ _
    (bind_keeps (AllByRecursion (FrameFits level)) (AllByRecursion (FrameFits level)) _ (kept having (enter outer))
    (bind_keeps (AllJoinedFit ranges) (AllByRecursion (FrameFits level)) (kept conditions (λ row. enter outer (One row [])) drawn.rows) (frames_of (grouping_of manner.grouped (is_written groups) (is_written having)) groups outer)
    (kept_keeps (JoinedFits ranges) conditions (λ row. enter outer (One row [])) drawn.rows
    (λ row row_fits. conditions_in (below scope (InRow ranges)) conditions conditions_sound (enter outer (One row [])) (entered_fits scope outer (InRow ranges) (One row []) fit (row_fits, tt))) drawn_fits.1)
    (λ rows rows_fit. subst (λ g. Keeps (AllByRecursion (FrameFits level)) (frames_of g groups outer rows)) same (frames_keep grouping scope ranges gks groups groups_sound outer fit rows rows_fit)))
    (λ frames frames_fit. kept_keeps (FrameFits level) having (enter outer) frames
    (λ frame frame_fits. conditions_in (below scope level) having having_sound (enter outer frame) (entered_fits scope outer level frame fit frame_fits)) frames_fit))
    (λ frames frames_fit. bind_keeps (RowsFit ks) (AnsweredFits ks) (all_of (map (λ frame. evaluate outputs (enter outer frame)) (beside frames))) _
    (frame_rows scope level ks outputs outputs_sound outer fit (beside frames) (beside_fit level frames frames_fit))
    (λ answers answers_fit. bind_keeps (RowsFit kks) (AnsweredFits ks) (all_of (map (λ frame. evaluate keys (enter outer frame)) (beside frames))) _
    (frame_rows scope level kks keys keys_sound outer fit (beside frames) (beside_fit level frames frames_fit))
    (λ values values_fit. bind_keeps (RowsFit ks) (AnsweredFits ks) (arranged_by manner answers) _ (arranged_by_keeps ks manner answers answers_fit)
    (λ rows rows_fit oracle. (nulls_blank ks outputs (Sound (below scope level)) outputs_sound, rows_fit)))))

-- Set operations, WITH and LIMIT.

abbrev pub QuerySound : Scope → List Kind → QueryMeaning → Type 0
QuerySound scope ks query = (setting : Setting) → SettingFits scope setting → Keeps (AnsweredFits ks) (query setting)

queries_in : (scope : Scope) (kss : List (List Kind)) (queries : List QueryMeaning) → AllZip (QuerySound scope) kss queries → (setting : Setting) → SettingFits scope setting
    → AllZip (λ ks query. Keeps (AnsweredFits ks) (query setting)) kss queries
queries_in scope [] [] sound setting fit = tt
queries_in scope [] (query ∷ queries) sound setting fit = absurd sound
queries_in scope (ks ∷ kss) [] sound setting fit = absurd sound
queries_in scope (ks ∷ kss) (query ∷ queries) sound setting fit = (sound.0 setting fit, queries_in scope kss queries sound.1 setting fit)

pub combined_keeps : (contents : Contents) (links : List SetLink) (scope : Scope) (kss : List (List Kind)) (queries : List QueryMeaning) → CombinedTyped contents links kss → AllZip (QuerySound scope) kss queries
    → (setting : Setting) → SettingFits scope setting → Keeps (AnsweredFits (combined_kinds contents links kss)) (combined links contents queries setting)
combined_keeps contents links scope [] queries typed sound setting fit = absurd typed
combined_keeps contents links scope (ks ∷ kss) [] typed sound setting fit = absurd sound
combined_keeps contents links scope (ks ∷ kss) (query ∷ queries) typed sound setting fit =
    bind_keeps (AnsweredFits ks) (AnsweredFits (all_set_kinds contents links kss ks)) (query setting) (operated_all contents links queries setting) (sound.0 setting fit)
    (λ answered answered_fits. operated_all_keeps contents links kss queries setting ks answered typed (queries_in scope kss queries sound.1 setting fit) answered_fits)

are_limits : (lks : List Kind) (limits : List Value) → AllOf bigint_tag lks → RowFits lks limits → list_all is_limit limits ≡ true
are_limits lks limits all fit = each limits (row_widens bigint_tag lks limits true all fit (λ e. refl))
  where
    each : (limits : List Value) → AllByRecursion (Fits (kind bigint_tag true)) limits → list_all is_limit limits ≡ true
    each [] all = refl
    each (v ∷ limits) all = rw (all.0, each limits all.1) refl

shortened_keeps : (ks : List Kind) (limits : List Value) (rows : List Row) → list_all is_limit limits ≡ true → RowsFit ks rows → Keeps (RowsFit ks) (shortened limits rows)
shortened_keeps ks [] rows limits_fit fit = λ oracle. fit
shortened_keeps ks (v ∷ limits) rows limits_fit fit = tested_keeps (RowsFit ks) (list_all is_limit (v ∷ limits)) (stretch rows) stuck limits_fit (arranged_keep (RowFits ks) follow rows fit)

pub limited_keeps : (ordered : Bool) (scope : Scope) (ks kks lks : List Kind) (keys limits : List Meaning) → AllSound scope kks keys → AllSound scope lks limits → AllOf bigint_tag lks
    → (setting : Setting) → SettingFits scope setting → (answered : Answered) → AnsweredFits ks answered → Keeps (AnsweredFits ks) (limited ordered keys limits setting answered)
limited_keeps ordered scope ks kks lks keys limits keys_sound sound all setting fit answered answered_fits =
    bind_keeps (RowsFit ks) (AnsweredFits ks) _ _
    (bind_keeps (RowFits lks) (RowsFit ks) (all_of (map (λ row. evaluate keys setting) answered.rows) >>= (λ keyed. evaluate limits setting)) _
    (bind_keeps (AllByRecursion (RowFits kks)) (RowFits lks) (all_of (map (λ row. evaluate keys setting) answered.rows)) _
    (each_keeps (RowFits ks) (RowFits kks) (λ row. evaluate keys setting) answered.rows answered_fits.1 (λ row row_fits. evaluate_keeps setting kks keys (keep_in scope kks keys keys_sound setting fit)))
    (λ keyed keyed_fit. evaluate_keeps setting lks limits (keep_in scope lks limits sound setting fit)))
    (λ values values_fit. bind_keeps (RowsFit ks) (RowsFit ks) (if ordered then permutation answered.rows else pure answered.rows) (shortened values)
    (either_keeps (RowsFit ks) ordered (permutation answered.rows) (pure answered.rows) (λ yes. arranged_keep (RowFits ks) _ answered.rows answered_fits.1) (λ no oracle. answered_fits.1))
    (λ rows rows_fit. shortened_keeps ks values rows (are_limits lks values all values_fit) rows_fit)))
    (λ rows rows_fit oracle. (answered_fits.0, rows_fit))
