-- One lemma for each operation: over operands that fit it gives a value of its kind.
use Rattle.std.proofs.Common.{◌≡◌, Bool, true, false, not, ◌&&◌, ◌||◌, if◌then◌else◌, List, [], ◌∷◌, map, filter, Option, Some, None, option_map, refl, ap, sym, subst, ◌∙◌}
use Rattle.std.specs.List.{AllZip, AllByRecursion, list_any, list_all}
use Rattle.sq_base.specs.declared.types.PgType.{PgType}
use Rattle.sq_catalog.specs.Contents.{Contents}
use Rattle.sq_catalog.specs.UserTypes.{base}
use Rattle.sq_core.specs.declared.routine.Junction.{Junction}
use Rattle.sq_core.specs.declared.routine.Junction.TheVariants.{Any, All}
use Rattle.sq_core.specs.declared.routine.Operation.{Operation}
use Rattle.sq_core.specs.declared.routine.Operation.TheVariants.{Call, Convert, Extract, Collate, And, Or, Not, Case, Switch, Coalesce, Extreme, NullIf, NullTest, TruthTest, Distinct, InList, Symmetric, AnyArray, ArrayList, Subscript}
use Rattle.sq_core.specs.declared.routine.Routine.{Routine}
use Rattle.sq_core.specs.Answer.{Keeps, ◌>>=◌, pure, stuck, all_of}
use Rattle.sq_core.specs.Frames.{Setting}
use Rattle.sq_core.specs.Items.{Run, item_of, one_of}
use Rattle.sq_core.specs.Operations.{SymmetricCompared, both_ways, some_both, symmetric, both, Meaning, evaluate, expect, sole, pair, truth_of, is_true, joined, not_of, truth_test, castable, changed, converted, becomes, become, case_of, case_mark, CaseTyped, left_type, compared, switch_of, switch, switch_mark, Compares, ArmsTyped, SwitchTyped, first_of, coalesced, some_of, extreme, null_if, distinct, comparisons, in_list, with_each, any_element, any_array, left_fits, with_left, array_of, subscript, apply, null_if_kind, operation_kind, AllOf, IsSole, PairCompared, ListCompared, ArrayCompared, IsElement, OperationTyped}
use Rattle.sq_core.specs.Routines.{CallTyped, IsComparison, call_mark, called, computed, given_tags, have_tags, is_routine}
use Rattle.sq_base.specs.Casts.{is_same}
use Rattle.sq_core.specs.Values.{Value, Null, Truth, Array, Tagged, Values, End, Then, Tag, Kind, kind, kind_of, fits, Fits, RowFits, has_tag, all_have_tag, is_null, is_unknown, is_unknown_scalar, is_opaque, scalar_tag, same_bool, same_type, tag, tags, truth_tag, integer_tag, array_tag, element_tag, list_of, values_of, any_nullable, all_nullable}
use Rattle.sq_core.proofs.AnswerLemmas.{bind_keeps, weakens, tested_keeps, either_keeps, all_keep, each_keeps}
use Rattle.sq_core.proofs.TypeLemmas.{and_left, and_right, or_left, or_right, or_grows, or_neither, both_true, same_type-true, same_type-same}
use Rattle.sq_core.proofs.ValueLemmas.{both_fit, either_fit, truths_keep, fits_wider, fits_as, fits_tag, fits_not_null, null_nullable, null_among, row_widens, item_keeps, item_wider, expect_keeps, TruthFits, truth_keeps, value_of_truth_fits, joined_keeps, one_of_keeps}

-- what each operand gives in a setting fits its kind
abbrev pub OperandsKeep : Setting → List Kind → List Meaning → Type 0
OperandsKeep setting = AllZip (λ k meaning. Keeps (Fits k) (meaning setting))

pub evaluate_keeps : (setting : Setting) (ks : List Kind) (meanings : List Meaning) → OperandsKeep setting ks meanings → Keeps (RowFits ks) (evaluate meanings setting)
evaluate_keeps setting ks meanings keep = all_keep Fits ks (map (λ meaning. meaning setting) meanings) (each ks meanings keep)
  where
    each : (ks : List Kind) (meanings : List Meaning) → OperandsKeep setting ks meanings → AllZip (λ k run. Keeps (Fits k) run) ks (map (λ meaning. meaning setting) meanings)
    each [] [] keep = tt
    each [] (m ∷ meanings) keep = absurd keep
    each (k ∷ ks) [] keep = absurd keep
    each (k ∷ ks) (m ∷ meanings) keep = (keep.0, each ks meanings keep.1)

-- Calls.

tags_fit : (ks : List Kind) (values : List Value) → RowFits ks values → have_tags (tags ks) values ≡ true
tags_fit [] [] fit = refl
tags_fit [] (v ∷ values) fit = absurd fit
tags_fit (k ∷ ks) [] fit = absurd fit
tags_fit (k ∷ ks) (v ∷ values) fit = both_true _ _ (fits_tag k k.of v refl fit.0) (tags_fit ks values fit.1)

pub tags_given : (given : List Tag) (ks : List Kind) (values : List Value) → tags ks ≡ given → RowFits ks values → have_tags given values ≡ true
tags_given given ks values same fit = subst (λ ts. have_tags ts values ≡ true) same (tags_fit ks values fit)

computed_keeps : (contents : Contents) (routine : Routine) (ks : List Kind) (values : List Value) → RowFits ks values
    → Keeps (Fits (kind_of contents routine.of (call_mark routine ks))) (computed contents routine values)
computed_keeps contents routine ks values fit =
    either_keeps (Fits (kind_of contents routine.of (call_mark routine ks))) (routine.strict && list_any is_null values) (pure Null) (item_of (kind_of contents routine.of routine.may_null))
    (λ null oracle. or_right routine.may_null _ (both_true _ _ (and_left _ _ null) (null_among ks values fit (and_right routine.strict _ null))))
    (λ some. item_wider (tag contents routine.of) routine.may_null (call_mark routine ks) (λ may. or_left routine.may_null _ may))

pub called_keeps : (contents : Contents) (routine : Routine) (ks : List Kind) (values : List Value) → CallTyped contents routine (tags ks) → RowFits ks values
    → Keeps (Fits (kind_of contents routine.of (call_mark routine ks))) (called contents routine values)
called_keeps contents routine ks values typed fit =
    tested_keeps (Fits (kind_of contents routine.of (call_mark routine ks))) (is_routine false routine && have_tags (given_tags contents routine) values) (computed contents routine values) stuck
    (both_true _ _ typed.row (tags_given (given_tags contents routine) ks values typed.given fit)) (computed_keeps contents routine ks values fit)

comparison_mark : (may_null strict left right : Bool) → may_null ≡ false → strict ≡ true → (may_null || (strict && (left || (right || false)))) ≡ true → (left || right) ≡ true
comparison_mark may_null strict true right never is marked = refl
comparison_mark may_null strict false true never is marked = refl
comparison_mark may_null strict false false never is marked = let none : (may_null || (strict && false)) ≡ false = rw (never, is) refl in cc

-- a comparison gives a truth value, null only where an operand may be
pub comparison_keeps : (contents : Contents) (routine : Routine) (left right : Tag) (lm rm : Bool) (l r : Value) → IsComparison contents routine left right
    → Fits (kind left lm) l → Fits (kind right rm) r → Keeps (Fits (kind truth_tag (lm || rm))) (called contents routine (l ∷ r ∷ []))
comparison_keeps contents routine left right lm rm l r typed l_fits r_fits =
    let ks : List Kind = kind left lm ∷ kind right rm ∷ [] in
    weakens (Fits (kind_of contents routine.of (call_mark routine ks))) (Fits (kind truth_tag (lm || rm))) (called contents routine (l ∷ r ∷ []))
    (called_keeps contents routine ks (l ∷ r ∷ []) typed.row (l_fits, (r_fits, tt)))
    (λ v fit. fits_as (kind_of contents routine.of (call_mark routine ks)) truth_tag (lm || rm) v typed.result (comparison_mark routine.may_null routine.strict lm rm typed.never_null typed.strict) fit)

-- One operand, and two.

sole_keeps : {A : Type 0} (P : List Kind → A → Type 0) (of : Tag) (step : Value → Run A) (ks : List Kind) (values : List Value) → tags ks ≡ of ∷ [] → RowFits ks values
    → ((k : Kind) (v : Value) → k.of ≡ of → Fits k v → Keeps (P (k ∷ [])) (step v)) → Keeps (P ks) (sole step values)
sole_keeps P of step [] values same fit goes = cc
sole_keeps P of step (k ∷ []) [] same fit goes = absurd fit
sole_keeps P of step (k ∷ []) (v ∷ []) same fit goes = goes k v (cc) fit.0
sole_keeps P of step (k ∷ []) (v ∷ w ∷ values) same fit goes = absurd fit.1
sole_keeps P of step (k ∷ l ∷ ks) values same fit goes = cc

pair_keeps : {A : Type 0} (P : A → Type 0) (k l : Kind) (step : Value → Value → Run A) (values : List Value) → RowFits (k ∷ l ∷ []) values
    → ((v w : Value) → Fits k v → Fits l w → Keeps P (step v w)) → Keeps P (pair step values)
pair_keeps P k l step [] fit goes = absurd fit
pair_keeps P k l step (v ∷ []) fit goes = absurd fit.1
pair_keeps P k l step (v ∷ w ∷ []) fit goes = goes v w fit.0 fit.1.0
pair_keeps P k l step (v ∷ w ∷ x ∷ values) fit goes = absurd fit.1.1

-- Casts.

changed_keeps : (to : Tag) (marked wider : Bool) (from : Tag) (value : Value) → (marked ≡ true → wider ≡ true) → Fits (kind from marked) value → Keeps (Fits (kind to wider)) (changed to value)
changed_keeps to marked wider from Null grows fit = λ oracle. grows fit
changed_keeps to marked wider from (Truth b) grows fit = item_wider to false wider (λ e. cc)
changed_keeps to marked wider from (Array element values) grows fit = item_wider to false wider (λ e. cc)
changed_keeps to marked wider from (Tagged own number) grows fit = item_wider to false wider (λ e. cc)

converted_keeps : (contents : Contents) (from to : PgType) (k : Kind) (wider : Bool) (value : Value) → castable contents from to ≡ true → k.of ≡ tag contents from → (k.nullable ≡ true → wider ≡ true)
    → Fits k value → Keeps (Fits (kind_of contents to wider)) (converted contents from to value)
converted_keeps contents from to k wider value cast same grows fit =
    tested_keeps (Fits (kind_of contents to wider)) (castable contents from to && fits (kind (tag contents from) true) value) (changed (tag contents to) value) stuck
    (both_true _ _ cast (fits_tag k (tag contents from) value same fit)) (changed_keeps (tag contents to) k.nullable wider k.of value grows fit)

become_tested : (P : Value → Type 0) (b c : Bool) (one other : Run Value) → (b || c) ≡ true → (b ≡ true → Keeps P one) → (c ≡ true → Keeps P other) → Keeps P (if b then one else other)
become_tested P true c one other some on_true on_false = on_true refl
become_tested P false c one other some on_true on_false = on_false some

-- a value that stands as one of another type keeps its mark
pub become_keeps : (contents : Contents) (from to : PgType) (k : Kind) (wider : Bool) (value : Value) → becomes contents from to ≡ true → k.of ≡ tag contents from → (k.nullable ≡ true → wider ≡ true)
    → Fits k value → Keeps (Fits (kind_of contents to wider)) (become contents from to value)
become_keeps contents from to k wider value test same grows fit =
    become_tested (Fits (kind_of contents to wider)) (same_type (base contents from) (base contents to)) (castable contents from to) (expect (tag contents to) value) (converted contents from to value) test
    (λ one. let target : k.of ≡ tag contents to = same ∙ one_tag (same_type-true (base contents from) (base contents to) one) in
    expect_keeps (Fits (kind_of contents to wider)) (tag contents to) value (fits_tag k (tag contents to) value target fit) (fits_as k (tag contents to) wider value target grows fit))
    (λ cast. converted_keeps contents from to k wider value cast same grows fit)
  where
    one_tag : base contents from ≡ base contents to → tag contents from ≡ tag contents to
    one_tag one = ap (λ behind. record { scalar = scalar_tag behind.scalar; array = behind.array }) one

-- CASE.

case_keeps : (of : Tag) (setting : Setting) (ks : List Kind) (meanings : List Meaning) → CaseTyped of ks → OperandsKeep setting ks meanings → Keeps (Fits (kind of (case_mark ks))) (case_of meanings setting)
case_keeps of setting [] [] typed keep = λ oracle. refl
case_keeps of setting [] (m ∷ meanings) typed keep = absurd keep
case_keeps of setting (k ∷ ks) [] typed keep = absurd keep
case_keeps of setting (k ∷ []) (m ∷ []) typed keep = weakens (Fits k) (Fits (kind of k.nullable)) (m setting) keep.0 (λ v fit. fits_as k of k.nullable v typed (λ e. e) fit)
case_keeps of setting (k ∷ []) (m ∷ n ∷ meanings) typed keep = absurd keep.1
case_keeps of setting (k ∷ l ∷ ks) (m ∷ []) typed keep = absurd keep.1
case_keeps of setting (k ∷ l ∷ ks) (m ∷ n ∷ meanings) typed keep =
    bind_keeps (TruthFits k.nullable) (Fits (kind of (case_mark (k ∷ l ∷ ks)))) (m setting >>= truth_of) _
    (bind_keeps (Fits k) (TruthFits k.nullable) (m setting) truth_of keep.0 (λ v fit. truth_keeps k.nullable v (fits_as k truth_tag k.nullable v typed.0 (λ e. e) fit)))
    (λ t known. either_keeps (Fits (kind of (case_mark (k ∷ l ∷ ks)))) (is_true t) (n setting) (case_of meanings setting)
    (λ yes. weakens (Fits l) (Fits (kind of (case_mark (k ∷ l ∷ ks)))) (n setting) keep.1.0 (λ v fit. fits_as l of (case_mark (k ∷ l ∷ ks)) v typed.1 (λ e. or_left l.nullable _ e) fit))
    (λ no. weakens (Fits (kind of (case_mark ks))) (Fits (kind of (case_mark (k ∷ l ∷ ks)))) (case_of meanings setting) (case_keeps of setting ks meanings typed.2 keep.1.1)
    (λ v fit. fits_wider of (case_mark ks) (case_mark (k ∷ l ∷ ks)) v (λ e. or_right l.nullable _ e) fit)))

-- a subject compared with a value
compared_keeps : (contents : Contents) (from : PgType) (routine : Routine) (s k : Kind) (subject value : Value) → s.of ≡ tag contents from → Compares contents from routine k.of
    → Fits s subject → Fits k value → Keeps (Fits (kind truth_tag (s.nullable || k.nullable))) (compared contents from routine subject value)
compared_keeps contents from routine s k subject value same typed subject_fits value_fits =
    bind_keeps (Fits (kind_of contents (left_type routine from) s.nullable)) (Fits (kind truth_tag (s.nullable || k.nullable))) (become contents from (left_type routine from) subject) _
    (become_keeps contents from (left_type routine from) s s.nullable subject typed.left same (λ e. e) subject_fits)
    (λ left left_fits. comparison_keeps contents routine (tag contents (left_type routine from)) k.of s.nullable k.nullable left value typed.row left_fits value_fits)

arms_keep : (contents : Contents) (from : PgType) (of : Tag) (s : Kind) (subject : Value) (setting : Setting) (routines : List Routine) (ks : List Kind) (meanings : List Meaning)
    → s.of ≡ tag contents from → Fits s subject → ArmsTyped contents from of routines ks → OperandsKeep setting ks meanings
    → Keeps (Fits (kind of (case_mark ks))) (switch_of contents from routines subject meanings setting)
arms_keep contents from of s subject setting [] [] [] same fit typed keep = λ oracle. refl
arms_keep contents from of s subject setting [] (k ∷ []) (m ∷ []) same fit typed keep =
    weakens (Fits k) (Fits (kind of k.nullable)) (m setting) keep.0 (λ v v_fits. fits_as k of k.nullable v typed (λ e. e) v_fits)
arms_keep contents from of s subject setting (routine ∷ routines) (k ∷ l ∷ ks) (m ∷ n ∷ meanings) same fit typed keep =
    bind_keeps (TruthFits (s.nullable || k.nullable)) (Fits (kind of (case_mark (k ∷ l ∷ ks)))) (m setting >>= compared contents from routine subject >>= truth_of) _
    (bind_keeps (Fits (kind truth_tag (s.nullable || k.nullable))) (TruthFits (s.nullable || k.nullable)) (m setting >>= compared contents from routine subject) truth_of
    (bind_keeps (Fits k) (Fits (kind truth_tag (s.nullable || k.nullable))) (m setting) (compared contents from routine subject) keep.0
    (λ v v_fits. compared_keeps contents from routine s k subject v same typed.0 fit v_fits))
    (λ v v_fits. truth_keeps (s.nullable || k.nullable) v v_fits))
    (λ t known. either_keeps (Fits (kind of (case_mark (k ∷ l ∷ ks)))) (is_true t) (n setting) (switch_of contents from routines subject meanings setting)
    (λ yes. weakens (Fits l) (Fits (kind of (case_mark (k ∷ l ∷ ks)))) (n setting) keep.1.0 (λ v v_fits. fits_as l of (case_mark (k ∷ l ∷ ks)) v typed.1 (λ e. or_left l.nullable _ e) v_fits))
    (λ no. weakens (Fits (kind of (case_mark ks))) (Fits (kind of (case_mark (k ∷ l ∷ ks)))) (switch_of contents from routines subject meanings setting)
    (arms_keep contents from of s subject setting routines ks meanings same fit typed.2 keep.1.1)
    (λ v v_fits. fits_wider of (case_mark ks) (case_mark (k ∷ l ∷ ks)) v (λ e. or_right l.nullable _ e) v_fits)))
arms_keep contents from of s subject setting [] [] (m ∷ meanings) same fit typed keep = absurd keep
arms_keep contents from of s subject setting [] (k ∷ []) [] same fit typed keep = absurd keep
arms_keep contents from of s subject setting [] (k ∷ []) (m ∷ n ∷ meanings) same fit typed keep = absurd keep.1
arms_keep contents from of s subject setting [] (k ∷ l ∷ ks) meanings same fit typed keep = absurd typed
arms_keep contents from of s subject setting (routine ∷ routines) [] meanings same fit typed keep = absurd typed
arms_keep contents from of s subject setting (routine ∷ routines) (k ∷ []) meanings same fit typed keep = absurd typed
arms_keep contents from of s subject setting (routine ∷ routines) (k ∷ l ∷ ks) [] same fit typed keep = absurd keep
arms_keep contents from of s subject setting (routine ∷ routines) (k ∷ l ∷ ks) (m ∷ []) same fit typed keep = absurd keep.1

switch_keeps : (contents : Contents) (from : PgType) (of : Tag) (setting : Setting) (routines : List Routine) (ks : List Kind) (meanings : List Meaning)
    → SwitchTyped contents from of routines ks → OperandsKeep setting ks meanings → Keeps (Fits (kind of (switch_mark ks))) (switch contents from routines meanings setting)
switch_keeps contents from of setting routines [] meanings typed keep = absurd typed
switch_keeps contents from of setting routines (s ∷ ks) [] typed keep = absurd keep
switch_keeps contents from of setting routines (s ∷ ks) (m ∷ meanings) typed keep =
    bind_keeps (Fits s) (Fits (kind of (case_mark ks))) (m setting) _ keep.0 (λ subject fit. arms_keep contents from of s subject setting routines ks meanings typed.0 fit typed.1 keep.1)

-- a value of a kind passes the test of its tag
expected : (of : Tag) (marked : Bool) (run : Run Value) → Keeps (Fits (kind of marked)) run → Keeps (Fits (kind of marked)) (run >>= expect of)
expected of marked run keep = bind_keeps (Fits (kind of marked)) (Fits (kind of marked)) run (expect of) keep (λ v fit. expect_keeps (Fits (kind of marked)) of v (fits_tag (kind of marked) of v refl fit) fit)

-- COALESCE and its like.

first_of_fits : (of : Tag) (ks : List Kind) (values : List Value) → AllOf of ks → RowFits ks values → Fits (kind of (all_nullable ks)) (first_of values)
first_of_fits of [] [] all fit = refl
first_of_fits of [] (v ∷ values) all fit = absurd fit
first_of_fits of (k ∷ ks) [] all fit = absurd fit
first_of_fits of (k ∷ ks) (v ∷ values) all fit = tested (is_null v) refl (first_of_fits of ks values all.1 fit.1)
  where
    tested : (b : Bool) → is_null v ≡ b → Fits (kind of (all_nullable ks)) (first_of values) → Fits (kind of (all_nullable (k ∷ ks))) (if b then first_of values else v)
    tested true null rest = fits_wider of (all_nullable ks) (all_nullable (k ∷ ks)) (first_of values) (λ e. both_true _ _ (null_nullable k v fit.0 null) e) rest
    tested false some rest = fits_not_null of k.nullable (all_nullable (k ∷ ks)) v some (fits_as k of k.nullable v all.0 (λ e. e) fit.0)

-- those that are not null
abbrev not_nulls : List Value → List Value
not_nulls = filter (λ value. not (is_null value))

not_nulls_fit : (of : Tag) (values : List Value) → AllByRecursion (Fits (kind of true)) values → AllByRecursion (Fits (kind of false)) (not_nulls values)
not_nulls_fit of [] all = tt
not_nulls_fit of (Null ∷ values) all = not_nulls_fit of values all.1
not_nulls_fit of (Truth b ∷ values) all = (all.0, not_nulls_fit of values all.1)
not_nulls_fit of (Array element items ∷ values) all = (all.0, not_nulls_fit of values all.1)
not_nulls_fit of (Tagged own number ∷ values) all = (all.0, not_nulls_fit of values all.1)

-- where all are null, all marks are nullable
none_left : (ks : List Kind) (values : List Value) → RowFits ks values → not_nulls values ≡ [] → all_nullable ks ≡ true
none_left [] values fit none = refl
none_left (k ∷ ks) [] fit none = absurd fit
none_left (k ∷ ks) (Null ∷ values) fit none = both_true _ _ fit.0 (none_left ks values fit.1 none)
none_left (k ∷ ks) (Truth b ∷ values) fit none = cc
none_left (k ∷ ks) (Array element items ∷ values) fit none = cc
none_left (k ∷ ks) (Tagged own number ∷ values) fit none = cc

some_of_keeps : (of : Tag) (marked : Bool) (values : List Value) → AllByRecursion (Fits (kind of false)) values → (values ≡ [] → marked ≡ true) → Keeps (Fits (kind of marked)) (some_of values)
some_of_keeps of marked [] all none = λ oracle. none refl
some_of_keeps of marked (v ∷ values) all none =
    weakens (Fits (kind of false)) (Fits (kind of marked)) (one_of (v ∷ values)) (one_of_keeps (Fits (kind of false)) (v ∷ values) all) (λ w fit. fits_wider of false marked w (λ e. cc) fit)

all_test : {A : Type 0} (test : A → Bool) (xs : List A) → AllByRecursion (λ x. test x ≡ true) xs → list_all test xs ≡ true
all_test test [] all = refl
all_test test (x ∷ xs) all = both_true _ _ all.0 (all_test test xs all.1)

extreme_keeps : (of : Tag) (ks : List Kind) (values : List Value) → AllOf of ks → RowFits ks values → Keeps (Fits (kind of (all_nullable ks))) (extreme of values)
extreme_keeps of ks values all fit =
    let each : AllByRecursion (Fits (kind of true)) values = row_widens of ks values true all fit (λ e. refl) in
    tested_keeps (Fits (kind of (all_nullable ks))) (list_all (fits (kind of true)) values) (some_of (not_nulls values)) stuck
    (all_test (fits (kind of true)) values each)
    (some_of_keeps of (all_nullable ks) (not_nulls values) (not_nulls_fit of values each) (none_left ks values fit))

coalesced_keeps : (of : Tag) (ks : List Kind) (values : List Value) → AllOf of ks → RowFits ks values → Keeps (Fits (kind of (all_nullable ks))) (coalesced of values)
coalesced_keeps of ks values all fit =
    tested_keeps (Fits (kind of (all_nullable ks))) (list_all (fits (kind of true)) values) (pure (first_of values)) stuck
    (all_test (fits (kind of true)) values (row_widens of ks values true all fit (λ e. refl))) (λ oracle. first_of_fits of ks values all fit)

-- NULLIF, IS DISTINCT FROM, lists and arrays.

null_or_left : (k : Kind) (b : Bool) (value : Value) → Fits k value → Fits (kind k.of true) (if b then Null else value)
null_or_left k true value fit = refl
null_or_left k false value fit = fits_tag k k.of value refl fit

null_if_keeps : (contents : Contents) (routine : Routine) (k l : Kind) (left right : Value) → IsComparison contents routine k.of l.of → Fits k left → Fits l right
    → Keeps (Fits (kind k.of true)) (null_if contents routine left right)
null_if_keeps contents routine k l left right typed left_fits right_fits =
    bind_keeps (TruthFits (k.nullable || l.nullable)) (Fits (kind k.of true)) (called contents routine (left ∷ right ∷ []) >>= truth_of) _
    (bind_keeps (Fits (kind truth_tag (k.nullable || l.nullable))) (TruthFits (k.nullable || l.nullable)) (called contents routine (left ∷ right ∷ [])) truth_of
    (comparison_keeps contents routine k.of l.of k.nullable l.nullable left right typed left_fits right_fits) (λ v fit. truth_keeps (k.nullable || l.nullable) v fit))
    (λ t known oracle. null_or_left k (is_true t) left left_fits)

distinct_keeps : (contents : Contents) (routine : Routine) (negated : Bool) (k l : Kind) (left right : Value) → IsComparison contents routine k.of l.of → Fits k left → Fits l right
    → Keeps (Fits (kind truth_tag false)) (distinct contents routine negated left right)
distinct_keeps contents routine negated k l left right typed left_fits right_fits =
    bind_keeps (TruthFits (k.nullable || l.nullable)) (Fits (kind truth_tag false)) (called contents routine (left ∷ right ∷ []) >>= truth_of) _
    (bind_keeps (Fits (kind truth_tag (k.nullable || l.nullable))) (TruthFits (k.nullable || l.nullable)) (called contents routine (left ∷ right ∷ [])) truth_of
    (comparison_keeps contents routine k.of l.of k.nullable l.nullable left right typed left_fits right_fits) (λ v fit. truth_keeps (k.nullable || l.nullable) v fit))
    (λ t known oracle. refl)

comparisons_keep : (contents : Contents) (from : PgType) (s : Kind) (subject : Value) (marked : Bool) (routines : List Routine) (ks : List Kind) (values : List Value)
    → s.of ≡ tag contents from → Fits s subject → AllZip (λ routine k. Compares contents from routine k.of) routines ks → RowFits ks values → ((s.nullable || any_nullable ks) ≡ true → marked ≡ true)
    → Keeps (AllByRecursion (Fits (kind truth_tag marked))) (comparisons contents from subject routines values)
comparisons_keep contents from s subject marked [] [] [] same fit typed row grows = λ oracle. tt
comparisons_keep contents from s subject marked [] [] (v ∷ values) same fit typed row grows = absurd row
comparisons_keep contents from s subject marked [] (k ∷ ks) values same fit typed row grows = absurd typed
comparisons_keep contents from s subject marked (routine ∷ routines) [] values same fit typed row grows = absurd typed
comparisons_keep contents from s subject marked (routine ∷ routines) (k ∷ ks) [] same fit typed row grows = absurd row
comparisons_keep contents from s subject marked (routine ∷ routines) (k ∷ ks) (v ∷ values) same fit typed row grows =
    bind_keeps (Fits (kind truth_tag marked)) (AllByRecursion (Fits (kind truth_tag marked))) (compared contents from routine subject v) _
    (weakens (Fits (kind truth_tag (s.nullable || k.nullable))) (Fits (kind truth_tag marked)) (compared contents from routine subject v)
    (compared_keeps contents from routine s k subject v same typed.0 fit row.0)
    (λ w w_fits. fits_wider truth_tag (s.nullable || k.nullable) marked w (λ e. grows (or_grows s.nullable s.nullable k.nullable (k.nullable || any_nullable ks) (λ h. h) (λ h. or_left k.nullable _ h) e)) w_fits))
    (λ b b_fits. bind_keeps (AllByRecursion (Fits (kind truth_tag marked))) (AllByRecursion (Fits (kind truth_tag marked))) (comparisons contents from subject routines values) _
    (comparisons_keep contents from s subject marked routines ks values same fit typed.1 row.1 (λ e. grows (or_grows s.nullable s.nullable (any_nullable ks) (k.nullable || any_nullable ks) (λ h. h) (λ h. or_right k.nullable _ h) e)))
    (λ rest rest_fits oracle. (b_fits, rest_fits)))

in_list_keeps : (contents : Contents) (junction : Junction) (from : PgType) (routines : List Routine) (ks : List Kind) (values : List Value) → ListCompared contents from routines ks → RowFits ks values
    → Keeps (Fits (kind truth_tag (any_nullable ks))) (in_list contents junction from routines values)
in_list_keeps contents junction from routines [] values typed fit = absurd typed
in_list_keeps contents junction from routines (s ∷ ks) [] typed fit = absurd fit
in_list_keeps contents junction from routines (s ∷ ks) (subject ∷ values) typed fit =
    bind_keeps (AllByRecursion (Fits (kind truth_tag (any_nullable (s ∷ ks))))) (Fits (kind truth_tag (any_nullable (s ∷ ks)))) (comparisons contents from subject routines values) (joined junction)
    (comparisons_keep contents from s subject (any_nullable (s ∷ ks)) routines ks values typed.0 fit.0 typed.1 fit.1 (λ e. e))
    (λ truths known. joined_keeps (any_nullable (s ∷ ks)) junction truths known)

-- an operand with each of some values
pub with_each_keeps : (contents : Contents) (routine : Routine) (junction : Junction) (k : Kind) (right : Tag) (rm : Bool) (left : Value) (values : List Value) → IsComparison contents routine k.of right
    → Fits k left → AllByRecursion (Fits (kind right rm)) values → Keeps (Fits (kind truth_tag (k.nullable || rm))) (with_each contents routine junction left values)
with_each_keeps contents routine junction k right rm left values typed left_fits all =
    bind_keeps (AllByRecursion (Fits (kind truth_tag (k.nullable || rm)))) (Fits (kind truth_tag (k.nullable || rm))) (all_of (map (λ value. called contents routine (left ∷ value ∷ [])) values)) (joined junction)
    (each_keeps (Fits (kind right rm)) (Fits (kind truth_tag (k.nullable || rm))) (λ value. called contents routine (left ∷ value ∷ [])) values all
    (λ v v_fits. comparison_keeps contents routine k.of right k.nullable rm left v typed left_fits v_fits))
    (λ truths known. joined_keeps (k.nullable || rm) junction truths known)

-- the elements of an array are null or have the element's tag
elements_fit : (of : Tag) (values : Values) → all_have_tag of values ≡ true → AllByRecursion (Fits (kind of true)) (list_of values)
elements_fit of End all = tt
elements_fit of (Then value values) all = (element_fits value (and_left _ _ all), elements_fit of values (and_right (is_null value || has_tag of value) _ all))
  where
    element_fits : (value : Value) → (is_null value || has_tag of value) ≡ true → Fits (kind of true) value
    element_fits Null some = refl
    element_fits (Truth b) some = or_right (is_unknown of) _ some
    element_fits (Array element items) some = or_right (is_unknown of) _ some
    element_fits (Tagged own number) some = or_right (is_unknown of) _ some

not_array : (scalars array : Bool) → array ≡ true → (scalars && same_bool array false) ≡ true → false ≡ true
not_array true true is same = same
not_array true false is same = is
not_array false array is same = same

known_array : (of : Tag) → of.array ≡ true → is_unknown of ≡ false
known_array of is = unknown_array (is_unknown_scalar of.scalar) of.array is
  where
    unknown_array : (scalar array : Bool) → array ≡ true → (scalar && not array) ≡ false
    unknown_array true true is = refl
    unknown_array true false is = cc
    unknown_array false array is = refl

-- the left operand has its tag
pub with_left_keeps : (P : Value → Type 0) (contents : Contents) (routine : Routine) (k : Kind) (right : Tag) (left : Value) (run : Run Value) → IsComparison contents routine k.of right → Fits k left → Keeps P run
    → Keeps P (with_left contents routine left run)
with_left_keeps P contents routine k right left run typed fit keep =
    tested_keeps P (left_fits (given_tags contents routine) left) run stuck (subst (λ ts. left_fits ts left ≡ true) typed.row.given (fits_tag k k.of left refl fit)) keep

any_element_keeps : (contents : Contents) (routine : Routine) (junction : Junction) (k l : Kind) (left right : Value) → l.of.array ≡ true → IsComparison contents routine k.of (element_tag l.of)
    → Fits k left → Fits l right → Keeps (Fits (kind truth_tag true)) (any_element contents routine junction left right)
any_element_keeps contents routine junction k l left Null array typed left_fits right_fits = λ oracle. refl
any_element_keeps contents routine junction k l left (Truth b) array typed left_fits right_fits =
    let tagged : same_type l.of truth_tag ≡ true = or_neither (is_unknown l.of) _ (known_array l.of array) right_fits in
    let wrong : false ≡ true = not_array (is_same l.of.scalar truth_tag.scalar) l.of.array array tagged in cc
any_element_keeps contents routine junction k l left (Array element values) array typed left_fits right_fits =
    let tagged : ((l.of.array && same_type (element_tag l.of) element) && all_have_tag (element_tag l.of) values) ≡ true = or_neither (is_unknown l.of) _ (known_array l.of array) right_fits in
    weakens (Fits (kind truth_tag (k.nullable || true))) (Fits (kind truth_tag true)) (with_each contents routine junction left (list_of values))
    (with_each_keeps contents routine junction k (element_tag l.of) true left (list_of values) typed left_fits (elements_fit (element_tag l.of) values (and_right (l.of.array && same_type (element_tag l.of) element) _ tagged)))
    (λ v fit. fits_wider truth_tag (k.nullable || true) true v (λ e. refl) fit)
any_element_keeps contents routine junction k l left (Tagged own number) array typed left_fits right_fits =
    let tagged : (is_opaque own && same_type l.of own) ≡ true = or_neither (is_unknown l.of) _ (known_array l.of array) right_fits in
    let wrong : false ≡ true = opaque_array own (subst (λ t. t.array ≡ true) (same_type-true l.of own (and_right (is_opaque own) _ tagged)) array) (and_left _ _ tagged) in cc
  where
    opaque_array : (own : Tag) → own.array ≡ true → is_opaque own ≡ true → false ≡ true
    opaque_array own is opaque = opaque_either own.array (same_type own truth_tag) is opaque
      where
        opaque_either : (array truth : Bool) → array ≡ true → not (array || truth) ≡ true → false ≡ true
        opaque_either true truth is opaque = opaque
        opaque_either false truth is opaque = is

any_array_keeps : (contents : Contents) (routine : Routine) (junction : Junction) (k l : Kind) (left right : Value) → l.of.array ≡ true → IsComparison contents routine k.of (element_tag l.of)
    → Fits k left → Fits l right → Keeps (Fits (kind truth_tag true)) (any_array contents routine junction left right)
any_array_keeps contents routine junction k l left right array typed left_fits right_fits =
    with_left_keeps (Fits (kind truth_tag true)) contents routine k (element_tag l.of) left (any_element contents routine junction left right) typed left_fits
    (any_element_keeps contents routine junction k l left right array typed left_fits right_fits)

-- Arrays.

element_of_array : (of : Tag) → of.array ≡ false → element_tag (array_tag of) ≡ of
element_of_array of scalar = λ i. record { scalar = of.scalar; array = sym scalar i }

tagged_element : (of : Tag) (value : Value) → is_unknown of ≡ false → Fits (kind of true) value → (is_null value || has_tag of value) ≡ true
tagged_element of Null known fit = refl
tagged_element of (Truth b) known fit = or_neither (is_unknown of) _ known fit
tagged_element of (Array element items) known fit = or_neither (is_unknown of) _ known fit
tagged_element of (Tagged own number) known fit = or_neither (is_unknown of) _ known fit

values_tagged : (of : Tag) (values : List Value) → is_unknown of ≡ false → AllByRecursion (Fits (kind of true)) values → all_have_tag of (values_of values) ≡ true
values_tagged of [] known all = refl
values_tagged of (v ∷ values) known all = both_true _ _ (tagged_element of v known all.0) (values_tagged of values known all.1)

array_fits : (of : Tag) (values : List Value) → IsElement of → AllByRecursion (Fits (kind of true)) values → Fits (kind (array_tag of) false) (Array of (values_of values))
array_fits of values element all =
    or_right (is_unknown (array_tag of)) _ (both_true _ _ (subst (λ t. same_type t of ≡ true) (sym (element_of_array of element.scalar)) (same_type-same of))
    (subst (λ t. all_have_tag t (values_of values) ≡ true) (sym (element_of_array of element.scalar)) (values_tagged of values element.known all)))

pub array_of_keeps : (of : Tag) (values : List Value) → IsElement of → AllByRecursion (Fits (kind of true)) values → Keeps (Fits (kind (array_tag of) false)) (array_of of values)
array_of_keeps of values element all =
    tested_keeps (Fits (kind (array_tag of) false)) (list_all (fits (kind of true)) values) (pure (Array of (values_of values))) stuck (all_test (fits (kind of true)) values all)
    (λ oracle. array_fits of values element all)

subscript_keeps : (of : Tag) (ks : List Kind) (values : List Value) → tags ks ≡ array_tag of ∷ integer_tag ∷ [] → RowFits ks values → Keeps (Fits (kind of true)) (pair (subscript of) values)
subscript_keeps of [] values same fit = cc
subscript_keeps of (k ∷ []) values same fit = cc
subscript_keeps of (k ∷ l ∷ []) values same fit =
    pair_keeps (Fits (kind of true)) k l (subscript of) values fit
    (λ v w v_fits w_fits. tested_keeps (Fits (kind of true)) (have_tags (array_tag of ∷ integer_tag ∷ []) (v ∷ w ∷ [])) _ stuck
    (tags_given (array_tag of ∷ integer_tag ∷ []) (k ∷ l ∷ []) (v ∷ w ∷ []) same (v_fits, (w_fits, tt))) (item_keeps (kind of true)))
subscript_keeps of (k ∷ l ∷ m ∷ ks) values same fit = cc

-- All operations.

one_mark : (k : Kind) → k.nullable ≡ true → any_nullable (k ∷ []) ≡ true
one_mark k is = or_left k.nullable false is

-- of one operand, whatever its tag
alone_keeps : (P : Value → Type 0) (step : Value → Run Value) (ks : List Kind) (values : List Value) → IsSole ks → RowFits ks values → ((v : Value) → Keeps P (step v)) → Keeps P (sole step values)
alone_keeps P step [] values one fit goes = absurd one
alone_keeps P step (k ∷ []) [] one fit goes = absurd fit
alone_keeps P step (k ∷ []) (v ∷ []) one fit goes = goes v
alone_keeps P step (k ∷ []) (v ∷ w ∷ values) one fit goes = absurd fit.1
alone_keeps P step (k ∷ l ∷ ks) values one fit goes = absurd one

-- of two operands that are compared
compared_pair : (contents : Contents) (routine : Routine) (P : List Kind → Value → Type 0) (step : Value → Value → Run Value) (ks : List Kind) (values : List Value) → PairCompared contents routine ks → RowFits ks values
    → ((k l : Kind) (v w : Value) → IsComparison contents routine k.of l.of → Fits k v → Fits l w → Keeps (P (k ∷ l ∷ [])) (step v w)) → Keeps (P ks) (pair step values)
compared_pair contents routine P step [] values typed fit goes = absurd typed
compared_pair contents routine P step (k ∷ []) values typed fit goes = absurd typed
compared_pair contents routine P step (k ∷ l ∷ []) values typed fit goes = pair_keeps (P (k ∷ l ∷ [])) k l step values fit (λ v w v_fits w_fits. goes k l v w typed v_fits w_fits)
compared_pair contents routine P step (k ∷ l ∷ m ∷ ks) values typed fit goes = absurd typed

array_pair : (contents : Contents) (routine : Routine) (junction : Junction) (ks : List Kind) (values : List Value) → ArrayCompared contents routine ks → RowFits ks values
    → Keeps (Fits (kind truth_tag true)) (pair (any_array contents routine junction) values)
array_pair contents routine junction [] values typed fit = absurd typed
array_pair contents routine junction (k ∷ []) values typed fit = absurd typed
array_pair contents routine junction (k ∷ l ∷ []) values typed fit =
    pair_keeps (Fits (kind truth_tag true)) k l (any_array contents routine junction) values fit (λ v w v_fits w_fits. any_array_keeps contents routine junction k l v w typed.0 typed.1 v_fits w_fits)
array_pair contents routine junction (k ∷ l ∷ m ∷ ks) values typed fit = absurd typed

not_fits : (nullable : Bool) (t : Option Bool) → TruthFits nullable t → TruthFits nullable (option_map not t)
not_fits nullable None fit = fit
not_fits nullable (Some b) fit = tt

some_both_fit : (m : Bool) (truths : List (Option Bool)) → AllByRecursion (TruthFits m) truths → TruthFits m (some_both truths)
some_both_fit m [] fit = tt
some_both_fit m (a ∷ []) fit = fit.0
some_both_fit m (a ∷ b ∷ more) fit = either_fit m (both a b) (some_both more) (both_fit m a b fit.0 fit.1.0) (some_both_fit m more fit.1.1)

symmetric_mark : (s l h : Bool) → (s || (l || (h || (h || (l || false))))) ≡ true → (s || (l || (h || false))) ≡ true
symmetric_mark true l h marked = refl
symmetric_mark false true h marked = refl
symmetric_mark false false true marked = refl
symmetric_mark false false false marked = marked

bounds_fit : (l h : Kind) (values : List Value) → RowFits (l ∷ h ∷ []) values → RowFits (l ∷ h ∷ h ∷ l ∷ []) (both_ways values)
bounds_fit l h [] fit = absurd fit
bounds_fit l h (v ∷ []) fit = absurd fit.1
bounds_fit l h (v ∷ w ∷ []) fit = (fit.0, (fit.1.0, (fit.1.0, (fit.0, tt))))
bounds_fit l h (v ∷ w ∷ x ∷ values) fit = absurd fit.1.1

symmetric_keeps : (contents : Contents) (from : PgType) (routines : List Routine) (ks : List Kind) (values : List Value) → SymmetricCompared contents from routines ks → RowFits ks values
    → Keeps (Fits (kind truth_tag (any_nullable ks))) (symmetric contents from routines values)
symmetric_keeps contents from routines [] values typed fit = absurd typed
symmetric_keeps contents from routines (s ∷ []) values typed fit = absurd typed
symmetric_keeps contents from routines (s ∷ l ∷ []) values typed fit = absurd typed
symmetric_keeps contents from routines (s ∷ l ∷ h ∷ []) [] typed fit = absurd fit
symmetric_keeps contents from routines (s ∷ l ∷ h ∷ []) (subject ∷ values) typed fit =
    let marked : Bool = any_nullable (s ∷ l ∷ h ∷ []) in
    bind_keeps (AllByRecursion (Fits (kind truth_tag marked))) (Fits (kind truth_tag marked)) (comparisons contents from subject routines (both_ways values)) _
    (comparisons_keep contents from s subject marked routines (l ∷ h ∷ h ∷ l ∷ []) (both_ways values) typed.0 fit.0 typed.1 (bounds_fit l h values fit.1) (symmetric_mark s.nullable l.nullable h.nullable))
    (λ truths known. bind_keeps (AllByRecursion (TruthFits marked)) (Fits (kind truth_tag marked)) (all_of (map truth_of truths)) _ (truths_keep marked truths known)
    (λ ts ts_fit oracle. value_of_truth_fits marked (some_both ts) (some_both_fit marked ts ts_fit)))
symmetric_keeps contents from routines (s ∷ l ∷ h ∷ k ∷ ks) values typed fit = absurd typed

pub apply_keeps : (contents : Contents) (operation : Operation) (setting : Setting) (ks : List Kind) (meanings : List Meaning) → OperationTyped contents operation ks → OperandsKeep setting ks meanings
    → Keeps (Fits (operation_kind contents operation ks)) (apply contents operation meanings setting)
apply_keeps contents (Call routine) setting ks meanings typed keep =
    bind_keeps (RowFits ks) (Fits (kind_of contents routine.of (call_mark routine ks))) (evaluate meanings setting) (called contents routine) (evaluate_keeps setting ks meanings keep)
    (λ values fit. called_keeps contents routine ks values typed fit)
apply_keeps contents (Convert from to) setting ks meanings typed keep =
    bind_keeps (RowFits ks) (Fits (kind_of contents to (any_nullable ks))) (evaluate meanings setting) (sole (converted contents from to)) (evaluate_keeps setting ks meanings keep)
    (λ values fit. sole_keeps (λ ks. Fits (kind_of contents to (any_nullable ks))) (tag contents from) (converted contents from to) ks values typed.1 fit
    (λ k v same v_fits. converted_keeps contents from to k (any_nullable (k ∷ [])) v typed.0 same (one_mark k) v_fits))
apply_keeps contents (Extract field routine) setting ks meanings typed keep =
    bind_keeps (RowFits ks) (Fits (kind_of contents routine.of (call_mark routine ks))) (evaluate meanings setting) (called contents routine) (evaluate_keeps setting ks meanings keep)
    (λ values fit. called_keeps contents routine ks values typed fit)
apply_keeps contents (Collate name of) setting ks meanings typed keep =
    bind_keeps (RowFits ks) (Fits (kind_of contents of (any_nullable ks))) (evaluate meanings setting) _ (evaluate_keeps setting ks meanings keep)
    (λ values fit. sole_keeps (λ ks. Fits (kind_of contents of (any_nullable ks))) (tag contents of) _ ks values typed fit
    (λ k v same v_fits. bind_keeps (Fits (kind_of contents of k.nullable)) (Fits (kind_of contents of (any_nullable (k ∷ [])))) (expect (tag contents of) v) (changed (tag contents of))
    (expect_keeps (Fits (kind_of contents of k.nullable)) (tag contents of) v (fits_tag k (tag contents of) v same v_fits) (fits_as k (tag contents of) k.nullable v same (λ e. e) v_fits))
    (λ w w_fits. changed_keeps (tag contents of) k.nullable (any_nullable (k ∷ [])) (tag contents of) w (one_mark k) w_fits)))
apply_keeps contents And setting ks meanings typed keep =
    bind_keeps (RowFits ks) (Fits (kind truth_tag (any_nullable ks))) (evaluate meanings setting) (joined All) (evaluate_keeps setting ks meanings keep)
    (λ values fit. joined_keeps (any_nullable ks) All values (row_widens truth_tag ks values (any_nullable ks) typed fit (λ e. e)))
apply_keeps contents Or setting ks meanings typed keep =
    bind_keeps (RowFits ks) (Fits (kind truth_tag (any_nullable ks))) (evaluate meanings setting) (joined Any) (evaluate_keeps setting ks meanings keep)
    (λ values fit. joined_keeps (any_nullable ks) Any values (row_widens truth_tag ks values (any_nullable ks) typed fit (λ e. e)))
apply_keeps contents Not setting ks meanings typed keep =
    bind_keeps (RowFits ks) (Fits (kind truth_tag (any_nullable ks))) (evaluate meanings setting) (sole not_of) (evaluate_keeps setting ks meanings keep)
    (λ values fit. sole_keeps (λ ks. Fits (kind truth_tag (any_nullable ks))) truth_tag not_of ks values typed fit
    (λ k v same v_fits. bind_keeps (TruthFits (any_nullable (k ∷ []))) (Fits (kind truth_tag (any_nullable (k ∷ [])))) (truth_of v) _
    (truth_keeps (any_nullable (k ∷ [])) v (fits_as k truth_tag (any_nullable (k ∷ [])) v same (one_mark k) v_fits))
    (λ t known oracle. value_of_truth_fits (any_nullable (k ∷ [])) (option_map not t) (not_fits (any_nullable (k ∷ [])) t known))))
apply_keeps contents (Case of) setting ks meanings typed keep = expected (tag contents of) (case_mark ks) (case_of meanings setting) (case_keeps (tag contents of) setting ks meanings typed keep)
apply_keeps contents (Switch from routines of) setting ks meanings typed keep =
    expected (tag contents of) (switch_mark ks) (switch contents from routines meanings setting) (switch_keeps contents from (tag contents of) setting routines ks meanings typed keep)
apply_keeps contents (Coalesce of) setting ks meanings typed keep =
    bind_keeps (RowFits ks) (Fits (kind_of contents of (all_nullable ks))) (evaluate meanings setting) (coalesced (tag contents of)) (evaluate_keeps setting ks meanings keep)
    (λ values fit. coalesced_keeps (tag contents of) ks values typed fit)
apply_keeps contents (Extreme which of) setting ks meanings typed keep =
    bind_keeps (RowFits ks) (Fits (kind_of contents of (all_nullable ks))) (evaluate meanings setting) (extreme (tag contents of)) (evaluate_keeps setting ks meanings keep)
    (λ values fit. extreme_keeps (tag contents of) ks values typed fit)
apply_keeps contents (NullIf routine) setting ks meanings typed keep =
    bind_keeps (RowFits ks) (Fits (null_if_kind ks)) (evaluate meanings setting) (pair (null_if contents routine)) (evaluate_keeps setting ks meanings keep)
    (λ values fit. compared_pair contents routine (λ ks. Fits (null_if_kind ks)) (null_if contents routine) ks values typed fit (null_if_keeps contents routine))
apply_keeps contents (NullTest negated) setting ks meanings typed keep =
    bind_keeps (RowFits ks) (Fits (kind truth_tag false)) (evaluate meanings setting) _ (evaluate_keeps setting ks meanings keep)
    (λ values fit. alone_keeps (Fits (kind truth_tag false)) _ ks values typed fit (λ v oracle. refl))
apply_keeps contents (TruthTest word negated) setting ks meanings typed keep =
    bind_keeps (RowFits ks) (Fits (kind truth_tag false)) (evaluate meanings setting) (sole (truth_test word negated)) (evaluate_keeps setting ks meanings keep)
    (λ values fit. sole_keeps (λ ks. Fits (kind truth_tag false)) truth_tag (truth_test word negated) ks values typed fit
    (λ k v same v_fits. bind_keeps (TruthFits k.nullable) (Fits (kind truth_tag false)) (truth_of v) _ (truth_keeps k.nullable v (fits_as k truth_tag k.nullable v same (λ e. e) v_fits)) (λ t known oracle. refl)))
apply_keeps contents (Distinct routine negated) setting ks meanings typed keep =
    bind_keeps (RowFits ks) (Fits (kind truth_tag false)) (evaluate meanings setting) (pair (distinct contents routine negated)) (evaluate_keeps setting ks meanings keep)
    (λ values fit. compared_pair contents routine (λ ks. Fits (kind truth_tag false)) (distinct contents routine negated) ks values typed fit (distinct_keeps contents routine negated))
apply_keeps contents (InList junction from routines) setting ks meanings typed keep =
    bind_keeps (RowFits ks) (Fits (kind truth_tag (any_nullable ks))) (evaluate meanings setting) (in_list contents junction from routines) (evaluate_keeps setting ks meanings keep)
    (λ values fit. in_list_keeps contents junction from routines ks values typed fit)
apply_keeps contents (Symmetric from routines) setting ks meanings typed keep =
    bind_keeps (RowFits ks) (Fits (kind truth_tag (any_nullable ks))) (evaluate meanings setting) (symmetric contents from routines) (evaluate_keeps setting ks meanings keep)
    (λ values fit. symmetric_keeps contents from routines ks values typed fit)
apply_keeps contents (AnyArray routine junction) setting ks meanings typed keep =
    bind_keeps (RowFits ks) (Fits (kind truth_tag true)) (evaluate meanings setting) (pair (any_array contents routine junction)) (evaluate_keeps setting ks meanings keep)
    (λ values fit. array_pair contents routine junction ks values typed fit)
apply_keeps contents (ArrayList of) setting ks meanings typed keep =
    bind_keeps (RowFits ks) (Fits (kind (array_tag (tag contents of)) false)) (evaluate meanings setting) (array_of (tag contents of)) (evaluate_keeps setting ks meanings keep)
    (λ values fit. array_of_keeps (tag contents of) values typed.0 (row_widens (tag contents of) ks values true typed.1 fit (λ e. refl)))
apply_keeps contents (Subscript of) setting ks meanings typed keep =
    bind_keeps (RowFits ks) (Fits (kind_of contents of true)) (evaluate meanings setting) (pair (subscript (tag contents of))) (evaluate_keeps setting ks meanings keep)
    (λ values fit. subscript_keeps (tag contents of) ks values typed.1 fit)
