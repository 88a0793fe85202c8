-- What an operation gives over its operands, what kind that is, and over which kinds it is typed.
use Rattle.std.specs.Prelude.{◌≡◌, Bool, true, false, not, ◌&&◌, ◌||◌, if◌then◌else◌, List, [], ◌∷◌, map, filter, Option, Some, None, slice_get, unwrap_or, option_map, ⊤}
use Rattle.std.specs.List.{AllByRecursion, AllZip, list_any, list_all}
use Rattle.sq_base.specs.declared.conversion.Cast.{Cast}
use Rattle.sq_base.specs.declared.conversion.Cast.TheVariants.{Nothing}
use Rattle.sq_base.specs.declared.types.PgType.{PgType}
use Rattle.sq_base.specs.Casts.{cast}
use Rattle.sq_catalog.specs.Contents.{Contents}
use Rattle.sq_core.specs.declared.routine.Junction.{Junction}
use Rattle.sq_core.specs.declared.routine.Junction.TheVariants.{Any, All}
use Rattle.sq_core.specs.declared.routine.Operation.{Operation}
use Rattle.sq_core.specs.declared.routine.Operation.TheVariants.{Call, Convert, Extract, Collate, And, Or, Not, Case, Switch, Coalesce, Extreme, NullIf, NullTest, TruthTest, Distinct, InList, Symmetric, AnyArray, ArrayList, Subscript}
use Rattle.sq_core.specs.declared.routine.Routine.{Routine}
use Rattle.sq_core.specs.declared.routine.Truth.{Truth as TruthWord}
use Rattle.sq_core.specs.declared.routine.Truth.TheVariants.{True, False, Unknown}
use Rattle.sq_core.specs.Answer.{◌>>=◌, pure, stuck, all_of}
use Rattle.sq_core.specs.Frames.{Setting}
use Rattle.sq_core.specs.Items.{Run, expecting, item_of, one_of}
use Rattle.sq_core.specs.Routines.{CallTyped, IsComparison, call_mark, called, given_tags, have_tags}
use Rattle.sq_catalog.specs.UserTypes.{base}
use Rattle.sq_core.specs.Values.{Value, Null, Truth, Array, Row, Tag, Kind, kind, kind_of, fits, tag, tags, same_type, is_null, is_unknown, truth_tag, integer_tag, array_tag, element_tag, list_of, values_of, any_nullable, all_nullable}

-- what an expression gives in a setting
abbrev pub Meaning : Type 0
Meaning = Setting → Run Value

-- each in the same setting
abbrev pub evaluate : List Meaning → Setting → Run Row
evaluate meanings setting = all_of (map (λ meaning. meaning setting) meanings)

-- the value, which is null or of the tag
abbrev pub expect : Tag → Value → Run Value
expect of value = expecting (fits (kind of true) value) (pure value)

-- of the one operand
abbrev pub sole : {A : Type 0} → (Value → Run A) → List Value → Run A
sole step (value ∷ []) = step value
sole step _ = stuck

-- of the two operands
abbrev pub pair : {A : Type 0} → (Value → Value → Run A) → List Value → Run A
pair step (left ∷ right ∷ []) = step left right
pair step _ = stuck

-- Truth values.

-- a truth value or null, as true, false or none
abbrev pub truth_of : Value → Run (Option Bool)
truth_of Null = pure None
truth_of (Truth b) = pure (Some b)
truth_of _ = stuck

abbrev pub value_of_truth : Option Bool → Value
value_of_truth None = Null
value_of_truth (Some b) = Truth b

abbrev pub is_true : Option Bool → Bool
is_true (Some true) = true
is_true _ = false

-- three-valued AND and OR
abbrev pub both : Option Bool → Option Bool → Option Bool
both (Some false) _ = Some false
both (Some true) b = b
both None (Some false) = Some false
both None _ = None

abbrev pub either : Option Bool → Option Bool → Option Bool
either (Some true) _ = Some true
either (Some false) b = b
either None (Some true) = Some true
either None _ = None

abbrev pub join : Junction → List (Option Bool) → Option Bool
join Any [] = Some false
join Any (b ∷ more) = either b (join Any more)
join All [] = Some true
join All (b ∷ more) = both b (join All more)

-- truth values joined
abbrev pub joined : Junction → List Value → Run Value
joined junction values = all_of (map truth_of values) >>= (λ truths. pure (value_of_truth (join junction truths)))

abbrev pub not_of : Value → Run Value
not_of value = truth_of value >>= (λ t. pure (value_of_truth (option_map not t)))

abbrev pub negate : Bool → Bool → Bool
negate negated b = if negated then not b else b

abbrev pub is_word : TruthWord → Option Bool → Bool
is_word True t = is_true t
is_word False (Some false) = true
is_word False _ = false
is_word Unknown None = true
is_word Unknown _ = false

-- IS TRUE and its like
abbrev pub truth_test : TruthWord → Bool → Value → Run Value
truth_test word negated value = truth_of value >>= (λ t. pure (Truth (negate negated (is_word word t))))

-- Casts.

abbrev pub is_nothing : Cast → Bool
is_nothing Nothing = true
is_nothing _ = false

-- whether there is a cast; a domain counts as its base
abbrev pub castable : Contents → PgType → PgType → Bool
castable contents from to = not (is_nothing (cast (base contents from) (base contents to)))

-- null is null, else the item, not null
abbrev pub changed : Tag → Value → Run Value
changed to Null = pure Null
changed to _ = item_of (kind to false)

-- a cast
abbrev pub converted : Contents → PgType → PgType → Value → Run Value
converted contents from to value =
    expecting (castable contents from to
    && fits (kind (tag contents from) true) value) (changed (tag contents to) value)

-- whether values of a type may stand as those of another: the types are one behind domains, or there is a cast
abbrev pub becomes : Contents → PgType → PgType → Bool
becomes contents from to = same_type (base contents from) (base contents to) || castable contents from to

-- a value as one of another type, converted where the type is another
abbrev pub become : Contents → PgType → PgType → Value → Run Value
become contents from to value =
    if same_type (base contents from) (base contents to) then expect (tag contents to) value
    else converted contents from to value

-- CASE.

-- conditions with their results, then ELSE: the first result whose condition is true, else ELSE, else null
abbrev pub case_of : List Meaning → Meaning
case_of [] setting = pure Null
case_of (otherwise ∷ []) setting = otherwise setting
case_of (condition ∷ result ∷ more) setting =
    condition setting >>= truth_of >>= (λ t. if is_true t then result setting else case_of more setting)

-- whether it may be null: there is no ELSE, or some result is
abbrev pub case_mark : List Kind → Bool
case_mark [] = true
case_mark (otherwise ∷ []) = otherwise.nullable
case_mark (condition ∷ result ∷ more) = result.nullable || case_mark more

-- conditions are truth values, and results have the tag
abbrev pub CaseTyped : Tag → List Kind → Type 0
CaseTyped of [] = ⊤
CaseTyped of (otherwise ∷ []) = otherwise.of ≡ of
CaseTyped of (condition ∷ result ∷ more) = (condition.of ≡ truth_tag) × (result.of ≡ of) × CaseTyped of more

-- the type that a row gives its left operand
abbrev pub left_type : Routine → PgType → PgType
left_type routine otherwise = unwrap_or (slice_get routine.given 0) otherwise

-- a subject compared with a value by a row
abbrev pub compared : Contents → PgType → Routine → Value → Value → Run Value
compared contents from routine subject value =
    become contents from (left_type routine from) subject >>= (λ left. called contents routine (left ∷ value ∷ []))

abbrev pub switch_of : Contents → PgType → List Routine → Value → List Meaning → Meaning
switch_of contents from [] subject [] setting = pure Null
switch_of contents from [] subject (otherwise ∷ []) setting = otherwise setting
switch_of contents from (routine ∷ routines) subject (value ∷ result ∷ more) setting =
    value setting >>= compared contents from routine subject >>= truth_of
    >>= (λ t. if is_true t then result setting else switch_of contents from routines subject more setting)
switch_of contents from _ subject _ setting = stuck

-- CASE over a subject, which is evaluated once
abbrev pub switch : Contents → PgType → List Routine → List Meaning → Meaning
switch contents from routines [] setting = stuck
switch contents from routines (subject ∷ more) setting =
    subject setting >>= (λ value. switch_of contents from routines value more setting)

abbrev pub switch_mark : List Kind → Bool
switch_mark [] = true
switch_mark (subject ∷ more) = case_mark more

-- a row compares values of a type, converted as they may be, with those of a tag
pub record Compares (contents : Contents) (from : PgType) (routine : Routine) (value : Tag) : Type 0 where
  pub left : becomes contents from (left_type routine from) ≡ true
  pub row : IsComparison contents routine (tag contents (left_type routine from)) value

abbrev pub ArmsTyped : Contents → PgType → Tag → List Routine → List Kind → Type 0
ArmsTyped contents from of [] [] = ⊤
ArmsTyped contents from of [] (otherwise ∷ []) = otherwise.of ≡ of
ArmsTyped contents from of (routine ∷ routines) (value ∷ result ∷ more) =
    Compares contents from routine value.of × (result.of ≡ of) × ArmsTyped contents from of routines more
ArmsTyped contents from of _ _ = ⊥

abbrev pub SwitchTyped : Contents → PgType → Tag → List Routine → List Kind → Type 0
SwitchTyped contents from of routines [] = ⊥
SwitchTyped contents from of routines (subject ∷ more) = (subject.of ≡ tag contents from)
    × ArmsTyped contents from of routines more

-- COALESCE and its like.

-- the first that is not null, in order
abbrev pub first_of : List Value → Value
first_of [] = Null
first_of (value ∷ values) = if is_null value then first_of values else value

-- all are null or of the tag
abbrev pub coalesced : Tag → List Value → Run Value
coalesced of values = expecting (list_all (fits (kind of true)) values) (pure (first_of values))

-- one of several, null where there is none
abbrev pub some_of : List Value → Run Value
some_of [] = pure Null
some_of (value ∷ values) = one_of (value ∷ values)

-- the one that the item names of those that are not null
abbrev pub extreme : Tag → List Value → Run Value
extreme of values = expecting (list_all (fits (kind of true)) values)
    (some_of (filter (λ value. not (is_null value)) values))

-- NULLIF, IS DISTINCT FROM, IN over a list, ANY over an array.

abbrev pub null_if : Contents → Routine → Value → Value → Run Value
null_if contents routine left right =
    called contents routine (left ∷ right ∷ []) >>= truth_of >>= (λ t. pure (if is_true t then Null else left))

-- two nulls are not distinct, and a null is distinct from what is not null
abbrev pub are_distinct : Value → Value → Option Bool → Bool
are_distinct Null Null t = false
are_distinct Null right t = true
are_distinct left Null t = true
are_distinct left right t = not (is_true t)

abbrev pub distinct : Contents → Routine → Bool → Value → Value → Run Value
distinct contents routine negated left right =
    called contents routine (left ∷ right ∷ []) >>= truth_of
    >>= (λ t. pure (Truth (negate negated (are_distinct left right t))))

-- the subject with each value, by the value's own row
abbrev pub comparisons : Contents → PgType → Value → List Routine → List Value → Run (List Value)
comparisons contents from subject [] [] = pure []
comparisons contents from subject (routine ∷ routines) (value ∷ values) =
    compared contents from routine subject value
    >>= (λ b. comparisons contents from subject routines values >>= (λ more. pure (b ∷ more)))
comparisons contents from subject _ _ = stuck

abbrev pub in_list : Contents → Junction → PgType → List Routine → List Value → Run Value
in_list contents junction from routines [] = stuck
in_list contents junction from routines (subject ∷ values) = comparisons contents from subject routines values
    >>= joined junction

-- two values, and the same two exchanged
abbrev pub both_ways : {A : Type 0} → List A → List A
both_ways (low ∷ high ∷ []) = low ∷ high ∷ high ∷ low ∷ []
both_ways _ = []

-- two by two: whether some two are both true
abbrev pub some_both : List (Option Bool) → Option Bool
some_both [] = Some false
some_both (a ∷ []) = a
some_both (a ∷ b ∷ more) = either (both a b) (some_both more)

-- BETWEEN SYMMETRIC
abbrev pub symmetric : Contents → PgType → List Routine → List Value → Run Value
symmetric contents from routines [] = stuck
symmetric contents from routines (subject ∷ values) =
    comparisons contents from subject routines (both_ways values)
    >>= (λ truths. all_of (map truth_of truths) >>= (λ ts. pure (value_of_truth (some_both ts))))

-- an operand with each of some values, by one row
abbrev pub with_each : Contents → Routine → Junction → Value → List Value → Run Value
with_each contents routine junction left values =
    all_of (map (λ value. called contents routine (left ∷ value ∷ [])) values) >>= joined junction

-- whether a value is null or of the first of these tags
abbrev pub left_fits : List Tag → Value → Bool
left_fits [] left = false
left_fits (of ∷ given) left = fits (kind of true) left

-- the left operand of a row has its tag, whatever there is on the right
abbrev pub with_left : Contents → Routine → Value → Run Value → Run Value
with_left contents routine left run = expecting (left_fits (given_tags contents routine) left) run

-- an operand with each element of an array; a null array gives null
abbrev pub any_element : Contents → Routine → Junction → Value → Value → Run Value
any_element contents routine junction left Null = pure Null
any_element contents routine junction left (Array element values) =
    with_each contents routine junction left (list_of values)
any_element contents routine junction left _ = stuck

-- an operand that is compared with an array
abbrev pub any_array : Contents → Routine → Junction → Value → Value → Run Value
any_array contents routine junction left array =
    with_left contents routine left (any_element contents routine junction left array)

-- Arrays.

abbrev pub array_of : Tag → List Value → Run Value
array_of of values = expecting (list_all (fits (kind of true)) values) (pure (Array of (values_of values)))

-- an element of an array: the item, which may be null
abbrev pub subscript : Tag → Value → Value → Run Value
subscript of array index =
    expecting (have_tags (array_tag of ∷ integer_tag ∷ []) (array ∷ index ∷ [])) (item_of (kind of true))

-- what an operation gives over what its operands give
abbrev pub apply : Contents → Operation → List Meaning → Meaning
apply contents (Call routine) operands setting = evaluate operands setting >>= called contents routine
apply contents (Convert from to) operands setting = evaluate operands setting >>= sole (converted contents from to)
apply contents (Extract field routine) operands setting = evaluate operands setting >>= called contents routine
apply contents (Collate name of) operands setting = evaluate operands setting
    >>= sole (λ value. expect (tag contents of) value >>= changed (tag contents of))
apply contents And operands setting = evaluate operands setting >>= joined All
apply contents Or operands setting = evaluate operands setting >>= joined Any
apply contents Not operands setting = evaluate operands setting >>= sole not_of
apply contents (Case of) operands setting = case_of operands setting >>= expect (tag contents of)
apply contents (Switch from routines of) operands setting = switch contents from routines operands setting
    >>= expect (tag contents of)
apply contents (Coalesce of) operands setting = evaluate operands setting >>= coalesced (tag contents of)
apply contents (Extreme which of) operands setting = evaluate operands setting >>= extreme (tag contents of)
apply contents (NullIf routine) operands setting = evaluate operands setting >>= pair (null_if contents routine)
apply contents (NullTest negated) operands setting = evaluate operands setting
    >>= sole (λ value. pure (Truth (negate negated (is_null value))))
apply contents (TruthTest word negated) operands setting = evaluate operands setting >>= sole (truth_test word negated)
apply contents (Distinct routine negated) operands setting = evaluate operands setting
    >>= pair (distinct contents routine negated)
apply contents (InList junction from routines) operands setting = evaluate operands setting
    >>= in_list contents junction from routines
apply contents (Symmetric from routines) operands setting = evaluate operands setting
    >>= symmetric contents from routines
apply contents (AnyArray routine junction) operands setting = evaluate operands setting
    >>= pair (any_array contents routine junction)
apply contents (ArrayList of) operands setting = evaluate operands setting >>= array_of (tag contents of)
apply contents (Subscript of) operands setting = evaluate operands setting >>= pair (subscript (tag contents of))

-- the tag of the first operand, which may become null
abbrev pub null_if_kind : List Kind → Kind
null_if_kind [] = kind truth_tag true
null_if_kind (left ∷ more) = kind left.of true

-- the kind of what an operation gives over operands of these kinds
abbrev pub operation_kind : Contents → Operation → List Kind → Kind
operation_kind contents (Call routine) kinds = kind_of contents routine.of (call_mark routine kinds)
operation_kind contents (Convert from to) kinds = kind_of contents to (any_nullable kinds)
operation_kind contents (Extract field routine) kinds = kind_of contents routine.of (call_mark routine kinds)
operation_kind contents (Collate name of) kinds = kind_of contents of (any_nullable kinds)
operation_kind contents And kinds = kind truth_tag (any_nullable kinds)
operation_kind contents Or kinds = kind truth_tag (any_nullable kinds)
operation_kind contents Not kinds = kind truth_tag (any_nullable kinds)
operation_kind contents (Case of) kinds = kind_of contents of (case_mark kinds)
operation_kind contents (Switch from routines of) kinds = kind_of contents of (switch_mark kinds)
operation_kind contents (Coalesce of) kinds = kind_of contents of (all_nullable kinds)
operation_kind contents (Extreme which of) kinds = kind_of contents of (all_nullable kinds)
operation_kind contents (NullIf routine) kinds = null_if_kind kinds
operation_kind contents (NullTest negated) kinds = kind truth_tag false
operation_kind contents (TruthTest word negated) kinds = kind truth_tag false
operation_kind contents (Distinct routine negated) kinds = kind truth_tag false
operation_kind contents (InList junction from routines) kinds = kind truth_tag (any_nullable kinds)
operation_kind contents (Symmetric from routines) kinds = kind truth_tag (any_nullable kinds)
operation_kind contents (AnyArray routine junction) kinds = kind truth_tag true
operation_kind contents (ArrayList of) kinds = kind (array_tag (tag contents of)) false
operation_kind contents (Subscript of) kinds = kind_of contents of true

-- all of one tag
abbrev pub AllOf : Tag → List Kind → Type 0
AllOf of = AllByRecursion (λ k. k.of ≡ of)

-- one operand
abbrev pub IsSole : List Kind → Type 0
IsSole (k ∷ []) = ⊤
IsSole _ = ⊥

-- two operands that a row compares
abbrev pub PairCompared : Contents → Routine → List Kind → Type 0
PairCompared contents routine (left ∷ right ∷ []) = IsComparison contents routine left.of right.of
PairCompared contents routine _ = ⊥

-- a subject and the values that it is compared with
abbrev pub ListCompared : Contents → PgType → List Routine → List Kind → Type 0
ListCompared contents from routines [] = ⊥
ListCompared contents from routines (subject ∷ values) =
    (subject.of ≡ tag contents from) × AllZip (λ routine value. Compares contents from routine value.of) routines values

-- a subject and two bounds, with four rows
abbrev pub SymmetricCompared : Contents → PgType → List Routine → List Kind → Type 0
SymmetricCompared contents from routines (subject ∷ low ∷ high ∷ []) =
    (subject.of ≡ tag contents from)
    × AllZip (λ routine value. Compares contents from routine value.of) routines (low ∷ high ∷ high ∷ low ∷ [])
SymmetricCompared contents from routines _ = ⊥

-- an operand and an array of what it is compared with
abbrev pub ArrayCompared : Contents → Routine → List Kind → Type 0
ArrayCompared contents routine (left ∷ array ∷ []) = (array.of.array ≡ true)
    × IsComparison contents routine left.of (element_tag array.of)
ArrayCompared contents routine _ = ⊥

-- a tag of which there are arrays
pub record IsElement (of : Tag) : Type 0 where
  pub scalar : of.array ≡ false
  pub known : is_unknown of ≡ false

-- the kinds over which an operation is typed
abbrev pub OperationTyped : Contents → Operation → List Kind → Type 0
OperationTyped contents (Call routine) kinds = CallTyped contents routine (tags kinds)
OperationTyped contents (Convert from to) kinds = (castable contents from to ≡ true)
    × (tags kinds ≡ tag contents from ∷ [])
OperationTyped contents (Extract field routine) kinds = CallTyped contents routine (tags kinds)
OperationTyped contents (Collate name of) kinds = tags kinds ≡ tag contents of ∷ []
OperationTyped contents And kinds = AllOf truth_tag kinds
OperationTyped contents Or kinds = AllOf truth_tag kinds
OperationTyped contents Not kinds = tags kinds ≡ truth_tag ∷ []
OperationTyped contents (Case of) kinds = CaseTyped (tag contents of) kinds
OperationTyped contents (Switch from routines of) kinds = SwitchTyped contents from (tag contents of) routines kinds
OperationTyped contents (Coalesce of) kinds = AllOf (tag contents of) kinds
OperationTyped contents (Extreme which of) kinds = AllOf (tag contents of) kinds
OperationTyped contents (NullIf routine) kinds = PairCompared contents routine kinds
OperationTyped contents (NullTest negated) kinds = IsSole kinds
OperationTyped contents (TruthTest word negated) kinds = tags kinds ≡ truth_tag ∷ []
OperationTyped contents (Distinct routine negated) kinds = PairCompared contents routine kinds
OperationTyped contents (InList junction from routines) kinds = ListCompared contents from routines kinds
OperationTyped contents (Symmetric from routines) kinds = SymmetricCompared contents from routines kinds
OperationTyped contents (AnyArray routine junction) kinds = ArrayCompared contents routine kinds
OperationTyped contents (ArrayList of) kinds = IsElement (tag contents of) × AllOf (tag contents of) kinds
OperationTyped contents (Subscript of) kinds = IsElement (tag contents of)
    × (tags kinds ≡ array_tag (tag contents of) ∷ integer_tag ∷ [])
