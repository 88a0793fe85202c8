-- Which entry an operator or a call takes (PostgreSQL manual, sections 10.2 and 10.3): the entries of its name and its
-- count of inputs are filtered step by step, until one is left. The steps have the numbers of section 10.2; in section
-- 10.3 those from 3a to 3f are 4a to 4f. No argument is a domain, as step 3b has it.
use Rattle.std.specs.Prelude.{ℕ, Bool, true, false, not, ◌+◌, ◌&&◌, ◌||◌, ◌==◌, if◌then◌else◌, max, List, [], ◌∷◌, Option, Some, None, option_and_then, slice_get, filter, find, fold}
use Rattle.std.specs.List.{list_all, list_any}
use Rattle.sq_base.specs.declared.types.PgType.{PgType}
use Rattle.sq_base.specs.declared.types.Scalar.{Scalar}
use Rattle.sq_base.specs.declared.types.Scalar.TheVariants.{Enum}
use Rattle.sq_base.specs.declared.conversion.Category.{Category}
use Rattle.sq_base.specs.declared.conversion.Category.TheVariants.{Strings}
use Rattle.sq_base.specs.Types.{category, preferred}
use Rattle.sq_builtin.specs.declared.row.Kind.{Kind}
use Rattle.sq_builtin.specs.declared.row.Kind.TheVariants.{Operator, Function, Aggregate}
use Rattle.sq_builtin.specs.declared.row.Pattern.{Pattern}
use Rattle.sq_builtin.specs.declared.row.Pattern.TheVariants.{Is, AnyArray, AnyElement, AnyNonArray, AnyEnum, Any}
use Rattle.sq_builtin.specs.Entries.{Entry}
use Rattle.sq_overload.specs.declared.answer.Picked.{Picked}
use Rattle.sq_overload.specs.declared.answer.Picked.TheVariants.{One, Nothing, Several}
use Rattle.sq_overload.specs.declared.fit.Fit.{Fit}
use Rattle.sq_overload.specs.declared.fit.Fit.TheVariants.{Exact, Accepting, Close, Assumed}
use Rattle.sq_overload.specs.Converts.{is_known, is_one_type, is_one_category, converts}

-- ---- how patterns fit arguments

-- whether a scalar type is an enumeration
abbrev pub is_enum : Scalar → Bool
is_enum (Enum id) = true
is_enum _ = false

-- whether a pattern accepts a known type: a type accepts what converts to it in every context, and
-- the other patterns accept what their names say
abbrev pub accepts_known : Pattern → PgType → Bool
accepts_known (Is to) of = converts of to
accepts_known AnyArray of = of.array
accepts_known AnyElement of = true
accepts_known AnyNonArray of = not of.array
accepts_known AnyEnum of = not of.array && is_enum of.scalar
accepts_known Any of = true

-- every pattern accepts what is unknown
abbrev pub accepts : Pattern → PgType → Bool
accepts pattern of = not (is_known of) || accepts_known pattern of

-- a type is exactly its own, and no other pattern is exact
abbrev pub is_exact : Pattern → PgType → Bool
is_exact (Is to) of = is_known of && is_one_type of to
is_exact _ of = false

-- exact, or the preferred type of the known type's category
abbrev pub is_preferred : Pattern → PgType → Bool
is_preferred (Is to) of =
    is_known of && is_known to && preferred to && is_one_category (category to) (category of)
is_preferred _ of = false

-- whether a pattern fits an argument in one of four ways: exactly; by accepting it; exactly or as the
-- preferred type of its category; and, where it is unknown, by accepting a type that it is taken to be of
abbrev pub fits : Fit → Pattern → PgType → Bool
fits Exact pattern of = is_exact pattern of
fits Accepting pattern of = accepts pattern of
fits Close pattern of = is_exact pattern of || is_preferred pattern of
fits (Assumed guess) pattern of = is_known of || accepts pattern guess

-- whether every pattern fits its argument
abbrev pub all_fit : Fit → List Pattern → List PgType → Bool
all_fit fit [] args = true
all_fit fit (pattern ∷ inputs) [] = true
all_fit fit (pattern ∷ inputs) (of ∷ args) = fits fit pattern of && all_fit fit inputs args

-- how many patterns fit their arguments
abbrev pub count_fit : Fit → List Pattern → List PgType → ℕ
count_fit fit [] args = 0
count_fit fit (pattern ∷ inputs) [] = 0
count_fit fit (pattern ∷ inputs) (of ∷ args) =
    (if fits fit pattern of then 1 else 0) + count_fit fit inputs args

-- ---- the candidates

-- a candidate: an entry, and its number among those of its name and its count of inputs
pub record Candidate : Type 0 where
  pub number : ℕ
  pub entry : Entry

-- entries as candidates, which are numbered from here on
abbrev pub numbered : ℕ → List Entry → List Candidate
numbered number [] = []
numbered number (entry ∷ entries) = record { number = number; entry = entry } ∷ numbered (number + 1) entries

-- the number of a candidate that alone is left
abbrev pub sole : List Candidate → Option ℕ
sole (one ∷ []) = Some one.number
sole _ = None

-- the entry of a number, and without one what comes next
abbrev pub picked_or : Picked → Option ℕ → Picked
picked_or next None = next
picked_or next (Some number) = One number

-- the candidate that alone is left is picked, and else what the next step picks
abbrev pub one_or : List Candidate → Picked → Picked
one_or left next = picked_or next (sole left)

-- whether no candidate is left
abbrev pub none_left : List Candidate → Bool
none_left [] = true
none_left (one ∷ left) = false

-- ---- step 2: an entry that has exactly the types of the arguments

-- the candidates that are exact at every argument
abbrev pub exact : List PgType → List Candidate → List Candidate
exact args candidates = filter (λ (of : Candidate). all_fit Exact of.entry.inputs args) candidates

-- ---- step 2a: for a binary operator, an unknown operand is taken to be of the other's type

-- whether an entry is an operator's
abbrev pub is_operator : Kind → Bool
is_operator Operator = true
is_operator Function = false
is_operator Aggregate = false

-- the type of the one known operand of two
abbrev pub other_operand : List PgType → Option PgType
other_operand (one ∷ other ∷ []) =
    if is_known one && not (is_known other) then Some one
    else if is_known other && not (is_known one) then Some other
    else None
other_operand _ = None

-- whether an entry is a binary operator's that is exact with a type on both sides
abbrev pub is_alike : PgType → Entry → Bool
is_alike of entry = is_operator entry.kind && all_fit Exact entry.inputs (of ∷ of ∷ [])

-- the candidates that are exact with the one known operand's type on both sides
abbrev pub alike : Option PgType → List Candidate → List Candidate
alike None candidates = []
alike (Some operand) candidates = filter (λ (of : Candidate). is_alike operand of.entry) candidates

-- ---- step 3a: candidates that do not accept the arguments are dropped

-- the candidates that accept every argument
abbrev pub accepting : List PgType → List Candidate → List Candidate
accepting args candidates = filter (λ (of : Candidate). all_fit Accepting of.entry.inputs args) candidates

-- ---- steps 3c and 3d: those with the most exact arguments are kept, and of these those with the most arguments that
-- are exact or of the preferred type of their category

-- the greatest count of arguments that fit a candidate, and at least this
abbrev pub most_from : Fit → List PgType → ℕ → List Candidate → ℕ
most_from fit args most candidates =
    fold (λ most (of : Candidate). max most (count_fit fit of.entry.inputs args)) most candidates

-- the candidates with the most arguments that fit
abbrev pub with_most : Fit → List PgType → List Candidate → List Candidate
with_most fit args candidates =
    filter (λ (of : Candidate). count_fit fit of.entry.inputs args == most_from fit args 0 candidates) candidates

-- ---- step 3e: at each unknown argument a category is chosen

-- the category of a pattern: the patterns that are no types are together one of their own, None
abbrev pub slot_of : Pattern → Option Category
slot_of (Is to) = if is_known to then Some (category to) else None
slot_of _ = None

-- the category of an entry at a place
abbrev pub slot_at : ℕ → Entry → Option Category
slot_at place entry = option_and_then slot_of (slice_get entry.inputs place)

-- whether two categories of patterns are one
abbrev pub is_one_slot : Option Category → Option Category → Bool
is_one_slot None None = true
is_one_slot (Some of) (Some other) = is_one_category of other
is_one_slot _ _ = false

-- whether a candidate has a category at a place
abbrev pub has_slot : ℕ → Option Category → Candidate → Bool
has_slot place slot of = is_one_slot (slot_at place of.entry) slot

-- the category of the first candidate at a place
abbrev pub first_slot : ℕ → List Candidate → Option (Option Category)
first_slot place [] = None
first_slot place (first ∷ left) = Some (slot_at place first.entry)

-- a category, if all candidates have it at a place
abbrev pub common_slot : ℕ → List Candidate → Option (Option Category) → Option (Option Category)
common_slot place candidates None = None
common_slot place candidates (Some slot) = if list_all (has_slot place slot) candidates then Some slot else None

-- the category that is chosen at a place: strings where a candidate has them there, else the one category that all
-- candidates have there, else none
abbrev pub chosen_slot : ℕ → List Candidate → Option (Option Category)
chosen_slot place candidates =
    if list_any (has_slot place (Some Strings)) candidates then Some (Some Strings)
    else common_slot place candidates (first_slot place candidates)

-- those of the candidates left that have the category chosen among all candidates, at each unknown argument from a place
-- on, or None where none can be chosen
abbrev pub placed : List Candidate → ℕ → List PgType → List Candidate → Option (List Candidate)
placed all place [] left = Some left
placed all place (of ∷ args) left =
    if is_known of then placed all (place + 1) args left
    else option_and_then (λ slot. placed all (place + 1) args (filter (has_slot place slot) left)) (chosen_slot place all)

-- whether a pattern is the preferred type of its category
abbrev pub prefers : Pattern → Bool
prefers (Is to) = is_known to && preferred to
prefers _ = false

-- whether there is a pattern, and it is the preferred type
abbrev pub prefers_any : Option Pattern → Bool
prefers_any None = false
prefers_any (Some pattern) = prefers pattern

-- whether an entry has the preferred type of its category at a place
abbrev pub prefers_at : ℕ → Entry → Bool
prefers_at place entry = prefers_any (slice_get entry.inputs place)

-- whether a candidate has the preferred type of its category at a place
abbrev pub is_preferring : ℕ → Candidate → Bool
is_preferring place of = prefers_at place of.entry

-- those of the candidates left that have the preferred type, at each unknown argument from a place on where one of all
-- candidates has it
abbrev pub preferring : List Candidate → ℕ → List PgType → List Candidate → List Candidate
preferring all place [] left = left
preferring all place (of ∷ args) left =
    preferring all (place + 1) args
    (if not (is_known of) && list_any (is_preferring place) all then filter (is_preferring place) left else left)

-- all candidates, where none would be left
abbrev pub unless_none : List Candidate → List Candidate → List Candidate
unless_none all left = if none_left left then all else left

-- ---- step 3f: the unknown arguments are taken to be of the type of the known ones, if these have one

-- a type, if all known arguments are of it
abbrev pub assumed_from : List PgType → Option PgType → Option PgType
assumed_from args None = None
assumed_from args (Some first) =
    if list_all (λ of. not (is_known of) || is_one_type first of) args then Some first else None

-- the type that unknown arguments are taken to be of, where there are unknown and known ones
abbrev pub assumed : List PgType → Option PgType
assumed args = if list_all is_known args then None else assumed_from args (find is_known args)

-- the candidates that accept a type at the unknown arguments
abbrev pub assuming : PgType → List PgType → List Candidate → List Candidate
assuming guess args candidates = filter (λ (of : Candidate). all_fit (Assumed guess) of.entry.inputs args) candidates

-- ---- the steps, from the last to the first: each is taken where more than one candidate is left

-- step 3f, if there is such a type
abbrev pub pick_assuming : List PgType → List Candidate → Option PgType → Picked
pick_assuming args left None = Several
pick_assuming args left (Some guess) = one_or (assuming guess args left) Several

-- what remains of step 3e, and then step 3f
abbrev pub pick_last : List PgType → List Candidate → Picked
pick_last args left = one_or left (pick_assuming args left (assumed args))

-- step 3e, with the candidates of the chosen categories, if each unknown argument has one
abbrev pub pick_placed : List PgType → List Candidate → Option (List Candidate) → Picked
pick_placed args left None = Several
pick_placed args left (Some placed) = pick_last args (unless_none left (preferring placed 0 args placed))

-- step 3e
abbrev pub pick_by_category : List PgType → List Candidate → Picked
pick_by_category args left = pick_placed args left (placed left 0 args left)

-- step 3d, and then step 3e
abbrev pub pick_closest : List PgType → List Candidate → Picked
pick_closest args left = one_or (with_most Close args left) (pick_by_category args (with_most Close args left))

-- step 3c, and then step 3d
abbrev pub pick_most_exact : List PgType → List Candidate → Picked
pick_most_exact args left = one_or (with_most Exact args left) (pick_closest args (with_most Exact args left))

-- what remains of step 3a, and then step 3c
abbrev pub pick_accepting : List PgType → List Candidate → Picked
pick_accepting args left = if none_left left then Nothing else one_or left (pick_most_exact args left)

-- step 2, step 2a, and then step 3a
abbrev pub pick_among : List PgType → List Candidate → Picked
pick_among args candidates =
    one_or (exact args candidates)
    (one_or (alike (other_operand args) candidates) (pick_accepting args (accepting args candidates)))

-- which of the entries of a name and a count of inputs is picked for these arguments
abbrev pub pick : List Entry → List PgType → Picked
pick entries args = pick_among args (numbered 0 entries)
