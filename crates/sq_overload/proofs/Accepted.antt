-- A row that is picked accepts the arguments.
use Rattle.std.proofs.Common.{◌≡◌, ℕ, zero, suc, ◌+◌, Bool, true, false, not, ◌&&◌, ◌||◌, ◌==◌, ◌⊎◌, inl, inr, if◌then◌else◌, List, [], ◌∷◌, Option, Some, None, IsSomeAnd, option_and_then, slice_get, filter, drop, refl, sym, subst, arith, add-one}
use Rattle.std.specs.List.{AllByRecursion, list_any}
use Rattle.std.proofs.lemmas.Option.{same_Some}
use Rattle.sq_base.specs.declared.types.PgType.{PgType}
use Rattle.sq_base.specs.declared.conversion.Category.{Category}
use Rattle.sq_builtin.specs.declared.row.Pattern.{Pattern}
use Rattle.sq_builtin.specs.declared.row.Pattern.TheVariants.{Is}
use Rattle.sq_builtin.specs.Entries.{Entry}
use Rattle.sq_overload.specs.declared.answer.Picked.{Picked}
use Rattle.sq_overload.specs.declared.answer.Picked.TheVariants.{One, Nothing, Several}
use Rattle.sq_overload.specs.declared.fit.Fit.{Fit}
use Rattle.sq_overload.specs.declared.fit.Fit.TheVariants.{Exact, Accepting, Close, Assumed}
use Rattle.sq_overload.specs.Converts.{converts, is_known, is_one_type}
use Rattle.sq_overload.specs.Laws.{Accepts, PickedAccepts}
use Rattle.sq_overload.specs.Resolution.{Candidate, accepting, accepts, alike, all_fit, assumed, assuming, chosen_slot, count_fit, exact, has_slot, is_alike, is_exact, is_operator, is_preferring, most_from, none_left, numbered, one_or, other_operand, pick, pick_accepting, pick_among, pick_assuming, pick_by_category, pick_closest, pick_last, pick_most_exact, pick_placed, placed, preferring, unless_none, with_most}
use Rattle.sq_overload.proofs.TypeTests.{and_left, and_right, converts-same, is_one_type-true}

-- ---- what holds of each candidate

each_or : (P : Candidate → Type 0) (test : Bool) (one other : List Candidate) → AllByRecursion P one → AllByRecursion P other → AllByRecursion P (if test then one else other)
each_or P true one other all rest = all
each_or P false one other all rest = rest

each_first : (P : Candidate → Type 0) (test : Bool) (one : Candidate) (left : List Candidate) → (test ≡ true → P one) → AllByRecursion P left → AllByRecursion P (if test then one ∷ left else left)
each_first P true one left here all = (here refl, all)
each_first P false one left here all = all

each_passing :
    (P Q : Candidate → Type 0) (test : Candidate → Bool) → ((of : Candidate) → Q of → test of ≡ true → P of) →
    (left : List Candidate) → AllByRecursion Q left → AllByRecursion P (filter test left)
each_passing P Q test tells [] all = tt
each_passing P Q test tells (one ∷ left) all =
    each_first P (test one) one (filter test left) (tells one all.0) (each_passing P Q test tells left all.1)

each_kept : (P : Candidate → Type 0) (test : Candidate → Bool) (left : List Candidate) → AllByRecursion P left → AllByRecursion P (filter test left)
each_kept P test left all = each_passing P P test (λ of is passes. is) left all

-- ---- what holds of the number that is picked

abbrev Fine : (ℕ → Type 0) → Picked → Type 0
Fine P (One number) = P number
Fine P Nothing = Unit
Fine P Several = Unit

abbrev Of : (ℕ → Type 0) → Candidate → Type 0
Of P of = P of.number

one_fine : (P : ℕ → Type 0) (left : List Candidate) (next : Picked) → AllByRecursion (Of P) left → Fine P next → Fine P (one_or left next)
one_fine P [] next all fine = fine
one_fine P (one ∷ []) next all fine = all.0
one_fine P (one ∷ other ∷ left) next all fine = fine

assuming_fine : (P : ℕ → Type 0) (args : List PgType) (left : List Candidate) (guess : Option PgType) → AllByRecursion (Of P) left → Fine P (pick_assuming args left guess)
assuming_fine P args left None all = tt
assuming_fine P args left (Some guess) all =
    one_fine P (assuming guess args left) Several (each_kept (Of P) (λ (of : Candidate). all_fit (Assumed guess) of.entry.inputs args) left all) tt

last_fine : (P : ℕ → Type 0) (args : List PgType) (left : List Candidate) → AllByRecursion (Of P) left → Fine P (pick_last args left)
last_fine P args left all = one_fine P left (pick_assuming args left (assumed args)) all (assuming_fine P args left (assumed args) all)

preferring_each :
    (P : Candidate → Type 0) (every : List Candidate) (place : ℕ) (args : List PgType) (left : List Candidate) →
    AllByRecursion P left → AllByRecursion P (preferring every place args left)
preferring_each P every place [] left all = all
preferring_each P every place (of ∷ args) left all =
    preferring_each P every (place + 1) args
    (if not (is_known of) && list_any (is_preferring place) every then filter (is_preferring place) left else left)
    (each_or P (not (is_known of) && list_any (is_preferring place) every) (filter (is_preferring place) left) left (each_kept P (is_preferring place) left all) all)

abbrev OnSomeList : (Candidate → Type 0) → Option (List Candidate) → Type 0
OnSomeList P None = Unit
OnSomeList P (Some left) = AllByRecursion P left

placed_step :
    (P : Candidate → Type 0) (known : Bool) (one : Option (List Candidate)) (more : Option Category → Option (List Candidate)) (choice : Option (Option Category)) →
    OnSomeList P one → ((slot : Option Category) → OnSomeList P (more slot)) → OnSomeList P (if known then one else option_and_then more choice)
placed_step P true one more choice here later = here
placed_step P false one more None here later = tt
placed_step P false one more (Some slot) here later = later slot

placed_each :
    (P : Candidate → Type 0) (every : List Candidate) (place : ℕ) (args : List PgType) (left : List Candidate) →
    AllByRecursion P left → OnSomeList P (placed every place args left)
placed_each P every place [] left all = all
placed_each P every place (of ∷ args) left all =
    placed_step P (is_known of) (placed every (place + 1) args left) (λ slot. placed every (place + 1) args (filter (has_slot place slot) left)) (chosen_slot place every)
    (placed_each P every (place + 1) args left all)
    (λ slot. placed_each P every (place + 1) args (filter (has_slot place slot) left) (each_kept P (has_slot place slot) left all))

placed_fine :
    (P : ℕ → Type 0) (args : List PgType) (left : List Candidate) (placed : Option (List Candidate)) →
    AllByRecursion (Of P) left → OnSomeList (Of P) placed → Fine P (pick_placed args left placed)
placed_fine P args left None all some = tt
placed_fine P args left (Some placed) all some =
    last_fine P args (unless_none left (preferring placed 0 args placed))
    (each_or (Of P) (none_left (preferring placed 0 args placed)) left (preferring placed 0 args placed) all (preferring_each (Of P) placed 0 args placed some))

by_category_fine : (P : ℕ → Type 0) (args : List PgType) (left : List Candidate) → AllByRecursion (Of P) left → Fine P (pick_by_category args left)
by_category_fine P args left all = placed_fine P args left (placed left 0 args left) all (placed_each (Of P) left 0 args left all)

most_each : (P : Candidate → Type 0) (fit : Fit) (args : List PgType) (left : List Candidate) → AllByRecursion P left → AllByRecursion P (with_most fit args left)
most_each P fit args left all = each_kept P (λ (of : Candidate). count_fit fit of.entry.inputs args == most_from fit args 0 left) left all

closest_fine : (P : ℕ → Type 0) (args : List PgType) (left : List Candidate) → AllByRecursion (Of P) left → Fine P (pick_closest args left)
closest_fine P args left all =
    one_fine P (with_most Close args left) (pick_by_category args (with_most Close args left)) (most_each (Of P) Close args left all)
    (by_category_fine P args (with_most Close args left) (most_each (Of P) Close args left all))

most_exact_fine : (P : ℕ → Type 0) (args : List PgType) (left : List Candidate) → AllByRecursion (Of P) left → Fine P (pick_most_exact args left)
most_exact_fine P args left all =
    one_fine P (with_most Exact args left) (pick_closest args (with_most Exact args left)) (most_each (Of P) Exact args left all)
    (closest_fine P args (with_most Exact args left) (most_each (Of P) Exact args left all))

accepting_fine : (P : ℕ → Type 0) (args : List PgType) (left : List Candidate) → AllByRecursion (Of P) left → Fine P (pick_accepting args left)
accepting_fine P args [] all = tt
accepting_fine P args (one ∷ left) all =
    one_fine P (one ∷ left) (pick_most_exact args (one ∷ left)) all (most_exact_fine P args (one ∷ left) all)

-- ---- what is exact accepts

exact_accepts : (pattern : Pattern) (of : PgType) → is_exact pattern of ≡ true → accepts pattern of ≡ true
exact_accepts (Is to) of is =
    let known : is_known of ≡ true = and_left _ _ is in
    let same : of ≡ to = is_one_type-true of to (and_right (is_known of) _ is) in
    subst (λ t. (not (is_known of) || converts of t) ≡ true) same (rw (converts-same of known) (either (not (is_known of))))
  where
    either : (test : Bool) → (test || true) ≡ true
    either true = refl
    either false = refl
exact_accepts _ of is = cc

both : (a b : Bool) → a ≡ true → b ≡ true → (a && b) ≡ true
both true b one other = other
both false b one other = one

all_exact : (inputs : List Pattern) (args : List PgType) → all_fit Exact inputs args ≡ true → all_fit Accepting inputs args ≡ true
all_exact [] args all = refl
all_exact (pattern ∷ inputs) [] all = refl
all_exact (pattern ∷ inputs) (of ∷ args) all =
    both (accepts pattern of) (all_fit Accepting inputs args) (exact_accepts pattern of (and_left _ _ all))
    (all_exact inputs args (and_right (is_exact pattern of) _ all))

-- an operand is of the type that is taken for both, or unknown
abbrev IsLike : PgType → PgType → Type 0
IsLike of arg = (of ≡ arg) ⊎ (is_known arg ≡ false)

accepts_like : (pattern : Pattern) (of arg : PgType) → IsLike of arg → is_exact pattern of ≡ true → accepts pattern arg ≡ true
accepts_like pattern of arg (inl same) is = subst (λ t. accepts pattern t ≡ true) same (exact_accepts pattern of is)
accepts_like pattern of arg (inr unknown) is = rw unknown refl

likes :
    (one other of : PgType) (first second : Bool) → is_known one ≡ first → is_known other ≡ second →
    (if first && not second then Some one else if second && not first then Some other else None) ≡ Some of →
    IsLike of one × IsLike of other
likes one other of true true known more is = cc
likes one other of true false known more is = (inl (sym (same_Some _ _ is)), inr more)
likes one other of false true known more is = (inr known, inl (sym (same_Some _ _ is)))
likes one other of false false known more is = cc

two_like :
    (inputs : List Pattern) (one other of : PgType) → IsLike of one → IsLike of other →
    all_fit Exact inputs (of ∷ of ∷ []) ≡ true → all_fit Accepting inputs (one ∷ other ∷ []) ≡ true
two_like [] one other of like more all = refl
two_like (pattern ∷ []) one other of like more all =
    both (accepts pattern one) true (accepts_like pattern of one like (and_left _ _ all)) refl
two_like (pattern ∷ second ∷ inputs) one other of like more all =
    let rest : (is_exact second of && all_fit Exact inputs []) ≡ true = and_right (is_exact pattern of) _ all in
    both (accepts pattern one) (accepts second other && all_fit Accepting inputs []) (accepts_like pattern of one like (and_left _ _ all))
    (both (accepts second other) (all_fit Accepting inputs []) (accepts_like second of other more (and_left _ _ rest)) (no_more inputs))
  where
    no_more : (inputs : List Pattern) → all_fit Accepting inputs [] ≡ true
    no_more [] = refl
    no_more (pattern ∷ inputs) = refl

-- ---- candidates are entries

abbrev Listed : List Entry → Candidate → Type 0
Listed entries of = slice_get entries of.number ≡ Some of.entry

at_drop : (entries : List Entry) (number : ℕ) (entry : Entry) (rest : List Entry) → drop number entries ≡ entry ∷ rest → slice_get entries number ≡ Some entry
at_drop [] zero entry rest e = cc
at_drop [] (suc number) entry rest e = cc
at_drop (one ∷ entries) zero entry rest e = cc
at_drop (one ∷ entries) (suc number) entry rest e = at_drop entries number entry rest e

after_drop : (entries : List Entry) (number : ℕ) (entry : Entry) (rest : List Entry) → drop number entries ≡ entry ∷ rest → drop (suc number) entries ≡ rest
after_drop [] zero entry rest e = cc
after_drop [] (suc number) entry rest e = cc
after_drop (one ∷ entries) zero entry rest e = cc
after_drop (one ∷ entries) (suc number) entry rest e = after_drop entries number entry rest e

all_listed : (entries : List Entry) (number : ℕ) (rest : List Entry) → drop number entries ≡ rest → AllByRecursion (Listed entries) (numbered number rest)
all_listed entries number [] e = tt
all_listed entries number (entry ∷ rest) e =
    (at_drop entries number entry rest e, all_listed entries (number + 1) rest (rw (add-one number) (after_drop entries number entry rest e)))

found : (entries : List Entry) (args : List PgType) (of : Candidate) → Listed entries of → all_fit Accepting of.entry.inputs args ≡ true → Accepts entries args of.number
found entries args of listed is = rw listed is

-- ---- step 2a

alike_found :
    (entries : List Entry) (args : List PgType) (candidates : List Candidate) → AllByRecursion (Listed entries) candidates →
    AllByRecursion (Of (Accepts entries args)) (alike (other_operand args) candidates)
alike_found entries [] candidates listed = tt
alike_found entries (one ∷ []) candidates listed = tt
alike_found entries (one ∷ other ∷ []) candidates listed = by_operand (other_operand (one ∷ other ∷ [])) refl
  where
    by_operand : (operand : Option PgType) → other_operand (one ∷ other ∷ []) ≡ operand → AllByRecursion (Of (Accepts entries (one ∷ other ∷ []))) (alike operand candidates)
    by_operand None is = tt
    by_operand (Some operand) is =
        let like = likes one other operand (is_known one) (is_known other) refl refl is in
        each_passing (Of (Accepts entries (one ∷ other ∷ []))) (Listed entries) (λ (of : Candidate). is_alike operand of.entry)
        (λ of there passes. found entries (one ∷ other ∷ []) of there
        (two_like of.entry.inputs one other operand like.0 like.1 (and_right (is_operator of.entry.kind) _ passes))) candidates listed
alike_found entries (one ∷ other ∷ third ∷ args) candidates listed = tt

among_fine :
    (entries : List Entry) (args : List PgType) (candidates : List Candidate) → AllByRecursion (Listed entries) candidates →
    Fine (Accepts entries args) (pick_among args candidates)
among_fine entries args candidates listed =
    one_fine (Accepts entries args) (exact args candidates) (one_or (alike (other_operand args) candidates) (pick_accepting args (accepting args candidates)))
    (each_passing (Of (Accepts entries args)) (Listed entries) (λ (of : Candidate). all_fit Exact of.entry.inputs args)
    (λ of there passes. found entries args of there (all_exact of.entry.inputs args passes)) candidates listed)
    (one_fine (Accepts entries args) (alike (other_operand args) candidates) (pick_accepting args (accepting args candidates))
    (alike_found entries args candidates listed)
    (accepting_fine (Accepts entries args) args (accepting args candidates)
    (each_passing (Of (Accepts entries args)) (Listed entries) (λ (of : Candidate). all_fit Accepting of.entry.inputs args)
    (λ of there passes. found entries args of there passes) candidates listed)))

-- an entry that is picked accepts the arguments
pub picked_accepts : PickedAccepts
picked_accepts entries args number is =
    subst (Fine (Accepts entries args)) is (among_fine entries args (numbered 0 entries) (all_listed entries 0 entries refl))
