-- Types that agree convert to their common type.
use Rattle.std.proofs.Common.{◌≡◌, Bool, true, false, not, ◌&&◌, if◌then◌else◌, List, [], ◌∷◌, Option, Some, None, find, refl, ap, sym, subst, ◌∙◌}
use Rattle.std.specs.List.{AllByRecursion, list_all}
use Rattle.std.proofs.lemmas.Option.{same_Some}
use Rattle.sq_base.specs.declared.types.PgType.{PgType}
use Rattle.sq_base.specs.Types.{category}
use Rattle.sq_overload.specs.declared.answer.Common.{Common}
use Rattle.sq_overload.specs.declared.answer.Common.TheVariants.{Agreed, Differ}
use Rattle.sq_overload.specs.CommonType.{agreed, agreed_unless, common, common_of_several, common_unless, differs, is_unknown, next_candidate, one_type, settled}
use Rattle.sq_overload.specs.Converts.{converts, is_known, is_one_category, is_one_type}
use Rattle.sq_overload.specs.Laws.{AgreedConvert, Turns}
use Rattle.sq_overload.proofs.TypeTests.{and_left, and_right, converts-same, is_one_type-true}

-- the type of an answer, and another where it has none
abbrev type_or : PgType → Common → PgType
type_or other (Agreed of) = of
type_or other (Differ candidate of) = other

each_more : (P Q : PgType → Type 0) → ((of : PgType) → P of → Q of) → (types : List PgType) → AllByRecursion P types → AllByRecursion Q types
each_more P Q tells [] all = tt
each_more P Q tells (of ∷ types) all = (tells of all.0, each_more P Q tells types all.1)

first_passes_not :
    (test : PgType → Bool) (of : PgType) (types : List PgType) (passes : Bool) → test of ≡ passes →
    (find test types ≡ None → AllByRecursion (λ of. test of ≡ false) types) →
    (if passes then Some of else find test types) ≡ None → (test of ≡ false) × AllByRecursion (λ of. test of ≡ false) types
first_passes_not test of types true is rest none = cc
first_passes_not test of types false is rest none = (is, rest none)

find_none : (test : PgType → Bool) (types : List PgType) → find test types ≡ None → AllByRecursion (λ of. test of ≡ false) types
find_none test [] none = tt
find_none test (of ∷ types) none = first_passes_not test of types (test of) refl (find_none test types) none

differs_not : (candidate of : PgType) → differs candidate of ≡ false → Turns candidate of
differs_not candidate of is known = either (is_known of) (converts of candidate) is known
  where
    either : (one other : Bool) → (one && not other) ≡ false → one ≡ true → other ≡ true
    either true true is known = refl
    either true false is known = cc
    either false other is known = cc

agreed_turn : (candidate : PgType) (types : List PgType) (to : PgType) → agreed candidate types ≡ Agreed to → AllByRecursion (Turns to) types
agreed_turn candidate types to is = by_found (find (differs candidate) types) refl is
  where
    by_found : (of : Option PgType) → find (differs candidate) types ≡ of → agreed_unless candidate of ≡ Agreed to → AllByRecursion (Turns to) types
    by_found None none is =
        subst (λ t. AllByRecursion (Turns t) types) (ap (type_or candidate) is)
        (each_more (λ of. differs candidate of ≡ false) (Turns candidate) (differs_not candidate) types (find_none (differs candidate) types none))
    by_found (Some of) some is = cc

settled_turn : (first : PgType) (types : List PgType) (candidate : PgType) (left : List PgType) (to : PgType) → settled first types candidate left ≡ Agreed to → AllByRecursion (Turns to) types
settled_turn first types candidate [] to is = agreed_turn candidate types to is
settled_turn first types candidate (of ∷ left) to is =
    step (not (is_known of)) (is_one_category (category of) (category first)) is
    (settled_turn first types candidate left to) (settled_turn first types (next_candidate candidate of) left to)
  where
    step :
        (unknown one : Bool) →
        (if unknown then settled first types candidate left
        else if one then settled first types (next_candidate candidate of) left
        else Differ candidate of) ≡ Agreed to →
        (settled first types candidate left ≡ Agreed to → AllByRecursion (Turns to) types) →
        (settled first types (next_candidate candidate of) left ≡ Agreed to → AllByRecursion (Turns to) types) →
        AllByRecursion (Turns to) types
    step true one is as_it_was replaced = as_it_was is
    step false true is as_it_was replaced = replaced is
    step false false is as_it_was replaced = cc

all_one : (first : PgType) (types : List PgType) → list_all (is_one_type first) types ≡ true → AllByRecursion (λ of. first ≡ of) types
all_one first [] all = tt
all_one first (of ∷ types) all =
    (is_one_type-true first of (and_left _ _ all), all_one first types (and_right (is_one_type first of) _ all))

turns_to_itself : (to of : PgType) → to ≡ of → Turns to of
turns_to_itself to of same known = subst (λ t. converts of t ≡ true) (sym same) (converts-same of known)

one_turn : (types : List PgType) (to : PgType) → one_type types ≡ Some to → AllByRecursion (Turns to) types
one_turn [] to is = cc
one_turn (first ∷ types) to is = by_test (not (is_unknown first.scalar) && list_all (is_one_type first) types) refl is
  where
    by_test :
        (test : Bool) → (not (is_unknown first.scalar) && list_all (is_one_type first) types) ≡ test →
        (if test then Some first else None) ≡ Some to → Turns to first × AllByRecursion (Turns to) types
    by_test true all is =
        subst (λ t. Turns t first × AllByRecursion (Turns t) types) (same_Some _ _ is)
        (turns_to_itself first first refl, each_more (λ of. first ≡ of) (Turns first) (turns_to_itself first) types (all_one first types (and_right (not (is_unknown first.scalar)) _ all)))
    by_test false all is = cc

several_turn : (types : List PgType) (to : PgType) → common_of_several types (find is_known types) ≡ Agreed to → AllByRecursion (Turns to) types
several_turn types to is = by_first (find is_known types) refl is
  where
    by_first : (first : Option PgType) → find is_known types ≡ first → common_of_several types first ≡ Agreed to → AllByRecursion (Turns to) types
    by_first None none is = each_more (λ of. is_known of ≡ false) (Turns to) (λ of unknown known. absurd (cc)) types (find_none is_known types none)
    by_first (Some first) some is = settled_turn first types first types to is

-- types that agree convert to their common type
pub agreed_convert : AgreedConvert
agreed_convert types to is = by_one (one_type types) refl is
  where
    by_one : (one : Option PgType) → one_type types ≡ one → common_unless types one ≡ Agreed to → AllByRecursion (Turns to) types
    by_one (Some of) same is = subst (λ t. AllByRecursion (Turns t) types) (ap (type_or of) is) (one_turn types of same)
    by_one None different is = several_turn types to is
