-- Items that declare each name once, and use what is declared.
use Rattle.std.proofs.Common.{◌≡◌, ◌||◌, Bool, true, false, cond, not, List, [], ◌∷◌, ◌++◌, map, Some, None, Option, Result, Ok, Err, option_map, refl, ap, sym, subst, ◌∙◌, append_assoc}
use Rattle.std.specs.List.{list_any}
use Rattle.std.proofs.lemmas.List.{map-append}
use Rattle.sq_shown.specs.Names.{has_equal}
use Rattle.sq_shown.specs.declared.signature.ShownField.{ShownField}
use Rattle.sq_shown.specs.declared.signature.Shown.{Shown}
use Rattle.sq_reader.specs.Parts.{Text, same, ◌>>=◌}
use Rattle.sq_reader.specs.Columns.{model_fields, or_later, model_named, type_in, picked}
use Rattle.sq_reader.specs.Reading.{declares_again, shown_by, settled_from, with_shown}
use Rattle.sq_reader.specs.Items as items
use Rattle.sq_reader.specs.declared.items.Spot.{Spot}
use Rattle.sq_reader.specs.declared.items.Item.{Item}
use Rattle.sq_reader.proofs.PartsAgain.{same_as_itself}
use Rattle.sq_reader.proofs.FormsAgain.{name_of}

-- neither of two is true
pub neither : (a b : Bool) → a || b ≡ false → (a ≡ false) × (b ≡ false)
neither true b h = absurd (cc)
neither false b h = (refl, h)

-- what passes for none of a list fails for one of it
none_at : (p : Text → Bool) (xs : List Text) (y : Text) (ys : List Text) → list_any p (xs ++ y ∷ ys) ≡ false → p y ≡ false
none_at p [] y ys none = (neither (p y) (list_any p ys) none).0
none_at p (x ∷ xs) y ys none = none_at p xs y ys (neither (p x) (list_any p (xs ++ y ∷ ys)) none).1

-- where no two names are equal, none before a name is equal to it
pub apart : (before : List Text) (name : Text) (behind : List Text) → has_equal (before ++ name ∷ behind) ≡ false → list_any (λ other. same other name) before ≡ false
apart [] name behind none = refl
apart (x ∷ xs) name behind none =
    let h = neither (list_any (same x) (xs ++ name ∷ behind)) (has_equal (xs ++ name ∷ behind)) none in
    ap (λ (t : Bool). t || list_any (λ other. same other name) xs) (none_at (same x) xs name behind h.0) ∙ apart xs name behind h.1

-- COLUMNS

type_again : (before : List ShownField) (field : ShownField) (behind : List ShownField) → list_any (λ other. same other field.name) (map name_of before) ≡ false → type_in (before ++ field ∷ behind) field.name ≡ Some field.of
type_again [] field behind none = ap (λ (t : Bool). cond t (Some field.of) (type_in behind field.name)) (same_as_itself field.name)
type_again (x ∷ xs) field behind none =
    let h = neither (same x.name field.name) (list_any (λ other. same other field.name) (map name_of xs)) none in
    ap (λ (t : Bool). cond t (Some x.of) (type_in (xs ++ field ∷ behind) field.name)) h.0 ∙ type_again xs field behind h.1

picked_after : (before fields : List ShownField) → has_equal (map name_of (before ++ fields)) ≡ false → picked (before ++ fields) (map name_of fields) ≡ Some fields
picked_after before [] none = refl
picked_after before (field ∷ fields) none =
    let all : List ShownField = before ++ field ∷ fields in
    let named : has_equal (map name_of before ++ field.name ∷ map name_of fields) ≡ false = subst (λ (names : List Text). has_equal names ≡ false) (map-append name_of before (field ∷ fields)) none in
    let same_list : (before ++ field ∷ []) ++ fields ≡ all = append_assoc before (field ∷ []) fields in
    let later : picked all (map name_of fields) ≡ Some fields = subst (λ (all : List ShownField). picked all (map name_of fields) ≡ Some fields) same_list
    (picked_after (before ++ field ∷ []) fields (subst (λ (all : List ShownField). has_equal (map name_of all) ≡ false) (sym same_list) none)) in
    ap (λ (of : Option Text). option_map (λ of. record { name = field.name; of = of }) of >>= (λ (column : ShownField). picked all (map name_of fields) >>= (λ more. Some (column ∷ more))))
    (type_again before field fields (apart (map name_of before) field.name (map name_of fields) named))
    ∙ ap (λ (more : Option (List ShownField)). more >>= (λ more. Some (field ∷ more))) later

-- the columns of all fields are the fields
pub picked_again : (fields : List ShownField) → has_equal (map name_of fields) ≡ false → picked fields (map name_of fields) ≡ Some fields
picked_again fields none = picked_after [] fields none

-- an item that is no model is passed over
pub passed_over : (item : Item) (later : List Item) (name : Text) → model_fields item.meaning ≡ None → model_named (item ∷ later) name ≡ model_named later name
passed_over item later name none =
    ap (λ (fields : Option (List ShownField)). or_later (cond (same item.name name) fields None) (model_named later name)) none
    ∙ elim (same item.name name) as (λ (t : Bool). or_later (cond {A = Option (List ShownField)} t None None) (model_named later name) ≡ model_named later name) [ true ↦ refl | false ↦ refl ]

-- SETTLING

-- each item declares its name for the first time, and what it uses stands
abbrev pub AllFine : List Item → List Item → Type 0
AllFine earlier [] = Unit {0}
AllFine earlier (item ∷ later) = (declares_again earlier item ≡ false) × (item.declared ≡ true) × AllFine (earlier ++ item ∷ []) later

-- the signatures of items that are fine
abbrev pub shown_all : List Item → List Item → Result (List Shown) Spot
shown_all all [] = Ok []
shown_all all (item ∷ later) = items.◌>>=◌ (shown_by all item item.meaning) (λ shown. with_shown shown (shown_all all later))

pub settled_fine : (all earlier later : List Item) → AllFine earlier later → settled_from all earlier later ≡ shown_all all later
settled_fine all earlier [] fine = refl
settled_fine all earlier (item ∷ later) fine =
    ap (λ (t : Bool). items.◌>>=◌ (cond (t || not item.declared) (Err item.spot) (shown_by all item item.meaning)) (λ shown. with_shown shown (settled_from all (earlier ++ item ∷ []) later))) fine.0
    ∙ ap (λ (t : Bool). items.◌>>=◌ (cond (not t) (Err item.spot) (shown_by all item item.meaning)) (λ shown. with_shown shown (settled_from all (earlier ++ item ∷ []) later))) fine.1
    ∙ ap (λ (r : Result (List Shown) Spot). items.◌>>=◌ (shown_by all item item.meaning) (λ shown. with_shown shown r)) (settled_fine all (earlier ++ item ∷ []) later fine.2)
