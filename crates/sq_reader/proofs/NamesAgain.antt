-- Items whose names are apart in each name space are fine.
use Rattle.std.proofs.Common.{◌≡◌, ◌||◌, ◌&&◌, Bool, true, false, cond, List, [], ◌∷◌, ◌++◌, refl, ap, sym, subst, ◌∙◌, append_assoc}
use Rattle.std.specs.List.{list_any, flat_map, AllByRecursion}
use Rattle.std.proofs.lemmas.Grind.{flat_map-append}
use Rattle.sq_shown.specs.Names.{has_equal}
use Rattle.sq_reader.specs.Parts.{Text, same}
use Rattle.sq_reader.specs.Reading.{same_space}
use Rattle.sq_reader.specs.declared.items.Item.{Item}
use Rattle.sq_reader.specs.declared.items.Space.{Space}
use Rattle.sq_reader.specs.declared.items.Space.TheVariants.{Package, Methods, Files}
use Rattle.sq_reader.proofs.SettledAgain.{apart, AllFine}

-- the names that items declare in a name space
abbrev pub name_in : Space → Item → List Text
name_in space item = cond (same_space item.space space) (item.name ∷ []) []

abbrev pub names_in : Space → List Item → List Text
names_in space items = flat_map (name_in space) items

-- no two items declare one name
abbrev pub AreApart : List Item → Type 0
AreApart items = (space : Space) → has_equal (names_in space items) ≡ false

-- what each item uses is declared
abbrev pub AreDeclared : List Item → Type 0
AreDeclared items = AllByRecursion (λ (item : Item). item.declared ≡ true) items

own_space : (space : Space) → same_space space space ≡ true
own_space Package = refl
own_space Methods = refl
own_space Files = refl

again_by_name : (earlier : List Item) (space : Space) (name : Text) → list_any (λ (other : Item). same_space other.space space && same other.name name) earlier ≡ list_any (λ other. same other name) (names_in space earlier)
again_by_name [] space name = refl
again_by_name (other ∷ earlier) space name =
    ap (λ (t : Bool). (same_space other.space space && same other.name name) || t) (again_by_name earlier space name)
    ∙ elim (same_space other.space space) as (λ (t : Bool). ((t && same other.name name) || list_any (λ other. same other name) (names_in space earlier)) ≡ list_any (λ other. same other name) (cond t (other.name ∷ []) [] ++ names_in space earlier)) [ true ↦ refl | false ↦ refl ]

split_names : (earlier : List Item) (item : Item) (later : List Item) → names_in item.space (earlier ++ item ∷ later) ≡ names_in item.space earlier ++ item.name ∷ names_in item.space later
split_names earlier item later =
    flat_map-append (name_in item.space) earlier (item ∷ later)
    ∙ ap (λ (t : Bool). names_in item.space earlier ++ (cond t (item.name ∷ []) [] ++ names_in item.space later)) (own_space item.space)

fine_from : (earlier later : List Item) → AreApart (earlier ++ later) → AreDeclared later → AllFine earlier later
fine_from earlier [] none declared = tt
fine_from earlier (item ∷ later) none declared = (
  again_by_name earlier item.space item.name
      ∙ apart (names_in item.space earlier) item.name (names_in item.space later) (subst (λ (names : List Text). has_equal names ≡ false) (split_names earlier item later) (none item.space)),
  declared.0,
  fine_from (earlier ++ item ∷ []) later (λ space. subst (λ (items : List Item). has_equal (names_in space items) ≡ false) (sym (append_assoc earlier (item ∷ []) later)) (none space)) declared.1,
)

-- items that are apart and use what is declared are fine
pub all_fine : (items : List Item) → AreApart items → AreDeclared items → AllFine [] items
all_fine items none declared = fine_from [] items none declared

-- the same of items in two parts
pub declared_parts : (one other : List Item) → AreDeclared one → AreDeclared other → AreDeclared (one ++ other)
declared_parts [] other first second = second
declared_parts (item ∷ one) other first second = (first.0, declared_parts one other first.1 second)
