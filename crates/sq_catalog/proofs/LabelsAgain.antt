-- Labels that stand again, and enumerations whose labels are changed.
use Rattle.std.proofs.Common.{◌≡◌, ◌<◌, ◌+◌, ℕ, suc, true, false, List, length, get_or, drop, set, Some, Result, refl, sym, ap, subst, ◌∙◌, add-one}
use Rattle.sq_catalog.specs.declared.table.EnumType.{EnumType}
use Rattle.sq_catalog.specs.declared.change.Cause.{Cause}
use Rattle.sq_catalog.specs.declared.change.ChangeFault.{ChangeFault}
use Rattle.sq_catalog.specs.Answers.{Answers}
use Rattle.sq_catalog.specs.Columns.{placed}
use Rattle.sq_catalog.specs.Contents.{Contents}
use Rattle.sq_catalog.specs.UserTypes.{is_among, repeated_label, labelled, place_of_enum}
use Rattle.sq_catalog.proofs.Changed.{front, placed_at, whole}

pub stands_again : (labels : List (List ℕ)) (at : ℕ) (x : List ℕ) → at < length labels → x ≡ get_or labels at x
    → is_among x (drop (at + 1) labels) ≡ true → repeated_label (drop at labels) ≡ Some x
stands_again labels at x within is again =
    let again_there : is_among x (drop (suc at) labels) ≡ true = rw add-one at again in
    ap repeated_label (front labels at x within is) ∙ rw again_there refl

pub goes_on : (labels : List (List ℕ)) (at : ℕ) (x : List ℕ) → at < length labels → x ≡ get_or labels at x
    → is_among x (drop (at + 1) labels) ≡ false → repeated_label (drop at labels) ≡ repeated_label (drop (at + 1) labels)
goes_on labels at x within is again =
    let again_there : is_among x (drop (suc at) labels) ≡ false = rw add-one at again in
    ap repeated_label (front labels at x within is) ∙ rw (add-one, again_there) refl

-- the enumeration that is found gets other labels in its place
pub labelled_at : (c : Contents) (schema name own_schema own_name : List ℕ) (change : List (List ℕ) → Result (List (List ℕ)) Cause) (enums : List EnumType) (at : ℕ) (x : EnumType)
    (labels : List (List ℕ)) (result : Result (Unit {0}) ChangeFault)
    → own_schema ≡ schema → own_name ≡ name → Some at ≡ place_of_enum c own_schema own_name → at < length c.enums → x ≡ get_or c.enums at x
    → enums ≡ set c.enums at (record x { labels = labels }) → Answers x.labels (change x.labels) labels result
    → Answers c (labelled c name change (placed c.enums (place_of_enum c schema name))) (record c { enums = enums }) result
labelled_at c schema name own_schema own_name change enums at x labels result same_schema same_name found_there within is there answers =
    let found : Some at ≡ place_of_enum c schema name =
    found_there ∙ ap (λ (s : List ℕ). place_of_enum c s own_name) same_schema ∙ ap (place_of_enum c schema) same_name in
    let so : labelled c name change (placed c.enums (place_of_enum c schema name)) ≡ labelled c name change (Some (at, x)) =
    ap (labelled c name change) (placed_at c.enums at x (place_of_enum c schema name) found within is) in
    subst (λ (stepped : Result Contents Cause). Answers c stepped (record c { enums = enums }) result) (sym so)
    (whole (λ (zs : List EnumType). record c { enums = zs }) (λ (new : List (List ℕ)) (of : EnumType). record of { labels = new })
    c.enums enums at x x.labels labels (change x.labels) within is there refl result answers)
