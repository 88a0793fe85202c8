-- A change of what stands at a place is one of the whole.
use Rattle.std.proofs.Common.{◌≡◌, ◌<◌, ◌+◌, ℕ, suc, zero, true, false, List, [], ◌∷◌, length, get_or, set, drop, Option, Some, Result, Ok, Err, refl, sym, ap, subst, ◌∙◌, arith, add-one}
use Rattle.std.specs.Option.{option_map}
use Rattle.std.proofs.lemmas.Option.{slice_get_read}
use Rattle.std.proofs.lemmas.List.{set-get_or}
use Rattle.sq_catalog.specs.declared.table.Column.{Column}
use Rattle.sq_catalog.specs.declared.table.Table.{Table}
use Rattle.sq_catalog.specs.declared.change.Action.{Action}
use Rattle.sq_catalog.specs.declared.change.Target.{Target}
use Rattle.sq_catalog.specs.declared.change.Cause.{Cause}
use Rattle.sq_catalog.specs.declared.change.ChangeFault.{ChangeFault}
use Rattle.sq_catalog.specs.declared.change.ChangeFault.TheVariants.{Refused, Memory}
use Rattle.sq_catalog.specs.Actions.{acted}
use Rattle.sq_catalog.specs.Answers.{Answers, and_then}
use Rattle.sq_catalog.specs.Catalogue.{altered, table_altered, place_of_table, instead, is_repeated, repeated_column}
use Rattle.sq_catalog.specs.Columns.{change_at, placed}
use Rattle.sq_catalog.specs.Contents.{Contents}
use Rattle.sq_catalog.proofs.ChangedAt.{written}

module _ {A L B : Type 0} (put : List A → B) (into : L → A → A) (xs ys : List A) (at : ℕ) (x : A) (old y : L) (stepped : Result L Cause)
    (within : at < length xs) (is : x ≡ get_or xs at x) (written_there : ys ≡ set xs at (into y x)) (same : into old x ≡ x) where
  made : stepped ≡ Ok y → and_then stepped (λ new. Ok (put (change_at (into new) xs at))) ≡ Ok (put ys)
  made done = rw done (ap (λ zs. Ok (put zs)) (written (into y) xs at x within is ∙ sym written_there))

  unchanged : y ≡ old → put ys ≡ put xs
  unchanged kept = ap put (written_there ∙ ap (λ z. set xs at (into z x)) kept ∙ ap (set xs at) same ∙ ap (set xs at) is ∙ set-get_or xs at x)

  refused : (fault : Cause) → stepped ≡ Err fault → and_then stepped (λ new. Ok (put (change_at (into new) xs at))) ≡ Err fault
  refused fault done = rw done refl

  pub whole : (result : Result (Unit {0}) ChangeFault) → Answers old stepped y result → Answers (put xs) (and_then stepped (λ new. Ok (put (change_at (into new) xs at)))) (put ys) result
  whole (Ok done) answers = made answers
  whole (Err Memory) answers = unchanged answers
  whole (Err (Refused cause)) answers = (refused cause answers.0, unchanged answers.1)

-- something is found with its place
pub placed_at : {A : Type 0} (xs : List A) (at : ℕ) (x : A) (place : Option ℕ) → Some at ≡ place → at < length xs → x ≡ get_or xs at x → placed xs place ≡ Some (at, x)
placed_at xs at x place found within is =
    ap (placed xs) (sym found) ∙ ap (option_map (λ y. (at, y))) (slice_get_read xs (length xs) at x refl within is)

-- the table that is found is changed in its place
pub altered_at : (c : Contents) (target : Target) (action : Action) (schema name : List ℕ) (tables : List Table) (at : ℕ) (x y : Table) (result : Result (Unit {0}) ChangeFault)
    → schema ≡ target.schema → name ≡ target.name → Some at ≡ place_of_table c schema name → at < length c.tables → x ≡ get_or c.tables at x → tables ≡ set c.tables at y
    → Answers x (acted x action) y result → Answers c (table_altered c target action) (record c { tables = tables }) result
altered_at c target action schema name tables at x y result same_schema same_name found_there within is there answers =
    let found : Some at ≡ place_of_table c target.schema target.name =
    found_there ∙ ap (λ (s : List ℕ). place_of_table c s name) same_schema ∙ ap (place_of_table c target.schema) same_name in
    let so : table_altered c target action ≡ altered c target action (Some (at, x)) =
    ap (altered c target action) (placed_at c.tables at x (place_of_table c target.schema target.name) found within is) in
    subst (λ (stepped : Result Contents Cause). Answers c stepped (record c { tables = tables }) result) (sym so)
    (whole (λ (zs : List Table). record c { tables = zs }) instead c.tables tables at x x y (acted x action) within is there refl result answers)

-- the front of what is left of a list
pub front : {A : Type 0} (xs : List A) (at : ℕ) (x : A) → at < length xs → x ≡ get_or xs at x → drop at xs ≡ x ∷ drop (suc at) xs
front [] at x within is = absurd (omega arith)
front (y ∷ ys) zero x within is = ap (λ z. z ∷ ys) (sym is)
front (y ∷ ys) (suc at) x within is = front ys at x (omega arith) is

pub stands_again : (columns : List Column) (at : ℕ) (x : Column) → at < length columns → x ≡ get_or columns at x
    → is_repeated x (drop (at + 1) columns) ≡ true → repeated_column (drop at columns) ≡ Some x.name
stands_again columns at x within is again =
    let again_there : is_repeated x (drop (suc at) columns) ≡ true = rw add-one at again in
    ap repeated_column (front columns at x within is) ∙ rw again_there refl

pub goes_on : (columns : List Column) (at : ℕ) (x : Column) → at < length columns → x ≡ get_or columns at x
    → is_repeated x (drop (at + 1) columns) ≡ false → repeated_column (drop at columns) ≡ repeated_column (drop (at + 1) columns)
goes_on columns at x within is again =
    let again_there : is_repeated x (drop (suc at) columns) ≡ false = rw add-one at again in
    ap repeated_column (front columns at x within is) ∙ rw (add-one, again_there) refl
