-- A query that gives all columns of its table in order shows what the table's model shows.
use Rattle.std.proofs.Common.{◌≡◌, ◌≢◌, ℕ, zero, suc, ◌&&◌, ◌||◌, Bool, true, false, List, [], ◌∷◌, length, map, Option, None, Some, Result, Ok, Err, refl, sym, ◌∙◌, ap, subst, inl, inr, slice_get}
use Rattle.sq_base.specs.declared.code.Code.TheVariants as code
use Rattle.std.specs.List.{AllByRecursion, list_any}
use Rattle.std.specs.Str.{bytes_eq}
use Rattle.std.proofs.lemmas.Bool.{cases_Bool}
use Rattle.std.proofs.lemmas.Option.{same_Some}
use Rattle.std.proofs.lemmas.Slice.Eq.{bytes_eq-Decides}
use Rattle.sq_base.specs.declared.refusal.Refusal.{Refusal}
use Rattle.sq_catalog.specs.Catalogue.{placed_column, place_of_column, repeated_column}
use Rattle.sq_catalog.specs.declared.table.Column.{Column as TableColumn}
use Rattle.sq_catalog.specs.declared.table.Table.{Table}
use Rattle.sq_core.specs.declared.node.Node.{Node}
use Rattle.sq_shown.specs.declared.signature.Output.{Output}
use Rattle.sq_run.specs.declared.statements.Named.{Named}
use Rattle.sq_run.specs.Judged.{judged_names, after_these, node_of, output_of, unknown, have_names}
use Rattle.sq_run.proofs.FirstTypes.{placed_there, same_ok}

-- a column stands somewhere in these
abbrev pub StandsIn : List TableColumn → TableColumn → Type 0
StandsIn columns column = (at : ℕ) × (slice_get columns at ≡ Some column)

-- an output is that of a column that stands there
abbrev pub ComesFrom : List TableColumn → Output → Type 0
ComesFrom columns output = (column : TableColumn) × StandsIn columns column × (output ≡ output_of column)

pub names_come : (table : Table) (names : List Named) (r : List Node × List Output) → judged_names table names ≡ Ok r → AllByRecursion (ComesFrom table.columns) r.1
names_come table [] r same = subst (λ (x : List Node × List Output). AllByRecursion (ComesFrom table.columns) x.1) (same_ok _ _ _ refl same) tt
names_come table (named ∷ names) r same = by_column (λ l. names_come table names l) (placed_column table named.name) refl same
  where
    by_later : (place : ℕ) (c : TableColumn) → slice_get table.columns place ≡ Some c → (later : Result (List Node × List Output) Refusal) → ((l : List Node × List Output) → later ≡ Ok l → AllByRecursion (ComesFrom table.columns) l.1)
        → after_these (node_of place c ∷ []) (output_of c ∷ []) later ≡ Ok r → AllByRecursion (ComesFrom table.columns) r.1
    by_later place c there (Err e) all same = absurd (cc same)
    by_later place c there (Ok l) all same =
        subst (λ (x : List Node × List Output). AllByRecursion (ComesFrom table.columns) x.1) (same_ok _ _ _ refl same) ((c, (place, there), refl), all l refl)

    by_column : ((l : List Node × List Output) → judged_names table names ≡ Ok l → AllByRecursion (ComesFrom table.columns) l.1) → (found : Option (ℕ × TableColumn)) → placed_column table named.name ≡ found
        → ◌≡◌ {A = Result (List Node × List Output) Refusal} (elim found [ None ↦ Err (unknown code.UnknownColumn named) | Some c ↦ after_these (node_of c.0 c.1 ∷ []) (output_of c.1 ∷ []) (judged_names table names) ]) (Ok r) → AllByRecursion (ComesFrom table.columns) r.1
    by_column all None there same = absurd (cc same)
    by_column all (Some c) there same = by_later c.0 c.1 (placed_there table.columns (place_of_column table named.name) c there) (judged_names table names) all same

-- names give outputs, one or more where they are
pub some_outputs : (table : Table) (names : List Named) (r : List Node × List Output) → names ≢ [] → judged_names table names ≡ Ok r → r.1 ≢ []
some_outputs table [] r some same = absurd (some refl)
some_outputs table (named ∷ names) r some same = by_column (placed_column table named.name) same
  where
    by_later : (place : ℕ) (c : TableColumn) (later : Result (List Node × List Output) Refusal) → after_these (node_of place c ∷ []) (output_of c ∷ []) later ≡ Ok r → r.1 ≢ []
    by_later place c (Err e) same = absurd (cc same)
    by_later place c (Ok l) same = subst (λ (x : List Node × List Output). x.1 ≢ []) (same_ok _ _ _ refl same) (λ none. cc none)

    by_column : (found : Option (ℕ × TableColumn)) → ◌≡◌ {A = Result (List Node × List Output) Refusal} (elim found [ None ↦ Err (unknown code.UnknownColumn named) | Some c ↦ after_these (node_of c.0 c.1 ∷ []) (output_of c.1 ∷ []) (judged_names table names) ]) (Ok r) → r.1 ≢ []
    by_column None same = absurd (cc same)
    by_column (Some c) same = by_later c.0 c.1 (judged_names table names) same

-- each name gives one
pub names_size : (table : Table) (names : List Named) (r : List Node × List Output) → judged_names table names ≡ Ok r → length r.1 ≡ length names
names_size table [] r same = ap (λ (x : List Node × List Output). length x.1) (sym (same_ok _ _ _ refl same))
names_size table (named ∷ names) r same = by_column (λ l. names_size table names l) (placed_column table named.name) same
  where
    by_later : (place : ℕ) (c : TableColumn) (later : Result (List Node × List Output) Refusal) → ((l : List Node × List Output) → later ≡ Ok l → length l.1 ≡ length names)
        → after_these (node_of place c ∷ []) (output_of c ∷ []) later ≡ Ok r → length r.1 ≡ suc (length names)
    by_later place c (Err e) all same = absurd (cc same)
    by_later place c (Ok l) all same = ap (λ (x : List Node × List Output). length x.1) (sym (same_ok _ _ _ refl same)) ∙ ap suc (all l refl)

    by_column : ((l : List Node × List Output) → judged_names table names ≡ Ok l → length l.1 ≡ length names) → (found : Option (ℕ × TableColumn))
        → ◌≡◌ {A = Result (List Node × List Output) Refusal} (elim found [ None ↦ Err (unknown code.UnknownColumn named) | Some c ↦ after_these (node_of c.0 c.1 ∷ []) (output_of c.1 ∷ []) (judged_names table names) ]) (Ok r) → length r.1 ≡ suc (length names)
    by_column all None same = absurd (cc same)
    by_column all (Some c) same = by_later c.0 c.1 (judged_names table names) all same

-- whether one of these columns has this name
abbrev has_name : List TableColumn → List ℕ → Bool
has_name columns name = list_any (λ (other : TableColumn). bytes_eq other.name name) columns

-- a column that stands there is one of that name
named_there : (columns : List TableColumn) (at : ℕ) (b : TableColumn) (name : List ℕ) → slice_get columns at ≡ Some b → bytes_eq b.name name ≡ true → has_name columns name ≡ true
named_there [] at b name there same = absurd (cc there)
named_there (c ∷ columns) zero b name there same =
    let here : bytes_eq c.name name ≡ true = ap (λ (x : TableColumn). bytes_eq x.name name) (same_Some _ _ there) ∙ same in
    rw here refl
named_there (c ∷ columns) (suc at) b name there same = elim (cases_Bool (bytes_eq c.name name)) [
  | inl here ↦ rw here refl
  | inr not ↦ rw not (named_there columns at b name there same)
]

pub either_none : (a b : Bool) → (a || b) ≡ false → (a ≡ false) × (b ≡ false)
either_none true b none = absurd (cc none)
either_none false b none = (refl, none)

-- where no two columns have one name, the first has a name of its own
none_repeated : (c : TableColumn) (columns : List TableColumn) → repeated_column (c ∷ columns) ≡ None → (has_name columns c.name ≡ false) × (repeated_column columns ≡ None)
none_repeated c columns none = elim (cases_Bool (has_name columns c.name)) [
  | inl twin ↦ absurd (cc (rw twin at none))
  | inr apart ↦ (apart, rw apart at none)
]

-- columns that have one name are one, where no two have
one_of_name : (columns : List TableColumn) (i j : ℕ) (a b : TableColumn) → repeated_column columns ≡ None → slice_get columns i ≡ Some a → slice_get columns j ≡ Some b → bytes_eq a.name b.name ≡ true → a ≡ b
one_of_name [] i j a b apart first second same = absurd (cc first)
one_of_name (c ∷ columns) zero zero a b apart first second same = sym (same_Some _ _ first) ∙ same_Some _ _ second
one_of_name (c ∷ columns) zero (suc j) a b apart first second same =
    let none = (none_repeated c columns apart).0 in
    let is : c.name ≡ b.name = ap (λ (x : TableColumn). x.name) (same_Some _ _ first) ∙ (bytes_eq-Decides a.name b.name).0 same in
    absurd (cc (none, named_there columns j b c.name second ((bytes_eq-Decides b.name c.name).1 (sym is))))
one_of_name (c ∷ columns) (suc i) zero a b apart first second same =
    let none = (none_repeated c columns apart).0 in
    let is : a.name ≡ c.name = (bytes_eq-Decides a.name b.name).0 same ∙ sym (ap (λ (x : TableColumn). x.name) (same_Some _ _ second)) in
    absurd (cc (none, named_there columns i a c.name first ((bytes_eq-Decides a.name c.name).1 is)))
one_of_name (c ∷ columns) (suc i) (suc j) a b apart first second same = one_of_name columns i j a b (none_repeated c columns apart).1 first second same

moved : (c : TableColumn) (columns cs : List TableColumn) → AllByRecursion (StandsIn columns) cs → AllByRecursion (StandsIn (c ∷ columns)) cs
moved c columns [] all = tt
moved c columns (d ∷ cs) all = ((suc all.0.0, all.0.1), moved c columns cs all.1)

-- each column stands among all
each_there : (columns : List TableColumn) → AllByRecursion (StandsIn columns) columns
each_there [] = tt
each_there (c ∷ columns) = ((0, refl), moved c columns columns (each_there columns))

pub both : (a b : Bool) → (a && b) ≡ true → (a ≡ true) × (b ≡ true)
both true b is = (refl, is)
both false b is = absurd (cc is)

outputs_are : (columns : List TableColumn) → repeated_column columns ≡ None → (os : List Output) (cs : List TableColumn) → AllByRecursion (ComesFrom columns) os → AllByRecursion (StandsIn columns) cs → length os ≡ length cs → have_names os cs ≡ true → os ≡ map output_of cs
outputs_are columns apart [] [] come stand long named = refl
outputs_are columns apart [] (c ∷ cs) come stand long named = absurd (cc long)
outputs_are columns apart (o ∷ os) [] come stand long named = absurd (cc long)
outputs_are columns apart (o ∷ os) (c ∷ cs) come stand long named =
    let here = both (bytes_eq o.name c.name) (have_names os cs) named in
    let from = come.0 in
    let same : bytes_eq from.0.name c.name ≡ true = ap (λ (x : Output). bytes_eq x.name c.name) (sym from.2) ∙ here.0 in
    let column : from.0 ≡ c = one_of_name columns from.1.0 stand.0.0 from.0 c apart from.1.1 stand.0.1 same in
    let later : os ≡ map output_of cs = outputs_are columns apart os cs come.1 stand.1 (cc long) here.1 in
    ap (λ (x : Output). x ∷ os) (from.2 ∙ ap output_of column) ∙ ap (λ (xs : List Output). output_of c ∷ xs) later

-- outputs that come from the columns and have their names in order are theirs
pub all_outputs : (columns : List TableColumn) → repeated_column columns ≡ None → (os : List Output) → AllByRecursion (ComesFrom columns) os → length os ≡ length columns → have_names os columns ≡ true → os ≡ map output_of columns
all_outputs columns apart os come long named = outputs_are columns apart os columns come (each_there columns) long named
