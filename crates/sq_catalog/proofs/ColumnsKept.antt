-- The columns of a table stay apart, whatever is made of it.
use Rattle.std.proofs.Common.{◌≡◌, ◌≢◌, ◌<◌, ◌≤◌, ◌+◌, ◌-◌, ◌==◌, ◌||◌, ℕ, zero, suc, Bool, true, false, cond, List, [], ◌∷◌, ◌++◌, map, length, remove, Option, Some, None, Result, Ok, Err, IfOk, bytes_eq, refl, sym, subst, ◌∙◌, arith, nat_lt, length-append}
use Rattle.std.specs.List.{AllByRecursion, list_any, position_or_len}
use Rattle.std.proofs.lemmas.Slice.Eq.{bytes_eq-Decides}
use Rattle.std.proofs.lemmas.List.Edits.{length-remove}
use Rattle.std.proofs.lemmas.Option.{same_Some}
use Rattle.std.proofs.lemmas.Result.{IfOk-at_ok, IfOk-weaker}
use Rattle.sq_catalog.specs.Actions.{with_column, column_added, column_dropped, column_renamed, column_unmarked, key_dropped, key_renamed, acted}
use Rattle.sq_catalog.specs.Answers.{and_then}
use Rattle.sq_catalog.specs.Catalogue.{is_repeated, repeated_column, distinct, new_table}
use Rattle.sq_catalog.specs.Columns.{place_of_column, change_at, with_column_at, named, marked, typed}
use Rattle.sq_catalog.specs.Dropping.{goes_at, strip_at, stripped_below, stripped}
use Rattle.sq_catalog.specs.Keys.{primary_key, key_name, places_of, new_key, key_of, limited, completed, all_marked, with_key, with_key_of, in_key, moved, key_without, without_column}
use Rattle.sq_catalog.specs.declared.table.Column.{Column}
use Rattle.sq_catalog.specs.declared.table.Key.{Key}
use Rattle.sq_catalog.specs.declared.table.Table.{Table}
use Rattle.sq_catalog.specs.declared.change.Action.{Action}
use Rattle.sq_catalog.specs.declared.change.Action.TheVariants.{AddColumn, DropColumn, RenameColumn, SetNotNull, DropNotNull, SetType, AddPrimaryKey, DropConstraint, RenameConstraint}
use Rattle.sq_catalog.specs.declared.change.Cause.{Cause}
use Rattle.sq_catalog.specs.declared.change.Cause.TheVariants.{Exists, Missing, InPrimaryKey, TooManyColumns}
use Rattle.sq_catalog.specs.declared.change.Keys.{Keys}
use Rattle.sq_catalog.specs.declared.change.Keys.TheVariants.{Nothing, One, Several}
use Rattle.sq_catalog.specs.declared.change.NewKey.{NewKey}
use Rattle.sq_catalog.specs.Kept.{IsTable, HasPlaces, IsNotNullAt}
use Rattle.sq_catalog.proofs.Answered.{by_test, by_finding, by_next}
use Rattle.sq_catalog.proofs.Apart.{all_pushed, all_weaker, all_of_both, Apart, apart_pushed, apart_removed, apart_changed, apart_renamed, same_length, no_longer, none_passes}

-- no two of these columns have one name
abbrev pub ApartByName : List Column → Type 0
ApartByName columns = Apart (λ (column : Column). column.name) columns

pub differ : (a b : List ℕ) → bytes_eq b a ≡ false → a ≢ b
differ a b is e = let equal : bytes_eq b a ≡ true = (bytes_eq-Decides b a).1 (sym e) in absurd (cc)

pub differing : (a b : List ℕ) → a ≢ b → bytes_eq b a ≡ false
differing a b differs = elim (bytes_eq b a) as (λ (t : Bool). bytes_eq b a ≡ t → t ≡ false) [
  | true ↦ λ e. absurd (differs (sym ((bytes_eq-Decides b a).0 e)))
  | false ↦ λ e. refl
] refl

pub neither : (a b : Bool) → (a || b) ≡ false → (a ≡ false) × (b ≡ false)
neither true b e = absurd (cc)
neither false b e = (refl, e)

no_repeats : (x : Column) (xs : List Column) → is_repeated x xs ≡ false → AllByRecursion (λ (y : Column). x.name ≢ y.name) xs
no_repeats x [] none = tt
no_repeats x (y ∷ ys) none =
    let both = neither (bytes_eq y.name x.name) (is_repeated x ys) none in
    (differ x.name y.name both.0, no_repeats x ys both.1)

not_repeated : (x : Column) (xs : List Column) → AllByRecursion (λ (y : Column). x.name ≢ y.name) xs → is_repeated x xs ≡ false
not_repeated x [] all = refl
not_repeated x (y ∷ ys) all = rw (differing x.name y.name all.0) (not_repeated x ys all.1)

pub apart_of_distinct : (columns : List Column) → repeated_column columns ≡ None → ApartByName columns
apart_of_distinct [] none = tt
apart_of_distinct (x ∷ xs) none =
    elim (is_repeated x xs) as (λ (t : Bool). is_repeated x xs ≡ t → cond t (Some x.name) (repeated_column xs) ≡ None → ApartByName (x ∷ xs)) [
      | true ↦ λ is e. absurd (cc)
      | false ↦ λ is e. (no_repeats x xs is, apart_of_distinct xs e)
    ] refl none

pub distinct_of_apart : (columns : List Column) → ApartByName columns → repeated_column columns ≡ None
distinct_of_apart [] apart = refl
distinct_of_apart (x ∷ xs) apart = rw (not_repeated x xs apart.0) (distinct_of_apart xs apart.1)

-- a key is made of these columns
abbrev IsKeyOf : List Column → Option Key → Type 0
IsKeyOf columns key = HasPlaces (λ place. place < length columns) key

-- the columns of a key are NOT NULL
abbrev IsMarked : List Column → Option Key → Type 0
IsMarked columns key = HasPlaces (IsNotNullAt columns) key

-- what is made of a table has its id, its schema and its name, and is a table too
pub record IsMadeOf (table new : Table) : Type 0 where
  pub same : new.id ≡ table.id
  pub home : new.schema ≡ table.schema
  pub called : new.name ≡ table.name
  pub apart : ApartByName new.columns
  pub few : length new.columns ≤ 1600
  pub keyed : IsKeyOf new.columns new.key
  pub marks : IsMarked new.columns new.key

pub is_made : (table new : Table) → IsMadeOf table new → IsTable new
is_made table new made = record { distinct = distinct_of_apart new.columns made.apart; few = made.few; keyed = made.keyed; not_null = made.marks }

-- a table is made of itself
pub unchanged : (table : Table) → IsTable table → IsMadeOf table table
unchanged table is = record { same = refl; home = refl; called = refl; apart = apart_of_distinct table.columns is.distinct; few = is.few; keyed = is.keyed; marks = is.not_null }

-- the name of a column is free
free : (table : Table) (name : List ℕ) → place_of_column table name ≡ None → AllByRecursion (λ (column : Column). column.name ≢ name) table.columns
free table name none = all_weaker (λ (column : Column). bytes_eq column.name name ≡ false) (λ (column : Column). column.name ≢ name)
    (λ column is e. differ name column.name is (sym e)) table.columns (none_passes (λ (column : Column). bytes_eq column.name name) table.columns none)

marked_apart : (columns : List Column) (places : List ℕ) → ApartByName columns → ApartByName (all_marked columns places)
marked_apart columns [] apart = apart
marked_apart columns (at ∷ places) apart =
    marked_apart (change_at (marked true) columns at) places (apart_changed (λ (column : Column). column.name) (marked true) columns at (λ column there. refl) apart)

marked_length : (columns : List Column) (places : List ℕ) → length (all_marked columns places) ≡ length columns
marked_length columns [] = refl
marked_length columns (at ∷ places) = marked_length (change_at (marked true) columns at) places ∙ same_length (marked true) columns at

-- a key is one of more columns too
more_columns : (columns new : List Column) (key : Option Key) → length columns ≤ length new → IsKeyOf columns key → IsKeyOf new key
more_columns columns new None more keyed = tt
more_columns columns new (Some key) more keyed = all_weaker (λ place. place < length columns) (λ place. place < length new) (λ place within. omega arith) key.columns keyed

-- the place of a column is one of its table
place_within : (table : Table) (name : List ℕ) (at : ℕ) → place_of_column table name ≡ Some at → at < length table.columns
place_within table name at found =
    by_test (λ (o : Option ℕ). o ≡ Some at → at < length table.columns) (nat_lt first (length table.columns)) (Some first) None
    (λ is e. let same : first ≡ at = same_Some first at e in let within : first < length table.columns = grind (arith, is) in omega arith) (λ is e. absurd (cc)) found where
      first : ℕ
      first = position_or_len (λ (column : Column). bytes_eq column.name name) table.columns

places_within : (table : Table) (found : List ℕ) (names : List (List ℕ)) → AllByRecursion (λ place. place < length table.columns) found → IfOk (places_of table found names) (AllByRecursion (λ place. place < length table.columns))
places_within table found [] all = all
places_within table found (name ∷ names) all =
    by_finding (λ (r : Result (List ℕ) Cause). IfOk r (AllByRecursion (λ place. place < length table.columns))) (place_of_column table name) (Err (Missing name)) (λ at. places_of table (found ++ at ∷ []) names) (λ none. tt)
    (λ at there. places_within table (found ++ at ∷ []) names (all_pushed (λ place. place < length table.columns) found at all (place_within table name at there)))

-- the places of a new key
abbrev Fits : Table → Key → Type 0
Fits table key = AllByRecursion (λ place. place < length table.columns) key.columns

new_key_fits : (table : Table) (new : NewKey) → IfOk (new_key table new) (Fits table)
new_key_fits table new =
    by_finding (λ (r : Result Key Cause). IfOk r (Fits table)) table.key (and_then (places_of table [] new.columns) (λ places. Ok (record { name = key_name table.name new.name; columns = places }))) (λ key. Err (Exists primary_key))
    (λ none. by_next (Fits table) (places_of table [] new.columns) (λ places. Ok (record { name = key_name table.name new.name; columns = places }))
    (λ places found. IfOk-at_ok (AllByRecursion (λ place. place < length table.columns)) found (places_within table [] new.columns tt)))
    (λ key there. tt)

key_of_fits : (table : Table) (keys : Keys) → IfOk (key_of table keys) (IsKeyOf table.columns)
key_of_fits table Nothing = tt
key_of_fits table (One new) = by_next (IsKeyOf table.columns) (new_key table new) (λ key. Ok (Some key)) (λ key made. IfOk-at_ok (Fits table) made (new_key_fits table new))
key_of_fits table Several = tt

-- MARKS

-- what is NOT NULL stays so where columns are changed that keep it
mark_stays : (f : Column → Column) → ((column : Column) → column.not_null ≡ true → (f column).not_null ≡ true) → (columns : List Column) (at place : ℕ)
    → IsNotNullAt columns place → IsNotNullAt (change_at f columns at) place
mark_stays f keeps [] at place marked_there = marked_there
mark_stays f keeps (x ∷ xs) zero zero marked_there = keeps x marked_there
mark_stays f keeps (x ∷ xs) zero (suc place) marked_there = marked_there
mark_stays f keeps (x ∷ xs) (suc at) zero marked_there = marked_there
mark_stays f keeps (x ∷ xs) (suc at) (suc place) marked_there = mark_stays f keeps xs at place marked_there

-- and where another column is changed
mark_beside : (f : Column → Column) (columns : List Column) (at place : ℕ) → (place == at) ≡ false → IsNotNullAt columns place → IsNotNullAt (change_at f columns at) place
mark_beside f [] at place other marked_there = marked_there
mark_beside f (x ∷ xs) zero zero other marked_there = absurd (cc)
mark_beside f (x ∷ xs) zero (suc place) other marked_there = marked_there
mark_beside f (x ∷ xs) (suc at) zero other marked_there = marked_there
mark_beside f (x ∷ xs) (suc at) (suc place) other marked_there = mark_beside f xs at place (grind (arith, other)) marked_there

mark_here : (columns : List Column) (at : ℕ) → IsNotNullAt (change_at (marked true) columns at) at
mark_here [] at = tt
mark_here (x ∷ xs) zero = refl
mark_here (x ∷ xs) (suc at) = mark_here xs at

mark_further : (columns : List Column) (places : List ℕ) (place : ℕ) → IsNotNullAt columns place → IsNotNullAt (all_marked columns places) place
mark_further columns [] place marked_there = marked_there
mark_further columns (at ∷ places) place marked_there =
    mark_further (change_at (marked true) columns at) places place (mark_stays (marked true) (λ column is. refl) columns at place marked_there)

all_marks : (columns : List Column) (places : List ℕ) → AllByRecursion (IsNotNullAt (all_marked columns places)) places
all_marks columns [] = tt
all_marks columns (at ∷ places) =
    (mark_further (change_at (marked true) columns at) places at (mark_here columns at), all_marks (change_at (marked true) columns at) places)

-- what holds of the places of a key follows for each of them
places_follow : (P Q : ℕ → Type 0) → ((place : ℕ) → P place → Q place) → (key : Option Key) → HasPlaces P key → HasPlaces Q key
places_follow P Q follows None has = tt
places_follow P Q follows (Some key) has = all_weaker P Q follows key.columns has

places_of_both : (P Q R : ℕ → Type 0) → ((place : ℕ) → P place → Q place → R place) → (key : Option Key) → HasPlaces P key → HasPlaces Q key → HasPlaces R key
places_of_both P Q R both None first second = tt
places_of_both P Q R both (Some key) first second = all_of_both P Q R both key.columns first second

mark_of_more : (columns : List Column) (column : Column) (place : ℕ) → place < length columns → IsNotNullAt columns place → IsNotNullAt (columns ++ column ∷ []) place
mark_of_more [] column place within marked_there = absurd (omega arith)
mark_of_more (x ∷ xs) column zero within marked_there = marked_there
mark_of_more (x ∷ xs) column (suc place) within marked_there = mark_of_more xs column place (omega arith) marked_there

mark_before : (columns : List Column) (gone place : ℕ) → place < gone → IsNotNullAt columns place → IsNotNullAt (remove columns gone) place
mark_before [] zero place before marked_there = tt
mark_before [] (suc gone) place before marked_there = tt
mark_before (x ∷ xs) zero place before marked_there = absurd (omega arith)
mark_before (x ∷ xs) (suc gone) zero before marked_there = marked_there
mark_before (x ∷ xs) (suc gone) (suc place) before marked_there = mark_before xs gone place (omega arith) marked_there

mark_behind : (columns : List Column) (gone place : ℕ) → gone ≤ place → IsNotNullAt columns (suc place) → IsNotNullAt (remove columns gone) place
mark_behind [] zero place behind marked_there = tt
mark_behind [] (suc gone) place behind marked_there = tt
mark_behind (x ∷ xs) zero place behind marked_there = marked_there
mark_behind (x ∷ xs) (suc gone) zero behind marked_there = absurd (omega arith)
mark_behind (x ∷ xs) (suc gone) (suc place) behind marked_there = mark_behind xs gone place (omega arith) marked_there

mark_moved : (columns : List Column) (gone place : ℕ) → (place == gone) ≡ false → IsNotNullAt columns place → IsNotNullAt (remove columns gone) (moved gone place)
mark_moved columns gone place other marked_there =
    let differs : place ≢ gone = grind (arith, other) in
    by_test (IsNotNullAt (remove columns gone)) (nat_lt gone place) (place - 1) place
    (λ is. let behind : gone < place = grind (arith, is) in let next : place ≡ suc (place - 1) = omega arith in
    mark_behind columns gone (place - 1) (omega arith) (subst (IsNotNullAt columns) next marked_there))
    (λ is. let before : place ≤ gone = grind (arith, is) in mark_before columns gone place (omega arith) marked_there)

marks_moved : (columns : List Column) (gone : ℕ) (places : List ℕ) → list_any (λ place. place == gone) places ≡ false → AllByRecursion (IsNotNullAt columns) places
    → AllByRecursion (IsNotNullAt (remove columns gone)) (map (moved gone) places)
marks_moved columns gone [] none all = tt
marks_moved columns gone (place ∷ places) none all =
    let both = neither (place == gone) (list_any (λ other. other == gone) places) none in
    (mark_moved columns gone place both.0 all.0, marks_moved columns gone places both.1 all.1)

key_without_marks : (columns : List Column) (gone : ℕ) (key : Option Key) → IsMarked columns key → IsMarked (remove columns gone) (key_without gone key)
key_without_marks columns gone None marks = tt
key_without_marks columns gone (Some key) marks =
    by_test (IsMarked (remove columns gone)) (list_any (λ place. place == gone) key.columns) None (Some (record key { columns = map (moved gone) key.columns })) (λ held. tt) (λ free. marks_moved columns gone key.columns free marks)

-- a column that is in no key is changed
loose_marks : (f : Column → Column) (columns : List Column) (at : ℕ) (places : List ℕ) → list_any (λ place. place == at) places ≡ false → AllByRecursion (IsNotNullAt columns) places
    → AllByRecursion (IsNotNullAt (change_at f columns at)) places
loose_marks f columns at [] none all = tt
loose_marks f columns at (place ∷ places) none all =
    let both = neither (place == at) (list_any (λ other. other == at) places) none in
    (mark_beside f columns at place both.0 all.0, loose_marks f columns at places both.1 all.1)

unmarked_marks : (table : Table) (at : ℕ) (key : Option Key) → elim key [ None ↦ false | Some held ↦ list_any (λ place. place == at) held.columns ] ≡ false → IsMarked table.columns key
    → IsMarked (change_at (marked false) table.columns at) key
unmarked_marks table at None loose marks = tt
unmarked_marks table at (Some key) loose marks = loose_marks (marked false) table.columns at key.columns loose marks

-- TABLES

with_key_made : (table : Table) (key : Key) → ApartByName table.columns → length table.columns ≤ 1600 → Fits table key → IsMadeOf table (with_key table key)
with_key_made table key apart few fits = record {
  same = refl;
  home = refl;
  called = refl;
  apart = marked_apart table.columns key.columns apart;
  few = omega (arith, marked_length table.columns key.columns);
  keyed = more_columns table.columns (all_marked table.columns key.columns) (Some key) (omega (arith, marked_length table.columns key.columns)) fits;
  marks = all_marks table.columns key.columns;
}

with_key_of_made : (table : Table) (key : Option Key) → ApartByName table.columns → length table.columns ≤ 1600 → IsKeyOf table.columns table.key → IsMarked table.columns table.key → IsKeyOf table.columns key → IsMadeOf table (with_key_of table key)
with_key_of_made table None apart few keyed marks fits = record { same = refl; home = refl; called = refl; apart = apart; few = few; keyed = keyed; marks = marks }
with_key_of_made table (Some key) apart few keyed marks fits = with_key_made table key apart few fits

within_limit : (table within : Table) → limited table ≡ Ok within → length table.columns ≤ 1600
within_limit table within = by_test (λ (r : Result Table Cause). r ≡ Ok within → length table.columns ≤ 1600) (nat_lt 1600 (length table.columns)) (Err (TooManyColumns table.name)) (Ok table)
    (λ over e. absurd (cc)) (λ is e. grind (arith, is))

pub completed_made : (table : Table) (keys : Keys) → ApartByName table.columns → IsKeyOf table.columns table.key → IsMarked table.columns table.key → IfOk (completed table keys) (IsMadeOf table)
completed_made table keys apart keyed marks =
    by_next (IsMadeOf table) (key_of table keys) (λ key. and_then (limited table) (λ within. Ok (with_key_of table key))) (λ key given.
    by_next (IsMadeOf table) (limited table) (λ within. Ok (with_key_of table key)) (λ within is.
    with_key_of_made table key apart (within_limit table within is) keyed marks (IfOk-at_ok (IsKeyOf table.columns) given (key_of_fits table keys))))

-- a new table
pub new_made : (table : Table) (keys : Keys) → IsKeyOf table.columns table.key → IsMarked table.columns table.key → IfOk (new_table table keys) (IsMadeOf table)
new_made table keys keyed marks = by_next (IsMadeOf table) (distinct table.columns) (λ done. completed table keys) (λ done is. completed_made table keys (apart_of_distinct table.columns (none is)) keyed marks) where
  none : {done : Unit {0}} → distinct table.columns ≡ Ok done → repeated_column table.columns ≡ None
  none {done} is = by_finding (λ (r : Result (Unit {0}) Cause). r ≡ Ok done → repeated_column table.columns ≡ None) (repeated_column table.columns) (Ok tt) (λ name. Err (Exists name))
      (λ e i. e) (λ name e i. absurd (cc)) is

-- a table whose columns are changed at a place, and keep their names
kept_at : (f : Column → Column) (table : Table) (at : ℕ) → ((column : Column) → (f column).name ≡ column.name) → IsMarked (change_at f table.columns at) table.key → IsTable table
    → IsMadeOf table (with_column_at f table at)
kept_at f table at keeps marks is = record {
  same = refl;
  home = refl;
  called = refl;
  apart = apart_changed (λ (column : Column). column.name) f table.columns at (λ column there. keeps column) (apart_of_distinct table.columns is.distinct);
  few = let few : length table.columns ≤ 1600 = is.few in omega (arith, same_length f table.columns at);
  keyed = more_columns table.columns (change_at f table.columns at) table.key (omega (arith, same_length f table.columns at)) is.keyed;
  marks = marks;
}

-- a column under a name that is free
named_at : (table : Table) (at : ℕ) (to : List ℕ) → place_of_column table to ≡ None → IsTable table → IsMadeOf table (with_column_at (named to) table at)
named_at table at to none is = record {
  same = refl;
  home = refl;
  called = refl;
  apart = apart_renamed (λ (column : Column). column.name) (named to) to table.columns at (λ column there. refl) (free table to none) (apart_of_distinct table.columns is.distinct);
  few = let few : length table.columns ≤ 1600 = is.few in omega (arith, same_length (named to) table.columns at);
  keyed = more_columns table.columns (change_at (named to) table.columns at) table.key (omega (arith, same_length (named to) table.columns at)) is.keyed;
  marks = places_follow (IsNotNullAt table.columns) (IsNotNullAt (change_at (named to) table.columns at)) (mark_stays (named to) (λ column so. so) table.columns at) table.key is.not_null;
}

-- a place before the one that goes stays
before_gone : (columns : List Column) (gone place : ℕ) → place < gone → place < length columns → place < length (remove columns gone)
before_gone [] gone place before within = absurd (omega arith)
before_gone (x ∷ xs) zero place before within = absurd (omega arith)
before_gone (x ∷ xs) (suc gone) zero before within = omega arith
before_gone (x ∷ xs) (suc gone) (suc place) before within = let one : place < length (remove xs gone) = before_gone xs gone place (omega arith) (omega arith) in omega arith

moved_within : (columns : List Column) (gone place : ℕ) → (place == gone) ≡ false → place < length columns → moved gone place < length (remove columns gone)
moved_within columns gone place other within =
    let differs : place ≢ gone = grind (arith, other) in
    by_test (λ (new : ℕ). new < length (remove columns gone)) (nat_lt gone place) (place - 1) place
    (λ is. let behind : gone < place = grind (arith, is) in let fewer : length (remove columns gone) + 1 ≡ length columns = length-remove columns gone (omega arith) in omega arith)
    (λ is. let before : place ≤ gone = grind (arith, is) in before_gone columns gone place (omega arith) within)

all_moved : (columns : List Column) (gone : ℕ) (places : List ℕ) → list_any (λ place. place == gone) places ≡ false → AllByRecursion (λ place. place < length columns) places
    → AllByRecursion (λ place. place < length (remove columns gone)) (map (moved gone) places)
all_moved columns gone [] none all = tt
all_moved columns gone (place ∷ places) none all =
    let both = neither (place == gone) (list_any (λ other. other == gone) places) none in
    (moved_within columns gone place both.0 all.0, all_moved columns gone places both.1 all.1)

key_without_fits : (columns : List Column) (gone : ℕ) (key : Option Key) → IsKeyOf columns key → IsKeyOf (remove columns gone) (key_without gone key)
key_without_fits columns gone None keyed = tt
key_without_fits columns gone (Some key) keyed =
    by_test (IsKeyOf (remove columns gone)) (list_any (λ place. place == gone) key.columns) None (Some (record key { columns = map (moved gone) key.columns })) (λ held. tt) (λ free. all_moved columns gone key.columns free keyed)

-- a table without the column at a place
without_made : (old table : Table) (gone : ℕ) → IsMadeOf old table → IsMadeOf old (without_column table gone)
without_made old table gone made = record {
  same = made.same;
  home = made.home;
  called = made.called;
  apart = apart_removed (λ (column : Column). column.name) table.columns gone made.apart;
  few = let few : length table.columns ≤ 1600 = made.few in omega (arith, no_longer table.columns gone);
  keyed = key_without_fits table.columns gone table.key made.keyed;
  marks = key_without_marks table.columns gone table.key made.marks;
}

strip_made : (ids : List ℕ) (old table : Table) (at : ℕ) → IsMadeOf old table → IsMadeOf old (strip_at ids table at)
strip_made ids old table at made = by_test (IsMadeOf old) (goes_at ids table at) (without_column table at) table (λ goes. without_made old table at made) (λ stays. made)

stripped_below_made : (ids : List ℕ) (old : Table) (at : ℕ) (table : Table) → IsMadeOf old table → IsMadeOf old (stripped_below ids at table)
stripped_below_made ids old zero table made = made
stripped_below_made ids old (suc at) table made = stripped_below_made ids old at (strip_at ids table at) (strip_made ids old table at made)

-- a table without its columns of some types
pub stripped_made : (ids : List ℕ) (table : Table) → IsTable table → IsMadeOf table (stripped ids table)
stripped_made ids table is = stripped_below_made ids table (length table.columns) table (unchanged table is)

-- the id stays, whatever goes
pub stripped_id : (ids : List ℕ) (table : Table) → (stripped ids table).id ≡ table.id
stripped_id ids table = below (length table.columns) table where
  below : (at : ℕ) (t : Table) → (stripped_below ids at t).id ≡ t.id
  below zero t = refl
  below (suc at) t = below at (strip_at ids t at) ∙ by_test (λ (new : Table). new.id ≡ t.id) (goes_at ids t at) (without_column t at) t (λ goes. refl) (λ stays. refl)

-- the schema and the name of a table
abbrev pub name_of : Table → List ℕ × List ℕ
name_of table = (table.schema, table.name)

-- the schema and the name stay, whatever goes
pub stripped_name : (ids : List ℕ) (table : Table) → name_of (stripped ids table) ≡ name_of table
stripped_name ids table = below (length table.columns) table where
  below : (at : ℕ) (t : Table) → name_of (stripped_below ids at t) ≡ name_of t
  below zero t = refl
  below (suc at) t = below at (strip_at ids t at) ∙ by_test (λ (new : Table). name_of new ≡ name_of t) (goes_at ids t at) (without_column t at) t (λ goes. refl) (λ stays. refl)

-- one more column
added_made : (table : Table) (column : Column) (if_not_exists : Bool) (keys : Keys) → IsTable table → IfOk (column_added table column if_not_exists keys) (IsMadeOf table)
added_made table column if_not_exists keys is =
    by_finding (λ (r : Result Table Cause). IfOk r (IsMadeOf table)) (place_of_column table column.name) (completed (with_column table column) keys) (λ at. cond if_not_exists (Ok table) (Err (Exists column.name)))
    (λ none. IfOk-weaker (completed (with_column table column) keys) (IsMadeOf (with_column table column)) (IsMadeOf table) (λ new made. record { same = made.same; home = made.home; called = made.called; apart = made.apart; few = made.few; keyed = made.keyed; marks = made.marks })
    (completed_made (with_column table column) keys (apart_pushed (λ (other : Column). other.name) table.columns column (free table column.name none) (apart_of_distinct table.columns is.distinct))
    (more_columns table.columns (table.columns ++ column ∷ []) table.key (omega (arith, length-append table.columns (column ∷ []))) is.keyed)
    (places_of_both (λ place. place < length table.columns) (IsNotNullAt table.columns) (IsNotNullAt (table.columns ++ column ∷ [])) (mark_of_more table.columns column) table.key is.keyed is.not_null)))
    (λ at there. by_test (λ (r : Result Table Cause). IfOk r (IsMadeOf table)) if_not_exists (Ok table) (Err (Exists column.name)) (λ yes. unchanged table is) (λ fails. tt))

dropped_made : (table : Table) (name : List ℕ) (if_exists : Bool) → IsTable table → IfOk (column_dropped table name if_exists) (IsMadeOf table)
dropped_made table name if_exists is =
    by_finding (λ (r : Result Table Cause). IfOk r (IsMadeOf table)) (place_of_column table name) (cond if_exists (Ok table) (Err (Missing name))) (λ at. Ok (without_column table at))
    (λ none. by_test (λ (r : Result Table Cause). IfOk r (IsMadeOf table)) if_exists (Ok table) (Err (Missing name)) (λ passes. unchanged table is) (λ fails. tt))
    (λ at there. without_made table table at (unchanged table is))

renamed_made : (table : Table) (from to : List ℕ) → IsTable table → IfOk (column_renamed table from to) (IsMadeOf table)
renamed_made table from to is =
    by_finding (λ (r : Result Table Cause). IfOk r (IsMadeOf table)) (place_of_column table from) (Err (Missing from)) (λ at. elim (place_of_column table to) [ None ↦ Ok (with_column_at (named to) table at) | Some taken ↦ Err (Exists to) ])
    (λ none. tt)
    (λ at there. by_finding (λ (r : Result Table Cause). IfOk r (IsMadeOf table)) (place_of_column table to) (Ok (with_column_at (named to) table at)) (λ taken. Err (Exists to))
    (λ none. named_at table at to none is) (λ taken e. tt))

-- a column that is there is changed, and keeps its name
changed_made : (f : Column → Column) (table : Table) (name : List ℕ) → ((column : Column) → (f column).name ≡ column.name) → ((column : Column) → column.not_null ≡ true → (f column).not_null ≡ true) → IsTable table
    → IfOk (elim (place_of_column table name) [ None ↦ Err (Missing name) | Some at ↦ Ok (with_column_at f table at) ]) (IsMadeOf table)
changed_made f table name keeps mark is =
    by_finding (λ (r : Result Table Cause). IfOk r (IsMadeOf table)) (place_of_column table name) (Err (Missing name)) (λ at. Ok (with_column_at f table at)) (λ none. tt)
    (λ at there. kept_at f table at keeps (places_follow (IsNotNullAt table.columns) (IsNotNullAt (change_at f table.columns at)) (mark_stays f mark table.columns at) table.key is.not_null) is)

unmarked_made : (table : Table) (name : List ℕ) → IsTable table → IfOk (column_unmarked table name) (IsMadeOf table)
unmarked_made table name is =
    by_finding (λ (r : Result Table Cause). IfOk r (IsMadeOf table)) (place_of_column table name) (Err (Missing name)) (λ at. cond (in_key table at) (Err (InPrimaryKey name)) (Ok (with_column_at (marked false) table at)))
    (λ none. tt)
    (λ at there. by_test (λ (r : Result Table Cause). IfOk r (IsMadeOf table)) (in_key table at) (Err (InPrimaryKey name)) (Ok (with_column_at (marked false) table at))
    (λ held. tt) (λ loose. kept_at (marked false) table at (λ column. refl) (unmarked_marks table at table.key loose is.not_null) is))

keyed_made : (table : Table) (key : NewKey) → IsTable table → IfOk (and_then (new_key table key) (λ made. Ok (with_key table made))) (IsMadeOf table)
keyed_made table key is = by_next (IsMadeOf table) (new_key table key) (λ made. Ok (with_key table made)) (λ made given.
    with_key_made table made (apart_of_distinct table.columns is.distinct) is.few (IfOk-at_ok (Fits table) given (new_key_fits table key)))

-- a constraint goes, or gets another name
key_dropped_has : (P : ℕ → Type 0) (name : List ℕ) (key : Option Key) → HasPlaces P key → HasPlaces P (key_dropped name key)
key_dropped_has P name None has = tt
key_dropped_has P name (Some key) has = by_test (HasPlaces P) (bytes_eq key.name name) None (Some key) (λ goes. tt) (λ stays. has)

key_renamed_has : (P : ℕ → Type 0) (from to : List ℕ) (key : Option Key) → HasPlaces P key → HasPlaces P (key_renamed from to key)
key_renamed_has P from to None has = tt
key_renamed_has P from to (Some key) has = by_test (HasPlaces P) (bytes_eq key.name from) (Some (record key { name = to })) (Some key) (λ renamed. has) (λ other. has)

-- what an action makes of a table
pub acted_made : (table : Table) (action : Action) → IsTable table → IfOk (acted table action) (IsMadeOf table)
acted_made table (AddColumn column if_not_exists keys) is = added_made table column if_not_exists keys is
acted_made table (DropColumn name if_exists) is = dropped_made table name if_exists is
acted_made table (RenameColumn from to) is = renamed_made table from to is
acted_made table (SetNotNull column) is = changed_made (marked true) table column (λ other. refl) (λ other so. refl) is
acted_made table (DropNotNull column) is = unmarked_made table column is
acted_made table (SetType column of) is = changed_made (typed of) table column (λ other. refl) (λ other so. so) is
acted_made table (AddPrimaryKey key) is = keyed_made table key is
acted_made table (DropConstraint name) is = record {
  same = refl;
  home = refl;
  called = refl;
  apart = apart_of_distinct table.columns is.distinct;
  few = is.few;
  keyed = key_dropped_has (λ place. place < length table.columns) name table.key is.keyed;
  marks = key_dropped_has (IsNotNullAt table.columns) name table.key is.not_null;
}
acted_made table (RenameConstraint from to) is = record {
  same = refl;
  home = refl;
  called = refl;
  apart = apart_of_distinct table.columns is.distinct;
  few = is.few;
  keyed = key_renamed_has (λ place. place < length table.columns) from to table.key is.keyed;
  marks = key_renamed_has (IsNotNullAt table.columns) from to table.key is.not_null;
}
