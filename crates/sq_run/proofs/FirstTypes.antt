-- The types whose forms are built, and what is judged over tables that have them.
use Rattle.std.proofs.Common.{◌≡◌, ◌⊎◌, ℕ, zero, suc, ◌&&◌, not, Bool, true, false, List, [], ◌∷◌, ◌++◌, Option, None, Some, Result, Ok, Err, refl, subst, sym, inl, inr, slice_get}
use Rattle.sq_base.specs.declared.code.Code.TheVariants as code
use Rattle.std.specs.Prelude.{codes}
use Rattle.std.specs.Option.{option_map}
use Rattle.std.specs.List.{AllByRecursion, AllZip, list_all}
use Rattle.std.proofs.lemmas.Option.{same_Some}
use Rattle.sq_base.specs.declared.refusal.Refusal.{Refusal}
use Rattle.sq_base.specs.declared.types.PgType.{PgType}
use Rattle.sq_base.specs.declared.types.Scalar.{Scalar}
use Rattle.sq_base.specs.declared.types.Scalar.TheVariants as scalar
use Rattle.sq_catalog.specs.Catalogue.{placed, placed_column, place_of_column}
use Rattle.sq_catalog.specs.declared.table.Column.{Column as TableColumn}
use Rattle.sq_catalog.specs.declared.table.Table.{Table}
use Rattle.sq_core.specs.declared.node.Node.{Node}
use Rattle.sq_shown.specs.declared.signature.Output.{Output}
use Rattle.sq_catalog.specs.Contents.{Contents}
use Rattle.sq_shown.specs.Forms.{IsPrinted, printed_form}
use Rattle.sq_shown.specs.declared.signature.Language.TheVariants.{Go}
use Rattle.sq_shown.specs.Identifiers.{numbered, pascal}
use Rattle.sq_shown.specs.Signature.{field, fields_after, shown_columns}
use Rattle.sq_core.specs.Columns.{ArePrinted, Prints, ShowsColumn}
use Rattle.sq_core.specs.Forms.{printed_text}
use Rattle.sq_run.specs.declared.statements.Named.{Named}
use Rattle.sq_run.specs.Judged.{judged_names, after_these, node_of, output_of, unknown}
use Rattle.sq_run.specs.Schema.{is_first, is_first_scalar, has_first_types}

-- smallint, integer, bigint, boolean or text
abbrev pub IsFirstScalar : Scalar → Type 0
IsFirstScalar of = (of ≡ scalar.SmallInt) ⊎ ((of ≡ scalar.Integer) ⊎ ((of ≡ scalar.BigInt) ⊎ ((of ≡ scalar.Boolean) ⊎ (of ≡ scalar.Text))))

-- one of these, and no array
pub record IsFirst (of : PgType) : Type 0 where
  pub no_array : of.array ≡ false
  pub first : IsFirstScalar of.scalar

abbrev pub HasFirst : TableColumn → Type 0
HasFirst column = IsFirst column.of

abbrev pub ShowsFirst : Output → Type 0
ShowsFirst output = IsFirst output.of

-- all columns of a table have these types
abbrev pub HasFirstTypes : Table → Type 0
HasFirstTypes table = AllByRecursion HasFirst table.columns

scalar_first : (of : Scalar) → is_first_scalar of ≡ true → IsFirstScalar of
scalar_first scalar.SmallInt is = inl refl
scalar_first scalar.Integer is = inr (inl refl)
scalar_first scalar.BigInt is = inr (inr (inl refl))
scalar_first scalar.Boolean is = inr (inr (inr (inl refl)))
scalar_first scalar.Text is = inr (inr (inr (inr refl)))
scalar_first scalar.Real is = absurd (cc is)
scalar_first scalar.DoublePrecision is = absurd (cc is)
scalar_first scalar.Numeric is = absurd (cc is)
scalar_first scalar.Varchar is = absurd (cc is)
scalar_first scalar.Character is = absurd (cc is)
scalar_first scalar.Bytea is = absurd (cc is)
scalar_first scalar.Date is = absurd (cc is)
scalar_first scalar.Time is = absurd (cc is)
scalar_first scalar.Timestamp is = absurd (cc is)
scalar_first scalar.TimestampTz is = absurd (cc is)
scalar_first scalar.Interval is = absurd (cc is)
scalar_first scalar.Uuid is = absurd (cc is)
scalar_first scalar.Json is = absurd (cc is)
scalar_first scalar.Jsonb is = absurd (cc is)
scalar_first (scalar.Opaque place) is = absurd (cc is)
scalar_first (scalar.Enum id) is = absurd (cc is)
scalar_first (scalar.Domain id) is = absurd (cc is)
scalar_first scalar.Unknown is = absurd (cc is)

type_first : (array : Bool) (of : Scalar) → (not array && is_first_scalar of) ≡ true → IsFirst (record { scalar = of; array = array })
type_first true of is = absurd (cc is)
type_first false of is = record { no_array = refl; first = scalar_first of is }

first_of_all : {A : Type 0} (p : A → Bool) (x : A) (xs : List A) → list_all p (x ∷ xs) ≡ true → (p x ≡ true) × (list_all p xs ≡ true)
first_of_all p x xs is = split (p x) (list_all p xs) is
  where
    split : (a b : Bool) → (a && b) ≡ true → (a ≡ true) × (b ≡ true)
    split true b is = (refl, is)
    split false b is = absurd (cc is)

columns_first : (columns : List TableColumn) → list_all (λ (column : TableColumn). is_first column.of) columns ≡ true → AllByRecursion HasFirst columns
columns_first [] is = tt
columns_first (c ∷ columns) is =
    let parts = first_of_all (λ (column : TableColumn). is_first column.of) c columns is in
    (type_first c.of.array c.of.scalar parts.0, columns_first columns parts.1)

pub tables_first : (tables : List Table) → list_all has_first_types tables ≡ true → AllByRecursion HasFirstTypes tables
tables_first [] is = tt
tables_first (t ∷ tables) is =
    let parts = first_of_all has_first_types t tables is in
    (columns_first t.columns parts.0, tables_first tables parts.1)

-- what holds of all holds of the one at a place
pub at_place : {A : Type 0} (P : A → Type 0) (xs : List A) (i : ℕ) (x : A) → AllByRecursion P xs → slice_get xs i ≡ Some x → P x
at_place P [] i x all same = absurd (cc same)
at_place {A} P (y ∷ ys) zero x all same = subst P (same_Some _ _ same) all.0
at_place P (y ∷ ys) (suc i) x all same = at_place P ys i x all.1 same

pub placed_there : {A : Type 0} (xs : List A) (place : Option ℕ) (r : ℕ × A) → placed xs place ≡ Some r → slice_get xs r.0 ≡ Some r.1
placed_there xs None r same = absurd (cc same)
placed_there {A} xs (Some at) r same = by_there (slice_get xs at) refl same
  where
    by_there : (o : Option A) → slice_get xs at ≡ o → option_map (λ x. (at, x)) o ≡ Some r → slice_get xs r.0 ≡ Some r.1
    by_there None there same = absurd (cc same)
    by_there (Some x) there same = subst (λ (q : ℕ × A). slice_get xs q.0 ≡ Some q.1) (same_Some _ _ same) there

pub same_ok : {A : Type 0} (r : Result A Refusal) (x y : A) → r ≡ Ok x → r ≡ Ok y → x ≡ y
same_ok r x y one other = cc (one, other)

-- what judged names show: columns of the table, which have these types
pub record ShowsNames (table : Table) (r : List Node × List Output) : Type 0 where
  pub shows : AllZip (ShowsColumn table) r.0 r.1
  pub types : AllByRecursion ShowsFirst r.1

pub names_show : (table : Table) (names : List Named) (r : List Node × List Output) → AllByRecursion HasFirst table.columns → judged_names table names ≡ Ok r → ShowsNames table r
names_show table [] r first same = subst (ShowsNames table) (same_ok _ _ _ refl same) (record { shows = tt; types = tt })
names_show table (named ∷ names) r first same = by_column (λ l. names_show table names l first) (placed_column table named.name) refl same
  where
    by_later : (place : ℕ) (c : TableColumn) → slice_get table.columns place ≡ Some c → (later : Result (List Node × List Output) Refusal) → ((l : List Node × List Output) → later ≡ Ok l → ShowsNames table l)
        → after_these (node_of place c ∷ []) (output_of c ∷ []) later ≡ Ok r → ShowsNames table r
    by_later place c there (Err e) all same = absurd (cc same)
    by_later place c there (Ok l) all same =
        let later = all l refl in
        subst (ShowsNames table) (same_ok _ _ _ refl same)
        (record { shows = (rw there (refl, refl, refl, refl), later.shows); types = (at_place HasFirst table.columns place c first there, later.types) })

    by_column : ((l : List Node × List Output) → judged_names table names ≡ Ok l → ShowsNames table l) → (found : Option (ℕ × TableColumn)) → placed_column table named.name ≡ found
        → ◌≡◌ {A = Result (List Node × List Output) Refusal} (elim found [ None ↦ Err (unknown code.UnknownColumn named) | Some c ↦ after_these (node_of c.0 c.1 ∷ []) (output_of c.1 ∷ []) (judged_names table names) ]) (Ok r) → ShowsNames table r
    by_column all None there same = absurd (cc same)
    by_column all (Some c) there same = by_later c.0 c.1 (placed_there table.columns (place_of_column table named.name) c there) (judged_names table names) all same

scalar_printed : (array : Bool) (of : Scalar) → IsFirstScalar of → IsPrinted (record { scalar = of; array = array })
scalar_printed array of (inl is) = rw is refl
scalar_printed array of (inr (inl is)) = rw is refl
scalar_printed array of (inr (inr (inl is))) = rw is refl
scalar_printed array of (inr (inr (inr (inl is)))) = rw is refl
scalar_printed array of (inr (inr (inr (inr is)))) = rw is refl

output_printed : (output : Output) → ShowsFirst output → IsPrinted output.of
output_printed output first = scalar_printed output.of.array output.of.scalar first.first

pub are_printed : (outputs : List Output) → AllByRecursion ShowsFirst outputs → ArePrinted outputs
are_printed [] all = tt
are_printed (output ∷ outputs) all = (output_printed output all.0, are_printed outputs all.1)

-- the texts of the core are those that are written
abbrev pub TextIsWritten : Contents → Type 0
TextIsWritten contents = (of : PgType) (nullable : Bool) → IsPrinted of → printed_text Go contents of nullable ≡ printed_form of nullable

module _ (contents : Contents) (written : TextIsWritten contents) where
  prints : (identifier : List ℕ) (output : Output) → ShowsFirst output → Prints Go contents output (field identifier output)
  unfolding field
  prints identifier output first = sym (written output.of output.nullable (output_printed output first))

  fields_print : (earlier : List (List ℕ)) (outputs : List Output) → AllByRecursion ShowsFirst outputs → AllZip (Prints Go contents) outputs (fields_after earlier outputs)
  fields_print earlier [] all = tt
  fields_print earlier (output ∷ outputs) all = (prints (numbered earlier (pascal output.name)) output all.0, fields_print (earlier ++ pascal output.name ∷ []) outputs all.1)

  -- the shown columns print the outputs
  pub columns_print : (outputs : List Output) → AllByRecursion ShowsFirst outputs → AllZip (Prints Go contents) outputs (shown_columns outputs)
  columns_print [] all = tt
  columns_print (output ∷ []) all = (prints (codes "_") output all.0, tt)
  columns_print (output ∷ second ∷ outputs) all = fields_print [] (output ∷ second ∷ outputs) all
