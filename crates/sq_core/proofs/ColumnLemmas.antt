-- The SELECT of columns of one table is typed, and the texts of the core are those of the writers.
use Rattle.std.proofs.Common.{◌≡◌, ℕ, zero, suc, length, Bool, true, false, not, List, [], ◌∷◌, ◌++◌, map, Option, Some, None, slice_get, refl, sym, ap, subst, ◌∙◌}
use Rattle.std.proofs.lemmas.Option.{slice_get-map}
use Rattle.std.specs.List.{AllZip, AllByRecursion}
use Rattle.std.specs.Prelude.{IsSome, IsSomeAnd, codes, option_map}
use Rattle.sq_base.specs.declared.types.PgType.{PgType}
use Rattle.sq_base.specs.declared.types.Scalar.{Scalar}
use Rattle.sq_base.specs.declared.types.Scalar.TheVariants.{SmallInt, Integer, BigInt, Real, DoublePrecision, Numeric, Boolean, Text, Varchar, Character, Bytea, Date, Time, Timestamp, TimestampTz, Interval, Uuid, Json, Jsonb, Opaque, Enum, Domain, Unknown}
use Rattle.sq_catalog.specs.Contents.{Contents}
use Rattle.sq_catalog.specs.UserTypes.{base, steps_under, under}
use Rattle.sq_catalog.specs.declared.table.Column.{Column as TableColumn}
use Rattle.sq_catalog.specs.declared.table.Table.{Table as CatalogTable}
use Rattle.sq_core.specs.declared.node.Node.{Node, Constant, Null as NullNode, Param as ParamNode, Apply', Subquery', Aggregate'}
use Rattle.sq_core.specs.declared.node.Node.TheVariants.{Column}
use Rattle.sq_core.specs.declared.node.Source.TheVariants.{Table}
use Rattle.sq_core.specs.declared.routine.Slot.{Slot}
use Rattle.sq_core.specs.declared.weak.Weak.{Weak}
use Rattle.sq_core.specs.Columns.{plain, own_slot, select, ShowsColumn, ShowsColumns, ArePrinted}
use Rattle.sq_core.specs.Forms.{go_text, go_nullable_text, scalar_shape, nullable_scalar_shape, shape, text, printed_text}
use Rattle.sq_core.specs.Frames.{InRow, Scope, kind_at, below, both_ranges, no_ranges, one_range}
use Rattle.sq_core.specs.Joins.{nullable_in}
use Rattle.sq_core.specs.Queries.{columns_in, kinds_in}
use Rattle.sq_core.specs.Sound.{IsKnown, IsTyped}
use Rattle.sq_core.specs.Statements.{AllTyped, kinds_of, outermost_scope}
use Rattle.sq_core.specs.Typing.{NodeTyped, node_kind, query_kinds}
use Rattle.sq_core.specs.Values.{Kind, kind_of, is_unknown, is_unknown_scalar, scalar_tag, tag, column_kind, output_kind}
use Rattle.sq_core.proofs.TypingRules.{query_kinds-Select, select_typed}
use Rattle.sq_shown.specs.Forms.{is_printed, IsPrinted, printed_form, scalar_form, nullable_scalar_form}
use Rattle.sq_shown.specs.declared.signature.Language.TheVariants.{Go}
use Rattle.sq_shown.specs.declared.signature.Output.{Output}

-- A type that is printed without the catalogue stands behind no domain.

stays : (contents : Contents) (scalar : Scalar) (array : Bool) → is_printed scalar ≡ true → under contents (record { scalar = scalar; array = array }) ≡ record { scalar = scalar; array = array }
stays contents (Domain id) array printed = cc
stays contents _ array printed = refl

base-printed : (contents : Contents) (steps : ℕ) (of : PgType) → is_printed of.scalar ≡ true → steps_under steps contents of ≡ of
base-printed contents zero of printed = refl
base-printed contents (suc steps) of printed = ap (steps_under steps contents) (stays contents of.scalar of.array printed) ∙ base-printed contents steps of printed

known_scalar : (scalar : Scalar) (array : Bool) → is_printed scalar ≡ true → is_unknown (record { scalar = scalar_tag scalar; array = array }) ≡ false
known_scalar (Enum id) array printed = cc
known_scalar (Domain id) array printed = cc
known_scalar Unknown array printed = cc
known_scalar _ array printed = refl

known-printed : (contents : Contents) (of : PgType) → is_printed of.scalar ≡ true → is_unknown (tag contents of) ≡ false
known-printed contents of printed =
    ap (λ behind. is_unknown (record { scalar = scalar_tag behind.scalar; array = behind.array })) (base-printed contents (length contents.domains) of printed)
    ∙ known_scalar of.scalar of.array printed

-- Texts.

never_written : (contents : Contents) (scalar : Scalar) → is_printed scalar ≡ true → go_text contents (scalar_shape Go scalar) ≡ scalar_form scalar
never_written contents (Enum id) printed = cc
never_written contents (Domain id) printed = cc
never_written contents Unknown printed = cc
never_written contents _ printed = refl

nullable_written : (contents : Contents) (scalar : Scalar) → is_printed scalar ≡ true → go_nullable_text contents (nullable_scalar_shape Go scalar) ≡ nullable_scalar_form scalar
nullable_written contents (Enum id) printed = cc
nullable_written contents (Domain id) printed = cc
nullable_written contents Unknown printed = cc
nullable_written contents _ printed = refl

own_written : (contents : Contents) (scalar : Scalar) (array nullable : Bool) → is_printed scalar ≡ true
    → text Go contents (record { shape = shape Go (record { scalar = scalar; array = array }) nullable; nullable = nullable }) ≡ printed_form (record { scalar = scalar; array = array }) nullable
own_written contents scalar true true printed = ap (λ t. codes "[]" ++ t) (never_written contents scalar printed)
own_written contents scalar true false printed = ap (λ t. codes "[]" ++ t) (never_written contents scalar printed)
own_written contents scalar false true printed = nullable_written contents scalar printed
own_written contents scalar false false printed = never_written contents scalar printed

-- the text of a type that needs no catalogue is that which the writer of Go writes
pub text-written : (contents : Contents) (of : PgType) (nullable : Bool) → IsPrinted of → printed_text Go contents of nullable ≡ printed_form of nullable
text-written contents of nullable printed =
    ap (λ behind. text Go contents (record { shape = shape Go behind nullable; nullable = nullable })) (base-printed contents (length contents.domains) of printed)
    ∙ own_written contents of.scalar of.array nullable printed

-- The SELECT of columns.

outputs_known : (contents : Contents) (outputs : List Output) → ArePrinted outputs → AllByRecursion (IsKnown contents) outputs
outputs_known contents [] printed = tt
outputs_known contents (output ∷ outputs) printed = (known-printed contents output.of printed.0, outputs_known contents outputs printed.1)

module _ (contents : Contents) (table : CatalogTable) where
  abbrev scope : Scope
  scope = below outermost_scope (InRow (both_ranges (one_range (kinds_in contents (Some table))) no_ranges []))

  column_there : (column : ℕ) (c : TableColumn) → slice_get table.columns column ≡ Some c → kind_at scope (own_slot column) ≡ Some (column_kind contents c)
  column_there column c there = slice_get-map (column_kind contents) table.columns column ∙ ap (option_map (column_kind contents)) there

  column_typed : (node : Node) (output : Output) → ShowsColumn table node output → NodeTyped contents [] node scope × (output_kind contents output ≡ node_kind contents [] node scope)
  column_typed (Column slot of) output shows = by_column (slice_get table.columns slot.column) refl shows
    where
      by_column : (found : Option TableColumn) → slice_get table.columns slot.column ≡ found
          → IsSomeAnd found (λ column. (slot ≡ own_slot slot.column) × (column.of ≡ of) × (output.of ≡ column.of) × (output.nullable ≡ not column.not_null))
          → NodeTyped contents [] (Column slot of) scope × (output_kind contents output ≡ node_kind contents [] (Column slot of) scope)
      by_column None there shows = absurd shows
      by_column (Some c) there shows =
          let at : kind_at scope slot ≡ Some (column_kind contents c) = ap (kind_at scope) shows.0 ∙ column_there slot.column c there in (
            subst (λ k. IsSomeAnd k (λ k. k.of ≡ tag contents of)) (sym at) (ap (tag contents) shows.1),
            (λ i. kind_of contents ((shows.2 ∙ shows.1) i) (shows.3 i)) ∙ ap (λ k. kind_of contents of (nullable_in k)) (sym at),
          )
  column_typed (Constant reading of) output shows = absurd shows
  column_typed (NullNode of) output shows = absurd shows
  column_typed (ParamNode number of) output shows = absurd shows
  column_typed (Apply' operation n operands) output shows = absurd shows
  column_typed (Subquery' inner n operands m query) output shows = absurd shows
  column_typed (Aggregate' aggregation n arguments m sorts k filters) output shows = absurd shows

  columns_typed : (nodes : List Node) (outputs : List Output) → AllZip (ShowsColumn table) nodes outputs
      → AllTyped contents [] nodes scope × (map (output_kind contents) outputs ≡ kinds_of contents [] nodes scope)
  columns_typed [] [] shows = (tt, refl)
  columns_typed [] (output ∷ outputs) shows = absurd shows
  columns_typed (node ∷ nodes) [] shows = absurd shows
  columns_typed (node ∷ nodes) (output ∷ outputs) shows =
      let one = column_typed node output shows.0 in
      let more = columns_typed nodes outputs shows.1 in
      ((one.0, more.0), λ i. one.1 i ∷ more.1 i)

-- the SELECT of columns of a table is typed
pub select_columns_typed : (contents : Contents) (weak : Weak) (place : ℕ) (nodes : List Node) (outputs : List Output) → ArePrinted outputs
    → ShowsColumns contents place nodes outputs → IsTyped contents weak (select place nodes) [] outputs
select_columns_typed contents weak place nodes outputs printed shows = by_table (slice_get contents.tables place) refl shows
  where
    by_table : (found : Option CatalogTable) → slice_get contents.tables place ≡ found → IsSomeAnd found (λ table. AllZip (ShowsColumn table) nodes outputs)
        → IsTyped contents weak (select place nodes) [] outputs
    by_table None there shows = absurd shows
    by_table (Some table) there shows =
        let typed = columns_typed contents table nodes outputs shows in
        let inner : Option CatalogTable → Scope = λ t. below outermost_scope (InRow (both_ranges (one_range (kinds_in contents t)) no_ranges [])) in
        record {
          statement = select_typed contents [] plain (Table place ∷ []) [] [] [] nodes [] outermost_scope (subst IsSome (sym there) refl, tt)
              (tt, tt, tt, subst (λ t. AllTyped contents [] nodes (inner t)) (sym there) typed.0, tt);
          weak_nullable = tt;
          outputs_known = outputs_known contents outputs printed;
          outputs_shown = typed.1 ∙ ap (λ t. kinds_of contents [] nodes (inner t)) (sym there)
              ∙ sym (query_kinds-Select contents [] plain (Table place ∷ []) [] [] [] nodes [] outermost_scope);
        }
