-- What statements ask for brings names, where the statements give names.
use Rattle.std.proofs.Common.{◌≡◌, ℕ, Bool, true, false, map, List, [], ◌∷◌, Option, Some, None, Result, Ok, Err, IfOk, bytes_eq, refl, subst}
use Rattle.std.specs.List.{AllByRecursion, list_any}
use Rattle.std.proofs.lemmas.Slice.Eq.{bytes_eq-Decides}
use Rattle.std.proofs.lemmas.Result.{IfOk-at_ok}
use Rattle.sq_base.specs.declared.place.Place.{Place}
use Rattle.sq_base.specs.declared.refusal.Refusal.{Refusal}
use Rattle.sq_syntax.specs.declared.name.Identifier.{Identifier}
use Rattle.sq_syntax.specs.declared.name.QualifiedName.{QualifiedName}
use Rattle.sq_syntax.specs.declared.ddl.AlterTable.{AlterTable}
use Rattle.sq_syntax.specs.declared.ddl.Column as written
use Rattle.sq_syntax.specs.declared.ddl.CreateDomain.{CreateDomain}
use Rattle.sq_syntax.specs.declared.ddl.CreateTable.{CreateTable}
use Rattle.sq_syntax.specs.declared.ddl.CreateType.{CreateType}
use Rattle.sq_syntax.specs.declared.ddl.DropNamed.{DropNamed}
use Rattle.sq_syntax.specs.declared.ddl.Dropped.{Dropped}
use Rattle.sq_syntax.specs.declared.ddl.Dropped.TheVariants as dropped
use Rattle.sq_syntax.specs.declared.ddl.Element.{Element}
use Rattle.sq_syntax.specs.declared.ddl.Element.TheVariants as element
use Rattle.sq_syntax.specs.declared.ddl.SetType.{SetType}
use Rattle.sq_syntax.specs.declared.ddl.TableAction.{TableAction}
use Rattle.sq_syntax.specs.declared.ddl.TableAction.TheVariants as table_action
use Rattle.sq_syntax.specs.declared.ddl.TableChange.{TableChange}
use Rattle.sq_syntax.specs.declared.ddl.TableChange.TheVariants as table_change
use Rattle.sq_syntax.specs.declared.ddl.TypeChange.{TypeChange}
use Rattle.sq_syntax.specs.declared.ddl.TypeChange.TheVariants as type_change
use Rattle.sq_catalog.specs.Contents.{Contents}
use Rattle.sq_catalog.specs.Catalogue.{has_schema}
use Rattle.sq_catalog.specs.declared.change.Action.{Action}
use Rattle.sq_catalog.specs.declared.change.Action.TheVariants as action
use Rattle.sq_catalog.specs.declared.change.Change.{Change}
use Rattle.sq_catalog.specs.declared.change.Change.TheVariants as change
use Rattle.sq_catalog.specs.declared.change.NewKey.{NewKey}
use Rattle.sq_catalog.specs.declared.change.Target.{Target}
use Rattle.sq_catalog.specs.declared.table.Column.{Column}
use Rattle.sq_migrate.specs.declared.types.Typed.{Typed}
use Rattle.sq_base.specs.Refusals.{refused_naming}
use Rattle.sq_base.specs.declared.code.Code.TheVariants.{UnknownSchema}
use Rattle.sq_migrate.specs.Refused.{and_then}
use Rattle.sq_migrate.specs.Types.{known_schema, place_of, type_of}
use Rattle.sq_migrate.specs.Columns.{text, table_key, column_keys, keys, table_keys, column_of_type, column_of, columns_of}
use Rattle.sq_migrate.specs.Labels.{label}
use Rattle.sq_migrate.specs.Asked.{schema_of, last_of, within_schema, into_schema, is_cascade, target, table_asked, enum_asked, domain_asked, drop_of, drop_asked, acting, column_asked, type_asked, some, key_asked, action_asked, rename_asked, move_asked, beside_of, value_asked, value_name_asked, type_name_asked, type_schema_asked, type_change_asked}
use Rattle.sq_catalog.specs.Named.{BringsNames, IsName, HasName, HasNames}
use Rattle.sq_migrate.specs.Naming.{NamesColumn, NamesAdded, NamesInTable, NamesType}
use Rattle.sq_migrate.specs.Replay.{table_change_asked}
use Rattle.sq_catalog.proofs.Answered.{by_test}
use Rattle.sq_catalog.proofs.TypesFall.{by_first}

-- what comes next
by_next : {A B : Type 0} (P : B → Type 0) (r : Result A Refusal) (next : A → Result B Refusal) → ((x : A) → r ≡ Ok x → IfOk (next x) P) → IfOk (and_then r next) P
by_next P (Ok x) next after = after x refl
by_next P (Err refusal) next after = tt

-- one of these names is a name
one_of : (names : List (List ℕ)) (name : List ℕ) → AllByRecursion IsName names → list_any (λ (other : List ℕ). bytes_eq other name) names ≡ true → IsName name
one_of [] name all there = absurd (cc)
one_of (x ∷ xs) name all there =
    by_first (λ (b : Bool). b ≡ true → IsName name) (bytes_eq x name) (list_any (λ (other : List ℕ). bytes_eq other name) xs)
    (λ is e. subst IsName ((bytes_eq-Decides x name).0 is) all.0) (λ differs e. one_of xs name all.1 e) there

-- WHAT IS NEW IN A TABLE

column_has : (c : Contents) (x : written.Column) → IsName (text x.name) → IfOk (column_of c x) HasName
column_has c x is = by_next HasName (type_of c true x.of) (λ of. Ok (column_of_type x of)) (λ of given. is)

columns_have : (c : Contents) (elements : List Element) → AllByRecursion NamesColumn elements → IfOk (columns_of c elements) (AllByRecursion HasName)
columns_have c [] are = tt
columns_have c (element.Column x ∷ elements) are =
    by_next (AllByRecursion HasName) (column_of c x) (λ column. and_then (columns_of c elements) (λ columns. Ok (column ∷ columns))) (λ column first.
    by_next (AllByRecursion HasName) (columns_of c elements) (λ columns. Ok (column ∷ columns)) (λ columns rest.
    (IfOk-at_ok HasName first (column_has c x are.0), IfOk-at_ok (AllByRecursion HasName) rest (columns_have c elements are.1))))
columns_have c (element.Constraint x ∷ elements) are = columns_have c elements are.1

-- what is asked for brings names
abbrev Brings : Result Change Refusal → Type 0
Brings asked = IfOk asked BringsNames

-- what is asked for, if anything, brings names
abbrev pub BringsIfAny : Option Change → Type 0
BringsIfAny None = Unit {0}
BringsIfAny (Some change) = BringsNames change

some_brings : (asked : Result Change Refusal) → Brings asked → IfOk (some asked) BringsIfAny
some_brings (Ok change) brings = brings
some_brings (Err refusal) brings = tt

module _ (c : Contents) (have : HasNames c) where
  -- a schema that is there has a name
  known : (place : Place) (schema : List ℕ) (done : Unit {0}) → known_schema c place schema ≡ Ok done → IsName schema
  known place schema done =
      by_test (λ (r : Result (Unit {0}) Refusal). r ≡ Ok done → IsName schema) (has_schema c schema) (Ok tt) (Err (refused_naming UnknownSchema place schema))
      (λ there e. one_of c.schemas schema have.schemas there) (λ missing e. absurd (cc))

  within_brings : (x : QualifiedName) (next : Result Change Refusal) → (IsName (schema_of x) → Brings next) → Brings (within_schema c x next)
  within_brings x next brings =
      by_next BringsNames (known_schema c (place_of x) (schema_of x)) (λ done. next) (λ done is. brings (known (place_of x) (schema_of x) done is))

  into_brings : (x : Identifier) (next : Result Change Refusal) → (IsName (text x) → Brings next) → Brings (into_schema c x next)
  into_brings x next brings = by_next BringsNames (known_schema c x.place (text x)) (λ done. next) (λ done is. brings (known x.place (text x) done is))

  -- NEW THINGS

  pub table_brings : (x : CreateTable) → IsName (last_of x.name) → AllByRecursion NamesColumn x.elements → Brings (table_asked c x)
  table_brings x is are =
      within_brings x.name (and_then (columns_of c x.elements) made) (λ schema. by_next BringsNames (columns_of c x.elements) made (λ columns given.
      (record { within = schema; called = is }, IfOk-at_ok (AllByRecursion HasName) given (columns_have c x.elements are)))) where
        made : List Column → Result Change Refusal
        made columns = Ok (change.CreateTable (schema_of x.name) (last_of x.name) x.if_not_exists columns (keys (table_keys x.elements)))

  pub enum_brings : (x : CreateType) → IsName (last_of x.name) → Brings (enum_asked c x)
  enum_brings x is = within_brings x.name (Ok (change.CreateEnum (schema_of x.name) (last_of x.name) (map label x.labels))) (λ schema. record { within = schema; called = is })

  pub domain_brings : (x : CreateDomain) → IsName (last_of x.name) → Brings (domain_asked c x)
  domain_brings x is =
      within_brings x.name (and_then (type_of c false x.base) made) (λ schema. by_next BringsNames (type_of c false x.base) made (λ base given. record { within = schema; called = is })) where
        made : Typed → Result Change Refusal
        made base = Ok (change.CreateDomain (schema_of x.name) (last_of x.name) base.of)

  -- WHAT GOES

  drops : (kind : Dropped) (cascade : Bool) (x : Target) → BringsNames (drop_of kind cascade x)
  drops dropped.Table cascade x = tt
  drops dropped.Type cascade x = tt
  drops dropped.Domain cascade x = tt

  pub drop_brings : (x : DropNamed) (name : QualifiedName) → Brings (drop_asked c x name)
  drop_brings x name =
      within_brings name (Ok (drop_of x.kind (is_cascade x.behavior) (target x.if_exists name))) (λ schema. drops x.kind (is_cascade x.behavior) (target x.if_exists name))

  -- CHANGES OF A TABLE

  acting_brings : (x : AlterTable) (of : Action) → BringsNames (change.AlterTable (target x.if_exists x.name) of) → IfOk (some (acting c x of)) BringsIfAny
  acting_brings x of brings = some_brings (acting c x of) (within_brings x.name (Ok (change.AlterTable (target x.if_exists x.name) of)) (λ schema. brings))

  column_brings : (x : AlterTable) (if_not_exists : Bool) (column : written.Column) → IsName (text column.name) → Brings (column_asked c x if_not_exists column)
  column_brings x if_not_exists column is =
      within_brings x.name (and_then (column_of c column) made) (λ schema. by_next BringsNames (column_of c column) made (λ new given. IfOk-at_ok HasName given (column_has c column is))) where
        made : Column → Result Change Refusal
        made new = Ok (change.AlterTable (target x.if_exists x.name) (action.AddColumn new if_not_exists (keys (column_keys (text column.name) column.constraints))))

  type_brings : (x : AlterTable) (set : SetType) → Brings (type_asked c x set)
  type_brings x set = within_brings x.name (and_then (type_of c false set.to) made) (λ schema. by_next BringsNames (type_of c false set.to) made (λ to given. tt)) where
    made : Typed → Result Change Refusal
    made to = Ok (change.AlterTable (target x.if_exists x.name) (action.SetType (text set.column) to.of))

  key_brings : (x : AlterTable) (key : Option NewKey) → IfOk (key_asked c x key) BringsIfAny
  key_brings x None = tt
  key_brings x (Some key) = acting_brings x (action.AddPrimaryKey key) tt

  pub action_brings : (x : AlterTable) (of : TableAction) → NamesAdded of → IfOk (action_asked c x of) BringsIfAny
  action_brings x (table_action.AddColumn has_column if_not_exists column) is = some_brings (column_asked c x if_not_exists column) (column_brings x if_not_exists column is)
  action_brings x (table_action.AddConstraint constraint) is = key_brings x (table_key constraint)
  action_brings x (table_action.DropColumn has_column if_exists name behavior) is = acting_brings x (action.DropColumn (text name) if_exists) tt
  action_brings x (table_action.DropConstraint if_exists name behavior) is = acting_brings x (action.DropConstraint (text name)) tt
  action_brings x (table_action.SetNotNull has_column name) is = acting_brings x (action.SetNotNull (text name)) tt
  action_brings x (table_action.DropNotNull has_column name) is = acting_brings x (action.DropNotNull (text name)) tt
  action_brings x (table_action.SetType set) is = some_brings (type_asked c x set) (type_brings x set)
  action_brings x (table_action.Other tokens) is = tt

  pub table_change_brings : (x : AlterTable) (of : TableChange) → NamesInTable of → IfOk (table_change_asked c x of) BringsIfAny
  table_change_brings x (table_change.RenameTo to) is =
      some_brings (rename_asked c x to) (within_brings x.name (Ok (change.RenameTable (target x.if_exists x.name) (text to))) (λ schema. is))
  table_change_brings x (table_change.RenameColumn has_column from to) is = acting_brings x (action.RenameColumn (text from) (text to)) is
  table_change_brings x (table_change.RenameConstraint from to) is = acting_brings x (action.RenameConstraint (text from) (text to)) tt
  table_change_brings x (table_change.SetSchema to) is =
      let moved : Result Change Refusal = Ok (change.SetTableSchema (target x.if_exists x.name) (text to)) in
      some_brings (move_asked c x to) (within_brings x.name (into_schema c to moved) (λ schema. into_brings to moved (λ other. other)))
  table_change_brings x (table_change.Actions actions) is = tt

  -- CHANGES OF A TYPE

  pub type_change_brings : (x : QualifiedName) (of : TypeChange) → NamesType of → IfOk (type_change_asked c x of) BringsIfAny
  type_change_brings x (type_change.AddValue if_not_exists bytes place) is =
      some_brings (value_asked c x bytes if_not_exists place) (within_brings x (Ok (change.AddValue (schema_of x) (last_of x) (label bytes) if_not_exists (beside_of place))) (λ schema. tt))
  type_change_brings x (type_change.RenameValue from to) is =
      some_brings (value_name_asked c x from to) (within_brings x (Ok (change.RenameValue (schema_of x) (last_of x) (label from) (label to))) (λ schema. tt))
  type_change_brings x (type_change.RenameTo to) is =
      some_brings (type_name_asked c x to) (within_brings x (Ok (change.RenameType (schema_of x) (last_of x) (text to))) (λ schema. is))
  type_change_brings x (type_change.SetSchema to) is =
      let moved : Result Change Refusal = Ok (change.SetTypeSchema (schema_of x) (last_of x) (text to)) in
      some_brings (type_schema_asked c x to) (within_brings x (into_schema c to moved) (λ schema. into_brings to moved (λ other. other)))
  type_change_brings x (type_change.Other tokens) is = tt
