-- What statements ask for is of types that the catalogue holds.
use Rattle.std.proofs.Common.{◌≡◌, ◌<◌, ◌&&◌, ℕ, Bool, true, false, cond, map, List, [], ◌∷◌, Option, Some, None, IfSome, Result, Ok, Err, IfOk, refl, subst, arith, nat_lt}
use Rattle.std.specs.List.{AllByRecursion}
use Rattle.std.specs.Option.{option_or}
use Rattle.std.proofs.lemmas.Option.{same_Some}
use Rattle.std.proofs.lemmas.Result.{IfOk-at_ok}
use Rattle.sq_base.specs.declared.place.Place.{Place}
use Rattle.sq_base.specs.declared.refusal.Refusal.{Refusal}
use Rattle.sq_base.specs.declared.types.PgType.{PgType}
use Rattle.sq_base.specs.declared.types.Scalar.{Scalar}
use Rattle.sq_base.specs.declared.types.Scalar.TheVariants.{DoublePrecision, Varchar, Timestamp, Opaque, Enum, Domain, Unknown}
use Rattle.sq_syntax.specs.declared.name.Identifier.{Identifier}
use Rattle.sq_syntax.specs.declared.name.QualifiedName.{QualifiedName}
use Rattle.sq_syntax.specs.declared.name.TimeZone.{TimeZone}
use Rattle.sq_syntax.specs.declared.name.TimeZone.TheVariants as zone
use Rattle.sq_syntax.specs.declared.name.TypeName.{TypeName}
use Rattle.sq_syntax.specs.declared.name.TypeWord.{TypeWord}
use Rattle.sq_syntax.specs.declared.name.TypeWord.TheVariants as word
use Rattle.sq_syntax.specs.declared.ddl.AlterTable.{AlterTable}
use Rattle.sq_syntax.specs.declared.ddl.Column as written
use Rattle.sq_syntax.specs.declared.ddl.CreateDomain.{CreateDomain}
use Rattle.sq_syntax.specs.declared.ddl.CreateSchema.{CreateSchema}
use Rattle.sq_syntax.specs.declared.ddl.CreateTable.{CreateTable}
use Rattle.sq_syntax.specs.declared.ddl.CreateType.{CreateType}
use Rattle.sq_syntax.specs.declared.ddl.DropNamed.{DropNamed}
use Rattle.sq_syntax.specs.declared.ddl.DropSchema.{DropSchema}
use Rattle.sq_syntax.specs.declared.ddl.Dropped.{Dropped}
use Rattle.sq_syntax.specs.declared.ddl.Dropped.TheVariants as dropped
use Rattle.sq_syntax.specs.declared.ddl.Element.{Element}
use Rattle.sq_syntax.specs.declared.ddl.Element.TheVariants as element
use Rattle.sq_syntax.specs.declared.ddl.SetType.{SetType}
use Rattle.sq_syntax.specs.declared.ddl.TableAction.{TableAction}
use Rattle.sq_syntax.specs.declared.ddl.TableAction.TheVariants as table_action
use Rattle.sq_syntax.specs.declared.ddl.TableChange.{TableChange}
use Rattle.sq_syntax.specs.declared.ddl.TableChange.TheVariants as table_change
use Rattle.sq_syntax.specs.declared.ddl.TypeChange.{TypeChange}
use Rattle.sq_syntax.specs.declared.ddl.TypeChange.TheVariants as type_change
use Rattle.sq_catalog.specs.Contents.{Contents}
use Rattle.sq_catalog.specs.UserTypes.{type_named}
use Rattle.sq_catalog.specs.declared.change.Action.{Action}
use Rattle.sq_catalog.specs.declared.change.Action.TheVariants as action
use Rattle.sq_catalog.specs.declared.change.Change.{Change}
use Rattle.sq_catalog.specs.declared.change.Change.TheVariants as change
use Rattle.sq_catalog.specs.declared.change.NewKey.{NewKey}
use Rattle.sq_catalog.specs.declared.change.Target.{Target}
use Rattle.sq_catalog.specs.declared.table.Column.{Column}
use Rattle.sq_migrate.specs.declared.types.Typed.{Typed}
use Rattle.sq_migrate.specs.Refused.{and_then}
use Rattle.sq_migrate.specs.Types.{number_named, time_named, text_named, opaque_named, scalar_named, serial_named, scalar, is_char, unknown, serial_type, found_type, known_schema, type_in, serial_or_in, built_in_or_in, bare_type, holds_built_in, type_of_schema, named_type, place_of, zoned, is_domain, has_squares, completed, arrayed, type_of}
use Rattle.sq_migrate.specs.Columns.{text, table_key, column_keys, keys, table_keys, column_of_type, column_of, columns_of}
use Rattle.sq_migrate.specs.Labels.{label}
use Rattle.sq_migrate.specs.Asked.{schema_of, last_of, within_schema, into_schema, is_cascade, target, schema_asked, table_asked, enum_asked, domain_asked, schema_drop_asked, drop_of, drop_asked, acting, column_asked, type_asked, some, key_asked, action_asked, rename_asked, move_asked, beside_of, value_asked, value_name_asked, type_name_asked, type_schema_asked, type_change_asked}
use Rattle.sq_catalog.specs.Kept.{BringsHeld, IsHeld, opaque_types}
use Rattle.sq_migrate.specs.Replay.{table_change_asked}
use Rattle.sq_catalog.proofs.Answered.{by_test, by_finding}
use Rattle.sq_catalog.proofs.Bases.{named_held}

-- what comes next
by_next : {A B : Type 0} (P : B → Type 0) (r : Result A Refusal) (next : A → Result B Refusal) → ((x : A) → r ≡ Ok x → IfOk (next x) P) → IfOk (and_then r next) P
by_next P (Ok x) next after = after x refl
by_next P (Err refusal) next after = tt

-- BUILT-IN TYPES

-- whether a type is known, and no enumeration and no domain
abbrev is_plain : Scalar → Bool
is_plain (Enum id) = false
is_plain (Domain id) = false
is_plain (Opaque place) = nat_lt place opaque_types
is_plain Unknown = false
is_plain other = true

-- every catalogue holds such a type
plain_held : (c : Contents) (of : Scalar) (array : Bool) → is_plain of ≡ true → IsHeld c (record { scalar = of; array = array })
plain_held c (Enum id) array plain = absurd (cc)
plain_held c (Domain id) array plain = absurd (cc)
plain_held c (Opaque place) array plain = grind (arith, plain)
plain_held c Unknown array plain = absurd (cc)
plain_held c other array plain = tt

-- a type that is found, if any, is such a type
record IsPlain (found : Option Scalar) : Type 0 where
  plain : (of : Scalar) → found ≡ Some of → is_plain of ≡ true

unfound : IsPlain None
unfound = record { plain = λ of is. absurd (cc) }

chosen : (b : Bool) (of : Scalar) (rest : Option Scalar) → is_plain of ≡ true → IsPlain rest → IsPlain (cond b (Some of) rest)
chosen true of rest plain others = record { plain = λ other is. subst (λ (x : Scalar). is_plain x ≡ true) (same_Some of other is) plain }
chosen false of rest plain others = others

first_of_both : (first second : Option Scalar) → IsPlain first → IsPlain second → IsPlain (option_or first second)
first_of_both None second plain others = others
first_of_both (Some of) second plain others = plain

number_plain : (name : List ℕ) → IsPlain (number_named name)
unfolding number_named
number_plain name = search (chosen, unfound) depth 12

time_plain : (name : List ℕ) → IsPlain (time_named name)
unfolding time_named
time_plain name = search (chosen, unfound) depth 12

text_plain : (name : List ℕ) → IsPlain (text_named name)
unfolding text_named
text_plain name = search (chosen, unfound) depth 12

opaque_plain : (name : List ℕ) → IsPlain (opaque_named name)
unfolding opaque_named
opaque_plain name = search (chosen, unfound) depth 12

scalar_plain : (name : List ℕ) → IsPlain (scalar_named name)
unfolding scalar_named
scalar_plain name = search (first_of_both, number_plain, time_plain, text_plain, opaque_plain)

serial_plain : (name : List ℕ) → IsPlain (serial_named name)
unfolding serial_named
serial_plain name = search (chosen, unfound)

-- TYPES BY THEIR NAMES

module _ (c : Contents) where
  -- a type that is answered is held
  abbrev Holds : Result Typed Refusal → Type 0
  Holds result = IfOk result (λ of. IsHeld c of.of)

  found_holds : (place : Place) (x : Identifier) (schema name : List ℕ) → Holds (found_type place x (type_named c schema name))
  found_holds place x schema name = of_found (type_named c schema name) (named_held c schema name) where
    of_found : (o : Option PgType) → IfSome o (IsHeld c) → Holds (found_type place x o)
    of_found None held = tt
    of_found (Some of) held = held

  in_holds : (place : Place) (schema : List ℕ) (x : Identifier) → Holds (type_in c place schema x)
  in_holds place schema x = by_next (λ (of : Typed). IsHeld c of.of) (known_schema c place schema) (λ done. found_type place x (type_named c schema x.name)) (λ done is. found_holds place x schema x.name)

  serial_holds : (in_column : Bool) (place : Place) (schema : List ℕ) (x : Identifier) → Holds (serial_or_in c in_column place schema x)
  serial_holds in_column place schema x =
      by_finding Holds (serial_named x.name) (type_in c place schema x) (λ of. serial_type in_column place x of) (λ none. in_holds place schema x)
      (λ of is. by_test Holds in_column (Ok (scalar true of)) (unknown place x) (λ allowed. plain_held c of false ((serial_plain x.name).plain of is)) (λ refused. tt))

  built_in_holds : (in_column : Bool) (place : Place) (schema : List ℕ) (x : Identifier) → Holds (built_in_or_in c in_column place schema x)
  built_in_holds in_column place schema x =
      by_test Holds (is_char x) (unknown place x) (elim (scalar_named x.name) [ Some of ↦ Ok (scalar false of) | None ↦ serial_or_in c in_column place schema x ]) (λ refused. tt)
      (λ other. by_finding Holds (scalar_named x.name) (serial_or_in c in_column place schema x) (λ of. Ok (scalar false of)) (λ none. serial_holds in_column place schema x)
      (λ of is. plain_held c of false ((scalar_plain x.name).plain of is)))

  of_schema_holds : (schema x : Identifier) → Holds (type_of_schema c schema x)
  of_schema_holds schema x =
      by_test Holds (holds_built_in schema.name x.name) (built_in_or_in c false schema.place schema.name x) (type_in c schema.place schema.name x)
      (λ built_in. built_in_holds false schema.place schema.name x) (λ own. in_holds schema.place schema.name x)

  named_holds : (in_column : Bool) (x : QualifiedName) → Holds (named_type c in_column x)
  named_holds in_column x =
      by_finding Holds x.schema (bare_type c in_column x.name) (λ schema. type_of_schema c schema x.name) (λ none. built_in_holds in_column x.name.place _ x.name) (λ schema is. of_schema_holds schema x.name)

  zoned_held : (zone : TimeZone) (of : Scalar) (array : Bool) → IsHeld c (record { scalar = of; array = array }) → IsHeld c (record { scalar = zoned zone of; array = array })
  zoned_held zone.With Timestamp array held = tt
  zoned_held other of array held = held

  squared_held : (squares : Bool) (of : Scalar) (array : Bool) → (squares && is_domain of) ≡ false → IsHeld c (record { scalar = of; array = array }) → IsHeld c (record { scalar = of; array = squares })
  squared_held squares (Enum id) array allowed held = held
  squared_held true (Domain id) array allowed held = (held.0, allowed)
  squared_held false (Domain id) array allowed held = (held.0, refl)
  squared_held squares other array allowed held = held

  completed_held : (x : TypeName) (of : Typed) → (has_squares x && is_domain of.of.scalar) ≡ false → IsHeld c of.of → IsHeld c (completed x of).of
  completed_held x of allowed held = zoned_held x.zone of.of.scalar (has_squares x) (squared_held (has_squares x) of.of.scalar of.of.array allowed held)

  no_domain : (squares : Bool) → (squares && false) ≡ false
  no_domain true = refl
  no_domain false = refl

  abbrev of_word : Bool → TypeName → TypeWord → Result Typed Refusal
  of_word in_column x (word.Named name) = and_then (named_type c in_column name) (arrayed x name)
  of_word in_column x (word.DoublePrecision place) = Ok (completed x (scalar false DoublePrecision))
  of_word in_column x (word.CharacterVarying place) = Ok (completed x (scalar false Varchar))

  word_holds : (in_column : Bool) (x : TypeName) (of : TypeWord) → Holds (of_word in_column x of)
  word_holds in_column x (word.Named name) =
      by_next (λ (of : Typed). IsHeld c of.of) (named_type c in_column name) (arrayed x name) (λ of given.
      by_test Holds (has_squares x && is_domain of.of.scalar) (unknown (place_of name) name.name) (Ok (completed x of)) (λ refused. tt)
      (λ allowed. completed_held x of allowed (IfOk-at_ok (λ (other : Typed). IsHeld c other.of) given (named_holds in_column name))))
  word_holds in_column x (word.DoublePrecision place) = completed_held x (scalar false DoublePrecision) (no_domain (has_squares x)) tt
  word_holds in_column x (word.CharacterVarying place) = completed_held x (scalar false Varchar) (no_domain (has_squares x)) tt

  -- the type that is written is held
  type_holds : (in_column : Bool) (x : TypeName) → Holds (type_of c in_column x)
  type_holds in_column x = word_holds in_column x x.word

  -- WHAT STATEMENTS ASK FOR

  column_holds : (x : written.Column) → IfOk (column_of c x) (λ (column : Column). IsHeld c column.of)
  column_holds x = by_next (λ (column : Column). IsHeld c column.of) (type_of c true x.of) (λ of. Ok (column_of_type x of)) (λ of given. IfOk-at_ok (λ (other : Typed). IsHeld c other.of) given (type_holds true x.of))

  -- columns of held types
  abbrev AreHeld : List Column → Type 0
  AreHeld columns = AllByRecursion (λ (column : Column). IsHeld c column.of) columns

  columns_hold : (elements : List Element) → IfOk (columns_of c elements) AreHeld
  columns_hold [] = tt
  columns_hold (element.Column x ∷ elements) =
      by_next AreHeld (column_of c x) (λ column. and_then (columns_of c elements) (λ columns. Ok (column ∷ columns))) (λ column first.
      by_next AreHeld (columns_of c elements) (λ columns. Ok (column ∷ columns)) (λ columns rest.
      (IfOk-at_ok (λ (other : Column). IsHeld c other.of) first (column_holds x), IfOk-at_ok AreHeld rest (columns_hold elements))))
  columns_hold (element.Constraint x ∷ elements) = columns_hold elements

  -- what is asked for brings held types
  abbrev Brings : Result Change Refusal → Type 0
  Brings asked = IfOk asked (BringsHeld c)

  within_brings : (x : QualifiedName) (next : Result Change Refusal) → Brings next → Brings (within_schema c x next)
  within_brings x next brings = by_next (BringsHeld c) (known_schema c (place_of x) (schema_of x)) (λ known. next) (λ known is. brings)

  into_brings : (x : Identifier) (next : Result Change Refusal) → Brings next → Brings (into_schema c x next)
  into_brings x next brings = by_next (BringsHeld c) (known_schema c x.place (text x)) (λ known. next) (λ known is. brings)

  pub schema_brings : (x : CreateSchema) → Brings (schema_asked x)
  schema_brings x = tt

  pub table_brings : (x : CreateTable) → Brings (table_asked c x)
  table_brings x =
      within_brings x.name (and_then (columns_of c x.elements) made) (by_next (BringsHeld c) (columns_of c x.elements) made (λ columns given. IfOk-at_ok AreHeld given (columns_hold x.elements))) where
        made : List Column → Result Change Refusal
        made columns = Ok (change.CreateTable (schema_of x.name) (last_of x.name) x.if_not_exists columns (keys (table_keys x.elements)))

  pub enum_brings : (x : CreateType) → Brings (enum_asked c x)
  enum_brings x = within_brings x.name (Ok (change.CreateEnum (schema_of x.name) (last_of x.name) (map label x.labels))) tt

  pub domain_brings : (x : CreateDomain) → Brings (domain_asked c x)
  domain_brings x =
      within_brings x.name (and_then (type_of c false x.base) made) (by_next (BringsHeld c) (type_of c false x.base) made (λ base given. IfOk-at_ok (λ (other : Typed). IsHeld c other.of) given (type_holds false x.base))) where
        made : Typed → Result Change Refusal
        made base = Ok (change.CreateDomain (schema_of x.name) (last_of x.name) base.of)

  pub schema_drop_brings : (x : DropSchema) (name : Identifier) → Brings (schema_drop_asked x name)
  schema_drop_brings x name = tt

  drops : (kind : Dropped) (cascade : Bool) (x : Target) → BringsHeld c (drop_of kind cascade x)
  drops dropped.Table cascade x = tt
  drops dropped.Type cascade x = tt
  drops dropped.Domain cascade x = tt

  pub drop_brings : (x : DropNamed) (name : QualifiedName) → Brings (drop_asked c x name)
  drop_brings x name = within_brings name (Ok (drop_of x.kind (is_cascade x.behavior) (target x.if_exists name))) (drops x.kind (is_cascade x.behavior) (target x.if_exists name))

  -- what is asked for, if anything, brings held types
  abbrev pub BringsIfAny : Option Change → Type 0
  BringsIfAny None = Unit {0}
  BringsIfAny (Some change) = BringsHeld c change

  some_brings : (asked : Result Change Refusal) → Brings asked → IfOk (some asked) BringsIfAny
  some_brings (Ok change) brings = brings
  some_brings (Err refusal) brings = tt

  acting_brings : (x : AlterTable) (of : Action) → BringsHeld c (change.AlterTable (target x.if_exists x.name) of) → IfOk (some (acting c x of)) BringsIfAny
  acting_brings x of brings = some_brings (acting c x of) (within_brings x.name (Ok (change.AlterTable (target x.if_exists x.name) of)) brings)

  column_brings : (x : AlterTable) (if_not_exists : Bool) (column : written.Column) → Brings (column_asked c x if_not_exists column)
  column_brings x if_not_exists column =
      within_brings x.name (and_then (column_of c column) made) (by_next (BringsHeld c) (column_of c column) made (λ new given. IfOk-at_ok (λ (other : Column). IsHeld c other.of) given (column_holds column))) where
        made : Column → Result Change Refusal
        made new = Ok (change.AlterTable (target x.if_exists x.name) (action.AddColumn new if_not_exists (keys (column_keys (text column.name) column.constraints))))

  type_brings : (x : AlterTable) (set : SetType) → Brings (type_asked c x set)
  type_brings x set =
      within_brings x.name (and_then (type_of c false set.to) made) (by_next (BringsHeld c) (type_of c false set.to) made (λ to given. IfOk-at_ok (λ (other : Typed). IsHeld c other.of) given (type_holds false set.to))) where
        made : Typed → Result Change Refusal
        made to = Ok (change.AlterTable (target x.if_exists x.name) (action.SetType (text set.column) to.of))

  key_brings : (x : AlterTable) (key : Option NewKey) → IfOk (key_asked c x key) BringsIfAny
  key_brings x None = tt
  key_brings x (Some key) = acting_brings x (action.AddPrimaryKey key) tt

  pub action_brings : (x : AlterTable) (of : TableAction) → IfOk (action_asked c x of) BringsIfAny
  action_brings x (table_action.AddColumn has_column if_not_exists column) = some_brings (column_asked c x if_not_exists column) (column_brings x if_not_exists column)
  action_brings x (table_action.AddConstraint constraint) = key_brings x (table_key constraint)
  action_brings x (table_action.DropColumn has_column if_exists name behavior) = acting_brings x (action.DropColumn (text name) if_exists) tt
  action_brings x (table_action.DropConstraint if_exists name behavior) = acting_brings x (action.DropConstraint (text name)) tt
  action_brings x (table_action.SetNotNull has_column name) = acting_brings x (action.SetNotNull (text name)) tt
  action_brings x (table_action.DropNotNull has_column name) = acting_brings x (action.DropNotNull (text name)) tt
  action_brings x (table_action.SetType set) = some_brings (type_asked c x set) (type_brings x set)
  action_brings x (table_action.Other tokens) = tt

  pub table_change_brings : (x : AlterTable) (of : TableChange) → IfOk (table_change_asked c x of) BringsIfAny
  table_change_brings x (table_change.RenameTo to) =
      some_brings (rename_asked c x to) (within_brings x.name (Ok (change.RenameTable (target x.if_exists x.name) (text to))) tt)
  table_change_brings x (table_change.RenameColumn has_column from to) = acting_brings x (action.RenameColumn (text from) (text to)) tt
  table_change_brings x (table_change.RenameConstraint from to) = acting_brings x (action.RenameConstraint (text from) (text to)) tt
  table_change_brings x (table_change.SetSchema to) =
      let moved : Result Change Refusal = Ok (change.SetTableSchema (target x.if_exists x.name) (text to)) in
      some_brings (move_asked c x to) (within_brings x.name (into_schema c to moved) (into_brings to moved tt))
  table_change_brings x (table_change.Actions actions) = tt

  pub type_change_brings : (x : QualifiedName) (of : TypeChange) → IfOk (type_change_asked c x of) BringsIfAny
  type_change_brings x (type_change.AddValue if_not_exists bytes place) =
      some_brings (value_asked c x bytes if_not_exists place) (within_brings x (Ok (change.AddValue (schema_of x) (last_of x) (label bytes) if_not_exists (beside_of place))) tt)
  type_change_brings x (type_change.RenameValue from to) =
      some_brings (value_name_asked c x from to) (within_brings x (Ok (change.RenameValue (schema_of x) (last_of x) (label from) (label to))) tt)
  type_change_brings x (type_change.RenameTo to) = some_brings (type_name_asked c x to) (within_brings x (Ok (change.RenameType (schema_of x) (last_of x) (text to))) tt)
  type_change_brings x (type_change.SetSchema to) =
      let moved : Result Change Refusal = Ok (change.SetTypeSchema (schema_of x) (last_of x) (text to)) in
      some_brings (type_schema_asked c x to) (within_brings x (into_schema c to moved) (into_brings to moved tt))
  type_change_brings x (type_change.Other tokens) = tt
