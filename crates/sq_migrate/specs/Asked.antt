-- What the parts of schema statements ask of the catalogue (PostgreSQL manual, Part VI, SQL commands).
use Rattle.std.specs.Prelude.{ℕ, Bool, true, false, List, Option, Some, None, Result, Ok, Err, map}
use Rattle.sq_base.specs.declared.refusal.Refusal.{Refusal}
use Rattle.sq_syntax.specs.declared.name.Identifier.{Identifier}
use Rattle.sq_syntax.specs.declared.name.QualifiedName.{QualifiedName}
use Rattle.sq_syntax.specs.declared.ddl.AlterTable.{AlterTable}
use Rattle.sq_syntax.specs.declared.ddl.Behavior.{Behavior}
use Rattle.sq_syntax.specs.declared.ddl.Behavior.TheVariants as behavior
use Rattle.sq_syntax.specs.declared.ddl.Column as written
use Rattle.sq_syntax.specs.declared.ddl.CreateDomain.{CreateDomain}
use Rattle.sq_syntax.specs.declared.ddl.CreateSchema.{CreateSchema}
use Rattle.sq_syntax.specs.declared.ddl.CreateTable.{CreateTable}
use Rattle.sq_syntax.specs.declared.ddl.CreateType.{CreateType}
use Rattle.sq_syntax.specs.declared.ddl.DropNamed.{DropNamed}
use Rattle.sq_syntax.specs.declared.ddl.DropSchema.{DropSchema}
use Rattle.sq_syntax.specs.declared.ddl.Dropped.{Dropped}
use Rattle.sq_syntax.specs.declared.ddl.Dropped.TheVariants as dropped
use Rattle.sq_syntax.specs.declared.ddl.Neighbour.{Neighbour}
use Rattle.sq_syntax.specs.declared.ddl.Neighbour.TheVariants as neighbour
use Rattle.sq_syntax.specs.declared.ddl.SetType.{SetType}
use Rattle.sq_syntax.specs.declared.ddl.TableAction.{TableAction}
use Rattle.sq_syntax.specs.declared.ddl.TableAction.TheVariants as table_action
use Rattle.sq_syntax.specs.declared.ddl.TypeChange.{TypeChange}
use Rattle.sq_syntax.specs.declared.ddl.TypeChange.TheVariants as type_change
use Rattle.sq_catalog.specs.Contents.{Contents}
use Rattle.sq_catalog.specs.Catalogue.{public}
use Rattle.sq_catalog.specs.declared.change.Action.{Action}
use Rattle.sq_catalog.specs.declared.change.Action.TheVariants as action
use Rattle.sq_catalog.specs.declared.change.Beside.{Beside}
use Rattle.sq_catalog.specs.declared.change.Beside.TheVariants as beside
use Rattle.sq_catalog.specs.declared.change.Change.{Change}
use Rattle.sq_catalog.specs.declared.change.Change.TheVariants as change
use Rattle.sq_catalog.specs.declared.change.NewKey.{NewKey}
use Rattle.sq_catalog.specs.declared.change.Target.{Target}
use Rattle.sq_migrate.specs.Refused.{and_then}
use Rattle.sq_migrate.specs.Types.{known_schema, place_of, type_of}
use Rattle.sq_migrate.specs.Columns.{text, column_of, columns_of, column_keys, table_key, table_keys, keys}
use Rattle.sq_migrate.specs.Labels.{label}

-- the schema of a name: by default "public"
abbrev pub schema_of : QualifiedName → List ℕ
schema_of x = elim x.schema [
  | None ↦ public
  | Some schema ↦ text schema
]

-- the last part of a name
abbrev pub last_of : QualifiedName → List ℕ
last_of x = text x.name

-- what is asked of a name, whose schema must be there
abbrev pub within_schema : {A : Type 0} → Contents → QualifiedName → Result A Refusal → Result A Refusal
within_schema c x next = and_then (known_schema c (place_of x) (schema_of x)) (λ known. next)

-- what comes into another schema, which must be there too
abbrev pub into_schema : {A : Type 0} → Contents → Identifier → Result A Refusal → Result A Refusal
into_schema c x next = and_then (known_schema c x.place (text x)) (λ known. next)

-- whether CASCADE is written
abbrev pub is_cascade : Behavior → Bool
is_cascade behavior.Cascade = true
is_cascade other = false

-- what a change is about, and whether it may be absent
abbrev pub target : Bool → QualifiedName → Target
target if_exists x = record { schema = schema_of x; name = last_of x; if_exists = if_exists }

-- NEW THINGS

abbrev pub schema_asked : CreateSchema → Result Change Refusal
schema_asked x = Ok (change.CreateSchema (text x.name) x.if_not_exists)

abbrev pub table_asked : Contents → CreateTable → Result Change Refusal
table_asked c x = within_schema c x.name (and_then (columns_of c x.elements) (λ columns.
    Ok (change.CreateTable (schema_of x.name) (last_of x.name) x.if_not_exists columns (keys (table_keys x.elements)))))

abbrev pub enum_asked : Contents → CreateType → Result Change Refusal
enum_asked c x = within_schema c x.name (Ok (change.CreateEnum (schema_of x.name) (last_of x.name) (map label x.labels)))

abbrev pub domain_asked : Contents → CreateDomain → Result Change Refusal
domain_asked c x = within_schema c x.name (and_then (type_of c false x.base) (λ base.
    Ok (change.CreateDomain (schema_of x.name) (last_of x.name) base.of)))

-- WHAT GOES

abbrev pub schema_drop_asked : DropSchema → Identifier → Result Change Refusal
schema_drop_asked x name = Ok (change.DropSchema (text name) x.if_exists (is_cascade x.behavior))

abbrev pub drop_of : Dropped → Bool → Target → Change
drop_of dropped.Table cascade x = change.DropTable x
drop_of dropped.Type cascade x = change.DropType x cascade
drop_of dropped.Domain cascade x = change.DropDomain x cascade

abbrev pub drop_asked : Contents → DropNamed → QualifiedName → Result Change Refusal
drop_asked c x name = within_schema c name (Ok (drop_of x.kind (is_cascade x.behavior) (target x.if_exists name)))

-- CHANGES OF A TABLE

-- an action of this table
abbrev pub acting : Contents → AlterTable → Action → Result Change Refusal
acting c x of = within_schema c x.name (Ok (change.AlterTable (target x.if_exists x.name) of))

abbrev pub column_asked : Contents → AlterTable → Bool → written.Column → Result Change Refusal
column_asked c x if_not_exists column = within_schema c x.name (and_then (column_of c column) (λ made.
    Ok (change.AlterTable (target x.if_exists x.name) (action.AddColumn made if_not_exists (keys (column_keys (text column.name) column.constraints))))))

abbrev pub type_asked : Contents → AlterTable → SetType → Result Change Refusal
type_asked c x set = within_schema c x.name (and_then (type_of c false set.to) (λ to.
    Ok (change.AlterTable (target x.if_exists x.name) (action.SetType (text set.column) to.of))))

-- what is asked for, where it is anything
abbrev pub some : Result Change Refusal → Result (Option Change) Refusal
some (Ok asked) = Ok (Some asked)
some (Err refusal) = Err refusal

-- of the constraints of a table a key alone is kept
abbrev pub key_asked : Contents → AlterTable → Option NewKey → Result (Option Change) Refusal
key_asked c x None = Ok None
key_asked c x (Some key) = some (acting c x (action.AddPrimaryKey key))

-- an action that is none of these asks for nothing, not even for the table
abbrev pub action_asked : Contents → AlterTable → TableAction → Result (Option Change) Refusal
action_asked c x (table_action.AddColumn has_column if_not_exists column) = some (column_asked c x if_not_exists column)
action_asked c x (table_action.AddConstraint constraint) = key_asked c x (table_key constraint)
action_asked c x (table_action.DropColumn has_column if_exists name behavior) = some (acting c x (action.DropColumn (text name) if_exists))
action_asked c x (table_action.DropConstraint if_exists name behavior) = some (acting c x (action.DropConstraint (text name)))
action_asked c x (table_action.SetNotNull has_column name) = some (acting c x (action.SetNotNull (text name)))
action_asked c x (table_action.DropNotNull has_column name) = some (acting c x (action.DropNotNull (text name)))
action_asked c x (table_action.SetType set) = some (type_asked c x set)
action_asked c x (table_action.Other tokens) = Ok None

-- a table gets another name
abbrev pub rename_asked : Contents → AlterTable → Identifier → Result Change Refusal
rename_asked c x to = within_schema c x.name (Ok (change.RenameTable (target x.if_exists x.name) (text to)))

-- a table comes into another schema
abbrev pub move_asked : Contents → AlterTable → Identifier → Result Change Refusal
move_asked c x to = within_schema c x.name (into_schema c to (Ok (change.SetTableSchema (target x.if_exists x.name) (text to))))

-- CHANGES OF A TYPE

abbrev pub beside_of : Neighbour → Beside
beside_of neighbour.Unsaid = beside.Last
beside_of (neighbour.Before bytes) = beside.Before (label bytes)
beside_of (neighbour.After bytes) = beside.After (label bytes)

abbrev pub value_asked : Contents → QualifiedName → List ℕ → Bool → Neighbour → Result Change Refusal
value_asked c x bytes if_not_exists place = within_schema c x (Ok (change.AddValue (schema_of x) (last_of x) (label bytes) if_not_exists (beside_of place)))

abbrev pub value_name_asked : Contents → QualifiedName → List ℕ → List ℕ → Result Change Refusal
value_name_asked c x from to = within_schema c x (Ok (change.RenameValue (schema_of x) (last_of x) (label from) (label to)))

abbrev pub type_name_asked : Contents → QualifiedName → Identifier → Result Change Refusal
type_name_asked c x to = within_schema c x (Ok (change.RenameType (schema_of x) (last_of x) (text to)))

abbrev pub type_schema_asked : Contents → QualifiedName → Identifier → Result Change Refusal
type_schema_asked c x to = within_schema c x (into_schema c to (Ok (change.SetTypeSchema (schema_of x) (last_of x) (text to))))

-- a change that is none of these asks for nothing, not even for the type
abbrev pub type_change_asked : Contents → QualifiedName → TypeChange → Result (Option Change) Refusal
type_change_asked c x (type_change.AddValue if_not_exists bytes place) = some (value_asked c x bytes if_not_exists place)
type_change_asked c x (type_change.RenameValue from to) = some (value_name_asked c x from to)
type_change_asked c x (type_change.RenameTo to) = some (type_name_asked c x to)
type_change_asked c x (type_change.SetSchema to) = some (type_schema_asked c x to)
type_change_asked c x (type_change.Other tokens) = Ok None
