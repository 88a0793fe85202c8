-- The replay of schema statements.
use Rattle.std.specs.Prelude.{List, [], ◌∷◌, ◌++◌, Option, Some, None, Result, Ok, Err}
use Rattle.sq_base.specs.Refusals.{refused_naming}
use Rattle.sq_base.specs.declared.code.Code.TheVariants as code
use Rattle.sq_base.specs.declared.place.Place.{Place}
use Rattle.sq_base.specs.declared.refusal.Refusal.{Refusal}
use Rattle.sq_syntax.specs.declared.name.Identifier.{Identifier}
use Rattle.sq_syntax.specs.declared.name.QualifiedName.{QualifiedName}
use Rattle.sq_syntax.specs.declared.ddl.AlterTable.{AlterTable}
use Rattle.sq_syntax.specs.declared.ddl.Ddl.{Ddl}
use Rattle.sq_syntax.specs.declared.ddl.Ddl.TheVariants as statement
use Rattle.sq_syntax.specs.declared.ddl.DropNamed.{DropNamed}
use Rattle.sq_syntax.specs.declared.ddl.DropSchema.{DropSchema}
use Rattle.sq_syntax.specs.declared.ddl.TableAction.{TableAction}
use Rattle.sq_syntax.specs.declared.ddl.TableChange.{TableChange}
use Rattle.sq_syntax.specs.declared.ddl.TableChange.TheVariants as table_change
use Rattle.sq_catalog.specs.Contents.{Contents}
use Rattle.sq_catalog.specs.Catalogue.{step}
use Rattle.sq_catalog.specs.declared.change.Action.TheVariants as action
use Rattle.sq_catalog.specs.declared.change.Change.{Change}
use Rattle.sq_catalog.specs.declared.change.Cause.{Cause}
use Rattle.sq_catalog.specs.declared.change.Cause.TheVariants.{Exists, Missing, InUse, InPrimaryKey, TooManyColumns}
use Rattle.sq_migrate.specs.Columns.{text}
use Rattle.sq_migrate.specs.Asked.{schema_asked, table_asked, enum_asked, domain_asked, schema_drop_asked, drop_asked, acting, some, action_asked, rename_asked, move_asked, type_change_asked}

-- the catalogue that the statements so far have made, and what was refused of them
pub record Replayed : Type 0 where
  pub catalogue : Contents
  pub refusals : List Refusal

-- a catalogue and what was refused so far
abbrev pub state : Contents → List Refusal → Replayed
state c refusals = record { catalogue = c; refusals = refusals }

-- nothing has been replayed yet
abbrev pub start : Contents → Replayed
start c = state c []

-- one more refusal
abbrev pub and_refused : Replayed → Refusal → Replayed
and_refused s refusal = record s { refusals = s.refusals ++ refusal ∷ [] }

-- the refusal of a change, at the place of its statement
abbrev pub refusal_of : Place → Cause → Refusal
refusal_of place (Exists name) = refused_naming code.Exists place name
refusal_of place (Missing name) = refused_naming code.Missing place name
refusal_of place (InUse name) = refused_naming code.InUse place name
refusal_of place (InPrimaryKey name) = refused_naming code.InPrimaryKey place name
refusal_of place (TooManyColumns name) = refused_naming code.TooManyColumns place name

-- a change is made, or left out with its refusal
abbrev pub stepped : Place → Replayed → Result Contents Cause → Replayed
stepped place s (Ok changed) = record s { catalogue = changed }
stepped place s (Err cause) = and_refused s (refusal_of place cause)

-- what is asked for is done, or left out with its refusal
abbrev pub done : Place → Replayed → Result Change Refusal → Replayed
done place s (Ok change) = stepped place s (step s.catalogue change)
done place s (Err refusal) = and_refused s refusal

-- what is asked for, if it is anything
abbrev pub done_if_any : Place → Replayed → Result (Option Change) Refusal → Replayed
done_if_any place s (Ok None) = s
done_if_any place s (Ok (Some change)) = done place s (Ok change)
done_if_any place s (Err refusal) = and_refused s refusal

-- names are dropped in order
abbrev pub schemas_dropped : Place → DropSchema → Replayed → List Identifier → Replayed
schemas_dropped place x s [] = s
schemas_dropped place x s (name ∷ names) = schemas_dropped place x (done place s (schema_drop_asked x name)) names

abbrev pub names_dropped : Place → DropNamed → Replayed → List QualifiedName → Replayed
names_dropped place x s [] = s
names_dropped place x s (name ∷ names) = names_dropped place x (done place s (drop_asked s.catalogue x name)) names

-- actions are made in order
abbrev pub acted : Place → AlterTable → Replayed → List TableAction → Replayed
acted place x s [] = s
acted place x s (of ∷ actions) = acted place x (done_if_any place s (action_asked s.catalogue x of)) actions

-- what a change of a table that is no list of actions asks for
abbrev pub table_change_asked : Contents → AlterTable → TableChange → Result (Option Change) Refusal
table_change_asked c x (table_change.RenameTo to) = some (rename_asked c x to)
table_change_asked c x (table_change.RenameColumn has_column from to) = some (acting c x (action.RenameColumn (text from) (text to)))
table_change_asked c x (table_change.RenameConstraint from to) = some (acting c x (action.RenameConstraint (text from) (text to)))
table_change_asked c x (table_change.SetSchema to) = some (move_asked c x to)
table_change_asked c x (table_change.Actions actions) = Ok None

-- a table is changed
abbrev pub table_changed : Place → AlterTable → Replayed → TableChange → Replayed
table_changed place x s (table_change.Actions actions) = acted place x s actions
table_changed place x s change = done_if_any place s (table_change_asked s.catalogue x change)

-- the changes of a statement are made in order
abbrev pub after : Replayed → Ddl → Replayed
after s (statement.CreateSchema x) = done x.place s (schema_asked x.form)
after s (statement.CreateTable x) = done x.place s (table_asked s.catalogue x.form)
after s (statement.CreateType x) = done x.place s (enum_asked s.catalogue x.form)
after s (statement.CreateDomain x) = done x.place s (domain_asked s.catalogue x.form)
after s (statement.DropSchema x) = schemas_dropped x.place x.form s x.form.names
after s (statement.Drop x) = names_dropped x.place x.form s x.form.names
after s (statement.AlterTable x) = table_changed x.place x.form s x.form.change
after s (statement.AlterType x) = done_if_any x.place s (type_change_asked s.catalogue x.form.name x.form.change)

-- statements are replayed in order
abbrev pub after_all : Replayed → List Ddl → Replayed
after_all s [] = s
after_all s (x ∷ statements) = after_all (after s x) statements

-- what the replay of statements makes of a catalogue
abbrev pub replayed : Contents → List Ddl → Replayed
replayed c statements = after_all (start c) statements
