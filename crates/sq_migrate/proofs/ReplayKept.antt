-- The replay of statements leaves a catalogue.
use Rattle.std.proofs.Common.{List, [], ◌∷◌, Option, Some, None, Result, Ok, Err, IfOk}
use Rattle.sq_base.specs.declared.place.Place.{Place}
use Rattle.sq_base.specs.declared.refusal.Refusal.{Refusal}
use Rattle.sq_syntax.specs.declared.name.Identifier.{Identifier}
use Rattle.sq_syntax.specs.declared.name.QualifiedName.{QualifiedName}
use Rattle.sq_syntax.specs.declared.ddl.AlterTable.{AlterTable}
use Rattle.sq_syntax.specs.declared.ddl.Ddl.{Ddl}
use Rattle.sq_syntax.specs.declared.ddl.Ddl.TheVariants as statement
use Rattle.sq_syntax.specs.declared.ddl.DropNamed.{DropNamed}
use Rattle.sq_syntax.specs.declared.ddl.DropSchema.{DropSchema}
use Rattle.sq_syntax.specs.declared.ddl.TableAction.{TableAction}
use Rattle.sq_syntax.specs.declared.ddl.TableChange.{TableChange}
use Rattle.sq_syntax.specs.declared.ddl.TableChange.TheVariants as table_change
use Rattle.sq_catalog.specs.Contents.{Contents}
use Rattle.sq_catalog.specs.Catalogue.{step}
use Rattle.sq_catalog.specs.declared.change.Change.{Change}
use Rattle.sq_catalog.specs.declared.change.Cause.{Cause}
use Rattle.sq_migrate.specs.Asked.{schema_asked, table_asked, enum_asked, domain_asked, schema_drop_asked, drop_asked, action_asked, type_change_asked}
use Rattle.sq_catalog.specs.Kept.{BringsHeld, IsCatalogue}
use Rattle.sq_migrate.specs.Replay.{Replayed, start, stepped, done, done_if_any, schemas_dropped, names_dropped, acted, table_change_asked, table_changed, after, after_all, replayed}
use Rattle.sq_catalog.proofs.ChangesKept.{step_keeps}
use Rattle.sq_migrate.proofs.TypesAsked.{BringsIfAny, schema_brings, table_brings, enum_brings, domain_brings, schema_drop_brings, drop_brings, action_brings, table_change_brings, type_change_brings}

-- what the statements so far have made is a catalogue
abbrev Keeps : Replayed → Type 0
Keeps s = IsCatalogue s.catalogue

stepped_keeps : (place : Place) (s : Replayed) (result : Result Contents Cause) → IfOk result IsCatalogue → Keeps s → Keeps (stepped place s result)
stepped_keeps place s (Ok changed) made is = made
stepped_keeps place s (Err fault) made is = is

done_keeps : (place : Place) (s : Replayed) (asked : Result Change Refusal) → IfOk asked (BringsHeld s.catalogue) → Keeps s → Keeps (done place s asked)
done_keeps place s (Ok change) brings is = stepped_keeps place s (step s.catalogue change) (step_keeps s.catalogue change brings is) is
done_keeps place s (Err refusal) brings is = is

done_if_any_keeps : (place : Place) (s : Replayed) (asked : Result (Option Change) Refusal) → IfOk asked (BringsIfAny s.catalogue) → Keeps s → Keeps (done_if_any place s asked)
done_if_any_keeps place s (Ok None) brings is = is
done_if_any_keeps place s (Ok (Some change)) brings is = done_keeps place s (Ok change) brings is
done_if_any_keeps place s (Err refusal) brings is = is

schemas_keep : (place : Place) (x : DropSchema) (s : Replayed) (names : List Identifier) → Keeps s → Keeps (schemas_dropped place x s names)
schemas_keep place x s [] is = is
schemas_keep place x s (name ∷ names) is =
    schemas_keep place x (done place s (schema_drop_asked x name)) names (done_keeps place s (schema_drop_asked x name) (schema_drop_brings s.catalogue x name) is)

names_keep : (place : Place) (x : DropNamed) (s : Replayed) (names : List QualifiedName) → Keeps s → Keeps (names_dropped place x s names)
names_keep place x s [] is = is
names_keep place x s (name ∷ names) is =
    names_keep place x (done place s (drop_asked s.catalogue x name)) names (done_keeps place s (drop_asked s.catalogue x name) (drop_brings s.catalogue x name) is)

acted_keeps : (place : Place) (x : AlterTable) (s : Replayed) (actions : List TableAction) → Keeps s → Keeps (acted place x s actions)
acted_keeps place x s [] is = is
acted_keeps place x s (of ∷ actions) is =
    acted_keeps place x (done_if_any place s (action_asked s.catalogue x of)) actions (done_if_any_keeps place s (action_asked s.catalogue x of) (action_brings s.catalogue x of) is)

asked_keeps : (place : Place) (x : AlterTable) (s : Replayed) (change : TableChange) → Keeps s → Keeps (done_if_any place s (table_change_asked s.catalogue x change))
asked_keeps place x s change is = done_if_any_keeps place s (table_change_asked s.catalogue x change) (table_change_brings s.catalogue x change) is

changed_keeps : (place : Place) (x : AlterTable) (s : Replayed) (change : TableChange) → Keeps s → Keeps (table_changed place x s change)
changed_keeps place x s (table_change.Actions actions) is = acted_keeps place x s actions is
changed_keeps place x s (table_change.RenameTo to) is = asked_keeps place x s (table_change.RenameTo to) is
changed_keeps place x s (table_change.RenameColumn has_column from to) is = asked_keeps place x s (table_change.RenameColumn has_column from to) is
changed_keeps place x s (table_change.RenameConstraint from to) is = asked_keeps place x s (table_change.RenameConstraint from to) is
changed_keeps place x s (table_change.SetSchema to) is = asked_keeps place x s (table_change.SetSchema to) is

after_keeps : (s : Replayed) (x : Ddl) → Keeps s → Keeps (after s x)
after_keeps s (statement.CreateSchema x) is = done_keeps x.place s (schema_asked x.form) (schema_brings s.catalogue x.form) is
after_keeps s (statement.CreateTable x) is = done_keeps x.place s (table_asked s.catalogue x.form) (table_brings s.catalogue x.form) is
after_keeps s (statement.CreateType x) is = done_keeps x.place s (enum_asked s.catalogue x.form) (enum_brings s.catalogue x.form) is
after_keeps s (statement.CreateDomain x) is = done_keeps x.place s (domain_asked s.catalogue x.form) (domain_brings s.catalogue x.form) is
after_keeps s (statement.DropSchema x) is = schemas_keep x.place x.form s x.form.names is
after_keeps s (statement.Drop x) is = names_keep x.place x.form s x.form.names is
after_keeps s (statement.AlterTable x) is = changed_keeps x.place x.form s x.form.change is
after_keeps s (statement.AlterType x) is =
    done_if_any_keeps x.place s (type_change_asked s.catalogue x.form.name x.form.change) (type_change_brings s.catalogue x.form.name x.form.change) is

after_all_keeps : (s : Replayed) (statements : List Ddl) → Keeps s → Keeps (after_all s statements)
after_all_keeps s [] is = is
after_all_keeps s (x ∷ statements) is = after_all_keeps (after s x) statements (after_keeps s x is)

pub replay_keeps : (c : Contents) → (statements : List Ddl) → IsCatalogue c → IsCatalogue (replayed c statements).catalogue
replay_keeps c statements is = after_all_keeps (start c) statements is
