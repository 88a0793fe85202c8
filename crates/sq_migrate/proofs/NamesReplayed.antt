-- The replay of statements that give names leaves a catalogue that has names.
use Rattle.std.proofs.Common.{List, [], ◌∷◌, Option, Some, None, Result, Ok, Err, IfOk}
use Rattle.std.specs.List.{AllByRecursion}
use Rattle.sq_base.specs.declared.place.Place.{Place}
use Rattle.sq_base.specs.declared.refusal.Refusal.{Refusal}
use Rattle.sq_syntax.specs.declared.name.Identifier.{Identifier}
use Rattle.sq_syntax.specs.declared.name.QualifiedName.{QualifiedName}
use Rattle.sq_syntax.specs.declared.ddl.AlterTable.{AlterTable}
use Rattle.sq_syntax.specs.declared.ddl.Ddl.{Ddl}
use Rattle.sq_syntax.specs.declared.ddl.Ddl.TheVariants as statement
use Rattle.sq_syntax.specs.declared.ddl.DropNamed.{DropNamed}
use Rattle.sq_syntax.specs.declared.ddl.DropSchema.{DropSchema}
use Rattle.sq_syntax.specs.declared.ddl.TableAction.{TableAction}
use Rattle.sq_syntax.specs.declared.ddl.TableChange.{TableChange}
use Rattle.sq_syntax.specs.declared.ddl.TableChange.TheVariants as table_change
use Rattle.sq_catalog.specs.Contents.{Contents}
use Rattle.sq_catalog.specs.Catalogue.{step}
use Rattle.sq_catalog.specs.declared.change.Change.{Change}
use Rattle.sq_catalog.specs.declared.change.Cause.{Cause}
use Rattle.sq_migrate.specs.Asked.{schema_asked, table_asked, enum_asked, domain_asked, schema_drop_asked, drop_asked, action_asked, type_change_asked}
use Rattle.sq_catalog.specs.Named.{BringsNames, HasNames}
use Rattle.sq_migrate.specs.Naming.{NamesAdded, NamesInTable, GivesNames}
use Rattle.sq_migrate.specs.Replay.{Replayed, start, stepped, done, done_if_any, schemas_dropped, names_dropped, acted, table_change_asked, table_changed, after, after_all, replayed}
use Rattle.sq_catalog.proofs.NamesKept.{step_keeps_names}
use Rattle.sq_migrate.proofs.NamesAsked.{BringsIfAny, table_brings, enum_brings, domain_brings, drop_brings, action_brings, table_change_brings, type_change_brings}

-- what the statements so far have made has names
abbrev Keeps : Replayed → Type 0
Keeps s = HasNames s.catalogue

stepped_keeps : (place : Place) (s : Replayed) (result : Result Contents Cause) → IfOk result HasNames → Keeps s → Keeps (stepped place s result)
stepped_keeps place s (Ok changed) made have = made
stepped_keeps place s (Err fault) made have = have

done_keeps : (place : Place) (s : Replayed) (asked : Result Change Refusal) → IfOk asked BringsNames → Keeps s → Keeps (done place s asked)
done_keeps place s (Ok change) brings have = stepped_keeps place s (step s.catalogue change) (step_keeps_names s.catalogue change brings have) have
done_keeps place s (Err refusal) brings have = have

done_if_any_keeps : (place : Place) (s : Replayed) (asked : Result (Option Change) Refusal) → IfOk asked BringsIfAny → Keeps s → Keeps (done_if_any place s asked)
done_if_any_keeps place s (Ok None) brings have = have
done_if_any_keeps place s (Ok (Some change)) brings have = done_keeps place s (Ok change) brings have
done_if_any_keeps place s (Err refusal) brings have = have

schemas_keep : (place : Place) (x : DropSchema) (s : Replayed) (names : List Identifier) → Keeps s → Keeps (schemas_dropped place x s names)
schemas_keep place x s [] have = have
schemas_keep place x s (name ∷ names) have = schemas_keep place x (done place s (schema_drop_asked x name)) names (done_keeps place s (schema_drop_asked x name) tt have)

names_keep : (place : Place) (x : DropNamed) (s : Replayed) (names : List QualifiedName) → Keeps s → Keeps (names_dropped place x s names)
names_keep place x s [] have = have
names_keep place x s (name ∷ names) have =
    names_keep place x (done place s (drop_asked s.catalogue x name)) names (done_keeps place s (drop_asked s.catalogue x name) (drop_brings s.catalogue have x name) have)

acted_keeps : (place : Place) (x : AlterTable) (s : Replayed) (actions : List TableAction) → AllByRecursion NamesAdded actions → Keeps s → Keeps (acted place x s actions)
acted_keeps place x s [] give have = have
acted_keeps place x s (of ∷ actions) give have =
    acted_keeps place x (done_if_any place s (action_asked s.catalogue x of)) actions give.1 (done_if_any_keeps place s (action_asked s.catalogue x of) (action_brings s.catalogue have x of give.0) have)

asked_keeps : (place : Place) (x : AlterTable) (s : Replayed) (change : TableChange) → NamesInTable change → Keeps s → Keeps (done_if_any place s (table_change_asked s.catalogue x change))
asked_keeps place x s change gives have = done_if_any_keeps place s (table_change_asked s.catalogue x change) (table_change_brings s.catalogue have x change gives) have

changed_keeps : (place : Place) (x : AlterTable) (s : Replayed) (change : TableChange) → NamesInTable change → Keeps s → Keeps (table_changed place x s change)
changed_keeps place x s (table_change.Actions actions) gives have = acted_keeps place x s actions gives have
changed_keeps place x s (table_change.RenameTo to) gives have = asked_keeps place x s (table_change.RenameTo to) gives have
changed_keeps place x s (table_change.RenameColumn has_column from to) gives have = asked_keeps place x s (table_change.RenameColumn has_column from to) gives have
changed_keeps place x s (table_change.RenameConstraint from to) gives have = asked_keeps place x s (table_change.RenameConstraint from to) gives have
changed_keeps place x s (table_change.SetSchema to) gives have = asked_keeps place x s (table_change.SetSchema to) gives have

after_keeps : (s : Replayed) (x : Ddl) → GivesNames x → Keeps s → Keeps (after s x)
after_keeps s (statement.CreateSchema x) gives have = done_keeps x.place s (schema_asked x.form) gives have
after_keeps s (statement.CreateTable x) gives have = done_keeps x.place s (table_asked s.catalogue x.form) (table_brings s.catalogue have x.form gives.0 gives.1) have
after_keeps s (statement.CreateType x) gives have = done_keeps x.place s (enum_asked s.catalogue x.form) (enum_brings s.catalogue have x.form gives) have
after_keeps s (statement.CreateDomain x) gives have = done_keeps x.place s (domain_asked s.catalogue x.form) (domain_brings s.catalogue have x.form gives) have
after_keeps s (statement.DropSchema x) gives have = schemas_keep x.place x.form s x.form.names have
after_keeps s (statement.Drop x) gives have = names_keep x.place x.form s x.form.names have
after_keeps s (statement.AlterTable x) gives have = changed_keeps x.place x.form s x.form.change gives have
after_keeps s (statement.AlterType x) gives have =
    done_if_any_keeps x.place s (type_change_asked s.catalogue x.form.name x.form.change) (type_change_brings s.catalogue have x.form.name x.form.change gives) have

after_all_keeps : (s : Replayed) (statements : List Ddl) → AllByRecursion GivesNames statements → Keeps s → Keeps (after_all s statements)
after_all_keeps s [] give have = have
after_all_keeps s (x ∷ statements) give have = after_all_keeps (after s x) statements give.1 (after_keeps s x give.0 have)

pub replay_keeps_names : (c : Contents) → (statements : List Ddl) → AllByRecursion GivesNames statements → HasNames c → HasNames (replayed c statements).catalogue
replay_keeps_names c statements give have = after_all_keeps (start c) statements give have
