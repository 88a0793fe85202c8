use Rattle.std.proofs.Common.{◌≡◌, refl, List}
use Rattle.sq_base.specs.declared.place.Place.{Place}
use Rattle.sq_syntax.specs.declared.ddl.AlterTable.{AlterTable}
use Rattle.sq_syntax.specs.declared.ddl.TableAction.{TableAction}
use Rattle.sq_syntax.specs.declared.ddl.TableChange.{TableChange}
use Rattle.sq_syntax.specs.declared.ddl.TableChange.TheVariants.{RenameTo, RenameColumn, RenameConstraint, SetSchema, Actions}
use Rattle.sq_migrate.specs.Replay.{Replayed, state, done_if_any, table_change_asked, table_changed}
use Rattle.sq_migrate.proofs.replaying.change_table.Goals as goal

-- a change that is no list of actions
no_actions : (place : Place) (x : AlterTable) (s : Replayed) (change : TableChange) → ((actions : List TableAction) → change ≡ Actions actions → ⊥) → table_changed place x s change ≡ done_if_any place s (table_change_asked s.catalogue x change)
no_actions place x s (RenameTo to) other = refl
no_actions place x s (RenameColumn has_column from to) other = refl
no_actions place x s (RenameConstraint from to) other = refl
no_actions place x s (SetSchema to) other = refl
no_actions place x s (Actions actions) other = absurd (other actions refl)

pub returns : goal.returns
returns c =
    rw (no_actions c.args.place c.args.x.now (state c.args.catalogue.now c.args.refusals.now) c.args.x.now.change c.in_default.not-Actions) (c.do_if_any.ensures _ c.table_change_asked-asked.ensures)
