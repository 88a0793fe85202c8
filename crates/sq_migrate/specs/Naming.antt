-- Names that fit, in the statements that give them (PostgreSQL manual, section 4.1.1).
use Rattle.std.specs.Prelude.{⊤}
use Rattle.std.specs.List.{AllByRecursion}
use Rattle.sq_syntax.specs.declared.ddl.Ddl.{Ddl}
use Rattle.sq_syntax.specs.declared.ddl.Ddl.TheVariants as statement
use Rattle.sq_syntax.specs.declared.ddl.Element.{Element}
use Rattle.sq_syntax.specs.declared.ddl.Element.TheVariants as element
use Rattle.sq_syntax.specs.declared.ddl.TableAction.{TableAction}
use Rattle.sq_syntax.specs.declared.ddl.TableAction.TheVariants as table_action
use Rattle.sq_syntax.specs.declared.ddl.TableChange.{TableChange}
use Rattle.sq_syntax.specs.declared.ddl.TableChange.TheVariants as table_change
use Rattle.sq_syntax.specs.declared.ddl.TypeChange.{TypeChange}
use Rattle.sq_syntax.specs.declared.ddl.TypeChange.TheVariants as type_change
use Rattle.sq_catalog.specs.Named.{IsName}
use Rattle.sq_migrate.specs.Columns.{text}
use Rattle.sq_migrate.specs.Asked.{last_of}

-- the name that an element of a table gives to a column
abbrev pub NamesColumn : Element → Type 0
NamesColumn (element.Column x) = IsName (text x.name)
NamesColumn (element.Constraint x) = ⊤

-- the name that an action gives to a column
abbrev pub NamesAdded : TableAction → Type 0
NamesAdded (table_action.AddColumn has_column if_not_exists column) = IsName (text column.name)
NamesAdded other = ⊤

-- the names that a change gives to a table or its columns
abbrev pub NamesInTable : TableChange → Type 0
NamesInTable (table_change.RenameTo to) = IsName (text to)
NamesInTable (table_change.RenameColumn has_column from to) = IsName (text to)
NamesInTable (table_change.Actions actions) = AllByRecursion NamesAdded actions
NamesInTable other = ⊤

-- the name that a change gives to a type
abbrev pub NamesType : TypeChange → Type 0
NamesType (type_change.RenameTo to) = IsName (text to)
NamesType other = ⊤

-- each name that a statement gives to a schema, table, column or type is one; what it only speaks
-- of was named before
abbrev pub GivesNames : Ddl → Type 0
GivesNames (statement.CreateSchema x) = IsName (text x.form.name)
GivesNames (statement.CreateTable x) = IsName (last_of x.form.name) × AllByRecursion NamesColumn x.form.elements
GivesNames (statement.CreateType x) = IsName (last_of x.form.name)
GivesNames (statement.CreateDomain x) = IsName (last_of x.form.name)
GivesNames (statement.AlterTable x) = NamesInTable x.form.change
GivesNames (statement.AlterType x) = NamesType x.form.change
GivesNames other = ⊤
