-- What the columns of a statement are (PostgreSQL manual, CREATE TABLE).
use Rattle.std.specs.Prelude.{ℕ, ◌||◌, Bool, true, false, if◌then◌else◌, List, [], ◌∷◌, ◌++◌, Option, Some, None, Result, Ok, map}
use Rattle.std.specs.List.{list_any}
use Rattle.std.specs.Option.{option_map}
use Rattle.sq_base.specs.declared.refusal.Refusal.{Refusal}
use Rattle.sq_syntax.specs.declared.name.Identifier.{Identifier}
use Rattle.sq_syntax.specs.declared.ddl.Column as written
use Rattle.sq_syntax.specs.declared.ddl.Constraint.{Constraint}
use Rattle.sq_syntax.specs.declared.ddl.ConstraintForm.{ConstraintForm}
use Rattle.sq_syntax.specs.declared.ddl.ConstraintForm.TheVariants as constraint
use Rattle.sq_syntax.specs.declared.ddl.Element.{Element}
use Rattle.sq_syntax.specs.declared.ddl.Element.TheVariants as element
use Rattle.sq_syntax.specs.declared.ddl.TableConstraint.{TableConstraint}
use Rattle.sq_syntax.specs.declared.ddl.TableConstraintForm.TheVariants as table_constraint
use Rattle.sq_catalog.specs.Contents.{Contents}
use Rattle.sq_catalog.specs.declared.table.Column.{Column}
use Rattle.sq_catalog.specs.declared.change.Keys.{Keys}
use Rattle.sq_catalog.specs.declared.change.Keys.TheVariants.{Nothing, One, Several}
use Rattle.sq_catalog.specs.declared.change.NewKey.{NewKey}
use Rattle.sq_migrate.specs.Refused.{and_then}
use Rattle.sq_migrate.specs.Types.{type_of}
use Rattle.sq_migrate.specs.declared.types.Typed.{Typed}

-- the text of a name
abbrev pub text : Identifier → List ℕ
text x = x.name

-- the text of a name that may be wanting
abbrev pub text_if_any : Option Identifier → Option (List ℕ)
text_if_any x = option_map text x

-- whether a constraint says that a column is NOT NULL by itself; what a key says is said of the table
abbrev pub forbids_null : ConstraintForm → Bool
forbids_null constraint.NotNull = true
forbids_null (constraint.Identity generation options) = true
forbids_null form = false

-- whether a constraint is PRIMARY KEY
abbrev pub is_key : ConstraintForm → Bool
is_key constraint.PrimaryKey = true
is_key form = false

-- whether a column is NOT NULL by one of these constraints
abbrev pub is_marked : List Constraint → Bool
is_marked constraints = list_any (λ (x : Constraint). forbids_null x.form) constraints

-- a column of this type
abbrev pub column_of_type : written.Column → Typed → Column
column_of_type x of = record { name = text x.name; of = of.of; not_null = of.is_serial || is_marked x.constraints }

-- a column as it is written
abbrev pub column_of : Contents → written.Column → Result Column Refusal
column_of c x = and_then (type_of c true x.of) (λ of. Ok (column_of_type x of))

-- the columns among these elements of a table, from left to right
abbrev pub columns_of : Contents → List Element → Result (List Column) Refusal
columns_of c [] = Ok []
columns_of c (element.Column x ∷ elements) = and_then (column_of c x) (λ column. and_then (columns_of c elements) (λ columns. Ok (column ∷ columns)))
columns_of c (element.Constraint x ∷ elements) = columns_of c elements

-- the key that a constraint of a column asks for
abbrev pub column_key : List ℕ → Constraint → Option NewKey
column_key column x = if is_key x.form then Some (record { name = text_if_any x.name; columns = column ∷ [] }) else None

-- keys, and one more where it is asked for
abbrev pub and_key : Option NewKey → List NewKey → List NewKey
and_key None keys = keys
and_key (Some key) keys = key ∷ keys

-- the keys that the constraints of a column ask for
abbrev pub column_keys : List ℕ → List Constraint → List NewKey
column_keys column [] = []
column_keys column (x ∷ constraints) = and_key (column_key column x) (column_keys column constraints)

-- the key that a constraint of a table asks for
abbrev pub table_key : TableConstraint → Option NewKey
table_key x = elim x.form [
  | table_constraint.PrimaryKey names rest ↦ Some (record { name = text_if_any x.name; columns = map text names })
  | form ↦ None
]

-- the keys that an element of a table asks for
abbrev pub element_keys : Element → List NewKey
element_keys (element.Column x) = column_keys (text x.name) x.constraints
element_keys (element.Constraint x) = and_key (table_key x) []

-- the keys that the elements of a table ask for
abbrev pub table_keys : List Element → List NewKey
table_keys [] = []
table_keys (x ∷ elements) = element_keys x ++ table_keys elements

-- the keys that one statement asks for
abbrev pub keys : List NewKey → Keys
keys [] = Nothing
keys (key ∷ []) = One key
keys (key ∷ second ∷ more) = Several
