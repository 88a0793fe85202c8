-- Schema statements are read.
use Rattle.std.specs.Prelude.{ℕ, suc, ◌-◌, Bool, true, false, ◌&&◌, ◌||◌, not, if◌then◌else◌, codes, List, [], ◌∷◌, map, Option, Some, None}
use Rattle.sq_syntax.specs.declared.symbol.Symbol.TheVariants as s
use Rattle.sq_syntax.specs.declared.symbol.Reading.{Reading}
use Rattle.sq_syntax.specs.declared.symbol.Reading.TheVariants as reading
use Rattle.sq_syntax.specs.declared.name.Identifier.{Identifier}
use Rattle.sq_syntax.specs.declared.name.QualifiedName.{QualifiedName}
use Rattle.sq_syntax.specs.declared.expr.Node.{Node}
use Rattle.sq_syntax.specs.declared.ddl.AlterTable.{AlterTable}
use Rattle.sq_syntax.specs.declared.ddl.AlterType.{AlterType}
use Rattle.sq_syntax.specs.declared.ddl.Behavior.{Behavior}
use Rattle.sq_syntax.specs.declared.ddl.Behavior.TheVariants as behavior_kind
use Rattle.sq_syntax.specs.declared.ddl.Column.{Column}
use Rattle.sq_syntax.specs.declared.ddl.Constraint.{Constraint}
use Rattle.sq_syntax.specs.declared.ddl.ConstraintForm.{ConstraintForm}
use Rattle.sq_syntax.specs.declared.ddl.ConstraintForm.TheVariants as constraint_kind
use Rattle.sq_syntax.specs.declared.ddl.CreateDomain.{CreateDomain}
use Rattle.sq_syntax.specs.declared.ddl.CreateSchema.{CreateSchema}
use Rattle.sq_syntax.specs.declared.ddl.CreateTable.{CreateTable}
use Rattle.sq_syntax.specs.declared.ddl.CreateType.{CreateType}
use Rattle.sq_syntax.specs.declared.ddl.Ddl.{Ddl}
use Rattle.sq_syntax.specs.declared.ddl.Ddl.TheVariants as ddl_kind
use Rattle.sq_syntax.specs.declared.ddl.DropNamed.{DropNamed}
use Rattle.sq_syntax.specs.declared.ddl.DropSchema.{DropSchema}
use Rattle.sq_syntax.specs.declared.ddl.Dropped.{Dropped}
use Rattle.sq_syntax.specs.declared.ddl.Dropped.TheVariants as dropped
use Rattle.sq_syntax.specs.declared.ddl.Element.{Element}
use Rattle.sq_syntax.specs.declared.ddl.Element.TheVariants as element_kind
use Rattle.sq_syntax.specs.declared.ddl.Generation.{Generation}
use Rattle.sq_syntax.specs.declared.ddl.Generation.TheVariants as generation_kind
use Rattle.sq_syntax.specs.declared.ddl.Neighbour.{Neighbour}
use Rattle.sq_syntax.specs.declared.ddl.Neighbour.TheVariants as neighbour_kind
use Rattle.sq_syntax.specs.declared.ddl.Reaction.{Reaction}
use Rattle.sq_syntax.specs.declared.ddl.ReferenceAction.{ReferenceAction}
use Rattle.sq_syntax.specs.declared.ddl.ReferenceAction.TheVariants as reference_action
use Rattle.sq_syntax.specs.declared.ddl.ReferenceEvent.{ReferenceEvent}
use Rattle.sq_syntax.specs.declared.ddl.ReferenceEvent.TheVariants as event_kind
use Rattle.sq_syntax.specs.declared.ddl.TableAction.{TableAction}
use Rattle.sq_syntax.specs.declared.ddl.TableAction.TheVariants as table_action
use Rattle.sq_syntax.specs.declared.ddl.TableChange.{TableChange}
use Rattle.sq_syntax.specs.declared.ddl.TableChange.TheVariants as table_change
use Rattle.sq_syntax.specs.declared.ddl.TableConstraint.{TableConstraint}
use Rattle.sq_syntax.specs.declared.ddl.TableConstraintForm.{TableConstraintForm}
use Rattle.sq_syntax.specs.declared.ddl.TableConstraintForm.TheVariants as table_constraint_kind
use Rattle.sq_syntax.specs.declared.ddl.Tail.{Tail}
use Rattle.sq_syntax.specs.declared.ddl.Tail.TheVariants as tail_kind
use Rattle.sq_syntax.specs.declared.ddl.TypeChange.{TypeChange}
use Rattle.sq_syntax.specs.declared.ddl.TypeChange.TheVariants as type_change
use Rattle.sq_syntax.specs.Facts.{Stream}
use Rattle.sq_syntax.specs.Pieces.{is_empty}
use Rattle.sq_syntax.specs.Runs.{Bracket, behind, no_stop}
use Rattle.sq_syntax.specs.Schemas.{is_comma, ends_default, opens_exclusion, ends_partition, begins_action, is as is_letters}
use Rattle.sq_grammar.specs.Reading.{Outcome, Parser, ◌>>=◌, ◌>>◌, pure, fail, choose, begins, sees, expect, optional, here, many}
use Rattle.sq_grammar.specs.Ahead.{Lexemes}
use Rattle.sq_grammar.specs.Names.{name, qualified_name, type}
use Rattle.sq_grammar.specs.Queries.{in_brackets, bracketed_names}
use Rattle.sq_grammar.specs.Primaries.{a_field, a_text}
use Rattle.sq_grammar.specs.Statements.{begins_word, sees_word, expect_word, listed}

-- ---- words

abbrev pub optional_word : List ℕ → Parser Bool
optional_word letters = choose (sees_word letters) (expect_word letters >> pure true) (pure false)

-- the first two tokens are words or signs of these letters
abbrev pub begins_letters : List ℕ → List ℕ → Lexemes → Bool
begins_letters first second (x ∷ y ∷ rest) = is_letters first x.reading && is_letters second y.reading
begins_letters first second _ = false

-- the first token is a word or a sign of these letters
abbrev pub begins_sign : List ℕ → Lexemes → Bool
begins_sign letters [] = false
begins_sign letters (x ∷ rest) = is_letters letters x.reading

abbrev pub sees_both : List ℕ → List ℕ → Stream → Bool
sees_both first second now = begins_letters first second now.tokens

unfoldable pub if_exists : Parser Bool
if_exists = choose (sees_both (codes "if") (codes "exists")) (expect_word (codes "if") >> (expect s.Exists >> pure true)) (pure false)

unfoldable pub if_not_exists : Parser Bool
if_not_exists = choose (sees_both (codes "if") (codes "not")) (expect_word (codes "if") >> (expect s.Not >> (expect s.Exists >> pure true))) (pure false)

unfoldable pub behavior : Parser Behavior
behavior = choose (sees_word (codes "cascade")) (expect_word (codes "cascade") >> pure behavior_kind.Cascade)
    (choose (sees_word (codes "restrict")) (expect_word (codes "restrict") >> pure behavior_kind.Restrict) (pure behavior_kind.Unsaid))

-- a part with the place of its first token, and the numbers of its first and last
abbrev pub numbered : {A : Type 0} → Parser A → (Node A → Ddl) → Parser Ddl
numbered p make start = (p >>= (λ x now. Some (make (record { place = here start; first = start.at; last = now.at - 1; form = x }), now))) start

-- ---- runs

abbrev pub closes : Reading → Bool
closes (reading.Symbol s.Close) = true
closes (reading.Symbol s.CloseSquare) = true
closes _ = false

abbrev pub before : Reading → Outcome (List Reading) → Outcome (List Reading)
before r None = None
before r (Some p) = Some (r ∷ p.0, p.1)

-- tokens up to the first at their own depth that is one of these or closes another bracket
abbrev pub run_from : (Reading → Bool) → ℕ → Option (List Bracket) → Lexemes → Outcome (List Reading)
run_from stop n None tokens = None
run_from stop n (Some above) [] = if is_empty above then Some ([], record { at = n; tokens = [] }) else None
run_from stop n (Some above) (x ∷ rest) =
    if is_empty above && (stop x.reading || closes x.reading) then Some ([], record { at = n; tokens = x ∷ rest }) else before x.reading (run_from stop (suc n) (behind x.reading above) rest)

unfoldable pub run : (Reading → Bool) → Parser (List Reading)
run stop now = run_from stop now.at (Some []) now.tokens

abbrev pub if_some : List Reading → Parser (List Reading)
if_some tokens = if is_empty tokens then fail else pure tokens

unfoldable pub some_run : (Reading → Bool) → Parser (List Reading)
some_run stop = run stop >>= if_some

abbrev pub first_and_run : ℕ → Lexemes → Outcome (List Reading)
first_and_run n [] = None
first_and_run n (x ∷ rest) = before x.reading (run_from ends_default (suc n) (behind x.reading []) rest)

-- the first token of a default value may be any
unfoldable pub default_run : Parser (List Reading)
default_run now = first_and_run now.at now.tokens

unfoldable pub within : Parser (List Reading)
within = do
  expect s.Open
  tokens ← run no_stop
  expect s.Close
  pure tokens

-- ---- constraints of columns and domains

abbrev pub named : Parser (Option Identifier)
named = do
  expect_word (codes "constraint")
  x ← name
  pure (Some x)

unfoldable pub constraint_name : Parser (Option Identifier)
constraint_name = choose (sees_word (codes "constraint")) named (pure None)

abbrev pub some_match : Parser (Option (List ℕ))
some_match = do
  expect_word (codes "match")
  letters ← a_field
  pure (Some letters)

unfoldable pub event : Parser ReferenceEvent
event = choose (sees s.Update) (expect s.Update >> pure event_kind.Update) (expect_word (codes "delete") >> pure event_kind.Delete)

abbrev pub set_action : Parser ReferenceAction
set_action = expect_word (codes "set") >> choose (sees s.Null) (expect s.Null >> pure reference_action.SetNull) (expect_word (codes "default") >> pure reference_action.SetDefault)

unfoldable pub reference_action_words : Parser ReferenceAction
reference_action_words = choose (sees_word (codes "cascade")) (expect_word (codes "cascade") >> pure reference_action.Cascade)
    (choose (sees_word (codes "restrict")) (expect_word (codes "restrict") >> pure reference_action.Restrict)
    (choose (sees s.No) (expect s.No >> (expect_word (codes "action") >> pure reference_action.NoAction)) set_action))

unfoldable pub reaction : Parser Reaction
reaction = do
  expect s.On
  x ← event
  y ← reference_action_words
  pure (record { event = x; action = y })

unfoldable pub reference : Parser ConstraintForm
reference = do
  expect_word (codes "references")
  table ← qualified_name
  columns ← bracketed_names
  matching ← choose (sees_word (codes "match")) some_match (pure None)
  reactions ← many (sees s.On) reaction
  pure (constraint_kind.References (record { table = table; columns = columns; matching = matching; reactions = reactions }))

abbrev pub some_within : Parser (Option (List Reading))
some_within = do
  tokens ← within
  pure (Some tokens)

abbrev pub identity : Generation → Parser ConstraintForm
identity x = do
  expect_word (codes "identity")
  tokens ← choose (sees s.Open) some_within (pure None)
  pure (constraint_kind.Identity x tokens)

abbrev pub stored : Parser ConstraintForm
stored = do
  tokens ← within
  expect_word (codes "stored")
  pure (constraint_kind.Stored tokens)

unfoldable pub generated : Parser ConstraintForm
generated = do
  expect_word (codes "generated")
  choose (sees s.By) (expect s.By >> (expect_word (codes "default") >> (expect s.As >> identity generation_kind.ByDefault)))
      (expect_word (codes "always") >> (expect s.As >> choose (sees_word (codes "identity")) (identity generation_kind.Always) stored))

unfoldable pub check : Parser ConstraintForm
check = do
  expect_word (codes "check")
  tokens ← within
  alone ← choose (sees s.No) (expect s.No >> (expect_word (codes "inherit") >> pure true)) (pure false)
  pure (constraint_kind.Check tokens alone)

abbrev pub collated : Parser ConstraintForm
collated = do
  expect s.Collate
  x ← qualified_name
  pure (constraint_kind.Collate x)

abbrev pub by_default : Parser ConstraintForm
by_default = do
  expect_word (codes "default")
  tokens ← default_run
  pure (constraint_kind.Default tokens)

abbrev pub initially : Parser ConstraintForm
initially = do
  expect_word (codes "initially")
  letters ← a_field
  pure (constraint_kind.Initially letters)

abbrev pub negated : Parser ConstraintForm
negated = expect s.Not >> choose (sees s.Null) (expect s.Null >> pure constraint_kind.NotNull) (expect_word (codes "deferrable") >> pure constraint_kind.NotDeferrable)

unfoldable pub constraint_form : Parser ConstraintForm
constraint_form = choose (sees s.Not) negated
    (choose (sees s.Null) (expect s.Null >> pure constraint_kind.Null)
    (choose (sees_word (codes "primary")) (expect_word (codes "primary") >> (expect s.Key >> pure constraint_kind.PrimaryKey))
    (choose (sees_word (codes "unique")) (expect_word (codes "unique") >> pure constraint_kind.Unique)
    (choose (sees s.Collate) collated
    (choose (sees_word (codes "default")) by_default
    (choose (sees_word (codes "check")) check
    (choose (sees_word (codes "references")) reference
    (choose (sees_word (codes "generated")) generated
    (choose (sees_word (codes "deferrable")) (expect_word (codes "deferrable") >> pure constraint_kind.Deferrable) initially)))))))))

unfoldable pub constraint : Parser Constraint
constraint = do
  x ← constraint_name
  y ← constraint_form
  pure (record { name = x; form = y })

-- a constraint of a column begins with a word by which a default value ends
abbrev pub starts_constraint : Reading → Bool
starts_constraint r = ends_default r && not (is_comma r)

abbrev pub begins_constraint : Lexemes → Bool
begins_constraint [] = false
begins_constraint (x ∷ rest) = starts_constraint x.reading

unfoldable pub constraints : Parser (List Constraint)
constraints = many (λ now. begins_constraint now.tokens) constraint

-- ---- elements of tables

unfoldable pub column : Parser Column
column = do
  x ← name
  of ← type
  ys ← constraints
  pure (record { name = x; of = of; constraints = ys })

abbrev pub starts_table_constraint : Reading → Bool
starts_table_constraint r =
    is_letters (codes "constraint") r || (is_letters (codes "primary") r || (is_letters (codes "unique") r || (is_letters (codes "check") r || is_letters (codes "foreign") r)))

abbrev pub begins_exclusion : Lexemes → Bool
begins_exclusion (x ∷ y ∷ rest) = is_letters (codes "exclude") x.reading && opens_exclusion y.reading
begins_exclusion _ = false

abbrev pub begins_table_constraint : Lexemes → Bool
begins_table_constraint [] = false
begins_table_constraint (x ∷ rest) = starts_table_constraint x.reading || begins_exclusion (x ∷ rest)

abbrev pub primary_key : Parser TableConstraintForm
primary_key = do
  expect_word (codes "primary")
  expect s.Key
  xs ← in_brackets
  tokens ← run is_comma
  pure (table_constraint_kind.PrimaryKey xs tokens)

abbrev pub with_run : (List Reading → TableConstraintForm) → Parser TableConstraintForm
with_run make = do
  tokens ← some_run is_comma
  pure (make tokens)

abbrev pub exclusion : Parser TableConstraintForm
exclusion = choose (λ now. begins_exclusion now.tokens) (expect_word (codes "exclude") >> with_run table_constraint_kind.Exclude) fail

unfoldable pub table_constraint_form : Parser TableConstraintForm
table_constraint_form = choose (sees_word (codes "primary")) primary_key
    (choose (sees_word (codes "unique")) (expect_word (codes "unique") >> with_run table_constraint_kind.Unique)
    (choose (sees_word (codes "check")) (expect_word (codes "check") >> with_run table_constraint_kind.Check)
    (choose (sees_word (codes "foreign")) (expect_word (codes "foreign") >> (expect s.Key >> with_run table_constraint_kind.ForeignKey)) exclusion)))

unfoldable pub table_constraint : Parser TableConstraint
table_constraint = do
  x ← constraint_name
  y ← table_constraint_form
  pure (record { name = x; form = y })

abbrev pub a_column : Parser Element
a_column = do
  x ← column
  pure (element_kind.Column x)

abbrev pub a_constraint : Parser Element
a_constraint = do
  x ← table_constraint
  pure (element_kind.Constraint x)

unfoldable pub element : Parser Element
element = choose (λ now. begins_table_constraint now.tokens) a_constraint a_column

abbrev pub partition : Parser Tail
partition = do
  expect_word (codes "partition")
  expect s.By
  tokens ← some_run ends_partition
  pure (tail_kind.PartitionBy tokens)

abbrev pub with_options : Parser Tail
with_options = do
  expect s.With
  tokens ← within
  pure (tail_kind.With tokens)

abbrev pub tablespace : Parser Tail
tablespace = do
  expect_word (codes "tablespace")
  x ← name
  pure (tail_kind.Tablespace x)

unfoldable pub tail : Parser Tail
tail = choose (sees s.With) with_options (choose (sees_word (codes "partition")) partition tablespace)

abbrev pub begins_tail : Lexemes → Bool
begins_tail tokens = begins s.With tokens || (begins_word (codes "partition") tokens || begins_word (codes "tablespace") tokens)

-- ---- CREATE and DROP

abbrev pub some_owner : Parser (Option Identifier)
some_owner = do
  expect_word (codes "authorization")
  x ← name
  pure (Some x)

unfoldable pub create_schema : Parser CreateSchema
create_schema = do
  expect_word (codes "create")
  expect_word (codes "schema")
  unless ← if_not_exists
  x ← name
  owner ← choose (sees_word (codes "authorization")) some_owner (pure None)
  pure (record { if_not_exists = unless; name = x; owner = owner })

unfoldable pub create_table : Parser CreateTable
create_table = do
  expect_word (codes "create")
  unlogged ← optional_word (codes "unlogged")
  expect_word (codes "table")
  unless ← if_not_exists
  x ← qualified_name
  expect s.Open
  elements ← choose (sees s.Close) (pure []) (listed element)
  expect s.Close
  tails ← many (λ now. begins_tail now.tokens) tail
  pure (record { is_unlogged = unlogged; if_not_exists = unless; name = x; elements = elements; tails = tails })

unfoldable pub create_type : Parser CreateType
create_type = do
  expect_word (codes "create")
  expect_word (codes "type")
  x ← qualified_name
  expect s.As
  expect_word (codes "enum")
  expect s.Open
  labels ← choose (sees s.Close) (pure []) (listed a_text)
  expect s.Close
  pure (record { name = x; labels = labels })

unfoldable pub create_domain : Parser CreateDomain
create_domain = do
  expect_word (codes "create")
  expect_word (codes "domain")
  x ← qualified_name
  has_as ← optional s.As
  base ← type
  ys ← constraints
  pure (record { name = x; has_as = has_as; base = base; constraints = ys })

unfoldable pub drop_schema : Parser DropSchema
drop_schema = do
  expect_word (codes "drop")
  expect_word (codes "schema")
  only_if ← if_exists
  xs ← listed name
  behaves ← behavior
  pure (record { if_exists = only_if; names = xs; behavior = behaves })

unfoldable pub dropped_kind : Parser Dropped
dropped_kind = choose (sees_word (codes "table")) (expect_word (codes "table") >> pure dropped.Table)
    (choose (sees_word (codes "type")) (expect_word (codes "type") >> pure dropped.Type) (expect_word (codes "domain") >> pure dropped.Domain))

unfoldable pub drop_named : Parser DropNamed
drop_named = do
  expect_word (codes "drop")
  kind ← dropped_kind
  only_if ← if_exists
  xs ← listed qualified_name
  behaves ← behavior
  pure (record { kind = kind; if_exists = only_if; names = xs; behavior = behaves })

-- ---- ALTER TABLE

-- the readings of the tokens ahead
abbrev pub ahead : Stream → List Reading
ahead now = map (λ x. x.reading) now.tokens

abbrev pub add_column : Parser TableAction
add_column = do
  has_column ← optional_word (codes "column")
  unless ← if_not_exists
  x ← column
  pure (table_action.AddColumn has_column unless x)

abbrev pub add_constraint : Parser TableAction
add_constraint = do
  x ← table_constraint
  pure (table_action.AddConstraint x)

unfoldable pub add : Parser TableAction
add = expect_word (codes "add") >> choose (λ now. begins_table_constraint now.tokens) add_constraint add_column

abbrev pub drop_constraint : Parser TableAction
drop_constraint = do
  expect_word (codes "constraint")
  only_if ← if_exists
  x ← name
  behaves ← behavior
  pure (table_action.DropConstraint only_if x behaves)

abbrev pub drop_column : Parser TableAction
drop_column = do
  has_column ← optional_word (codes "column")
  only_if ← if_exists
  x ← name
  behaves ← behavior
  pure (table_action.DropColumn has_column only_if x behaves)

unfoldable pub drop : Parser TableAction
drop = expect_word (codes "drop") >> choose (sees_word (codes "constraint")) drop_constraint drop_column

abbrev pub some_collation : Parser (Option QualifiedName)
some_collation = do
  expect s.Collate
  x ← qualified_name
  pure (Some x)

abbrev pub set_type : Bool → Identifier → Parser TableAction
set_type has_column x = do
  has_set_data ← choose (sees_word (codes "set")) (expect_word (codes "set") >> (expect_word (codes "data") >> pure true)) (pure false)
  expect_word (codes "type")
  to ← type
  collation ← choose (sees s.Collate) some_collation (pure None)
  using ← choose (sees s.Using) (expect s.Using >> some_run is_comma) (pure [])
  pure (table_action.SetType (record { has_column = has_column; column = x; has_set_data = has_set_data; to = to; collation = collation; using = using }))

abbrev pub not_null : List ℕ → TableAction → Parser TableAction
not_null letters found = expect_word letters >> (expect s.Not >> (expect s.Null >> pure found))

unfoldable pub alter_column : Parser TableAction
alter_column = do
  expect_word (codes "alter")
  has_column ← optional_word (codes "column")
  x ← name
  choose (sees_both (codes "set") (codes "not")) (not_null (codes "set") (table_action.SetNotNull has_column x))
      (choose (sees_word (codes "drop")) (not_null (codes "drop") (table_action.DropNotNull has_column x)) (set_type has_column x))

abbrev pub other_action : Parser TableAction
other_action = do
  tokens ← some_run is_comma
  pure (table_action.Other tokens)

-- no run begins as another action does
unfoldable pub action : Parser TableAction
action = choose (sees_word (codes "add")) add
    (choose (sees_word (codes "drop")) drop
    (choose (λ now. begins_action (ahead now)) alter_column other_action))

abbrev pub rename_column : Parser TableChange
rename_column = do
  has_column ← optional_word (codes "column")
  x ← name
  expect_word (codes "to")
  y ← name
  pure (table_change.RenameColumn has_column x y)

abbrev pub rename_constraint : Parser TableChange
rename_constraint = do
  expect_word (codes "constraint")
  x ← name
  expect_word (codes "to")
  y ← name
  pure (table_change.RenameConstraint x y)

abbrev pub rename_table : Parser TableChange
rename_table = do
  expect_word (codes "to")
  x ← name
  pure (table_change.RenameTo x)

unfoldable pub rename : Parser TableChange
rename = expect_word (codes "rename") >> choose (sees_word (codes "to")) rename_table (choose (sees_word (codes "constraint")) rename_constraint rename_column)

abbrev pub set_schema : Parser TableChange
set_schema = do
  expect_word (codes "set")
  expect_word (codes "schema")
  x ← name
  pure (table_change.SetSchema x)

abbrev pub actions : Parser TableChange
actions = do
  xs ← listed action
  pure (table_change.Actions xs)

unfoldable pub change_of_table : Parser TableChange
change_of_table = choose (sees_word (codes "rename")) rename (choose (sees_both (codes "set") (codes "schema")) set_schema actions)

unfoldable pub alter_table : Parser AlterTable
alter_table = do
  expect_word (codes "alter")
  expect_word (codes "table")
  only_if ← if_exists
  only ← optional_word (codes "only")
  x ← qualified_name
  star ← choose (λ now. begins_sign (codes "*") now.tokens) (expect s.Times >> pure true) (pure false)
  change ← change_of_table
  pure (record { if_exists = only_if; has_only = only; name = x; has_star = star; change = change })

-- ---- ALTER TYPE

abbrev pub beside : List ℕ → (List ℕ → Neighbour) → Parser Neighbour
beside letters make = do
  expect_word letters
  bytes ← a_text
  pure (make bytes)

unfoldable pub neighbour : Parser Neighbour
neighbour = choose (sees_word (codes "before")) (beside (codes "before") neighbour_kind.Before)
    (choose (sees_word (codes "after")) (beside (codes "after") neighbour_kind.After) (pure neighbour_kind.Unsaid))

unfoldable pub add_value : Parser TypeChange
add_value = do
  expect_word (codes "add")
  expect_word (codes "value")
  unless ← if_not_exists
  bytes ← a_text
  x ← neighbour
  pure (type_change.AddValue unless bytes x)

unfoldable pub rename_value : Parser TypeChange
rename_value = do
  expect_word (codes "rename")
  expect_word (codes "value")
  from ← a_text
  expect_word (codes "to")
  to ← a_text
  pure (type_change.RenameValue from to)

abbrev pub rename_type : Parser TypeChange
rename_type = do
  expect_word (codes "rename")
  expect_word (codes "to")
  x ← name
  pure (type_change.RenameTo x)

abbrev pub set_type_schema : Parser TypeChange
set_type_schema = do
  expect_word (codes "set")
  expect_word (codes "schema")
  x ← name
  pure (type_change.SetSchema x)

abbrev pub other_type_change : Parser TypeChange
other_type_change = do
  tokens ← some_run no_stop
  pure (type_change.Other tokens)

unfoldable pub change_of_type : Parser TypeChange
change_of_type = choose (sees_both (codes "add") (codes "value")) add_value
    (choose (sees_both (codes "rename") (codes "value")) rename_value
    (choose (sees_both (codes "rename") (codes "to")) rename_type
    (choose (sees_both (codes "set") (codes "schema")) set_type_schema
    (choose (λ now. begins_sign (codes ".") now.tokens) fail other_type_change))))

unfoldable pub alter_type : Parser AlterType
alter_type = do
  expect_word (codes "alter")
  expect_word (codes "type")
  x ← qualified_name
  change ← change_of_type
  pure (record { name = x; change = change })

-- ---- schema statements

unfoldable pub ddl : Parser Ddl
ddl = choose (sees_both (codes "create") (codes "schema")) (numbered create_schema ddl_kind.CreateSchema)
    (choose (sees_both (codes "create") (codes "type")) (numbered create_type ddl_kind.CreateType)
    (choose (sees_both (codes "create") (codes "domain")) (numbered create_domain ddl_kind.CreateDomain)
    (choose (sees_word (codes "create")) (numbered create_table ddl_kind.CreateTable)
    (choose (sees_both (codes "drop") (codes "schema")) (numbered drop_schema ddl_kind.DropSchema)
    (choose (sees_word (codes "drop")) (numbered drop_named ddl_kind.Drop)
    (choose (sees_both (codes "alter") (codes "type")) (numbered alter_type ddl_kind.AlterType) (numbered alter_table ddl_kind.AlterTable)))))))
