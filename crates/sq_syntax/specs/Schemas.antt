-- The grammar of schema statements (PostgreSQL manual, CREATE SCHEMA, CREATE TABLE, CREATE TYPE, CREATE DOMAIN, DROP and ALTER):
-- the pieces of each production, how a statement is spelled, and whether it is well levelled.
use Rattle.std.specs.Prelude.{◌≡◌, ℕ, Bool, true, false, ◌&&◌, ◌||◌, not, if◌then◌else◌, bytes_eq, List, [], ◌∷◌, ◌++◌, length, map, flat_map, codes, Option, Some, None}
use Rattle.sq_syntax.specs.declared.symbol.Symbol.TheVariants as s
use Rattle.sq_syntax.specs.declared.symbol.Reading.{Reading}
use Rattle.sq_syntax.specs.declared.symbol.Reading.TheVariants as reading
use Rattle.sq_syntax.specs.declared.token.Token.{Token}
use Rattle.sq_syntax.specs.declared.name.Identifier.{Identifier}
use Rattle.sq_syntax.specs.declared.name.QualifiedName.{QualifiedName}
use Rattle.sq_syntax.specs.declared.ddl.AlterTable.{AlterTable}
use Rattle.sq_syntax.specs.declared.ddl.AlterType.{AlterType}
use Rattle.sq_syntax.specs.declared.ddl.Behavior.{Behavior}
use Rattle.sq_syntax.specs.declared.ddl.Behavior.TheVariants as behavior
use Rattle.sq_syntax.specs.declared.ddl.Column.{Column}
use Rattle.sq_syntax.specs.declared.ddl.Constraint.{Constraint}
use Rattle.sq_syntax.specs.declared.ddl.ConstraintForm.{ConstraintForm}
use Rattle.sq_syntax.specs.declared.ddl.ConstraintForm.TheVariants as constraint_kind
use Rattle.sq_syntax.specs.declared.ddl.CreateDomain.{CreateDomain}
use Rattle.sq_syntax.specs.declared.ddl.CreateSchema.{CreateSchema}
use Rattle.sq_syntax.specs.declared.ddl.CreateTable.{CreateTable}
use Rattle.sq_syntax.specs.declared.ddl.CreateType.{CreateType}
use Rattle.sq_syntax.specs.declared.ddl.Ddl.{Ddl}
use Rattle.sq_syntax.specs.declared.ddl.Ddl.TheVariants as ddl
use Rattle.sq_syntax.specs.declared.ddl.DropNamed.{DropNamed}
use Rattle.sq_syntax.specs.declared.ddl.DropSchema.{DropSchema}
use Rattle.sq_syntax.specs.declared.ddl.Dropped.{Dropped}
use Rattle.sq_syntax.specs.declared.ddl.Dropped.TheVariants as dropped
use Rattle.sq_syntax.specs.declared.ddl.Element.{Element}
use Rattle.sq_syntax.specs.declared.ddl.Element.TheVariants as element_kind
use Rattle.sq_syntax.specs.declared.ddl.Generation.{Generation}
use Rattle.sq_syntax.specs.declared.ddl.Generation.TheVariants as generation_kind
use Rattle.sq_syntax.specs.declared.ddl.Neighbour.{Neighbour}
use Rattle.sq_syntax.specs.declared.ddl.Neighbour.TheVariants as neighbour_kind
use Rattle.sq_syntax.specs.declared.ddl.Reaction.{Reaction}
use Rattle.sq_syntax.specs.declared.ddl.ReferenceAction.{ReferenceAction}
use Rattle.sq_syntax.specs.declared.ddl.ReferenceAction.TheVariants as reference_action
use Rattle.sq_syntax.specs.declared.ddl.ReferenceEvent.{ReferenceEvent}
use Rattle.sq_syntax.specs.declared.ddl.ReferenceEvent.TheVariants as event
use Rattle.sq_syntax.specs.declared.ddl.SetType.{SetType}
use Rattle.sq_syntax.specs.declared.ddl.TableAction.{TableAction}
use Rattle.sq_syntax.specs.declared.ddl.TableAction.TheVariants as table_action
use Rattle.sq_syntax.specs.declared.ddl.TableChange.{TableChange}
use Rattle.sq_syntax.specs.declared.ddl.TableChange.TheVariants as table_change
use Rattle.sq_syntax.specs.declared.ddl.TableConstraint.{TableConstraint}
use Rattle.sq_syntax.specs.declared.ddl.TableConstraintForm.{TableConstraintForm}
use Rattle.sq_syntax.specs.declared.ddl.TableConstraintForm.TheVariants as table_constraint
use Rattle.sq_syntax.specs.declared.ddl.Tail.{Tail}
use Rattle.sq_syntax.specs.declared.ddl.Tail.TheVariants as tail_kind
use Rattle.sq_syntax.specs.declared.ddl.TypeChange.{TypeChange}
use Rattle.sq_syntax.specs.declared.ddl.TypeChange.TheVariants as type_change
use Rattle.sq_syntax.specs.Symbols.{text, word_reading, identifier_reading, is_name, among}
use Rattle.sq_syntax.specs.Facts.{Facts, Piece, Along, readings, from as at_level}
use Rattle.sq_syntax.specs.Pieces.{Pieces, say, sym, when, some, listed, name, names, bracketed_names, qualified_name, type}
use Rattle.sq_syntax.specs.ExpressionPieces.{is_field}
use Rattle.sq_syntax.specs.Grammar.{stream}
use Rattle.sq_syntax.specs.Runs.{run_fits, run_fits_behind, no_stop}
use Rattle.sq_syntax.specs.Statements.{word, changed}

-- ---- words

abbrev pub when_word : Bool → List ℕ → Pieces
when_word true letters = word letters ∷ []
when_word false letters = []

abbrev pub if_exists : Bool → Pieces
if_exists true = word (codes "if") ∷ sym s.Exists ∷ []
if_exists false = []

abbrev pub if_not_exists : Bool → Pieces
if_not_exists true = word (codes "if") ∷ sym s.Not ∷ sym s.Exists ∷ []
if_not_exists false = []

abbrev pub behavior_words : Behavior → Pieces
behavior_words behavior.Unsaid = []
behavior_words behavior.Cascade = word (codes "cascade") ∷ []
behavior_words behavior.Restrict = word (codes "restrict") ∷ []

-- any word but CASE and END, which would leave brackets unbalanced
abbrev pub any_word : List ℕ → Pieces
any_word letters = Piece.need (is_field (word_reading letters)) ∷ say (word_reading letters) ∷ []

abbrev pub label : List ℕ → Pieces
label bytes = say (reading.Text bytes) ∷ []

-- ---- runs

-- tokens as they are
abbrev pub tokens : List Reading → Pieces
tokens run = map say run

-- the letters of a word or a sign
abbrev pub letters_of : Reading → List ℕ
letters_of (reading.Symbol x) = text x
letters_of (reading.Word letters) = letters
letters_of _ = []

-- a word or a sign of these letters
abbrev pub is : List ℕ → Reading → Bool
is letters r = bytes_eq (letters_of r) letters

abbrev pub is_comma : Reading → Bool
is_comma r = is (codes ",") r

-- any tokens whose brackets are balanced, in brackets
abbrev pub within : List Reading → Pieces
within run = sym s.Open ∷ Piece.need (run_fits no_stop run) ∷ tokens run ++ sym s.Close ∷ []

-- a run that is not empty and holds no comma at its own depth
abbrev pub one_run : List Reading → Pieces
one_run run = some run ∷ Piece.need (run_fits is_comma run) ∷ tokens run

abbrev pub optional_run : List Reading → Pieces
optional_run [] = []
optional_run (r ∷ run) = one_run (r ∷ run)

-- a default value ends before these at its own depth
abbrev pub ends_default : Reading → Bool
ends_default r =
    among (codes "," ∷ codes "default" ∷ codes "constraint" ∷ codes "not" ∷ codes "null" ∷ codes "unique" ∷ codes "primary" ∷ codes "check" ∷ codes "references" ∷ codes "generated" ∷ codes "collate" ∷ codes "deferrable" ∷ codes "initially" ∷ []) (letters_of r)

-- ---- constraints of columns and domains

abbrev pub constraint_name : Option Identifier → Pieces
constraint_name None = []
constraint_name (Some x) = word (codes "constraint") ∷ name x

abbrev pub matching : Option (List ℕ) → Pieces
matching None = []
matching (Some letters) = word (codes "match") ∷ any_word letters

abbrev pub event_words : ReferenceEvent → Pieces
event_words event.Delete = word (codes "delete") ∷ []
event_words event.Update = sym s.Update ∷ []

abbrev pub action_words : ReferenceAction → Pieces
action_words reference_action.Cascade = word (codes "cascade") ∷ []
action_words reference_action.Restrict = word (codes "restrict") ∷ []
action_words reference_action.NoAction = sym s.No ∷ word (codes "action") ∷ []
action_words reference_action.SetNull = word (codes "set") ∷ sym s.Null ∷ []
action_words reference_action.SetDefault = word (codes "set") ∷ word (codes "default") ∷ []

abbrev pub reaction : Reaction → Pieces
reaction x = sym s.On ∷ event_words x.event ++ action_words x.action

abbrev pub generation_words : Generation → Pieces
generation_words generation_kind.Always = word (codes "always") ∷ []
generation_words generation_kind.ByDefault = sym s.By ∷ word (codes "default") ∷ []

abbrev pub optional_within : Option (List Reading) → Pieces
optional_within None = []
optional_within (Some run) = within run

abbrev pub constraint_form : ConstraintForm → Pieces
constraint_form constraint_kind.NotNull = sym s.Not ∷ sym s.Null ∷ []
constraint_form constraint_kind.Null = sym s.Null ∷ []
constraint_form constraint_kind.PrimaryKey = word (codes "primary") ∷ sym s.Key ∷ []
constraint_form constraint_kind.Unique = word (codes "unique") ∷ []
constraint_form (constraint_kind.Collate x) = sym s.Collate ∷ qualified_name x
constraint_form (constraint_kind.Default run) = word (codes "default") ∷ Piece.need (run_fits_behind ends_default run) ∷ tokens run
constraint_form (constraint_kind.Check run alone) = word (codes "check") ∷ within run ++ (if alone then sym s.No ∷ word (codes "inherit") ∷ [] else [])
constraint_form (constraint_kind.References x) = word (codes "references") ∷ qualified_name x.table ++ bracketed_names x.columns ++ matching x.matching ++ flat_map reaction x.reactions
constraint_form (constraint_kind.Identity x run) = word (codes "generated") ∷ generation_words x ++ sym s.As ∷ word (codes "identity") ∷ optional_within run
constraint_form (constraint_kind.Stored run) = word (codes "generated") ∷ word (codes "always") ∷ sym s.As ∷ within run ++ word (codes "stored") ∷ []
constraint_form constraint_kind.Deferrable = word (codes "deferrable") ∷ []
constraint_form constraint_kind.NotDeferrable = sym s.Not ∷ word (codes "deferrable") ∷ []
constraint_form (constraint_kind.Initially letters) = word (codes "initially") ∷ any_word letters

abbrev pub constraint : Constraint → Pieces
constraint x = constraint_name x.name ++ constraint_form x.form

-- ---- elements of tables

abbrev pub column : Column → Pieces
column x = name x.name ++ type x.of ++ flat_map constraint x.constraints

abbrev pub opens_exclusion : Reading → Bool
opens_exclusion (reading.Symbol s.Using) = true
opens_exclusion (reading.Symbol s.Open) = true
opens_exclusion _ = false

-- the word EXCLUDE is a column's name where neither USING nor a bracket follows
abbrev pub begins_exclusion : List Reading → Bool
begins_exclusion [] = false
begins_exclusion (r ∷ run) = opens_exclusion r

abbrev pub table_constraint_form : TableConstraintForm → Pieces
table_constraint_form (table_constraint.PrimaryKey xs run) = word (codes "primary") ∷ sym s.Key ∷ sym s.Open ∷ some xs ∷ names xs ++ sym s.Close ∷ optional_run run
table_constraint_form (table_constraint.Unique run) = word (codes "unique") ∷ one_run run
table_constraint_form (table_constraint.Check run) = word (codes "check") ∷ one_run run
table_constraint_form (table_constraint.ForeignKey run) = word (codes "foreign") ∷ sym s.Key ∷ one_run run
table_constraint_form (table_constraint.Exclude run) = word (codes "exclude") ∷ Piece.need (begins_exclusion run) ∷ one_run run

abbrev pub constraint_of_table : TableConstraint → Pieces
constraint_of_table x = constraint_name x.name ++ table_constraint_form x.form

abbrev pub element : Element → Pieces
element (element_kind.Column x) = column x
element (element_kind.Constraint x) = constraint_of_table x

-- a partition ends before these at its own depth
abbrev pub ends_partition : Reading → Bool
ends_partition r = is (codes "with") r || is (codes "tablespace") r

abbrev pub tail : Tail → Pieces
tail (tail_kind.PartitionBy run) = word (codes "partition") ∷ sym s.By ∷ some run ∷ Piece.need (run_fits ends_partition run) ∷ tokens run
tail (tail_kind.With run) = sym s.With ∷ within run
tail (tail_kind.Tablespace x) = word (codes "tablespace") ∷ name x

abbrev pub is_partition : Tail → Bool
is_partition (tail_kind.PartitionBy run) = true
is_partition _ = false

-- a partition goes on to the next tail of another kind
abbrev pub partitions_apart : List Tail → Bool
partitions_apart [] = true
partitions_apart (x ∷ []) = true
partitions_apart (x ∷ y ∷ tails) = not (is_partition x && is_partition y) && partitions_apart (y ∷ tails)

-- ---- CREATE and DROP

abbrev pub owner : Option Identifier → Pieces
owner None = []
owner (Some x) = word (codes "authorization") ∷ name x

abbrev pub create_schema : CreateSchema → Pieces
create_schema x = word (codes "create") ∷ word (codes "schema") ∷ if_not_exists x.if_not_exists ++ name x.name ++ owner x.owner

abbrev pub create_table : CreateTable → Pieces
create_table x =
    word (codes "create") ∷ when_word x.is_unlogged (codes "unlogged") ++ word (codes "table") ∷ if_not_exists x.if_not_exists ++ qualified_name x.name ++ sym s.Open ∷ listed (map element x.elements)
    ++ sym s.Close ∷ Piece.need (partitions_apart x.tails) ∷ flat_map tail x.tails

abbrev pub create_type : CreateType → Pieces
create_type x = word (codes "create") ∷ word (codes "type") ∷ qualified_name x.name ++ sym s.As ∷ word (codes "enum") ∷ sym s.Open ∷ listed (map label x.labels) ++ sym s.Close ∷ []

abbrev pub create_domain : CreateDomain → Pieces
create_domain x = word (codes "create") ∷ word (codes "domain") ∷ qualified_name x.name ++ when x.has_as s.As ++ type x.base ++ flat_map constraint x.constraints

abbrev pub drop_schema : DropSchema → Pieces
drop_schema x = word (codes "drop") ∷ word (codes "schema") ∷ if_exists x.if_exists ++ some x.names ∷ names x.names ++ behavior_words x.behavior

abbrev pub dropped_word : Dropped → Piece
dropped_word dropped.Table = word (codes "table")
dropped_word dropped.Type = word (codes "type")
dropped_word dropped.Domain = word (codes "domain")

abbrev pub drop_named : DropNamed → Pieces
drop_named x = word (codes "drop") ∷ dropped_word x.kind ∷ if_exists x.if_exists ++ some x.names ∷ listed (map qualified_name x.names) ++ behavior_words x.behavior

-- ---- ALTER TABLE

abbrev pub begins_two : (Reading → Bool) → (Reading → Bool) → List Reading → Bool
begins_two first second (r ∷ q ∷ run) = first r && second q
begins_two first second _ = false

-- SET NOT, DROP NOT, SET DATA or TYPE
abbrev pub begins_column_change : List Reading → Bool
begins_column_change [] = false
begins_column_change (r ∷ run) =
    is (codes "type") r || (begins_two (is (codes "set")) (λ q. is (codes "not") q || is (codes "data") q) (r ∷ run) || begins_two (is (codes "drop")) (is (codes "not")) (r ∷ run))

-- a name and such a change
abbrev pub begins_named_change : List Reading → Bool
begins_named_change [] = false
begins_named_change (r ∷ run) = is_name r && begins_column_change run

abbrev pub past_column : List Reading → List Reading
past_column [] = []
past_column (r ∷ run) = if is (codes "column") r then run else r ∷ run

-- the words of an action that is no run, or a point, which would belong to the name of the table
abbrev pub begins_action : List Reading → Bool
begins_action [] = false
begins_action (r ∷ run) =
    is (codes ".") r || (is (codes "add") r || (is (codes "drop") r || (is (codes "rename") r || (begins_two (is (codes "set")) (is (codes "schema")) (r ∷ run)
    || (is (codes "alter") r && begins_named_change (past_column run))))))

abbrev pub collation : Option QualifiedName → Pieces
collation None = []
collation (Some x) = sym s.Collate ∷ qualified_name x

abbrev pub using : List Reading → Pieces
using [] = []
using (r ∷ run) = sym s.Using ∷ one_run (r ∷ run)

abbrev pub alter_column : Bool → Identifier → Pieces
alter_column has_column x = word (codes "alter") ∷ when_word has_column (codes "column") ++ name x

abbrev pub set_type : SetType → Pieces
set_type x = alter_column x.has_column x.column ++ (if x.has_set_data then word (codes "set") ∷ word (codes "data") ∷ [] else []) ++ word (codes "type") ∷ type x.to ++ collation x.collation ++ using x.using

abbrev pub action : TableAction → Pieces
action (table_action.AddColumn has_column unless x) = word (codes "add") ∷ when_word has_column (codes "column") ++ if_not_exists unless ++ column x
action (table_action.AddConstraint x) = word (codes "add") ∷ constraint_of_table x
action (table_action.DropColumn has_column only_if x behaves) = word (codes "drop") ∷ when_word has_column (codes "column") ++ if_exists only_if ++ name x ++ behavior_words behaves
action (table_action.DropConstraint only_if x behaves) = word (codes "drop") ∷ word (codes "constraint") ∷ if_exists only_if ++ name x ++ behavior_words behaves
action (table_action.SetNotNull has_column x) = alter_column has_column x ++ word (codes "set") ∷ sym s.Not ∷ sym s.Null ∷ []
action (table_action.DropNotNull has_column x) = alter_column has_column x ++ word (codes "drop") ∷ sym s.Not ∷ sym s.Null ∷ []
action (table_action.SetType x) = set_type x
action (table_action.Other run) = Piece.need (not (begins_action run)) ∷ one_run run

abbrev pub change_of_table : TableChange → Pieces
change_of_table (table_change.RenameTo x) = word (codes "rename") ∷ word (codes "to") ∷ name x
change_of_table (table_change.RenameColumn has_column x y) = word (codes "rename") ∷ when_word has_column (codes "column") ++ name x ++ word (codes "to") ∷ name y
change_of_table (table_change.RenameConstraint x y) = word (codes "rename") ∷ word (codes "constraint") ∷ name x ++ word (codes "to") ∷ name y
change_of_table (table_change.SetSchema x) = word (codes "set") ∷ word (codes "schema") ∷ name x
change_of_table (table_change.Actions xs) = some xs ∷ listed (map action xs)

-- the first action, where it is a run, begins with this
abbrev pub first_run : (Reading → Bool) → TableChange → Bool
first_run first (table_change.Actions (table_action.Other (r ∷ run) ∷ xs)) = first r
first_run first _ = false

abbrev pub is_unqualified : Option Identifier → Bool
is_unqualified None = true
is_unqualified (Some schema) = false

abbrev pub is_bare_if : QualifiedName → Bool
is_bare_if x = is_unqualified x.schema && is (codes "if") (identifier_reading x.name)

-- a star belongs to the name of the table, and IF EXISTS is no table's name and a run
abbrev pub names_its_table : AlterTable → Bool
names_its_table x =
    (x.has_star || not (first_run (is (codes "*")) x.change))
    && (x.if_exists || (x.has_only || (x.has_star || not (is_bare_if x.name && first_run (is (codes "exists")) x.change))))

abbrev pub alter_table : AlterTable → Pieces
alter_table x = word (codes "alter") ∷ word (codes "table") ∷ if_exists x.if_exists ++ when_word x.has_only (codes "only") ++ qualified_name x.name ++ when x.has_star s.Times ++ Piece.need (names_its_table x) ∷ change_of_table x.change

-- ---- ALTER TYPE

abbrev pub neighbour : Neighbour → Pieces
neighbour neighbour_kind.Unsaid = []
neighbour (neighbour_kind.Before bytes) = word (codes "before") ∷ label bytes
neighbour (neighbour_kind.After bytes) = word (codes "after") ∷ label bytes

-- the words of a change that is no run, or a point, which would belong to the name of the type
abbrev pub begins_type_change : List Reading → Bool
begins_type_change [] = false
begins_type_change (r ∷ run) =
    is (codes ".") r || (begins_two (is (codes "add")) (is (codes "value")) (r ∷ run) || (begins_two (is (codes "rename")) (λ q. is (codes "value") q || is (codes "to") q) (r ∷ run)
    || begins_two (is (codes "set")) (is (codes "schema")) (r ∷ run)))

abbrev pub change_of_type : TypeChange → Pieces
change_of_type (type_change.AddValue unless bytes x) = word (codes "add") ∷ word (codes "value") ∷ if_not_exists unless ++ label bytes ++ neighbour x
change_of_type (type_change.RenameValue from to) = word (codes "rename") ∷ word (codes "value") ∷ label from ++ word (codes "to") ∷ label to
change_of_type (type_change.RenameTo x) = word (codes "rename") ∷ word (codes "to") ∷ name x
change_of_type (type_change.SetSchema x) = word (codes "set") ∷ word (codes "schema") ∷ name x
change_of_type (type_change.Other run) = Piece.need (not (begins_type_change run)) ∷ some run ∷ Piece.need (run_fits no_stop run) ∷ tokens run

abbrev pub alter_type : AlterType → Pieces
alter_type x = word (codes "alter") ∷ word (codes "type") ∷ qualified_name x.name ++ change_of_type x.change

-- ---- schema statements

abbrev pub ddl_facts : Ddl → Facts
ddl_facts (ddl.CreateSchema x) = changed x.place x.first x.last (create_schema x.form)
ddl_facts (ddl.CreateTable x) = changed x.place x.first x.last (create_table x.form)
ddl_facts (ddl.CreateType x) = changed x.place x.first x.last (create_type x.form)
ddl_facts (ddl.CreateDomain x) = changed x.place x.first x.last (create_domain x.form)
ddl_facts (ddl.DropSchema x) = changed x.place x.first x.last (drop_schema x.form)
ddl_facts (ddl.Drop x) = changed x.place x.first x.last (drop_named x.form)
ddl_facts (ddl.AlterTable x) = changed x.place x.first x.last (alter_table x.form)
ddl_facts (ddl.AlterType x) = changed x.place x.first x.last (alter_type x.form)

-- the readings of a schema statement's tokens
abbrev pub spelled_ddl : Ddl → List Reading
spelled_ddl x = readings (ddl_facts x).marks

-- each condition of the grammar holds
abbrev pub well_levelled_ddl : Ddl → Bool
well_levelled_ddl x = at_level 0 (ddl_facts x).level

-- the schema statement is spelled by all of the tokens, has their places and numbers, and is well levelled
abbrev pub IsDdl : List Token → Ddl → Type 0
IsDdl tokens x = Along (ddl_facts x).marks (stream 0 tokens) (stream (length tokens) []) × (well_levelled_ddl x ≡ true)
