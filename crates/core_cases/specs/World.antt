-- A small catalogue with a database, and what a statement gives there.
use Rattle.std.specs.Prelude.{◌≡◌, ℕ, true, false, List, [], ◌∷◌, codes, slice_get, unwrap_or, Option, None}
use Rattle.std.specs.List.{AllByRecursion}
use Rattle.sq_base.specs.declared.types.PgType.{PgType}
use Rattle.sq_builtin.specs.Entries.{bool, int4, int8, text}
use Rattle.sq_catalog.specs.Contents.{Contents}
use Rattle.sq_catalog.specs.declared.table.Column.{Column as TableColumn}
use Rattle.sq_catalog.specs.declared.table.Table.{Table as CatalogTable}
use Rattle.sq_core.specs.declared.node.Node.{Node}
use Rattle.sq_core.specs.declared.node.Node.TheVariants.{Column, Constant}
use Rattle.sq_core.specs.declared.node.Query.{Query}
use Rattle.sq_core.specs.declared.node.Query.TheVariants.{Select as SelectQuery}
use Rattle.sq_core.specs.declared.node.Source.{Source}
use Rattle.sq_core.specs.declared.routine.Routine.{Routine}
use Rattle.sq_core.specs.declared.statement.CoreStatement.{CoreStatement}
use Rattle.sq_core.specs.declared.statement.CoreStatement.TheVariants.{Select}
use Rattle.sq_core.specs.Answer.{Answer, Gives, Fault, Stuck}
use Rattle.sq_core.specs.Changes.{Outcomes}
use Rattle.sq_core.specs.Client.{ClientValue}
use Rattle.sq_core.specs.Columns.{plain}
use Rattle.sq_core.specs.Items.{Item, Computed, Places}
use Rattle.sq_core.specs.Sound.{run}
use Rattle.sq_core.specs.Values.{Value, Null, Truth, Tagged, Row, Database}
use Rattle.sq_shown.specs.declared.signature.Language.TheVariants.{Go}
use Rattle.sq_shown.specs.declared.signature.Param.{Param}

-- a column, NOT NULL or not
abbrev pub required : PgType → TableColumn
required of = record { name = codes "c"; of = of; not_null = true }

abbrev pub optional : PgType → TableColumn
optional of = record { name = codes "c"; of = of; not_null = false }

abbrev pub table_of : ℕ → List TableColumn → CatalogTable
table_of id columns = record { id = id; schema = codes "public"; name = codes "t"; columns = columns; key = None }

-- the tables: t (a integer NOT NULL, b integer), u (a integer NOT NULL, c text), e (a integer NOT NULL, b integer)
abbrev pub contents : Contents
contents = record {
  schemas = codes "public" ∷ [];
  tables = table_of 0 (required int4 ∷ optional int4 ∷ []) ∷ table_of 1 (required int4 ∷ optional text ∷ []) ∷ table_of 2 (required int4 ∷ optional int4 ∷ []) ∷ [];
  enums = [];
  domains = [];
  given = 3;
}

-- a whole number, and a text
abbrev pub int : ℕ → Value
int number = Tagged int4 number

abbrev pub txt : ℕ → Value
txt number = Tagged text number

-- t has two rows, u has one and e none
abbrev pub database : Database
database = ((int 1 ∷ Null ∷ []) ∷ (int 2 ∷ int 20 ∷ []) ∷ []) ∷ ((int 2 ∷ txt 7 ∷ []) ∷ []) ∷ [] ∷ []

-- what is seen of an answer: the rows that are returned, a fault, or that it is stuck
pub data Seen : Type 0 where
  Returned : List Row → Seen
  Faulted : Seen
  Stopped : Seen

abbrev pub seen_of : Answer Item Outcomes → Seen
seen_of (Gives outcomes oracle) = Returned outcomes.rows
seen_of Fault = Faulted
seen_of Stuck = Stopped

-- the rows of the first table after an answer
abbrev pub first_after : Answer Item Outcomes → Seen
first_after (Gives outcomes oracle) = Returned (unwrap_or (slice_get outcomes.database 0) [])
first_after Fault = Faulted
first_after Stuck = Stopped

-- what a statement gives with these parameters, arguments and items
abbrev pub seen_with : List Param → List ClientValue → CoreStatement → List Item → Seen
seen_with params arguments core items = seen_of (run Go contents params core database arguments items)

-- what a statement without parameters gives with these items, and the first table after it
abbrev pub seen : CoreStatement → List Item → Seen
seen core items = seen_of (run Go contents [] core database [] items)

abbrev pub stored : CoreStatement → List Item → Seen
stored core items = first_after (run Go contents [] core database [] items)

-- SELECT of outputs from sources
abbrev pub query : List Source → List Node → Query
query from outputs = SelectQuery plain from [] [] [] outputs []

-- SELECT of one expression without FROM
abbrev pub value : Node → List Item → Seen
value node items = seen (Select (query [] (node ∷ []))) items

-- one row of one value
abbrev pub one : Value → Seen
one v = Returned ((v ∷ []) ∷ [])

-- each case gives what is expected
abbrev pub Hold : List (Seen × Seen) → Type 0
Hold = AllByRecursion (λ c. c.0 ≡ c.1)

-- constants, each of which takes its value from the items: a truth value, a whole number of 4 and of 8 bytes, a text
abbrev pub B : Node
B = Constant [] bool

abbrev pub N : Node
N = Constant [] int4

abbrev pub K : Node
K = Constant [] int8

abbrev pub T : Node
T = Constant [] text

-- a column of a range, how many queries out
abbrev pub outer : ℕ → ℕ → ℕ → PgType → Node
outer depth range column of = Column (record { depth = depth; range = range; column = column }) of

-- the first and second column of the first range
abbrev pub a : Node
a = outer 0 0 0 int4

abbrev pub b : Node
b = outer 0 0 1 int4

-- items: a value, true, false, places
abbrev pub is : Value → Item
is v = Computed v

abbrev pub yes : Item
yes = Computed (Truth true)

abbrev pub no : Item
no = Computed (Truth false)

abbrev pub at : List ℕ → Item
at places = Places places

-- a whole number of 8 bytes
abbrev pub big : ℕ → Value
big number = Tagged int8 number

-- a row of the table of two whole numbers
abbrev pub pair_row : List ℕ → PgType → Routine
pair_row name of = record { name = name; given = int4 ∷ int4 ∷ []; of = of; strict = true; may_null = false }

abbrev pub eq : Routine
eq = pair_row (codes "=") bool

abbrev pub ge : Routine
ge = pair_row (codes ">=") bool

abbrev pub le : Routine
le = pair_row (codes "<=") bool

abbrev pub plus : Routine
plus = pair_row (codes "+") int4
