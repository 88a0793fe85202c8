-- Statements of the first laws.
use Rattle.std.specs.Prelude.{◌≡◌, ℕ, List, [], ◌∷◌, ◌++◌, map, true, false, codes, slice_get, unwrap_or, IsSomeAnd, not, ◌&&◌, ◌||◌, bytes_eq, Bool}
use Rattle.std.specs.List.{list_all}
use Rattle.sq_builtin.specs.Entries.{Entry}
use Rattle.sq_builtin.specs.Rows.{table}
use Rattle.sq_base.specs.declared.types.PgType.{PgType}
use Rattle.sq_base.specs.declared.types.Scalar.TheVariants.{BigInt, Integer, Text}
use Rattle.sq_catalog.specs.Contents.{Contents}
use Rattle.sq_core.specs.declared.routine.Routine.{Routine}
use Rattle.sq_core.specs.declared.node.Node.TheVariants.{Aggregate, Apply, Column, Constant}
use Rattle.sq_core.specs.declared.node.Node.{Node}
use Rattle.sq_core.specs.declared.node.Query.TheVariants.{Select as SelectQuery}
use Rattle.sq_core.specs.declared.node.Source.TheVariants.{Table}
use Rattle.sq_core.specs.declared.routine.Operation.TheVariants.{Call}
use Rattle.sq_shown.specs.declared.signature.Language.{Language}
use Rattle.sq_shown.specs.declared.signature.Param.{Param}
use Rattle.sq_core.specs.declared.statement.CoreStatement.{CoreStatement}
use Rattle.sq_core.specs.declared.statement.CoreStatement.TheVariants.{Insert, Select}
use Rattle.sq_core.specs.declared.statement.Cell.TheVariants.{Given}
use Rattle.sq_core.specs.declared.statement.Conflict.TheVariants.{None}
use Rattle.sq_core.specs.declared.statement.Entries.TheVariants.{Values}
use Rattle.sq_core.specs.Answer.{Gives, Stuck}
use Rattle.sq_core.specs.Sound.{run}
use Rattle.sq_core.specs.Changes.{replaced}
use Rattle.sq_core.specs.Frames.{Setting}
use Rattle.sq_core.specs.Run.{node_run}
use Rattle.sq_core.specs.Items.{Item, Computed}
use Rattle.sq_core.specs.Routines.{is_aggregate, is_routine}
use Rattle.sq_core.specs.Values.{Value, Null, Tagged, Tag, Row, Database, integer_tag, same_bool}

abbrev pub integer : PgType
integer = record { scalar = Integer; array = false }

abbrev pub text_tag : Tag
text_tag = record { scalar = Text; array = false }

-- the addition of whole numbers
abbrev pub plus : Routine
plus = record { name = codes "+"; given = integer ∷ integer ∷ []; of = integer; strict = true; may_null = false }

-- where the left operand gives a text and the right one a value, the addition of whole numbers is stuck
abbrev pub TextAdditionIsStuck : Contents → List Param → Database → List Value → Node → Node → Setting → Type 0
TextAdditionIsStuck contents params database arguments left right setting =
    (number : ℕ) (value : Value) (oracle rest last : List Item)
    → node_run contents params database arguments left setting oracle ≡ Gives (Tagged text_tag number) rest
    → node_run contents params database arguments right setting rest ≡ Gives value last
    → node_run contents params database arguments (Apply (Call plus) (left ∷ right ∷ [])) setting oracle ≡ Stuck

-- the SELECT of one column of a table
abbrev pub one_column : ℕ → ℕ → PgType → CoreStatement
one_column table column of =
    Select (SelectQuery (record {
      grouped = false;
      distinct = false;
      ordered =
          false;
    }) (Table table ∷ []) [] [] [] (Column (record { depth = 0; range = 0; column = column }) of ∷ []) [])

-- the value that a row holds in a column
abbrev pub value_in : ℕ → Row → Value
value_in column row = unwrap_or (slice_get row column) Null

-- It gives one row for each row of the table, in order, with the column's value alone. It takes no item, and the
-- database stays.
abbrev pub GivesStored : Contents → Database → ℕ → ℕ → PgType → List Row → Type 0
GivesStored contents database table column of rows =
    (language : Language) (oracle : List Item)
    → run language contents [] (one_column table column of) database [] oracle
    ≡ Gives (record { rows = map (λ row. value_in column row ∷ []) rows; database = database }) oracle

-- a table of the catalogue has a column of this type
abbrev pub HasColumn : Contents → ℕ → ℕ → PgType → Type 0
HasColumn contents table column of =
    IsSomeAnd (slice_get contents.tables table) (λ t. IsSomeAnd (slice_get t.columns column) (λ c. c.of ≡ of))

-- whether the addition of whole numbers is a row of the table, and whether it is with a text as its result
abbrev pub plus_to_text : Routine
plus_to_text = record plus { of = text_tag }

pub record PlusIsARow : Type 0 where
  pub row : is_routine false plus ≡ true
  pub no_row : is_routine false plus_to_text ≡ false

-- the sum of whole numbers
abbrev pub sum : Routine
sum = record {
  name = codes "sum";
  given = integer ∷ [];
  of = record { scalar = BigInt; array = false };
  strict = true;
  may_null = false;
}

-- whether an entry is no aggregate, or never gives null by itself and is strict exactly where it is not count
abbrev pub is_count_or_strict : Entry → Bool
is_count_or_strict entry =
    not (is_aggregate entry.kind)
    || (not entry.may_null && same_bool entry.strict (not (bytes_eq entry.name (codes "count"))))

-- count is the one aggregate of the table that is not strict, and no aggregate gives null by itself
abbrev pub AggregatesAreStrict : Type 0
AggregatesAreStrict = list_all is_count_or_strict table ≡ true

-- SELECT sum(c) FROM t
abbrev pub sum_of : ℕ → ℕ → CoreStatement
sum_of table column =
    Select (SelectQuery (record { grouped = true; distinct = false; ordered = false }) (Table table ∷ []) [] [] []
    (Aggregate (record {
      routine = sum;
      distinct =
          false;
    }) (Column (record { depth = 0; range = 0; column = column }) integer ∷ []) [] [] ∷ []) [])

-- It gives one row of null, and takes no item.
abbrev pub GivesOneNull : Contents → Database → ℕ → ℕ → Type 0
GivesOneNull contents database table column =
    (language : Language) (oracle : List Item)
    → run language contents [] (sum_of table column) database [] oracle
    ≡ Gives (record { rows = (Null ∷ []) ∷ []; database = database }) oracle

-- INSERT INTO t (c) VALUES (constant) RETURNING c, where c is the one column of t
abbrev pub one_new_row : ℕ → List ℕ → CoreStatement
one_new_row table reading =
    Insert [] table (0 ∷ []) (Values ((Given (Constant reading integer) ∷ []) ∷ [])) None (Column (record {
      depth = 0;
      range = 0;
      column = 0;
    }) integer ∷ [])

-- With the constant's value as the item it returns that value, and the table has one more row.
abbrev pub GivesNewRow : Contents → Database → ℕ → List ℕ → List Row → Type 0
GivesNewRow contents database table reading rows =
    (language : Language) (number : ℕ) (oracle : List Item)
    → run language contents [] (one_new_row table reading) database [] (Computed (Tagged integer_tag number) ∷ oracle)
    ≡ Gives (record {
      rows = (Tagged integer_tag number ∷ []) ∷ [];
      database =
          replaced table (rows ++ (Tagged integer_tag number ∷ []) ∷ []) database;
    }) oracle
