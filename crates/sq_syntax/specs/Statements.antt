-- The grammar of changes of data (PostgreSQL manual, INSERT, UPDATE and DELETE): the pieces of each production, and every
-- statement's facts, how it is spelled, whether it is well levelled, and its height.
use Rattle.std.specs.Prelude.{◌≡◌, ℕ, Bool, true, false, ◌||◌, not, if◌then◌else◌, bytes_eq, List, [], ◌∷◌, ◌++◌, length, map, codes, option_map, Option, Some, None}
use Rattle.sq_base.specs.declared.place.Place.{Place}
use Rattle.sq_syntax.specs.declared.symbol.Symbol.{Symbol}
use Rattle.sq_syntax.specs.declared.symbol.Symbol.TheVariants as s
use Rattle.sq_syntax.specs.declared.symbol.Reading.{Reading}
use Rattle.sq_syntax.specs.declared.symbol.Reading.TheVariants as reading
use Rattle.sq_syntax.specs.declared.token.Token.{Token}
use Rattle.sq_syntax.specs.declared.name.Identifier.{Identifier}
use Rattle.sq_syntax.specs.declared.expr.Node.{Node}
use Rattle.sq_syntax.specs.declared.expr.Expression.{Expression}
use Rattle.sq_syntax.specs.declared.query.From.{From}
use Rattle.sq_syntax.specs.declared.query.Output.{Output}
use Rattle.sq_syntax.specs.declared.query.Output.TheVariants as output
use Rattle.sq_syntax.specs.declared.query.Query.{Query}
use Rattle.sq_syntax.specs.declared.query.With.{With}
use Rattle.sq_syntax.specs.declared.statement.Assignment.{Assignment}
use Rattle.sq_syntax.specs.declared.statement.Conflict.{Conflict}
use Rattle.sq_syntax.specs.declared.statement.Conflict.TheVariants as conflict_kind
use Rattle.sq_syntax.specs.declared.statement.ConflictTarget.{ConflictTarget}
use Rattle.sq_syntax.specs.declared.statement.ConflictTarget.TheVariants as target
use Rattle.sq_syntax.specs.declared.statement.Delete.{Delete}
use Rattle.sq_syntax.specs.declared.statement.Given.{Given}
use Rattle.sq_syntax.specs.declared.statement.Given.TheVariants as given_kind
use Rattle.sq_syntax.specs.declared.statement.Insert.{Insert}
use Rattle.sq_syntax.specs.declared.statement.InsertSource.{InsertSource}
use Rattle.sq_syntax.specs.declared.statement.InsertSource.TheVariants as source_kind
use Rattle.sq_syntax.specs.declared.statement.Statement.{Statement}
use Rattle.sq_syntax.specs.declared.statement.Statement.TheVariants as statement
use Rattle.sq_syntax.specs.declared.statement.TableAlias.{TableAlias}
use Rattle.sq_syntax.specs.declared.statement.Update.{Update}
use Rattle.sq_syntax.specs.declared.statement.ValuesRow.{ValuesRow}
use Rattle.sq_syntax.specs.Symbols.{identifier_reading}
use Rattle.sq_syntax.specs.Facts.{Facts, Piece, Along, readings, numbered, from as at_level}
use Rattle.sq_syntax.specs.Pieces.{Pieces, say, sym, at, some, listed, Operand, part, whole, name, bare_name, names, bracketed_names, qualified_name}
use Rattle.sq_syntax.specs.QueryPieces.{whole_facts, output_pieces, optional, with_queries}
use Rattle.sq_syntax.specs.Grammar.{expression_facts, from_facts, query_facts, stream}

-- a word that expressions and queries do not know
abbrev pub word : List ℕ → Piece
word letters = say (reading.Word letters)

-- ---- trees within

abbrev pub operand : Node Expression → Operand
operand x = record { place = x.place; first = x.first; last = x.last; form = expression_facts x.form }

abbrev pub condition : Option (Node Expression) → Pieces
condition x = optional s.Where (option_map operand x)

abbrev pub with_facts : With Query → With Facts
with_facts x = record { name = x.name; columns = x.columns; materialized = x.materialized; query = query_facts x.query }

abbrev pub output_form : Output (Node Expression) → Output Operand
output_form output.Star = output.Star
output_form (output.StarOf x) = output.StarOf x
output_form (output.Value x last) = output.Value (operand x) last

abbrev pub output_facts : Node (Output (Node Expression)) → Node (Output Operand)
output_facts x = record { place = x.place; first = x.first; last = x.last; form = output_form x.form }

abbrev pub returning : List (Node (Output (Node Expression))) → Pieces
returning [] = []
returning (x ∷ xs) = word (codes "returning") ∷ listed (map (λ y. output_pieces (output_facts y)) (x ∷ xs))

-- sources behind this word
abbrev pub sources : Symbol → List From → Pieces
sources before [] = []
sources before (x ∷ xs) = sym before ∷ listed (map (λ y. whole (from_facts y) ∷ []) (x ∷ xs))

-- ---- what columns get

abbrev pub given : Given → Pieces
given (given_kind.Default place) = at place ∷ word (codes "default") ∷ []
given (given_kind.Expression x) = part 0 (operand x) ∷ []

abbrev pub values_row : ValuesRow → Pieces
values_row x = at x.place ∷ sym s.Open ∷ some x.values ∷ listed (map given x.values) ++ sym s.Close ∷ []

abbrev pub source : InsertSource → Pieces
source (source_kind.Values rows) = word (codes "values") ∷ some rows ∷ listed (map values_row rows)
source (source_kind.Query x) = whole (query_facts x) ∷ []
source source_kind.DefaultValues = word (codes "default") ∷ word (codes "values") ∷ []

abbrev pub assignment : Assignment → Pieces
assignment x = name x.column ++ sym s.Equal ∷ given x.value

abbrev pub assignments : List Assignment → Pieces
assignments xs = word (codes "set") ∷ some xs ∷ listed (map assignment xs)

-- ---- ON CONFLICT

abbrev pub conflict_target : ConflictTarget → Pieces
conflict_target (target.Columns xs x) = sym s.Open ∷ some xs ∷ names xs ++ sym s.Close ∷ condition x
conflict_target (target.Constraint x) = sym s.On ∷ word (codes "constraint") ∷ name x

abbrev pub optional_target : Option ConflictTarget → Pieces
optional_target None = []
optional_target (Some x) = conflict_target x

abbrev pub conflict : Option Conflict → Pieces
conflict None = []
conflict (Some (conflict_kind.Nothing place x)) = at place ∷ sym s.On ∷ word (codes "conflict") ∷ optional_target x ++ word (codes "do") ∷ word (codes "nothing") ∷ []
conflict (Some (conflict_kind.Update place x sets y)) = at place ∷ sym s.On ∷ word (codes "conflict") ∷ conflict_target x ++ word (codes "do") ∷ sym s.Update ∷ assignments sets ++ condition y

-- ---- names of the changed table

abbrev pub as_name : Option Identifier → Pieces
as_name None = []
as_name (Some x) = sym s.As ∷ name x

abbrev pub table_alias : Option TableAlias → Pieces
table_alias None = []
table_alias (Some x) = if x.has_as then sym s.As ∷ name x.name else bare_name x.name

abbrev pub is_set : Reading → Bool
is_set (reading.Word letters) = bytes_eq letters (codes "set")
is_set _ = false

-- the word SET behind the table of an UPDATE is no name without AS
abbrev pub leaves_set : Option TableAlias → Bool
leaves_set None = true
leaves_set (Some x) = x.has_as || not (is_set (identifier_reading x.name))

-- ---- statements

abbrev pub insert_pieces : Insert → Pieces
insert_pieces x = with_queries (map with_facts x.with) ++ word (codes "insert") ∷ word (codes "into") ∷ qualified_name x.table ++ as_name x.alias ++ bracketed_names x.columns ++ source x.source ++ conflict x.conflict ++ returning x.returning

abbrev pub update_pieces : Update → Pieces
update_pieces x = with_queries (map with_facts x.with) ++ sym s.Update ∷ qualified_name x.table ++ Piece.need (leaves_set x.alias) ∷ table_alias x.alias ++ assignments x.sets ++ sources s.From x.from ++ condition x.condition ++ returning x.returning

abbrev pub delete_pieces : Delete → Pieces
delete_pieces x = with_queries (map with_facts x.with) ++ word (codes "delete") ∷ sym s.From ∷ qualified_name x.table ++ table_alias x.alias ++ sources s.Using x.using ++ condition x.condition ++ returning x.returning

-- a change that begins at this place, with the numbers of its first and last token
abbrev pub changed : Place → ℕ → ℕ → Pieces → Facts
changed place first last pieces = numbered first last (whole_facts (at place ∷ pieces))

abbrev pub statement_facts : Statement → Facts
statement_facts (statement.Query x) = query_facts x
statement_facts (statement.Insert x) = changed x.place x.first x.last (insert_pieces x)
statement_facts (statement.Update x) = changed x.place x.first x.last (update_pieces x)
statement_facts (statement.Delete x) = changed x.place x.first x.last (delete_pieces x)

-- the readings of a statement's tokens
abbrev pub spelled_statement : Statement → List Reading
spelled_statement x = readings (statement_facts x).marks

-- each part stands at a level that is allowed there, and each condition of the grammar holds
abbrev pub well_levelled_statement : Statement → Bool
well_levelled_statement x = at_level 0 (statement_facts x).level

abbrev pub statement_height : Statement → ℕ
statement_height x = (statement_facts x).height

-- the statement is spelled by all of the tokens, has their places and numbers, and is well levelled
abbrev pub IsStatement : List Token → Statement → Type 0
IsStatement tokens x = Along (statement_facts x).marks (stream 0 tokens) (stream (length tokens) []) × (well_levelled_statement x ≡ true)
