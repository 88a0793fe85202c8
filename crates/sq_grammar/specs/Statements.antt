-- Statements, over the parser of their expressions and that of the queries in their brackets.
use Rattle.std.specs.Prelude.{ℕ, zero, suc, ◌-◌, Bool, true, false, ◌&&◌, not, if◌then◌else◌, bytes_eq, codes, List, [], ◌∷◌, Option, Some, None}
use Rattle.sq_syntax.specs.declared.symbol.Symbol.{Symbol}
use Rattle.sq_syntax.specs.declared.symbol.Symbol.TheVariants as s
use Rattle.sq_syntax.specs.declared.symbol.Reading.{Reading}
use Rattle.sq_syntax.specs.declared.symbol.Reading.TheVariants as reading
use Rattle.sq_syntax.specs.declared.name.Identifier.{Identifier}
use Rattle.sq_syntax.specs.declared.expr.Node.{Node}
use Rattle.sq_syntax.specs.declared.query.From.{From}
use Rattle.sq_syntax.specs.declared.query.Output.{Output}
use Rattle.sq_syntax.specs.declared.query.Query.{Query}
use Rattle.sq_syntax.specs.declared.query.With.{With}
use Rattle.sq_syntax.specs.declared.statement.Assignment.{Assignment}
use Rattle.sq_syntax.specs.declared.statement.Conflict.{Conflict}
use Rattle.sq_syntax.specs.declared.statement.Conflict.TheVariants as conflict_kind
use Rattle.sq_syntax.specs.declared.statement.ConflictTarget.{ConflictTarget}
use Rattle.sq_syntax.specs.declared.statement.ConflictTarget.TheVariants as target
use Rattle.sq_syntax.specs.declared.statement.Given.{Given}
use Rattle.sq_syntax.specs.declared.statement.Given.TheVariants as given_kind
use Rattle.sq_syntax.specs.declared.statement.InsertSource.{InsertSource}
use Rattle.sq_syntax.specs.declared.statement.InsertSource.TheVariants as source_kind
use Rattle.sq_syntax.specs.declared.statement.Statement.{Statement}
use Rattle.sq_syntax.specs.declared.statement.Statement.TheVariants as statement_kind
use Rattle.sq_syntax.specs.declared.statement.TableAlias.{TableAlias}
use Rattle.sq_syntax.specs.declared.statement.ValuesRow.{ValuesRow}
use Rattle.sq_syntax.specs.Symbols.{is_name, is_bare_label}
use Rattle.sq_syntax.specs.Facts.{Stream}
use Rattle.sq_syntax.specs.Statements.{is_set}
use Rattle.sq_grammar.specs.Reading.{Outcome, Parser, ◌>>=◌, ◌>>◌, pure, fail, after, choose, is, begins, sees, expect, here, many}
use Rattle.sq_grammar.specs.Ahead.{Lexemes}
use Rattle.sq_grammar.specs.Levels.{Expr}
use Rattle.sq_grammar.specs.Names.{name, qualified_name}
use Rattle.sq_grammar.specs.Queries.{bare_name, begins_label, in_brackets, from_item, output, clause, with_queries, query}
use Rattle.sq_grammar.specs.Whole.{Parsers, deeper, parsers}

-- ---- words that expressions and queries do not know

abbrev pub is_word : List ℕ → Reading → Bool
is_word letters (reading.Word word) = bytes_eq word letters
is_word letters _ = false

-- the first token is this word
abbrev pub begins_word : List ℕ → Lexemes → Bool
begins_word letters [] = false
begins_word letters (x ∷ rest) = is_word letters x.reading

abbrev pub sees_word : List ℕ → Stream → Bool
sees_word letters now = begins_word letters now.tokens

abbrev pub take_word : List ℕ → ℕ → Lexemes → Outcome (Unit {0})
take_word letters n [] = None
take_word letters n (x ∷ rest) = if is_word letters x.reading then Some (tt, after n rest) else None

unfoldable pub expect_word : List ℕ → Parser (Unit {0})
expect_word letters now = take_word letters now.at now.tokens

-- ---- lists and names

-- one item or more, with commas between
abbrev pub listed : {A : Type 0} → Parser A → Parser (List A)
listed item = do
  first ← item
  more ← many (sees s.Comma) (expect s.Comma >> item)
  pure (first ∷ more)

-- names in brackets stand here, and no query
abbrev pub begins_names : Lexemes → Bool
begins_names (x ∷ y ∷ rest) = is s.Open x.reading && is_name y.reading
begins_names _ = false

unfoldable pub columns : Parser (List Identifier)
columns = choose (λ now. begins_names now.tokens) in_brackets (pure [])

abbrev pub some_name : Parser (Option Identifier)
some_name = do
  x ← name
  pure (Some x)

unfoldable pub as_name : Parser (Option Identifier)
as_name = choose (sees s.As) (expect s.As >> some_name) (pure None)

abbrev pub called : Bool → Parser Identifier → Parser (Option TableAlias)
called has_as name_of = do
  x ← name_of
  pure (Some (record { has_as = has_as; name = x }))

-- the tokens ahead tell whether a name without AS stands here
unfoldable pub table_alias : (Lexemes → Bool) → Parser (Option TableAlias)
table_alias bare = choose (sees s.As) (expect s.As >> called true name) (choose (λ now. bare now.tokens) (called false bare_name) (pure None))

-- SET behind the table of an UPDATE is no name without AS
abbrev pub begins_unset : Lexemes → Bool
begins_unset [] = false
begins_unset (x ∷ rest) = is_bare_label x.reading && not (is_set x.reading)

module _ (expr : Parser Expr) (inner : Parser Query) where
  -- ---- what columns get

  abbrev pub given_expression : Parser Given
  given_expression = do
    x ← expr
    pure (given_kind.Expression x)

  unfoldable pub given : Parser Given
  given start = choose (sees_word (codes "default")) (expect_word (codes "default") >> pure (given_kind.Default (here start))) given_expression start

  unfoldable pub values_row : Parser ValuesRow
  values_row start = (do
    expect s.Open
    values ← listed given
    expect s.Close
    pure (record { place = here start; values = values })) start

  abbrev pub rows : Parser InsertSource
  rows = do
    expect_word (codes "values")
    found ← listed values_row
    pure (source_kind.Values found)

  abbrev pub default_values : Parser InsertSource
  default_values = expect_word (codes "default") >> (expect_word (codes "values") >> pure source_kind.DefaultValues)

  abbrev pub queried : Parser InsertSource
  queried = do
    x ← query expr inner
    pure (source_kind.Query x)

  unfoldable pub source : Parser InsertSource
  source = choose (sees_word (codes "values")) rows (choose (sees_word (codes "default")) default_values queried)

  unfoldable pub assignment : Parser Assignment
  assignment = do
    x ← name
    expect s.Equal
    y ← given
    pure (record { column = x; value = y })

  unfoldable pub assignments : Parser (List Assignment)
  assignments = expect_word (codes "set") >> listed assignment

  -- ---- ON CONFLICT

  abbrev pub target_columns : Parser (Option ConflictTarget)
  target_columns = do
    xs ← in_brackets
    x ← clause expr inner s.Where
    pure (Some (target.Columns xs x))

  abbrev pub target_constraint : Parser (Option ConflictTarget)
  target_constraint = do
    expect s.On
    expect_word (codes "constraint")
    x ← name
    pure (Some (target.Constraint x))

  unfoldable pub optional_target : Parser (Option ConflictTarget)
  optional_target = choose (sees s.Open) target_columns (choose (sees s.On) target_constraint (pure None))

  abbrev pub do_nothing : Stream → Option ConflictTarget → Parser (Option Conflict)
  do_nothing start x = expect_word (codes "nothing") >> pure (Some (conflict_kind.Nothing (here start) x))

  -- an update needs a target
  abbrev pub do_update : Stream → Option ConflictTarget → Parser (Option Conflict)
  do_update start None = fail
  do_update start (Some x) = do
    expect s.Update
    sets ← assignments
    y ← clause expr inner s.Where
    pure (Some (conflict_kind.Update (here start) x sets y))

  abbrev pub on_conflict : Stream → Parser (Option Conflict)
  on_conflict start = do
    expect s.On
    expect_word (codes "conflict")
    x ← optional_target
    expect_word (codes "do")
    choose (sees_word (codes "nothing")) (do_nothing start x) (do_update start x)

  unfoldable pub conflict : Parser (Option Conflict)
  conflict start = choose (sees s.On) (on_conflict start) (pure None) start

  -- ---- clauses

  unfoldable pub returning : Parser (List (Node (Output Expr)))
  returning = choose (sees_word (codes "returning")) (expect_word (codes "returning") >> listed (output expr inner)) (pure [])

  -- sources behind this word, where it comes next
  unfoldable pub sources : Symbol → Parser (List From)
  sources before = choose (sees before) (expect before >> listed (from_item expr inner)) (pure [])

  -- ---- statements

  unfoldable pub insert : Parser Statement
  insert start = (do
    ws ← with_queries expr inner
    expect_word (codes "insert")
    expect_word (codes "into")
    table ← qualified_name
    alias ← as_name
    names ← columns
    found ← source
    action ← conflict
    outputs ← returning
    (λ now. Some (statement_kind.Insert (record { place = here start; first = start.at; last = now.at - 1; with = ws; table = table; alias = alias; columns = names; source = found; conflict = action; returning = outputs }), now))) start

  unfoldable pub update : Parser Statement
  update start = (do
    ws ← with_queries expr inner
    expect s.Update
    table ← qualified_name
    alias ← table_alias begins_unset
    sets ← assignments
    from ← sources s.From
    where_condition ← clause expr inner s.Where
    outputs ← returning
    (λ now. Some (statement_kind.Update (record { place = here start; first = start.at; last = now.at - 1; with = ws; table = table; alias = alias; sets = sets; from = from; condition = where_condition; returning = outputs }), now))) start

  unfoldable pub delete : Parser Statement
  delete start = (do
    ws ← with_queries expr inner
    expect_word (codes "delete")
    expect s.From
    table ← qualified_name
    alias ← table_alias begins_label
    using ← sources s.Using
    where_condition ← clause expr inner s.Where
    outputs ← returning
    (λ now. Some (statement_kind.Delete (record { place = here start; first = start.at; last = now.at - 1; with = ws; table = table; alias = alias; using = using; condition = where_condition; returning = outputs }), now))) start

  abbrev pub whole_query : Parser Statement
  whole_query = do
    x ← query expr inner
    pure (statement_kind.Query x)

  abbrev pub tokens_behind : Outcome (List (With Query)) → Lexemes
  tokens_behind None = []
  tokens_behind (Some p) = p.1.tokens

  -- the tokens behind the queries of WITH
  abbrev pub behind_with : Stream → Lexemes
  behind_with now = tokens_behind (with_queries expr inner now)

  unfoldable pub statement : Parser Statement
  statement = choose (λ now. begins_word (codes "insert") (behind_with now)) insert
      (choose (λ now. begins s.Update (behind_with now)) update
      (choose (λ now. begins_word (codes "delete") (behind_with now)) delete whole_query))

abbrev pub over : Parsers → Parser Statement
over p = statement (deeper p).expressions p.queries

-- the parser of what nests less deep than this
unfoldable pub statements : ℕ → Parser Statement
statements zero = fail
statements (suc depth) = over (parsers depth)
