-- Queries, over the parser of their expressions and that of the queries in their brackets.
use Rattle.std.specs.Prelude.{ℕ, zero, suc, ◌-◌, Bool, true, false, ◌&&◌, ◌||◌, if◌then◌else◌, List, [], ◌∷◌, length, Option, Some, None}
use Rattle.sq_base.specs.declared.place.Place.{Place}
use Rattle.sq_syntax.specs.declared.symbol.Symbol.{Symbol}
use Rattle.sq_syntax.specs.declared.symbol.Symbol.TheVariants as s
use Rattle.sq_syntax.specs.declared.symbol.Reading.{Reading}
use Rattle.sq_syntax.specs.declared.symbol.Reading.TheVariants as reading
use Rattle.sq_syntax.specs.declared.name.Identifier.{Identifier}
use Rattle.sq_syntax.specs.declared.expr.Node.{Node}
use Rattle.sq_syntax.specs.declared.query.Query.{Query, roll-Query}
use Rattle.sq_syntax.specs.declared.query.Select.{Select, roll-Select}
use Rattle.sq_syntax.specs.declared.query.From.{From, roll-From}
use Rattle.sq_syntax.specs.declared.query.Factor.{Factor}
use Rattle.sq_syntax.specs.declared.query.Factor.TheVariants as factor_kind
use Rattle.sq_syntax.specs.declared.query.Source.{Source}
use Rattle.sq_syntax.specs.declared.query.Source.TheVariants as source_kind
use Rattle.sq_syntax.specs.declared.query.Join.{Join}
use Rattle.sq_syntax.specs.declared.query.Join.TheVariants as join_kind
use Rattle.sq_syntax.specs.declared.query.JoinKind.{JoinKind}
use Rattle.sq_syntax.specs.declared.query.JoinKind.TheVariants as kind
use Rattle.sq_syntax.specs.declared.query.Matched.{Matched}
use Rattle.sq_syntax.specs.declared.query.Matched.TheVariants as matched
use Rattle.sq_syntax.specs.declared.query.Alias.{Alias}
use Rattle.sq_syntax.specs.declared.query.With.{With}
use Rattle.sq_syntax.specs.declared.query.Materialized.{Materialized}
use Rattle.sq_syntax.specs.declared.query.Materialized.TheVariants as materialized
use Rattle.sq_syntax.specs.declared.query.Operands.{Operands}
use Rattle.sq_syntax.specs.declared.query.SetLink.{SetLink}
use Rattle.sq_syntax.specs.declared.query.SetOperation.{SetOperation}
use Rattle.sq_syntax.specs.declared.query.SetOperation.TheVariants as set_operation
use Rattle.sq_syntax.specs.declared.query.Quantity.{Quantity}
use Rattle.sq_syntax.specs.declared.query.Quantity.TheVariants as quantity
use Rattle.sq_syntax.specs.declared.query.Distinctness.{Distinctness}
use Rattle.sq_syntax.specs.declared.query.Distinctness.TheVariants as distinctness
use Rattle.sq_syntax.specs.declared.query.Output.{Output}
use Rattle.sq_syntax.specs.declared.query.Output.TheVariants as output_kind
use Rattle.sq_syntax.specs.declared.query.Label.{Label}
use Rattle.sq_syntax.specs.declared.query.Label.TheVariants as label_kind
use Rattle.sq_syntax.specs.declared.query.Limit.{Limit}
use Rattle.sq_syntax.specs.declared.query.Limit.TheVariants as limit_kind
use Rattle.sq_syntax.specs.declared.query.Offset.{Offset}
use Rattle.sq_syntax.specs.declared.query.RowWord.{RowWord}
use Rattle.sq_syntax.specs.declared.query.RowWord.TheVariants as row_word
use Rattle.sq_syntax.specs.declared.query.Lock.{Lock}
use Rattle.sq_syntax.specs.declared.query.Strength.{Strength}
use Rattle.sq_syntax.specs.declared.query.Strength.TheVariants as strength_kind
use Rattle.sq_syntax.specs.declared.query.Waiting.{Waiting}
use Rattle.sq_syntax.specs.declared.query.Waiting.TheVariants as waiting_kind
use Rattle.sq_syntax.specs.Facts.{Stream}
use Rattle.sq_syntax.specs.Symbols.{is_bare_label}
use Rattle.sq_grammar.specs.Reading.{Parser, ◌>>=◌, ◌>>◌, pure, fail, choose, is, begins, begins_both, sees, expect, optional, token, here, many}
use Rattle.sq_grammar.specs.Ahead.{Lexemes, holds_query}
use Rattle.sq_grammar.specs.Names.{word_of, only, name, qualified_name}
use Rattle.sq_grammar.specs.Levels.{Expr}
use Rattle.sq_grammar.specs.Tests.{list}
use Rattle.sq_grammar.specs.Primaries.{order}

-- ---- names and words

abbrev pub label_of : Reading → Place → Option Identifier
label_of r place = only (is_bare_label r) (word_of r place)

-- a name that has no AS before it
unfoldable pub bare_name : Parser Identifier
bare_name = token label_of

abbrev pub begins_label : Lexemes → Bool
begins_label [] = false
begins_label (x ∷ rest) = is_bare_label x.reading

abbrev pub next_name : Parser Identifier
next_name = expect s.Comma >> name

unfoldable pub names : Parser (List Identifier)
names = do
  first ← name
  more ← many (sees s.Comma) next_name
  pure (first ∷ more)

abbrev pub in_brackets : Parser (List Identifier)
in_brackets = do
  expect s.Open
  xs ← names
  expect s.Close
  pure xs

unfoldable pub bracketed_names : Parser (List Identifier)
bracketed_names = choose (sees s.Open) in_brackets (pure [])

-- ---- names of sources and outputs

abbrev pub named : Bool → Parser Identifier → Parser Alias
named has_as called = do
  x ← called
  columns ← bracketed_names
  pure (record { has_as = has_as; name = x; columns = columns })

unfoldable pub alias : Parser Alias
alias = choose (sees s.As) (expect s.As >> named true name) (named false bare_name)

abbrev pub some_alias : Parser (Option Alias)
some_alias = do
  x ← alias
  pure (Some x)

unfoldable pub optional_alias : Parser (Option Alias)
optional_alias = choose (λ now. begins s.As now.tokens || begins_label now.tokens) some_alias (pure None)

abbrev pub as_label : Parser Label
as_label = do
  expect s.As
  x ← name
  pure (label_kind.As x)

abbrev pub bare_label : Parser Label
bare_label = do
  x ← bare_name
  pure (label_kind.Bare x)

unfoldable pub label : Parser Label
label = choose (sees s.As) as_label (choose (λ now. begins_label now.tokens) bare_label (pure label_kind.Unsaid))

-- ---- words of joins, set operations, locks and the like

abbrev pub outer : JoinKind → JoinKind → Parser JoinKind
outer plain long = do
  has_outer ← optional s.Outer
  expect s.Join
  pure (if has_outer then long else plain)

unfoldable pub join_words : Parser JoinKind
join_words = choose (sees s.Inner) (expect s.Inner >> (expect s.Join >> pure kind.Inner))
    (choose (sees s.Left) (expect s.Left >> outer kind.Left kind.LeftOuter)
    (choose (sees s.Right) (expect s.Right >> outer kind.Right kind.RightOuter)
    (choose (sees s.Full) (expect s.Full >> outer kind.Full kind.FullOuter) (expect s.Join >> pure kind.Unsaid))))

abbrev pub begins_join : Lexemes → Bool
begins_join rest = begins s.Cross rest || (begins s.Join rest || (begins s.Inner rest || (begins s.Left rest || (begins s.Right rest || begins s.Full rest))))

abbrev pub loose_operation : Reading → Place → Option SetOperation
loose_operation (reading.Symbol s.Union) place = Some set_operation.Union
loose_operation (reading.Symbol s.Except) place = Some set_operation.Except
loose_operation _ place = None

abbrev pub tight_operation : Reading → Place → Option SetOperation
tight_operation (reading.Symbol s.Intersect) place = Some set_operation.Intersect
tight_operation _ place = None

unfoldable pub quantity_word : Parser Quantity
quantity_word = choose (sees s.All) (expect s.All >> pure quantity.All) (choose (sees s.Distinct) (expect s.Distinct >> pure quantity.Distinct) (pure quantity.Unsaid))

abbrev pub set_link : {A : Type 0} → (Reading → Place → Option SetOperation) → Parser A → Parser (SetLink A)
set_link operation operand now = (do
  x ← token operation
  y ← quantity_word
  z ← operand
  pure (record { place = here now; operation = x; quantity = y; operand = z })) now

-- operands with set operations between them
abbrev pub operands : {A : Type 0} → (Stream → Bool) → (Reading → Place → Option SetOperation) → Parser A → Parser (Operands A)
operands more operation operand = do
  first ← operand
  links ← many more (set_link operation operand)
  pure (record { first = first; links = links })

unfoldable pub materialized_words : Parser Materialized
materialized_words = choose (sees s.Materialized) (expect s.Materialized >> pure materialized.Yes)
    (choose (sees s.Not) (expect s.Not >> (expect s.Materialized >> pure materialized.No)) (pure materialized.Unsaid))

unfoldable pub row_words : Parser RowWord
row_words = choose (sees s.Row) (expect s.Row >> pure row_word.Row) (choose (sees s.Rows) (expect s.Rows >> pure row_word.Rows) (pure row_word.Unsaid))

unfoldable pub strength : Parser Strength
strength = choose (sees s.Update) (expect s.Update >> pure strength_kind.Update)
    (choose (sees s.No) (expect s.No >> (expect s.Key >> (expect s.Update >> pure strength_kind.NoKeyUpdate)))
    (choose (sees s.Share) (expect s.Share >> pure strength_kind.Share) (expect s.Key >> (expect s.Share >> pure strength_kind.KeyShare))))

unfoldable pub waiting : Parser Waiting
waiting = choose (sees s.NoWait) (expect s.NoWait >> pure waiting_kind.NoWait) (choose (sees s.Skip) (expect s.Skip >> (expect s.Locked >> pure waiting_kind.SkipLocked)) (pure waiting_kind.Unsaid))

unfoldable pub lock : Parser Lock
lock = do
  expect s.For
  x ← strength
  of ← choose (sees s.Of) (expect s.Of >> names) (pure [])
  y ← waiting
  pure (record { strength = x; of = of; waiting = y })

-- a name, a dot and a star stand here
abbrev pub begins_star_of : Lexemes → Bool
begins_star_of (x ∷ y ∷ z ∷ rest) = is s.Dot y.reading && is s.Times z.reading
begins_star_of _ = false

-- ---- sources, outputs and clauses

module _ (expr : Parser Expr) (inner : Parser Query) where
  unfoldable pub derived : Parser Source
  derived = do
    expect s.Open
    x ← inner
    expect s.Close
    called ← alias
    pure (source_kind.Derived x called)

  unfoldable pub table : Parser Source
  table = do
    x ← qualified_name
    called ← optional_alias
    pure (source_kind.Table x called)

  unfoldable pub condition : Parser (Matched Expr)
  condition = choose (sees s.On) (expect s.On >> (expr >>= (λ x. pure (matched.On x)))) (expect s.Using >> (in_brackets >>= (λ xs. pure (matched.Using xs))))

  -- a part with the place of its first token
  abbrev pub begun : {A : Type 0} → Parser A → Parser (Node A)
  begun p start = (p >>= (λ x now. Some (record { place = here start; first = start.at; last = now.at - 1; form = x }, now))) start

  abbrev pub grouped : Parser From → Parser Source
  grouped from = do
    expect s.Open
    x ← from
    expect s.Close
    pure (source_kind.Grouped x)

  unfoldable pub source : Parser From → Parser (Node Source)
  source from = begun (choose (sees s.Open) (choose (λ now. holds_query now.tokens) derived (grouped from)) table)

  abbrev pub cross : Parser From → Stream → Parser Join
  cross from start = do
    expect s.Cross
    expect s.Join
    x ← source from
    pure (join_kind.Cross (here start) x)

  abbrev pub matching : Parser From → Stream → Parser Join
  matching from start = do
    found ← join_words
    x ← source from
    by ← condition
    pure (join_kind.Matched (here start) found x by)

  unfoldable pub join : Parser From → Parser Join
  join from start = choose (sees s.Cross) (cross from start) (matching from start) start

  abbrev pub from_over : Parser From → Parser From
  from_over from = do
    x ← source from
    joins ← many (λ now. begins_join now.tokens) (join from)
    pure (roll-From (record { source = x; joins = joins }))

  -- the number bounds how deep sources stand in brackets
  unfoldable pub from_at : ℕ → Parser From
  from_at zero = fail
  from_at (suc n) = from_over (from_at n)

  abbrev pub from_item : Parser From
  from_item now = from_at (length now.tokens) now

  abbrev pub next_from : Parser From
  next_from = expect s.Comma >> from_item

  abbrev pub from_items : Parser (List From)
  from_items = do
    expect s.From
    first ← from_item
    more ← many (sees s.Comma) next_from
    pure (first ∷ more)

  unfoldable pub from_clause : Parser (List From)
  from_clause = choose (sees s.From) from_items (pure [])

  abbrev pub star_of : Parser (Output Expr)
  star_of = do
    x ← name
    expect s.Dot
    expect s.Times
    pure (output_kind.StarOf x)

  abbrev pub value : Parser (Output Expr)
  value = do
    x ← expr
    y ← label
    pure (output_kind.Value x y)

  unfoldable pub output : Parser (Node (Output Expr))
  output = begun (choose (sees s.Times) (expect s.Times >> pure output_kind.Star) (choose (λ now. begins_star_of now.tokens) star_of value))

  abbrev pub next_output : Parser (Node (Output Expr))
  next_output = expect s.Comma >> output

  abbrev pub distinct_on : Parser (Distinctness Expr)
  distinct_on = do
    expect s.Distinct
    expect s.On
    expect s.Open
    xs ← list expr inner
    expect s.Close
    pure (distinctness.On xs)

  unfoldable pub distinct : Parser (Distinctness Expr)
  distinct = choose (sees s.All) (expect s.All >> pure distinctness.All)
      (choose (λ now. begins_both s.Distinct s.On now.tokens) distinct_on
      (choose (sees s.Distinct) (expect s.Distinct >> pure distinctness.Distinct) (pure distinctness.Unsaid)))

  abbrev pub some_expression : Parser (Option Expr)
  some_expression = do
    x ← expr
    pure (Some x)

  -- a word and an expression, where the word comes next
  unfoldable pub clause : Symbol → Parser (Option Expr)
  clause word = choose (sees word) (expect word >> some_expression) (pure None)

  unfoldable pub group : Parser (List Expr)
  group = choose (sees s.Group) (expect s.Group >> (expect s.By >> list expr inner)) (pure [])

  unfoldable pub select : Parser Select
  select = do
    expect s.Select
    distinct_words ← distinct
    first ← output
    more ← many (sees s.Comma) next_output
    from ← from_clause
    where_condition ← clause s.Where
    grouping ← group
    having ← clause s.Having
    pure (roll-Select (record { distinct = distinct_words; outputs = first ∷ more; from = from; condition = where_condition; group = grouping; having = having }))

  abbrev pub core : Parser Factor
  core = do
    x ← select
    pure (factor_kind.Core x)

  abbrev pub bracketed : Parser Factor
  bracketed = do
    expect s.Open
    x ← inner
    expect s.Close
    pure (factor_kind.Nested x)

  unfoldable pub factor : Parser Factor
  factor = choose (sees s.Open) bracketed core

  unfoldable pub body : Parser (Operands (Operands Factor))
  body = operands (λ now. begins s.Union now.tokens || begins s.Except now.tokens) loose_operation (operands (sees s.Intersect) tight_operation factor)

  -- ---- queries

  unfoldable pub with_query : Parser (With Query)
  with_query = do
    x ← name
    columns ← bracketed_names
    expect s.As
    words ← materialized_words
    expect s.Open
    y ← inner
    expect s.Close
    pure (record { name = x; columns = columns; materialized = words; query = y })

  abbrev pub next_with : Parser (With Query)
  next_with = expect s.Comma >> with_query

  abbrev pub with_items : Parser (List (With Query))
  with_items = do
    expect s.With
    first ← with_query
    more ← many (sees s.Comma) next_with
    pure (first ∷ more)

  unfoldable pub with_queries : Parser (List (With Query))
  with_queries = choose (sees s.With) with_items (pure [])

  abbrev pub counted : Parser (Option (Limit Expr))
  counted = do
    x ← expr
    pure (Some (limit_kind.Count x))

  unfoldable pub limit : Parser (Option (Limit Expr))
  limit = choose (sees s.Limit) (expect s.Limit >> choose (sees s.All) (expect s.All >> pure (Some limit_kind.All)) counted) (pure None)

  abbrev pub some_offset : Parser (Option (Offset Expr))
  some_offset = do
    expect s.Offset
    x ← expr
    word ← row_words
    pure (Some (record { count = x; word = word }))

  unfoldable pub offset : Parser (Option (Offset Expr))
  offset = choose (sees s.Offset) some_offset (pure None)

  unfoldable pub query : Parser Query
  query start = (do
    ws ← with_queries
    operations ← body
    sorts ← order expr inner
    limited ← limit
    skipped ← offset
    locks ← many (sees s.For) lock
    (λ now. Some (roll-Query (record { place = here start; first = start.at; last = now.at - 1; with = ws; body = operations; order = sorts; limit = limited; offset = skipped; locks = locks }), now))) start
