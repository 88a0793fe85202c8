-- Parts of the parser of changes of data under names of their own.
use Rattle.std.specs.Prelude.{◌-◌, Bool, true, false, codes, List, Option, Some, None}
use Rattle.sq_syntax.specs.declared.symbol.Symbol.TheVariants as s
use Rattle.sq_syntax.specs.declared.query.Query.{Query}
use Rattle.sq_syntax.specs.declared.query.With.{With}
use Rattle.sq_syntax.specs.declared.statement.Assignment.{Assignment}
use Rattle.sq_syntax.specs.declared.statement.Given.{Given}
use Rattle.sq_syntax.specs.declared.statement.Statement.{Statement}
use Rattle.sq_syntax.specs.declared.statement.Statement.TheVariants as statement_kind
use Rattle.sq_syntax.specs.declared.statement.TableAlias.{TableAlias}
use Rattle.sq_syntax.specs.declared.statement.ValuesRow.{ValuesRow}
use Rattle.sq_syntax.specs.Facts.{Stream}
use Rattle.sq_grammar.specs.Reading.{Parser, ◌>>=◌, ◌>>◌, pure, choose, sees, expect, here}
use Rattle.sq_grammar.specs.Levels.{Expr}
use Rattle.sq_grammar.specs.Names.{name, qualified_name}
use Rattle.sq_grammar.specs.Queries.{bare_name, begins_label, clause}
use Rattle.sq_grammar.specs.Statements as spec
use Rattle.sq_grammar.specs.Statements.{as_name, begins_unset, columns, expect_word, table_alias}

-- the name of a table, where AS or such a name comes next
abbrev pub alias_where : Bool → Parser (Option TableAlias)
alias_where is_named = choose (sees s.As) (expect s.As >> spec.called true name) (choose (λ now. is_named) (spec.called false bare_name) (pure None))

module _ (expr : Parser Expr) (inner : Parser Query) where
  -- ---- what stands behind a comma

  abbrev pub next_given : Parser Given
  next_given = expect s.Comma >> spec.given expr inner

  abbrev pub next_row : Parser ValuesRow
  next_row = expect s.Comma >> spec.values_row expr inner

  abbrev pub next_assignment : Parser Assignment
  next_assignment = expect s.Comma >> spec.assignment expr inner

  -- ---- statements that begin there, behind their queries of WITH

  abbrev pub insert_behind : Stream → List (With Query) → Parser Statement
  insert_behind start ws = do
    expect_word (codes "insert")
    expect_word (codes "into")
    table ← qualified_name
    alias ← as_name
    names ← columns
    found ← spec.source expr inner
    action ← spec.conflict expr inner
    outputs ← spec.returning expr inner
    (λ now. Some (statement_kind.Insert (record { place = here start; first = start.at; last = now.at - 1; with = ws; table = table; alias = alias; columns = names; source = found; conflict = action; returning = outputs }), now))

  abbrev pub update_behind : Stream → List (With Query) → Parser Statement
  update_behind start ws = do
    expect s.Update
    table ← qualified_name
    alias ← table_alias begins_unset
    sets ← spec.assignments expr inner
    from ← spec.sources expr inner s.From
    where_condition ← clause expr inner s.Where
    outputs ← spec.returning expr inner
    (λ now. Some (statement_kind.Update (record { place = here start; first = start.at; last = now.at - 1; with = ws; table = table; alias = alias; sets = sets; from = from; condition = where_condition; returning = outputs }), now))

  abbrev pub delete_behind : Stream → List (With Query) → Parser Statement
  delete_behind start ws = do
    expect_word (codes "delete")
    expect s.From
    table ← qualified_name
    alias ← table_alias begins_label
    using ← spec.sources expr inner s.Using
    where_condition ← clause expr inner s.Where
    outputs ← spec.returning expr inner
    (λ now. Some (statement_kind.Delete (record { place = here start; first = start.at; last = now.at - 1; with = ws; table = table; alias = alias; using = using; condition = where_condition; returning = outputs }), now))
