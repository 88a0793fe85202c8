-- Expressions and queries, read to a depth of brackets and CASE, and where they are all of the tokens.
use Rattle.std.specs.Prelude.{ℕ, zero, suc, List, [], ◌∷◌, Option, Some, None}
use Rattle.sq_syntax.specs.declared.symbol.Lexeme.{Lexeme}
use Rattle.sq_syntax.specs.declared.query.Query.{Query}
use Rattle.sq_syntax.specs.declared.token.Token.{Token}
use Rattle.sq_syntax.specs.Grammar.{stream}
use Rattle.sq_grammar.specs.Reading.{Outcome, Parser, fail}
use Rattle.sq_grammar.specs.Levels.{Expr}
use Rattle.sq_grammar.specs.Primaries.{expression}
use Rattle.sq_grammar.specs.Queries.{query}

pub record Parsers : Type 0 where
  pub expressions : Parser Expr
  pub queries : Parser Query

abbrev pub deeper : Parsers → Parsers
deeper p = record { expressions = expression p.expressions p.queries; queries = query (expression p.expressions p.queries) p.queries }

-- the parsers of what nests less deep than this
unfoldable pub parsers : ℕ → Parsers
parsers zero = record { expressions = fail; queries = fail }
parsers (suc depth) = deeper (parsers depth)

abbrev pub expressions : ℕ → Parser Expr
expressions depth = (parsers depth).expressions

abbrev pub queries : ℕ → Parser Query
queries depth = (parsers depth).queries

-- ---- all of the tokens

abbrev pub where_none_is_left : {A : Type 0} → A → List Lexeme → Option A
where_none_is_left x [] = Some x
where_none_is_left x (y ∷ rest) = None

abbrev pub finished : {A : Type 0} → Outcome A → Option A
finished None = None
finished (Some p) = where_none_is_left p.0 p.1.tokens

-- what is read of the tokens, where none of them is left over
unfoldable pub whole : {A : Type 0} → Parser A → List Token → Option A
whole p tokens = finished (p (stream 0 tokens))
