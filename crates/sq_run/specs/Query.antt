-- The file of one query: its annotation, and behind it the statement.
use Rattle.std.specs.Prelude.{ℕ, ◌-◌, nat_eq, if◌then◌else◌, List, [], ◌∷◌, length, take, drop, codes, Option, None, Some}
use Rattle.std.specs.Option.{option_map}
use Rattle.std.specs.Cmp.Lexicographic.{pointwise}
use Rattle.sq_lexer.specs.Printed.{printed}
use Rattle.sq_syntax.specs.declared.token.Token.{Token}
use Rattle.sq_syntax.specs.declared.token.TokenKind.{TokenKind}
use Rattle.sq_syntax.specs.declared.token.TokenKind.TheVariants.{Note}
use Rattle.sq_run.specs.declared.query.Query.{Query}
use Rattle.sq_run.specs.Names.{is_identifier}
use Rattle.sq_plan.specs.Options.{◌>>=◌}
use Rattle.sq_run.specs.Statements.{Part, one_statement, select}

-- the rest of a text behind a front
abbrev pub behind : List ℕ → List ℕ → Option (List ℕ)
behind front text = if pointwise nat_eq (take (length front) text) front then Some (drop (length front) text) else None

-- the rest of a text before an end
abbrev pub before_end : List ℕ → List ℕ → Option (List ℕ)
before_end end text = if pointwise nat_eq (drop (length text - length end) text) end then Some (take (length text - length end) text) else None

-- a query's name
unfoldable pub query_name : List ℕ → Option (List ℕ)
query_name text = if is_identifier text then Some text else None

-- what stands in `-- name: NAME :many` (sqlc documentation, query annotations)
unfoldable pub noted_name : List ℕ → Option (List ℕ)
noted_name bytes = do
  rest ← behind (codes "-- name: ") bytes
  name ← before_end (codes " :many") rest
  query_name name

-- the name that a token annotates a query with
abbrev pub annotation : TokenKind → List ℕ → Option (List ℕ)
annotation Note bytes = noted_name bytes
annotation _ bytes = None

-- the name of the annotated query, and the tokens behind the annotation
unfoldable pub annotated : List Token → Part (List ℕ)
annotated [] = None
annotated (token ∷ tokens) = option_map (λ name. (name, tokens)) (annotation token.kind token.bytes)

-- the name of a file's one query, and its statement, which stands directly behind the annotation
unfoldable pub named_statement : List Token → Part (List ℕ)
named_statement tokens = do
  noted ← annotated tokens
  statement ← one_statement noted.1
  Some (noted.0, statement)

-- the query with this name and statement
unfoldable pub query_in : List ℕ → List Token → Option Query
query_in name statement = do
  select ← select statement
  Some (record { name = name; select = select; text = printed statement })

-- the query of a file with these tokens
unfoldable pub query_of : List Token → Option Query
query_of tokens = do
  found ← named_statement tokens
  query_in found.0 found.1
