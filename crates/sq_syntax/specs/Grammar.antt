-- Every tree: its facts, how it is spelled, whether it is well levelled, and the measures of tokens and trees.
use Rattle.std.specs.Prelude.{◌≡◌, ℕ, Bool, true, List, [], length, map}
use Rattle.sq_syntax.specs.declared.symbol.Reading.{Reading}
use Rattle.sq_syntax.specs.declared.token.Token.{Token}
use Rattle.sq_syntax.specs.declared.expr.Node.{Node}
use Rattle.sq_syntax.specs.Symbols.{lexeme}
use Rattle.sq_base.specs.declared.place.Place.{Place}
use Rattle.sq_syntax.specs.declared.expr.Expression.{Expression}
use Rattle.sq_syntax.specs.declared.expr.Expression.TheFolds.{fold-Expression, fold-Factor, fold-Join, fold-Source, fold-From, fold-Query, fold-Select}
use Rattle.sq_syntax.specs.declared.query.Query.{Query}
use Rattle.sq_syntax.specs.declared.query.From.{From}
use Rattle.sq_syntax.specs.declared.query.Join.{Join}
use Rattle.sq_syntax.specs.declared.query.Source.{Source}
use Rattle.sq_syntax.specs.Facts.{Facts, Stream, Along, readings, depth_before, numbered, from as at_level}
use Rattle.sq_syntax.specs.declared.query.Factor.{Factor}
use Rattle.sq_syntax.specs.declared.query.Select.{Select}
use Rattle.sq_syntax.specs.Pieces.{Placed}
use Rattle.sq_syntax.specs.ExpressionPieces.{expression_layer}
use Rattle.sq_syntax.specs.QueryPieces.{source_layer, join_layer, from_layer, select_layer, factor_layer, query_layer}

unfoldable pub expression_facts : Expression → Place → Facts
expression_facts = fold-Expression Placed Facts Facts Facts Facts Facts Facts expression_layer factor_layer join_layer source_layer from_layer query_layer select_layer

unfoldable pub factor_facts : Factor → Facts
factor_facts = fold-Factor Placed Facts Facts Facts Facts Facts Facts expression_layer factor_layer join_layer source_layer from_layer query_layer select_layer

unfoldable pub join_facts : Join → Facts
join_facts = fold-Join Placed Facts Facts Facts Facts Facts Facts expression_layer factor_layer join_layer source_layer from_layer query_layer select_layer

unfoldable pub source_facts : Source → Facts
source_facts = fold-Source Placed Facts Facts Facts Facts Facts Facts expression_layer factor_layer join_layer source_layer from_layer query_layer select_layer

unfoldable pub from_facts : From → Facts
from_facts = fold-From Placed Facts Facts Facts Facts Facts Facts expression_layer factor_layer join_layer source_layer from_layer query_layer select_layer

unfoldable pub query_facts : Query → Facts
query_facts = fold-Query Placed Facts Facts Facts Facts Facts Facts expression_layer factor_layer join_layer source_layer from_layer query_layer select_layer

unfoldable pub select_facts : Select → Facts
select_facts = fold-Select Placed Facts Facts Facts Facts Facts Facts expression_layer factor_layer join_layer source_layer from_layer query_layer select_layer

-- ---- trees and the tokens that are spelled so

abbrev pub tree_facts : Node Expression → Facts
tree_facts x = numbered x.first x.last (expression_facts x.form x.place)

-- the readings of an expression's tokens
abbrev pub spelled : Node Expression → List Reading
spelled x = readings (tree_facts x).marks

-- each operand stands at a level that is allowed there, and each condition of the grammar holds
abbrev pub well_levelled : Node Expression → Bool
well_levelled x = at_level 0 (tree_facts x).level

abbrev pub spelled_query : Query → List Reading
spelled_query x = readings (query_facts x).marks

abbrev pub well_levelled_query : Query → Bool
well_levelled_query x = at_level 0 (query_facts x).level

-- the tokens from a number on
abbrev pub stream : ℕ → List Token → Stream
stream n tokens = record { at = n; tokens = map lexeme tokens }

-- the expression is spelled by all of the tokens, has their places and numbers, and is well levelled
abbrev pub IsExpression : List Token → Node Expression → Type 0
IsExpression tokens x = Along (tree_facts x).marks (stream 0 tokens) (stream (length tokens) []) × (well_levelled x ≡ true)

-- the query is spelled by all of the tokens, has their places and numbers, and is well levelled
abbrev pub IsQuery : List Token → Query → Type 0
IsQuery tokens x = Along (query_facts x).marks (stream 0 tokens) (stream (length tokens) []) × (well_levelled_query x ≡ true)

-- ---- measures

abbrev pub token_count : List Token → ℕ
token_count tokens = length tokens

-- the greatest difference, over the fronts of the list, between the number of `(`, `[` and CASE and the number of `)`, `]` and END
abbrev pub nesting_depth : List Token → ℕ
nesting_depth tokens = depth_before (map (λ token. (lexeme token).reading) tokens) 0

abbrev pub height : Node Expression → ℕ
height x = (tree_facts x).height

abbrev pub query_height : Query → ℕ
query_height x = (query_facts x).height

abbrev pub from_height : From → ℕ
from_height x = (from_facts x).height
