-- What is read of all tokens, to a depth above theirs, is exactly what they spell.
use Rattle.std.proofs.Common.{◌≡◌, ℕ, suc, ◌≤◌, List, Some, arith}
use Rattle.std.specs.Prelude.{◌↔◌}
use Rattle.sq_syntax.specs.declared.query.Query.{Query}
use Rattle.sq_syntax.specs.declared.token.Token.{Token}
use Rattle.sq_syntax.specs.Grammar.{nesting_depth, IsExpression, IsQuery}
use Rattle.sq_grammar.specs.Levels.{Expr}
use Rattle.sq_grammar.specs.Whole.{expressions, queries, whole}
use Rattle.sq_grammar.proofs.Nesting.{expression_depth, query_depth}
use Rattle.sq_grammar.proofs.OneTree.{reads_expression_of, reads_query_of}
use Rattle.sq_grammar.proofs.TakeWhole.{take_whole, take_whole_query}

pub read_whole : (d : ℕ) (tokens : List Token) (x : Expr) → nesting_depth tokens ≤ d → IsExpression tokens x → whole (expressions (suc d)) tokens ≡ Some x
read_whole d tokens x le h = reads_expression_of (suc d) tokens x h (omega (arith, le, expression_depth tokens x h))

pub read_whole_query : (d : ℕ) (tokens : List Token) (x : Query) → nesting_depth tokens ≤ d → IsQuery tokens x → whole (queries (suc d)) tokens ≡ Some x
read_whole_query d tokens x le h = reads_query_of (suc d) tokens x h (omega (arith, le, query_depth tokens x h))

pub expressions_exactly : (d : ℕ) (tokens : List Token) (x : Expr) → nesting_depth tokens ≤ d → (whole (expressions (suc d)) tokens ≡ Some x) ↔ IsExpression tokens x
expressions_exactly d tokens x le = (take_whole (suc d) tokens x, read_whole d tokens x le)

pub queries_exactly : (d : ℕ) (tokens : List Token) (x : Query) → nesting_depth tokens ≤ d → (whole (queries (suc d)) tokens ≡ Some x) ↔ IsQuery tokens x
queries_exactly d tokens x le = (take_whole_query (suc d) tokens x, read_whole_query d tokens x le)
