-- What is spelled by all of the tokens is read at a depth above its own, so tokens spell one tree at most.
use Rattle.std.proofs.Common.{◌≡◌, ℕ, zero, suc, true, false, List, [], length, Some, refl, sym, ap, ◌∙◌, arith}
use Rattle.std.specs.Prelude.{◌<◌, max}
use Rattle.sq_syntax.specs.declared.query.Query.{Query}
use Rattle.sq_syntax.specs.declared.token.Token.{Token}
use Rattle.sq_syntax.specs.Facts.{Stream, Along, from}
use Rattle.sq_syntax.specs.Grammar.{tree_facts, query_facts, stream, IsExpression, IsQuery}
use Rattle.sq_grammar.specs.Levels.{Expr}
use Rattle.sq_grammar.specs.Primaries.{expression}
use Rattle.sq_grammar.specs.Whole.{Parsers, deeper, parsers, expressions, queries, whole, finished}
use Rattle.sq_grammar.proofs.Complete.{same_some, goes_on}
use Rattle.sq_grammar.proofs.Begins.{Starts, starts_negated, none_some, expression_starts}
use Rattle.sq_grammar.proofs.Lists.{Inside}
use Rattle.sq_grammar.proofs.LacksQuery.{looks}
use Rattle.sq_grammar.proofs.Unstarred.{expression_unstarred}
use Rattle.sq_grammar.proofs.Tower.{reads_expression}
use Rattle.sq_grammar.proofs.ReadsBelow.{closes, ReadsBelow}
use Rattle.sq_grammar.proofs.ReadQueries.{reads_query}

-- parsers that read what nests less deep than this
pub record ReadsBoth (d : ℕ) (p : Parsers) : Type 0 where
  pub reads : (x : Expr) (now next : Stream) → from 0 (tree_facts x).level ≡ true → (tree_facts x).depth < d → Along (tree_facts x).marks now next → goes_on 0 next ≡ false → p.expressions now ≡ Some (x, next)
  pub starts : Starts starts_negated p.expressions
  pub queries : ReadsBelow d p.queries

pub inside : (d : ℕ) (p : Parsers) → ReadsBoth d p → Inside d p.expressions p.queries
inside d p b = record { reads = b.reads; starts = b.starts; queries = λ x now next h less a stop. b.queries x now next h less a (closes next.tokens stop) }

reads_deeper : (d : ℕ) (p : Parsers) → ReadsBoth d p → ReadsBoth (suc d) (deeper p)
reads_deeper d p b =
    let here = reads_expression d p.expressions p.queries (inside d p b) looks in
    let starts = expression_starts p.expressions p.queries in
    record {
      reads = λ x now next h less a stop. here.reads x now next h (omega (arith, less)) a stop;
      starts = starts;
      queries = reads_query d (expression p.expressions p.queries) p.queries here starts (expression_unstarred p.expressions p.queries b.starts) b.queries;
    }

pub reads_at : (d : ℕ) → ReadsBoth d (parsers d)
unfolding parsers
reads_at zero = record {
  reads = λ x now next h less a stop. absurd (omega (arith, less));
  starts = λ now next x h. absurd (none_some h);
  queries = λ x now next h less a stop. absurd (omega (arith, less));
}
reads_at (suc d) = reads_deeper d (parsers d) (reads_at d)

-- ---- all of the tokens

pub reads_expression_of : (d : ℕ) (tokens : List Token) (x : Expr) → IsExpression tokens x → (tree_facts x).depth < d → whole (expressions d) tokens ≡ Some x
unfolding whole
reads_expression_of d tokens x h less = ap finished ((reads_at d).reads x (stream 0 tokens) (stream (length tokens) []) h.1 less h.0 refl)

pub reads_query_of : (d : ℕ) (tokens : List Token) (x : Query) → IsQuery tokens x → (query_facts x).depth < d → whole (queries d) tokens ≡ Some x
unfolding whole
reads_query_of d tokens x h less = ap finished ((reads_at d).queries x (stream 0 tokens) (stream (length tokens) []) h.1 less h.0 refl)

-- all of the tokens spell one expression at most, with its places and numbers
pub one_expression : (tokens : List Token) (x y : Expr) → IsExpression tokens x → IsExpression tokens y → x ≡ y
one_expression tokens x y a b =
    let d = suc (max (tree_facts x).depth (tree_facts y).depth) in
    same_some (sym (reads_expression_of d tokens x a (omega arith)) ∙ reads_expression_of d tokens y b (omega arith))

-- all of the tokens spell one query at most, with its places and numbers
pub one_query : (tokens : List Token) (x y : Query) → IsQuery tokens x → IsQuery tokens y → x ≡ y
one_query tokens x y a b =
    let d = suc (max (query_facts x).depth (query_facts y).depth) in
    same_some (sym (reads_query_of d tokens x a (omega arith)) ∙ reads_query_of d tokens y b (omega arith))
