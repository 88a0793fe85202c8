-- What is read of all tokens is exactly the statement that they spell, and tokens spell one statement at most.
use Rattle.std.proofs.Common.{◌≡◌, ℕ, zero, suc, ◌≤◌, List, [], length, Some, refl, sym, ap, ◌∙◌, arith}
use Rattle.std.specs.Prelude.{◌<◌, ◌↔◌, max}
use Rattle.sq_syntax.specs.declared.statement.Statement.{Statement}
use Rattle.sq_syntax.specs.declared.token.Token.{Token}
use Rattle.sq_syntax.specs.Grammar.{stream, nesting_depth}
use Rattle.sq_syntax.specs.Statements.{statement_facts, IsStatement}
use Rattle.sq_grammar.specs.Primaries.{expression}
use Rattle.sq_grammar.specs.Whole.{parsers, whole, finished}
use Rattle.sq_grammar.specs.Statements.{over, statements}
use Rattle.sq_grammar.proofs.Complete.{same_some}
use Rattle.sq_grammar.proofs.Begins.{expression_starts, none_some}
use Rattle.sq_grammar.proofs.LacksQuery.{looks}
use Rattle.sq_grammar.proofs.Unstarred.{expression_unstarred}
use Rattle.sq_grammar.proofs.Unreserved.{expression_unreserved}
use Rattle.sq_grammar.proofs.Tower.{reads_expression}
use Rattle.sq_grammar.proofs.OneTree.{inside, reads_at}
use Rattle.sq_grammar.proofs.ReadStatements.{statement_read}
use Rattle.sq_grammar.proofs.Takes.{spells}
use Rattle.sq_grammar.proofs.TakeWhole.{lexed, spells_query, takes_expression, takes_at, finished_at, at_end}
use Rattle.sq_grammar.proofs.TakeStatements.{statement_took}
use Rattle.sq_grammar.proofs.NestStatements.{statement_depth}

reads_statement_of : (d : ℕ) (tokens : List Token) (x : Statement) → IsStatement tokens x → (statement_facts x).depth < d → whole (statements d) tokens ≡ Some x
unfolding whole statements
reads_statement_of zero tokens x h less = absurd (omega (arith, less))
reads_statement_of (suc d) tokens x h less =
    let parts = parsers d in
    let b = reads_at d in
    let here = reads_expression d parts.expressions parts.queries (inside d parts b) looks in
    ap finished
    (statement_read (expression parts.expressions parts.queries) parts.queries d (λ y u v level le along ends. here.reads y u v level le along ends) (expression_starts parts.expressions parts.queries)
    (expression_unreserved parts.expressions parts.queries) (expression_unstarred parts.expressions parts.queries b.starts) b.queries x (stream 0 tokens) (stream (length tokens) []) h.1 (omega (arith, less)) h.0 refl)

-- what is read of all the tokens is a statement of them
take_statement : (d : ℕ) (tokens : List Token) (x : Statement) → whole (statements d) tokens ≡ Some x → IsStatement tokens x
unfolding whole statements
take_statement zero tokens x h = absurd (none_some h)
take_statement (suc d) tokens x h =
    let parts = parsers d in
    let t = takes_at d in
    let f = finished_at (over parts (stream 0 tokens)) x h in
    let took = statement_took (expression parts.expressions parts.queries) parts.queries (spells 0 (expression parts.expressions parts.queries) (takes_expression parts.expressions parts.queries t.expressions t.queries))
    (spells_query parts.queries t.queries) (stream 0 tokens) f.0 x (lexed tokens) f.1 in
    (at_end tokens (statement_facts x).marks f.0 f.2 took.1, took.0)

read_statement : (d : ℕ) (tokens : List Token) (x : Statement) → nesting_depth tokens ≤ d → IsStatement tokens x → whole (statements (suc d)) tokens ≡ Some x
read_statement d tokens x le h = reads_statement_of (suc d) tokens x h (omega (arith, le, statement_depth tokens x h))

pub statements_exactly : (d : ℕ) (tokens : List Token) (x : Statement) → nesting_depth tokens ≤ d → (whole (statements (suc d)) tokens ≡ Some x) ↔ IsStatement tokens x
statements_exactly d tokens x le = (take_statement (suc d) tokens x, read_statement d tokens x le)

-- all of the tokens spell one statement at most, with its places and numbers
pub one_statement : (tokens : List Token) (x y : Statement) → IsStatement tokens x → IsStatement tokens y → x ≡ y
one_statement tokens x y a b =
    let d = suc (max (statement_facts x).depth (statement_facts y).depth) in
    same_some (sym (reads_statement_of d tokens x a (omega arith)) ∙ reads_statement_of d tokens y b (omega arith))
