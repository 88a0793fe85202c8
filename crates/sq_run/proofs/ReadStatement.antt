-- What the parser answers for the statement of a query is what the statement is read as.
use Rattle.std.proofs.Common.{◌≡◌, ℕ, List, length, Option, None, Some, Result, Ok, Err, refl, sym, ◌∙◌, ap}
use Rattle.sq_base.specs.declared.code.Code.{Code}
use Rattle.sq_base.specs.declared.code.Code.TheVariants as code
use Rattle.std.proofs.lemmas.Bool.{le-ltb, lt-ltb}
use Rattle.sq_base.specs.declared.refusal.Fault.{Fault}
use Rattle.sq_base.specs.declared.refusal.Fault.TheVariants.{Refused, Memory}
use Rattle.sq_base.specs.declared.refusal.Refusal.{Refusal}
use Rattle.sq_grammar.specs.Statements.{statements}
use Rattle.sq_grammar.specs.Whole.{whole}
use Rattle.sq_grammar.proofs.OneStatement.{statements_exactly}
use Rattle.sq_lexemes.specs.Answers.{Answers as AnswersOf, Exceeds, Readable, Refuses}
use Rattle.sq_syntax.specs.Grammar.{nesting_depth}
use Rattle.sq_syntax.specs.Statements.{IsStatement, statement_height}
use Rattle.sq_syntax.specs.declared.statement.Statement.{Statement}
use Rattle.sq_syntax.specs.declared.token.Token.{Token}
use Rattle.sq_base.specs.Answers.{Gives as Answers}
use Rattle.sq_run.specs.Parsed.{read_statement, refused, spelled}

-- tokens within the limits are read
within : (tokens : List Token) → Readable tokens → read_statement tokens ≡ spelled tokens (whole (statements 65) tokens)
unfolding read_statement
within tokens is = rw (le-ltb 16384 (length tokens) is.counted, le-ltb 64 (nesting_depth tokens) is.nested) refl

-- the statement that tokens within the limits spell is the one that is found
reads_spelled : (tokens : List Token) (x : Statement) → Readable tokens → IsStatement tokens x → read_statement tokens ≡ spelled tokens (Some x)
reads_spelled tokens x is spells = within tokens is ∙ ap (spelled tokens) ((statements_exactly 64 tokens x is.nested).1 spells)

none_found : (tokens : List Token) → Readable tokens → ((x : Statement) → IsStatement tokens x → ⊥) → read_statement tokens ≡ refused code.Syntax tokens
none_found tokens is none = within tokens is ∙ by_found (whole (statements 65) tokens) refl
  where
    by_found : (found : Option Statement) → whole (statements 65) tokens ≡ found → spelled tokens found ≡ refused code.Syntax tokens
    by_found None there = refl
    by_found (Some x) there = absurd (none x ((statements_exactly 64 tokens x is.nested).0 there))

exceeding : (tokens : List Token) (kind : Code) → Exceeds tokens kind → read_statement tokens ≡ refused kind tokens
unfolding read_statement
exceeding tokens kind (Exceeds.too_long many) = rw (lt-ltb 16384 (length tokens) many) refl
exceeding tokens kind (Exceeds.too_nested few deep) = rw (le-ltb 16384 (length tokens) few, lt-ltb 64 (nesting_depth tokens) deep) refl

refusing : (tokens : List Token) (kind : Code) → Refuses IsStatement statement_height tokens kind → read_statement tokens ≡ refused kind tokens
refusing tokens kind (Refuses.exceeds n excess) = exceeding tokens n excess
refusing tokens kind (Refuses.no_tree is none) = none_found tokens is none
refusing tokens kind (Refuses.too_deep x is spells high) = rw (reads_spelled tokens x is spells, lt-ltb 256 (statement_height x) high) refl

pub reads : (tokens : List Token) (answer : Result Statement Fault) → AnswersOf IsStatement statement_height tokens answer → Answers (read_statement tokens) answer
reads tokens (Ok x) answers = rw (reads_spelled tokens x answers.0 answers.1, le-ltb 256 (statement_height x) answers.2) refl
reads tokens (Err (Refused r)) answers = refusing tokens r.code answers.0 ∙ ap (λ (x : Refusal). Err x) (sym answers.1)
reads tokens (Err Memory) answers = tt
