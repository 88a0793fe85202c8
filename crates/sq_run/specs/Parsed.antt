-- The statement that the tokens of a query spell.
use Rattle.std.specs.Prelude.{ℕ, nat_lt, if◌then◌else◌, List, length, Option, None, Some, Result, Ok, Err}
use Rattle.sq_base.specs.Refusals as refusals
use Rattle.sq_base.specs.declared.code.Code.{Code}
use Rattle.sq_base.specs.declared.code.Code.TheVariants as code
use Rattle.sq_base.specs.declared.limits.TheConstants.{MOST_TOKENS, MOST_DEPTH, MOST_HEIGHT}
use Rattle.sq_base.specs.declared.refusal.Refusal.{Refusal}
use Rattle.sq_grammar.specs.Statements.{statements}
use Rattle.sq_grammar.specs.Whole.{whole}
use Rattle.sq_lexemes.specs.Answers.{first_place}
use Rattle.sq_syntax.specs.Grammar.{nesting_depth}
use Rattle.sq_syntax.specs.Statements.{statement_height}
use Rattle.sq_syntax.specs.declared.statement.Statement.{Statement}
use Rattle.sq_syntax.specs.declared.token.Token.{Token}

-- a refusal at the first token
abbrev pub refused : {A : Type 0} → Code → List Token → Result A Refusal
refused code tokens = Err (refusals.refused code (first_place tokens))

-- the statement that was read, or the refusal of tokens that spell none, or one whose tree is too high
abbrev pub spelled : List Token → Option Statement → Result Statement Refusal
spelled tokens None = refused code.Syntax tokens
spelled tokens (Some statement) = if nat_lt MOST_HEIGHT (statement_height statement) then refused code.TooDeep tokens else Ok statement

-- the statement that tokens spell, where they are not too many (4) and do not nest too deep (5)
unfoldable pub read_statement : List Token → Result Statement Refusal
read_statement tokens =
    if nat_lt MOST_TOKENS (length tokens) then refused code.TooLong tokens
    else (if nat_lt MOST_DEPTH (nesting_depth tokens) then refused code.TooNested tokens else spelled tokens (whole (statements 65) tokens))

abbrev pub without_tree : Result Statement Refusal → Result (Unit {0}) Refusal
without_tree (Ok statement) = Ok tt
without_tree (Err refused) = Err refused

-- the check of a statement: nothing where tokens spell one, or their refusal
abbrev pub statement_check : List Token → Result (Unit {0}) Refusal
statement_check tokens = without_tree (read_statement tokens)
