-- What is answered for a schema statement.
use Rattle.std.specs.Prelude.{◌≡◌, ℕ, true, false, List, map, Option, Some, None, Result, Ok, Err}
use Rattle.sq_base.specs.declared.refusal.Fault.{Fault}
use Rattle.sq_base.specs.declared.refusal.Fault.TheVariants.{Refused, Memory}
use Rattle.sq_syntax.specs.declared.ddl.Ddl.{Ddl}
use Rattle.sq_syntax.specs.declared.token.Token.{Token}
use Rattle.sq_syntax.specs.Schemas.{IsDdl}
use Rattle.sq_syntax.specs.Symbols.{lexeme}
use Rattle.sq_lexemes.specs.Answers.{Answers}
use Rattle.sq_parse_ddl.specs.PassedOver.{passed_over}

-- schema statements hold no trees of expressions
abbrev pub no_height : Ddl → ℕ
no_height x = 0

abbrev pub IsPassed : List Token → Type 0
IsPassed tokens = passed_over (map lexeme tokens) ≡ true

abbrev pub IsKept : List Token → Type 0
IsKept tokens = passed_over (map lexeme tokens) ≡ false

-- None exactly for what is passed over; else the tree, or the refusal at the first token, or want of memory
abbrev pub AnswersDdl : List Token → Result (Option Ddl) Fault → Type 0
AnswersDdl tokens (Ok None) = IsPassed tokens
AnswersDdl tokens (Ok (Some x)) = IsKept tokens × Answers IsDdl no_height tokens (Ok x)
AnswersDdl tokens (Err Memory) = Unit {0}
AnswersDdl tokens (Err (Refused r)) = IsKept tokens × Answers IsDdl no_height tokens (Err (Refused r))
