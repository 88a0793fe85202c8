-- What the parser answers for a schema statement is what the statement is read as.
use Rattle.std.proofs.Common.{◌≡◌, ℕ, List, length, Option, None, Some, Result, Ok, Err, refl, sym, ◌∙◌, ap, arith}
use Rattle.std.proofs.lemmas.Bool.{le-ltb, lt-ltb}
use Rattle.sq_base.specs.declared.refusal.Fault.{Fault}
use Rattle.sq_base.specs.declared.refusal.Fault.TheVariants.{Refused, Memory}
use Rattle.sq_base.specs.declared.refusal.Refusal.{Refusal}
use Rattle.sq_grammar.specs.Schemas.{ddl}
use Rattle.sq_grammar.specs.Whole.{whole}
use Rattle.sq_grammar.proofs.OneDdl.{ddl_exactly}
use Rattle.sq_lexemes.specs.Answers.{Exceeds, Readable, Refuses, first_place}
use Rattle.sq_parse_ddl.specs.Answers.{AnswersDdl, IsKept, no_height}
use Rattle.sq_syntax.specs.Grammar.{nesting_depth}
use Rattle.sq_syntax.specs.Schemas.{IsDdl}
use Rattle.sq_base.specs.Refusals as refusals
use Rattle.sq_base.specs.declared.code.Code.{Code}
use Rattle.sq_base.specs.declared.code.Code.TheVariants as code
use Rattle.sq_syntax.specs.declared.ddl.Ddl.{Ddl}
use Rattle.sq_syntax.specs.declared.token.Token.{Token}
use Rattle.sq_base.specs.Answers.{Gives as Answers}
use Rattle.sq_run.specs.Schema.{read_ddl, read_within, spelled}

-- tokens within the limits are read
readable : (tokens : List Token) → Readable tokens → read_within tokens ≡ spelled tokens (whole ddl tokens)
readable tokens is = rw (le-ltb 16384 (length tokens) is.counted, le-ltb 64 (nesting_depth tokens) is.nested) refl

none_spelled : (tokens : List Token) → ((x : Ddl) → IsDdl tokens x → ⊥) → spelled tokens (whole ddl tokens) ≡ Err (refusals.refused code.Syntax (first_place tokens))
none_spelled tokens none = by_read (whole ddl tokens) refl
  where
    by_read : (read : Option Ddl) → whole ddl tokens ≡ read → spelled tokens read ≡ Err (refusals.refused code.Syntax (first_place tokens))
    by_read None is = refl
    by_read (Some x) is = absurd (none x ((ddl_exactly tokens x).0 is))

exceeding : (tokens : List Token) (kind : Code) → Exceeds tokens kind → read_within tokens ≡ Err (refusals.refused kind (first_place tokens))
exceeding tokens kind (Exceeds.too_long many) = rw (lt-ltb 16384 (length tokens) many) refl
exceeding tokens kind (Exceeds.too_nested few deep) = rw (le-ltb 16384 (length tokens) few, lt-ltb 64 (nesting_depth tokens) deep) refl

refused : (tokens : List Token) (kind : Code) → Refuses IsDdl no_height tokens kind → read_within tokens ≡ Err (refusals.refused kind (first_place tokens))
refused tokens kind (Refuses.exceeds n excess) = exceeding tokens n excess
refused tokens kind (Refuses.no_tree is none) = readable tokens is ∙ none_spelled tokens none
refused tokens kind (Refuses.too_deep x is spells high) = absurd (omega (arith, high))

kept : (tokens : List Token) (answer : Result (Option Ddl) Refusal) → IsKept tokens → read_within tokens ≡ answer → read_ddl tokens ≡ answer
unfolding read_ddl
kept tokens answer is same = rw is same

pub reads : (tokens : List Token) (answer : Result (Option Ddl) Fault) → AnswersDdl tokens answer → Answers (read_ddl tokens) answer
unfolding read_ddl
reads tokens (Ok None) passed = rw passed refl
reads tokens (Ok (Some x)) answers = kept tokens (Ok (Some x)) answers.0 (readable tokens answers.1.0 ∙ ap (spelled tokens) ((ddl_exactly tokens x).1 answers.1.1))
reads tokens (Err (Refused r)) answers = kept tokens (Err r) answers.0 (refused tokens r.code answers.1.0 ∙ ap (λ (x : Refusal). Err x) (sym answers.1.1))
reads tokens (Err Memory) answers = tt
