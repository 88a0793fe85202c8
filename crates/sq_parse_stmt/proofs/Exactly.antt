-- What is read of the tokens is what they spell.
use Rattle.std.proofs.Common.{◌≡◌, ◌≢◌, ◌≤◌, ◌<◌, ◌∙◌, sym, refl, ap, arith, ℕ, List, map, min, Option, None, Some, Result, Err}
use Rattle.std.proofs.Math.Nat.{min-le_left}
use Rattle.sq_base.specs.declared.refusal.Fault.{Fault}
use Rattle.sq_syntax.specs.declared.statement.Statement.{Statement}
use Rattle.sq_syntax.specs.declared.token.Token.{Token}
use Rattle.sq_syntax.specs.Statements.{IsStatement}
use Rattle.sq_syntax.specs.Symbols.{lexeme}
use Rattle.sq_grammar.specs.Statements.{statements}
use Rattle.sq_grammar.specs.Whole.{whole as whole_tokens}
use Rattle.sq_grammar.proofs.OneStatement.{statements_exactly}
use Rattle.sq_lexemes.specs.declared.error.ParseError.{ParseError}
use Rattle.sq_lexemes.specs.declared.error.ParseError.TheVariants.{Memory, Syntax}
use Rattle.sq_lexemes.specs.Reads.{Finds}
use Rattle.sq_lexemes.specs.Whole.{whole}
use Rattle.sq_lexemes.specs.Answers.{Answers, Prepares, Readable, Refuses}

-- ---- statements

same_whole_statement : (p : _) (tokens : List Token) → whole_tokens {A = Statement} p tokens ≡ whole p (map lexeme tokens)
unfolding whole_tokens
same_whole_statement p tokens = refl

pub statement_found : (tokens : List Token) (x : Statement) → Readable tokens → whole (statements 65) (map lexeme tokens) ≡ Some x → IsStatement tokens x
statement_found tokens x h found = (statements_exactly 64 tokens x h.nested).0 (same_whole_statement (statements 65) tokens ∙ found)

pub no_statement : (tokens : List Token) → Readable tokens → whole (statements 65) (map lexeme tokens) ≡ None → (x : Statement) → IsStatement tokens x → ⊥
no_statement tokens h none x is =
    let found = (statements_exactly 64 tokens x h.nested).1 is in
    let p : None ≡ Some x = sym none ∙ (sym (same_whole_statement (statements 65) tokens) ∙ found) in
    cc

-- ---- heights that are counted up to a bound

pub low : {A : Type 0} (height : A → ℕ) (r : ℕ) (x y : A) → x ≡ y → r ≡ min (height x) 4294967295 → r ≤ 256 → height y ≤ 256
low height r x y one same h = omega (arith, ap height one, same, h)

pub tall : {A : Type 0} (height : A → ℕ) (r : ℕ) (x y : A) → x ≡ y → r ≡ min (height x) 4294967295 → 256 < r → 256 < height y
tall height r x y one same h = omega (arith, ap height one, same, h, min-le_left (height x) 4294967295)

-- ---- refusals

pub unprepared : {A : Type 0} (Is : List Token → A → Type 0) (height : A → ℕ) (tokens : List Token) (fault : Fault) → Prepares tokens (Err fault) → Answers Is height tokens (Err fault)
unprepared Is height tokens Fault.Memory h = h
unprepared Is height tokens (Fault.Refused r) h = (Refuses.exceeds r.code h.0, h.1)

differ : Syntax ≢ Memory
differ h = cc

pub not_found : {A : Type 0} (found : Option A) (r : Result A ParseError) (e : ParseError) → Finds found r → r ≡ Err e → e ≡ Syntax → found ≡ None
not_found found r e h is same =
    let one = rw is at h in
    let two = rw same at one in
    two differ
