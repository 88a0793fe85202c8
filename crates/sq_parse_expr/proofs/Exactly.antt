-- What is read to the greatest depth answers for the tokens.
use Rattle.std.proofs.Common.{◌≡◌, ◌≢◌, ℕ, ◌≤◌, ◌<◌, ◌∙◌, refl, sym, ap, arith, List, map, min, Option, None, Some, Result, Err}
use Rattle.std.proofs.Math.Nat.{min-le_left}
use Rattle.sq_syntax.specs.declared.query.Query.{Query}
use Rattle.sq_syntax.specs.declared.token.Token.{Token}
use Rattle.sq_syntax.specs.Grammar.{IsExpression, IsQuery}
use Rattle.sq_syntax.specs.Symbols.{lexeme}
use Rattle.sq_grammar.specs.Levels.{Expr}
use Rattle.sq_grammar.specs.Whole.{expressions, queries, whole as whole_tokens}
use Rattle.sq_grammar.proofs.Exact.{expressions_exactly, queries_exactly}
use Rattle.sq_base.specs.declared.refusal.Fault.{Fault}
use Rattle.sq_lexemes.specs.declared.error.ParseError.{ParseError}
use Rattle.sq_lexemes.specs.declared.error.ParseError.TheVariants.{Memory, Syntax}
use Rattle.sq_lexemes.specs.Answers.{Answers, Prepares, Readable, Refuses}
use Rattle.sq_lexemes.specs.Reads.{Finds}
use Rattle.sq_lexemes.specs.Whole.{whole}

-- ---- expressions

same_whole : (p : _) (tokens : List Token) → whole_tokens {A = Expr} p tokens ≡ whole p (map lexeme tokens)
unfolding whole_tokens
same_whole p tokens = refl

pub expression_found : (tokens : List Token) (x : Expr) → Readable tokens → whole (expressions 65) (map lexeme tokens) ≡ Some x → IsExpression tokens x
expression_found tokens x h found = (expressions_exactly 64 tokens x h.nested).0 (same_whole (expressions 65) tokens ∙ found)

pub no_expression : (tokens : List Token) → Readable tokens → whole (expressions 65) (map lexeme tokens) ≡ None → (x : Expr) → IsExpression tokens x → ⊥
no_expression tokens h none x is =
    let found = (expressions_exactly 64 tokens x h.nested).1 is in
    let p : None ≡ Some x = sym none ∙ (sym (same_whole (expressions 65) tokens) ∙ found) in
    cc

-- ---- queries

same_whole_query : (p : _) (tokens : List Token) → whole_tokens {A = Query} p tokens ≡ whole p (map lexeme tokens)
unfolding whole_tokens
same_whole_query p tokens = refl

pub query_found : (tokens : List Token) (x : Query) → Readable tokens → whole (queries 65) (map lexeme tokens) ≡ Some x → IsQuery tokens x
query_found tokens x h found = (queries_exactly 64 tokens x h.nested).0 (same_whole_query (queries 65) tokens ∙ found)

pub no_query : (tokens : List Token) → Readable tokens → whole (queries 65) (map lexeme tokens) ≡ None → (x : Query) → IsQuery tokens x → ⊥
no_query tokens h none x is =
    let found = (queries_exactly 64 tokens x h.nested).1 is in
    let p : None ≡ Some x = sym none ∙ (sym (same_whole_query (queries 65) tokens) ∙ found) in
    cc

-- ---- heights that are counted up to a bound

pub not_high : (n : ℕ) → min n 4294967295 ≤ 256 → n ≤ 256
not_high n h = omega (arith, h)

pub high : (n : ℕ) → 256 < min n 4294967295 → 256 < n
high n h = omega (arith, h, min-le_left n 4294967295)

pub low : {A : Type 0} (height : A → ℕ) (r : ℕ) (x y : A) → x ≡ y → r ≡ min (height x) 4294967295 → r ≤ 256 → height y ≤ 256
low height r x y one same h = omega (arith, ap height one, same, h)

pub tall : {A : Type 0} (height : A → ℕ) (r : ℕ) (x y : A) → x ≡ y → r ≡ min (height x) 4294967295 → 256 < r → 256 < height y
tall height r x y one same h = omega (arith, ap height one, same, h, min-le_left (height x) 4294967295)

-- ---- refusals

pub unprepared : {A : Type 0} (Is : List Token → A → Type 0) (height : A → ℕ) (tokens : List Token) (fault : Fault) → Prepares tokens (Err fault) → Answers Is height tokens (Err fault)
unprepared Is height tokens Fault.Memory h = h
unprepared Is height tokens (Fault.Refused r) h = (Refuses.exceeds r.code h.0, h.1)

differ : Syntax ≢ Memory
differ h = cc

pub unread : {A : Type 0} (found : Option A) (r : Result A ParseError) (e : ParseError) → Finds found r → r ≡ Err e → e ≡ Syntax → found ≡ None
unread found r e h is same =
    let one = rw is at h in
    let two = rw same at one in
    two differ
