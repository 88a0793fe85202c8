-- Parsers of a depth over those of the depth below.
use Rattle.std.proofs.Common.{◌≡◌, ℕ, zero, suc, ◌<◌, ◌-◌, None, refl, ap, arith}
use Rattle.sq_syntax.specs.declared.query.Query.{Query}
use Rattle.sq_syntax.specs.Facts.{Stream}
use Rattle.sq_grammar.specs.Reading.{Parser}
use Rattle.sq_grammar.specs.Levels.{Expr}
use Rattle.sq_grammar.specs.Queries.{from_at, from_over, query}
use Rattle.sq_grammar.specs.Whole.{parsers, expressions, queries}
use Rattle.sq_parse_expr.specs.Depth.{outer}
pub use Rattle.sq_lexemes.proofs.Ends.{last_some, last_none}

pub from_none : (expr : Parser Expr) (inner : Parser Query) (n : ℕ) (now : Stream) → n ≡ 0 → from_at expr inner n now ≡ None
unfolding from_at
from_none expr inner zero now h = refl
from_none expr inner (suc n) now h = absurd (omega arith)

pub from_some : (expr : Parser Expr) (inner : Parser Query) (n : ℕ) (now : Stream) → 0 < n → from_at expr inner n now ≡ from_over expr inner (from_at expr inner (n - 1)) now
unfolding from_at
from_some expr inner zero now h = absurd (omega arith)
from_some expr inner (suc n) now h =
    let same : n ≡ suc n - 1 = omega arith in
    ap (λ k. from_over expr inner (from_at expr inner k) now) same

pub expressions_none : (n : ℕ) (now : Stream) → n ≡ 0 → expressions n now ≡ None
unfolding parsers
expressions_none zero now h = refl
expressions_none (suc n) now h = absurd (omega arith)

pub queries_none : (n : ℕ) (now : Stream) → n ≡ 0 → queries n now ≡ None
unfolding parsers
queries_none zero now h = refl
queries_none (suc n) now h = absurd (omega arith)

pub expressions_some : (n : ℕ) (now : Stream) → 0 < n → expressions n now ≡ outer (n - 1) now
unfolding parsers
expressions_some zero now h = absurd (omega arith)
expressions_some (suc n) now h =
    let same : n ≡ suc n - 1 = omega arith in
    ap (λ k. outer k now) same

pub queries_some : (n : ℕ) (now : Stream) → 0 < n → queries n now ≡ query (outer (n - 1)) (queries (n - 1)) now
unfolding parsers
queries_some zero now h = absurd (omega arith)
queries_some (suc n) now h =
    let same : n ≡ suc n - 1 = omega arith in
    ap (λ k. query (outer k) (queries k) now) same
