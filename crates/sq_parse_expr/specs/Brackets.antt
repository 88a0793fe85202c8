-- Brackets around a bracketed query.
use Rattle.std.specs.Prelude.{ℕ, zero, suc, Option}
use Rattle.sq_grammar.specs.Ahead.{Lexemes, close_query}

-- the tokens after this many more brackets, which hold a query
abbrev pub close_all : ℕ → Option Lexemes → Option Lexemes
close_all zero rest = rest
close_all (suc n) rest = close_all n (close_query rest)
