-- What is said of parsers of queries: that they read those of a depth.
use Rattle.std.proofs.Common.{◌≡◌, ℕ, Bool, true, [], ◌∷◌, Some, refl}
use Rattle.std.specs.Prelude.{◌<◌}
use Rattle.sq_syntax.specs.declared.symbol.Symbol.TheVariants as s
use Rattle.sq_syntax.specs.declared.query.Query.{Query}
use Rattle.sq_syntax.specs.Facts.{Stream, Along, from}
use Rattle.sq_syntax.specs.Grammar.{query_facts}
use Rattle.sq_grammar.specs.Reading.{Parser, is, begins}
use Rattle.sq_grammar.specs.Ahead.{Lexemes}

-- nothing of a query stands behind it
abbrev pub is_over : Lexemes → Bool
is_over [] = true
is_over (x ∷ rest) = is s.Close x.reading

pub closes : (tokens : Lexemes) → begins s.Close tokens ≡ true → is_over tokens ≡ true
closes [] h = refl
closes (x ∷ rest) h = h

-- each query of a depth below this is read
abbrev pub ReadsBelow : ℕ → Parser Query → Type 0
ReadsBelow d q = (x : Query) (now next : Stream) → from 0 (query_facts x).level ≡ true → (query_facts x).depth < d → Along (query_facts x).marks now next → is_over next.tokens ≡ true → q now ≡ Some (x, next)
