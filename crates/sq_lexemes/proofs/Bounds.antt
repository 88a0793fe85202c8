-- The limits on tokens, as they are counted.
use Rattle.std.proofs.Common.{◌≡◌, ◌≤◌, ap, arith, List, length, map}
use Rattle.std.proofs.lemmas.List.{length-map}
use Rattle.std.proofs.lemmas.Simd.{map-map}
use Rattle.sq_syntax.specs.declared.symbol.Lexeme.{Lexeme}
use Rattle.sq_syntax.specs.declared.symbol.Reading.{Reading}
use Rattle.sq_syntax.specs.declared.token.Token.{Token}
use Rattle.sq_syntax.specs.Facts.{depth_before}
use Rattle.sq_syntax.specs.Grammar.{nesting_depth}
use Rattle.sq_syntax.specs.Symbols.{lexeme}
use Rattle.sq_lexemes.specs.Cursor.{Fits, AreTexts}

-- the depth of the tokens as the grammar sees them
pub depth_of : (tokens : List Token) → depth_before (map (λ x. x.reading) (map lexeme tokens)) 0 ≡ nesting_depth tokens
depth_of tokens = ap (λ k. depth_before k 0) (map-map {A = Token} {B = Lexeme} {C = Reading} (λ x. x.reading) lexeme tokens)

pub few : (tokens : List Token) → length tokens ≤ 16384 → AreTexts (map lexeme tokens) → Fits 0 (map lexeme tokens)
few tokens h texts = record { counted = omega (arith, length-map tokens lexeme, h); texts = texts }
