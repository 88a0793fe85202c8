-- What is true of the tokens that are left to read.
use Rattle.std.specs.Prelude.{ℕ, ◌+◌, ◌^◌, ◌<◌, List, [], ◌∷◌, length}
use Rattle.std.specs.Str.{IsUtf8}
use Rattle.sq_syntax.specs.declared.symbol.Reading.{Reading}
use Rattle.sq_syntax.specs.declared.symbol.Reading.TheVariants as reading
use Rattle.sq_syntax.specs.declared.symbol.Lexeme.{Lexeme}

-- names are texts
abbrev pub IsText : Reading → Type 0
IsText (reading.Word word) = IsUtf8 word
IsText (reading.Quoted name) = IsUtf8 name
IsText _ = Unit {0}

abbrev pub AreTexts : List Lexeme → Type 0
AreTexts [] = Unit {0}
AreTexts (x ∷ rest) = IsText x.reading × AreTexts rest

-- the tokens from a number on can be counted, and their names are texts
pub record Fits (at : ℕ) (tokens : List Lexeme) : Type 0 where
  pub counted : at + length tokens < 2 ^ 32
  pub texts : AreTexts tokens
