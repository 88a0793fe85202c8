-- Bytes that have the tokens of a stretch again, apart from their places and gaps.
use Rattle.std.specs.Prelude.{◌≡◌, ℕ, List, map, None, Ok}
use Rattle.sq_base.specs.declared.place.Place.{Place}
use Rattle.sq_syntax.specs.Tokens.{Reads}
use Rattle.sq_lexer.specs.Printed.{Spelling, spelling}
use Rattle.sq_syntax.specs.declared.token.Token.{Token}
use Rattle.sq_syntax.specs.declared.token.Gap.{Gap}
use Rattle.sq_lexer.specs.TokenList.{token_list}

-- the bytes, which begin at the place behind the gap, are read to their end as tokens of these spellings
pub record ReadAs (gap : Gap) (place : Place) (bytes : List ℕ) (spelt : List Spelling) : Type 0 where
  pub tokens : List Token
  pub reads : Reads gap place bytes tokens None
  pub same : map spelling tokens ≡ spelt

-- the bytes, as a file, have a token list of these spellings
pub record ListedAs (file : ℕ) (bytes : List ℕ) (spelt : List Spelling) : Type 0 where
  pub tokens : List Token
  pub listed : token_list file bytes ≡ Ok tokens
  pub same : map spelling tokens ≡ spelt
