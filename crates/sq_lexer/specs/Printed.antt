-- Tokens as text again, with the gaps between them.
use Rattle.std.specs.Prelude.{◌≡◌, ℕ, ◌==◌, Bool, true, false, List, [], ◌∷◌, ◌++◌, length, flat_map, codes}
use Rattle.std.specs.List.{list_all}
use Rattle.sq_syntax.specs.declared.token.Token.{Token}
use Rattle.sq_syntax.specs.declared.token.TokenKind.{TokenKind}
use Rattle.sq_syntax.specs.declared.token.TokenKind.TheVariants as token
use Rattle.sq_syntax.specs.declared.token.Gap.{Gap}
use Rattle.sq_syntax.specs.declared.token.Gap.TheVariants.{Nothing, Blank, Line}

-- how a gap is printed
abbrev pub gap_text : Gap → List ℕ
gap_text Nothing = []
gap_text Blank = codes " "
gap_text Line = codes "\n"

-- tokens with the gaps before them
abbrev pub spaced : List Token → List ℕ
spaced tokens = flat_map (λ (token : Token). gap_text token.gap ++ token.bytes) tokens

-- tokens with the gaps between them
abbrev pub printed : List Token → List ℕ
printed [] = []
printed (token ∷ tokens) = token.bytes ++ spaced tokens

-- what a token is, apart from its place and the gap before it
pub record Spelling : Type 0 where
  pub kind : TokenKind
  pub bytes : List ℕ

-- of a token
abbrev pub spelling : Token → Spelling
spelling token = record { kind = token.kind; bytes = token.bytes }

-- a Word, a Quoted, or a Punct of one byte, by its kind and bytes
abbrev pub is_simple_as : TokenKind → List ℕ → Bool
is_simple_as token.Word bytes = true
is_simple_as token.Quoted bytes = true
is_simple_as token.Punct bytes = length bytes == 1
is_simple_as _ bytes = false

-- a Word, a Quoted, or a Punct of one byte
abbrev pub is_simple : Token → Bool
is_simple token = is_simple_as token.kind token.bytes

-- each of the tokens is such a one
abbrev pub AreSimple : List Token → Type 0
AreSimple tokens = list_all is_simple tokens ≡ true
