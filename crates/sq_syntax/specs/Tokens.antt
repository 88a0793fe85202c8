-- The token list of a file: its tokens with their places and gaps, or why there are none.
use Rattle.std.specs.Prelude.{◌≡◌, ◌≢◌, ℕ, ◌+◌, ◌==◌, ◌||◌, Bool, true, false, nat_eq, List, [], ◌∷◌, take, drop, Option, Some, None, Result, Ok, Err, if◌then◌else◌}
use Rattle.std.specs.List.{starts_with}
use Rattle.std.specs.Str.{IsUtf8}
use Rattle.std.specs.Str.Lossy.{utf8_valid_len}
use Rattle.sq_base.specs.declared.place.Place.{Place}
use Rattle.sq_base.specs.Refusals.{refused}
use Rattle.sq_base.specs.declared.code.Code.{Code}
use Rattle.sq_base.specs.declared.code.Code.TheVariants as code
use Rattle.sq_base.specs.declared.refusal.Refusal.{Refusal}
use Rattle.sq_base.specs.declared.refusal.Fault.{Fault}
use Rattle.sq_base.specs.declared.refusal.Fault.TheVariants.{Refused, Memory}
use Rattle.sq_syntax.specs.Items.{IsNext, NoItem, fault_of, stop_at, token_kind}
use Rattle.sq_syntax.specs.declared.item.Stop.{Stop}
use Rattle.sq_syntax.specs.declared.item.Stop.TheVariants.{Unterminated, BadByte}
use Rattle.sq_syntax.specs.declared.item.ItemKind.{ItemKind}
use Rattle.sq_syntax.specs.declared.token.TokenKind.{TokenKind}
use Rattle.sq_syntax.specs.declared.token.Token.{Token}
use Rattle.sq_syntax.specs.declared.token.Gap.{Gap}
use Rattle.sq_syntax.specs.declared.token.Gap.TheVariants as gap

-- the place after one more byte: lines and columns are counted from 1, columns in bytes
abbrev pub after_byte : Place → ℕ → Place
after_byte place b = if b == 10 then record { file = place.file; line = place.line + 1; column = 1 } else record { file = place.file; line = place.line; column = place.column + 1 }

-- the place after these bytes
abbrev pub after : Place → List ℕ → Place
after place [] = place
after place (b ∷ bytes) = after (after_byte place b) bytes

-- a newline is among the bytes
abbrev pub has_newline : List ℕ → Bool
has_newline [] = false
has_newline (b ∷ bytes) = (b == 10) || has_newline bytes

-- the gap has a newline
abbrev pub is_line : Gap → Bool
is_line gap.Line = true
is_line _ = false

-- the gap that has come where these bytes stand between two tokens too
abbrev pub gap_after : Gap → List ℕ → Gap
gap_after before bytes = if has_newline bytes || is_line before then gap.Line else gap.Blank

-- this place begins a line
abbrev pub begins_line : Place → Bool
begins_line place = place.column == 1

-- why the reading stopped, and where
pub record Stopped : Type 0 where
  pub stop : Stop
  pub place : Place

-- The bytes, which begin at the place behind the gap, are read as these tokens, to their end or to where the reading stopped.
pub data Reads : Gap → Place → List ℕ → List Token → Option Stopped → Type 0 where
  -- the end of the file
  ended : (g : Gap) (place : Place) → Reads g place [] [] None
  -- no item begins here
  no_item : (g : Gap) (place : Place) (bytes : List ℕ) → bytes ≢ [] → NoItem (begins_line place) bytes
      → Reads g place bytes [] (Some (record { stop = stop_at bytes; place = place }))
  -- the next item is refused
  bad_item : (g : Gap) (place : Place) (bytes : List ℕ) (kind : ItemKind) (item rest : List ℕ) (stop : Stop)
      → IsNext (begins_line place) bytes kind item rest → fault_of kind item rest ≡ Some stop
      → Reads g place bytes [] (Some (record { stop = stop; place = place }))
  -- the next item stands between tokens
  between : (g : Gap) (place : Place) (bytes : List ℕ) (kind : ItemKind) (item rest : List ℕ) (tokens : List Token) (ending : Option Stopped)
      → IsNext (begins_line place) bytes kind item rest → fault_of kind item rest ≡ None → token_kind kind item ≡ None
      → Reads (gap_after g item) (after place item) rest tokens ending → Reads g place bytes tokens ending
  -- the next item is a token
  token : (g : Gap) (place : Place) (bytes : List ℕ) (kind : ItemKind) (item rest : List ℕ) (of : TokenKind) (tokens : List Token) (ending : Option Stopped)
      → IsNext (begins_line place) bytes kind item rest → fault_of kind item rest ≡ None → token_kind kind item ≡ Some of
      → Reads gap.Nothing (after place item) rest tokens ending
      → Reads g place bytes (record { kind = of; bytes = item; place = place; gap = g } ∷ tokens) ending

-- the kind of the refusal
abbrev pub code_of : Stop → Code
code_of Unterminated = code.Unterminated
code_of BadByte = code.BadByte

-- the refusal at which a reading stopped
abbrev pub refusal_of : Stopped → Refusal
refusal_of stopped = refused (code_of stopped.stop) stopped.place

-- the tokens that are read, or the refusal, or want of memory
abbrev pub AnswersFrom : Gap → Place → List ℕ → Result (List Token) Fault → Type 0
AnswersFrom g place bytes (Ok tokens) = Reads g place bytes tokens None
AnswersFrom g place bytes (Err (Refused r)) = (tokens : List Token) × (stopped : Stopped) × Reads g place bytes tokens (Some stopped) × (r ≡ refusal_of stopped)
AnswersFrom g place bytes (Err Memory) = Unit {0}

-- the byte order mark stands at the front
abbrev pub has_mark : List ℕ → Bool
has_mark bytes = starts_with nat_eq bytes (239 ∷ 187 ∷ 191 ∷ [])

-- the first place of a file
abbrev pub file_start : ℕ → Place
file_start file = record { file = file; line = 1; column = 1 }

-- a file's text stands behind its byte order mark
abbrev pub text_of : List ℕ → List ℕ
text_of bytes = if has_mark bytes then drop 3 bytes else bytes

-- the place where the text begins
abbrev pub text_start : ℕ → List ℕ → Place
text_start file bytes = record { file = file; line = 1; column = if has_mark bytes then 4 else 1 }

-- the mark counts as a blank
abbrev pub text_gap : List ℕ → Gap
text_gap bytes = if has_mark bytes then gap.Blank else gap.Nothing

-- bytes that are no UTF-8 are refused at the first that is ill-formed
abbrev pub AnswersIllFormed : ℕ → List ℕ → Result (List Token) Fault → Type 0
AnswersIllFormed file bytes (Ok tokens) = ⊥
AnswersIllFormed file bytes (Err (Refused r)) = r ≡ refused code.NotUtf8 (after (file_start file) (take (utf8_valid_len bytes) bytes))
AnswersIllFormed file bytes (Err Memory) = Unit {0}

-- the file's token list or its refusal, unless memory was wanting
pub record TokensOf (file : ℕ) (bytes : List ℕ) (answer : Result (List Token) Fault) : Type 0 where
  pub text : IsUtf8 bytes → AnswersFrom (text_gap bytes) (text_start file bytes) (text_of bytes) answer
  pub ill_formed : ¬ (IsUtf8 bytes) → AnswersIllFormed file bytes answer
