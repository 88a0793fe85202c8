-- The token list of a file as a function of its bytes.
use Rattle.std.specs.Prelude.{◌≡◌, ℕ, zero, suc, List, [], ◌∷◌, take, drop, length, Option, Some, None, Result, Ok, Err, if◌then◌else◌}
use Rattle.std.specs.Str.{is_utf8}
use Rattle.std.specs.Str.Lossy.{utf8_valid_len}
use Rattle.sq_base.specs.Refusals.{refused}
use Rattle.sq_base.specs.declared.code.Code.TheVariants as code
use Rattle.sq_base.specs.declared.place.Place.{Place}
use Rattle.sq_base.specs.declared.refusal.Refusal.{Refusal}
use Rattle.sq_base.specs.declared.refusal.Fault.{Fault}
use Rattle.sq_base.specs.declared.refusal.Fault.TheVariants.{Refused, Memory}
use Rattle.sq_syntax.specs.Items.{fault_of, stop_at, token_kind}
use Rattle.sq_syntax.specs.Tokens.{after, gap_after, begins_line, code_of, file_start, text_of, text_start, text_gap}
use Rattle.sq_syntax.specs.declared.item.Stop.{Stop}
use Rattle.sq_syntax.specs.declared.token.TokenKind.{TokenKind}
use Rattle.sq_syntax.specs.declared.token.Token.{Token}
use Rattle.sq_syntax.specs.declared.token.Gap.{Gap}
use Rattle.sq_syntax.specs.declared.token.Gap.TheVariants as gap
use Rattle.sq_lexer.specs.Machine.{scan, begin}
use Rattle.sq_lexer.specs.declared.machine.Found.{Found}

-- the tokens, or the refusal, of the bytes that begin at a place behind a gap
abbrev pub Reader : Type 0
Reader = Gap → Place → List ℕ → Result (List Token) Refusal

-- one more token in front
abbrev pub begun : Token → Result (List Token) Refusal → Result (List Token) Refusal
begun token (Ok tokens) = Ok (token ∷ tokens)
begun token (Err refusal) = Err refusal

-- behind an item that is this token, or none, the rest is read
abbrev pub read_past : Reader → Option TokenKind → Gap → Place → List ℕ → List ℕ → Result (List Token) Refusal
read_past reader None g place item rest = reader (gap_after g item) (after place item) rest
read_past reader (Some of) g place item rest = begun (record { kind = of; bytes = item; place = place; gap = g }) (reader gap.Nothing (after place item) rest)

-- an item is refused for this reason, or for none and the reading goes on
abbrev pub read_unless : Option Stop → Place → Result (List Token) Refusal → Result (List Token) Refusal
read_unless (Some stop) place others = Err (refused (code_of stop) place)
read_unless None place others = others

-- what was found at the front is the next item; where nothing was found none begins
abbrev pub read_found : Reader → Option Found → Gap → Place → List ℕ → Result (List Token) Refusal
read_found reader None g place bytes = Err (refused (code_of (stop_at bytes)) place)
read_found reader (Some found) g place bytes =
    read_unless (fault_of found.kind (take found.size bytes) (drop found.size bytes)) place
    (read_past reader (token_kind found.kind (take found.size bytes)) g place (take found.size bytes) (drop found.size bytes))

-- bytes that are no more than so many
unfoldable pub read_within : ℕ → Reader
read_within zero g place bytes = Ok []
read_within (suc n) g place [] = Ok []
read_within (suc n) g place (b ∷ bytes) =
    read_found (λ h later rest. read_within n h later rest) (scan [] (begin (begins_line place)) None (b ∷ bytes)) g place (b ∷ bytes)

-- the tokens of a file, or its refusal
unfoldable pub token_list : ℕ → List ℕ → Result (List Token) Refusal
token_list file bytes =
    if is_utf8 bytes then read_within (length (text_of bytes)) (text_gap bytes) (text_start file bytes) (text_of bytes)
    else Err (refused code.NotUtf8 (after (file_start file) (take (utf8_valid_len bytes) bytes)))

-- a list or a refusal as an answer for which there was memory
abbrev pub with_memory : Result (List Token) Refusal → Result (List Token) Fault
with_memory (Ok tokens) = Ok tokens
with_memory (Err refusal) = Err (Refused refusal)

-- the answer is this list or this refusal, unless memory was wanting
abbrev pub AnswersList : Result (List Token) Refusal → Result (List Token) Fault → Type 0
AnswersList list (Ok tokens) = list ≡ Ok tokens
AnswersList list (Err (Refused refusal)) = list ≡ Err refusal
AnswersList list (Err Memory) = Unit {0}
