-- What is known in the middle of a reading.
use Rattle.std.specs.Prelude.{◌≡◌, ℕ, ◌+◌, Bool, not, ◌&&◌, ◌||◌, List, [], ◌∷◌, ◌++◌, Option, Some, None, Err, unwrap_or, if◌then◌else◌}
use Rattle.std.specs.Option.{option_map}
use Rattle.sq_syntax.specs.Bytes.{class_of}
use Rattle.sq_syntax.specs.Classes.{next_class, is_sign, in_operator, breaks_off}
use Rattle.sq_syntax.specs.declared.class.ByteClass.{ByteClass}
use Rattle.sq_base.specs.declared.place.Place.{Place}
use Rattle.sq_base.specs.declared.refusal.Fault.{Fault}
use Rattle.sq_syntax.specs.Items.{token_kind}
use Rattle.sq_syntax.specs.Tokens.{Reads, Stopped, AnswersFrom, after, gap_after}
use Rattle.sq_syntax.specs.declared.item.ItemKind.{ItemKind}
use Rattle.sq_syntax.specs.declared.item.ItemKind.TheVariants as kind
use Rattle.sq_syntax.specs.declared.token.TokenKind.{TokenKind}
use Rattle.sq_syntax.specs.declared.token.Token.{Token}
use Rattle.sq_syntax.specs.declared.token.Gap.{Gap}
use Rattle.sq_syntax.specs.declared.token.Gap.TheVariants as gap
use Rattle.sq_lexer.specs.Machine.{scan, begin}
use Rattle.sq_lexer.specs.declared.reading.Notes.{Notes}

-- the notes after an item that is this token, or none
abbrev pub noted_as : Option TokenKind → Notes → List ℕ → Notes
noted_as None notes item = record { tokens = notes.tokens; place = after notes.place item; gap = gap_after notes.gap item }
noted_as (Some of) notes item = record {
  tokens = notes.tokens ++ record { kind = of; bytes = item; place = notes.place; gap = notes.gap } ∷ [];
  place = after notes.place item;
  gap = gap.Nothing;
}

-- the notes after an item
abbrev pub noted : Notes → ItemKind → List ℕ → Notes
noted notes kind item = noted_as (token_kind kind item) notes item

-- what is read of the rest completes the reading of the text
abbrev pub Continues : Gap → Place → List ℕ → Notes → List ℕ → Type 0
Continues g place text notes rest = (tokens : List Token) (ending : Option Stopped) → Reads notes.gap notes.place rest tokens ending → Reads g place text (notes.tokens ++ tokens) ending

-- a step from one part of a text to a later one
abbrev pub Advances : Notes → List ℕ → Notes → List ℕ → Type 0
Advances old bytes new rest = (g : Gap) (place : Place) (text : List ℕ) → Continues g place text old bytes → Continues g place text new rest

-- the text is refused here, or memory was wanting
abbrev pub Fails : Notes → List ℕ → Fault → Type 0
Fails notes rest fault = (g : Gap) (place : Place) (text : List ℕ) → Continues g place text notes rest → AnswersFrom g place text (Err fault)

-- whether a run of signs ends behind its last, before this class and the next
abbrev pub ends_signs : ByteClass → ByteClass → Option ByteClass → Bool
ends_signs last c next = not (in_operator c) || (breaks_off last (Some c) || breaks_off c next)

-- how many signs follow a sign, if their run is no part of a longer operator
abbrev pub more_signs : ByteClass → List ℕ → Option ℕ
more_signs last [] = Some 0
more_signs last (b ∷ bytes) =
    if is_sign (class_of b) && not (breaks_off last (Some (class_of b))) then option_map (λ n. n + 1) (more_signs (class_of b) bytes)
    else (if ends_signs last (class_of b) (next_class bytes) then Some 0 else None)

-- how many signs in front are operators of their own
abbrev pub lone_signs : List ℕ → ℕ
lone_signs [] = 0
lone_signs (b ∷ bytes) = if is_sign (class_of b) then unwrap_or (more_signs (class_of b) bytes) 0 else 0

-- one byte is the next item, an operator
abbrev pub IsLoneOperator : List ℕ → Type 0
IsLoneOperator bytes = (first : Bool) → scan [] (begin first) None bytes ≡ Some (record { kind = kind.Operator; size = 1 })
