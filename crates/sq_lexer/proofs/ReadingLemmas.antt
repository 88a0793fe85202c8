-- Items that are taken off one by one complete the reading of a text.
use Rattle.std.proofs.Common.{◌≡◌, ◌≢◌, ℕ, ◌<◌, ◌+◌, List, [], ◌∷◌, ◌++◌, length, drop, Option, Some, None, Ok, refl, ap, ◌∙◌, sym, subst, arith, append_assoc, append-nil}
use Rattle.std.proofs.lemmas.List.{drop-drop}
use Rattle.sq_base.specs.Refusals.{refused}
use Rattle.sq_base.specs.declared.place.Place.{Place}
use Rattle.sq_base.specs.declared.refusal.Fault.{Fault}
use Rattle.sq_base.specs.declared.refusal.Fault.TheVariants.{Refused}
use Rattle.sq_syntax.specs.Items.{IsNext, fault_of, stop_at, token_kind}
use Rattle.sq_syntax.specs.Tokens.{Reads, Stopped, begins_line, code_of, AnswersFrom}
use Rattle.sq_syntax.specs.Tokens.Reads.{ended, no_item, bad_item, between, token}
use Rattle.sq_syntax.specs.declared.item.ItemKind.{ItemKind}
use Rattle.sq_syntax.specs.declared.item.Stop.{Stop}
use Rattle.sq_syntax.specs.declared.token.TokenKind.{TokenKind}
use Rattle.sq_syntax.specs.declared.token.Token.{Token}
use Rattle.sq_syntax.specs.declared.token.Gap.{Gap}
use Rattle.sq_lexer.specs.Machine.{scan, begin}
use Rattle.sq_lexer.specs.Reading.{noted, noted_as, Continues, Advances, Fails}
use Rattle.sq_lexer.specs.declared.reading.Notes.{Notes}
use Rattle.sq_lexer.proofs.Next.{none_next}

pub advances : (old new : Notes) (kind : ItemKind) (bytes item rest : List ℕ) → IsNext (begins_line old.place) bytes kind item rest → fault_of kind item rest ≡ None
    → new ≡ noted old kind item → Advances old bytes new rest
advances old new kind bytes item rest next clear same =
    subst (λ n. Advances old bytes n rest) (sym same) (λ g place text holds tokens ending reads. at_kind (token_kind kind item) refl g place text holds tokens ending reads)
  where
    at_kind : (k : Option TokenKind) → token_kind kind item ≡ k → Advances old bytes (noted_as k old item) rest
    at_kind None is g place text holds tokens ending reads = holds tokens ending (between old.gap old.place bytes kind item rest tokens ending next clear is reads)
    at_kind (Some of) is g place text holds tokens ending reads =
        let one : Token = record { kind = of; bytes = item; place = old.place; gap = old.gap } in
        subst (λ ts. Reads g place text ts ending) (sym (append_assoc old.tokens (one ∷ []) tokens))
        (holds (one ∷ tokens) ending (token old.gap old.place bytes kind item rest of tokens ending next clear is reads))

some_bytes : (bytes : List ℕ) → 0 < length bytes → bytes ≢ []
some_bytes [] less none = absurd (omega arith)
some_bytes (b ∷ bytes) less none = cc

pub stops_no_item : (notes : Notes) (rest : List ℕ) (stop : Stop) (fault : Fault) → 0 < length rest → scan [] (begin (begins_line notes.place)) None rest ≡ None
    → stop ≡ stop_at rest → fault ≡ Refused (refused (code_of stop) notes.place) → Fails notes rest fault
stops_no_item notes rest stop fault some none is same =
    subst (Fails notes rest) (sym (same ∙ ap (λ s. Refused (refused (code_of s) notes.place)) is))
    (λ g place text holds.
    let stopped : Stopped = record { stop = stop_at rest; place = notes.place } in
    (notes.tokens ++ [], stopped, holds [] (Some stopped) (no_item notes.gap notes.place rest (some_bytes rest some) (none_next (begins_line notes.place) rest none)), refl))

pub stops_bad_item : (notes : Notes) (kind : ItemKind) (bytes item rest : List ℕ) (stop : Stop) (fault : Fault) → IsNext (begins_line notes.place) bytes kind item rest
    → fault_of kind item rest ≡ Some stop → fault ≡ Refused (refused (code_of stop) notes.place) → Fails notes bytes fault
stops_bad_item notes kind bytes item rest stop fault next is same =
    subst (Fails notes bytes) (sym same)
    (λ g place text holds.
    let stopped : Stopped = record { stop = stop; place = notes.place } in
    (notes.tokens ++ [], stopped, holds [] (Some stopped) (bad_item notes.gap notes.place bytes kind item rest stop next is), refl))

pub begins_reading : (g : Gap) (place : Place) (text : List ℕ) (notes : Notes) → notes.gap ≡ g → notes.place ≡ place → notes.tokens ≡ [] → Continues g place text notes text
begins_reading g place text notes same_gap same_place none tokens ending reads =
    subst (λ ts. Reads g place text (ts ++ tokens) ending) (sym none) (subst (λ p. Reads g p text tokens ending) same_place (subst (λ x. Reads x notes.place text tokens ending) same_gap reads))

pub ends_reading : (g : Gap) (place : Place) (text rest : List ℕ) (notes : Notes) → rest ≡ [] → Continues g place text notes rest → AnswersFrom g place text (Ok notes.tokens)
ends_reading g place text rest notes none holds =
    subst (λ ts. Reads g place text ts None) (append-nil notes.tokens)
    (holds [] None (subst (λ x. Reads notes.gap notes.place x [] None) (sym none) (ended notes.gap notes.place)))

-- what fails later fails
pub fails_later : (old new : Notes) (bytes rest piece : List ℕ) (fault : Fault) → piece ≡ rest → Advances old bytes new rest → Fails new piece fault → Fails old bytes fault
fails_later old new bytes rest piece fault same advance fails g place text holds =
    fails g place text (subst (Continues g place text new) (sym same) (advance g place text holds))

pub signs_advance : (old new later : Notes) (rest piece : List ℕ) (i size : ℕ) → piece ≡ drop i rest → size ≡ 1 → Advances old rest new (drop i rest) → Advances new piece later (drop size piece)
    → Advances old rest later (drop (i + 1) rest)
signs_advance old new later rest piece i size same one first second =
    subst (λ n. Advances old rest later (drop (i + n) rest)) one
    (subst (Advances old rest later) (ap (drop size) same ∙ drop-drop size i rest)
    (λ g place text holds. second g place text (subst (Continues g place text new) (sym same) (first g place text holds))))
