-- The token list as a function is the one that the definition means.
use Rattle.std.proofs.Common.{◌≡◌, ◌≢◌, ℕ, zero, suc, ◌≤◌, ◌<◌, List, [], ◌∷◌, length, take, drop, Option, Some, None, Result, Ok, Err, refl, ap, ◌∙◌, sym, arith, length-drop, inl, inr}
use Rattle.std.proofs.lemmas.Bool.{cases_Bool}
use Rattle.std.proofs.lemmas.Str.{IsUtf8-from_is_utf8, is_utf8-from_IsUtf8}
use Rattle.std.specs.Str.{IsUtf8, is_utf8}
use Rattle.sq_base.specs.declared.place.Place.{Place}
use Rattle.sq_base.specs.declared.refusal.Refusal.{Refusal}
use Rattle.sq_base.specs.declared.refusal.Fault.{Fault}
use Rattle.sq_base.specs.declared.refusal.Fault.TheVariants.{Refused, Memory}
use Rattle.sq_syntax.specs.Items.{IsNext, fault_of, stop_at, token_kind}
use Rattle.sq_syntax.specs.Tokens.{after, gap_after, begins_line, refusal_of, AnswersFrom, AnswersIllFormed, TokensOf, text_of, text_start, text_gap}
use Rattle.sq_syntax.specs.Tokens.Reads.{ended, no_item, bad_item, between, token}
use Rattle.sq_syntax.specs.declared.item.ItemKind.{ItemKind}
use Rattle.sq_syntax.specs.declared.item.Stop.{Stop}
use Rattle.sq_syntax.specs.declared.token.TokenKind.{TokenKind}
use Rattle.sq_syntax.specs.declared.token.Token.{Token}
use Rattle.sq_syntax.specs.declared.token.Gap.{Gap}
use Rattle.sq_syntax.specs.declared.token.Gap.TheVariants as gap
use Rattle.sq_lexer.specs.Machine.{scan, begin}
use Rattle.sq_lexer.specs.TokenList.{Reader, begun, read_past, read_unless, read_found, read_within, token_list, with_memory, AnswersList}
use Rattle.sq_lexer.specs.declared.machine.Found.{Found}
use Rattle.sq_lexer.proofs.Next.{none_next, cut_at}
use Rattle.sq_lexer.proofs.OneReading.{one_reading}

-- what is read of bytes is what the definition says
abbrev pub Right : Gap → Place → List ℕ → Result (List Token) Refusal → Type 0
Right g place bytes list = AnswersFrom g place bytes (with_memory list)

read_between : (g : Gap) (place : Place) (bytes : List ℕ) (kind : ItemKind) (item rest : List ℕ) (list : Result (List Token) Refusal) → IsNext (begins_line place) bytes kind item rest
    → fault_of kind item rest ≡ None → token_kind kind item ≡ None → Right (gap_after g item) (after place item) rest list → Right g place bytes list
read_between g place bytes kind item rest (Ok tokens) next clear is right = between g place bytes kind item rest tokens None next clear is right
read_between g place bytes kind item rest (Err r) next clear is right =
    (right.0, right.1, between g place bytes kind item rest right.0 (Some right.1) next clear is right.2, right.3)

read_token : (g : Gap) (place : Place) (bytes : List ℕ) (kind : ItemKind) (item rest : List ℕ) (of : TokenKind) (list : Result (List Token) Refusal) → IsNext (begins_line place) bytes kind item rest
    → fault_of kind item rest ≡ None → token_kind kind item ≡ Some of → Right gap.Nothing (after place item) rest list
    → Right g place bytes (begun (record { kind = of; bytes = item; place = place; gap = g }) list)
read_token g place bytes kind item rest of (Ok tokens) next clear is right = token g place bytes kind item rest of tokens None next clear is right
read_token g place bytes kind item rest of (Err r) next clear is right =
    (record { kind = of; bytes = item; place = place; gap = g } ∷ right.0, right.1, token g place bytes kind item rest of right.0 (Some right.1) next clear is right.2, right.3)

past_right : (reader : Reader) (k : Option TokenKind) (g : Gap) (place : Place) (bytes : List ℕ) (kind : ItemKind) (item rest : List ℕ) → IsNext (begins_line place) bytes kind item rest
    → fault_of kind item rest ≡ None → token_kind kind item ≡ k → ((h : Gap) (later : Place) → Right h later rest (reader h later rest)) → Right g place bytes (read_past reader k g place item rest)
past_right reader None g place bytes kind item rest next clear is right =
    read_between g place bytes kind item rest (reader (gap_after g item) (after place item) rest) next clear is (right (gap_after g item) (after place item))
past_right reader (Some of) g place bytes kind item rest next clear is right =
    read_token g place bytes kind item rest of (reader gap.Nothing (after place item) rest) next clear is (right gap.Nothing (after place item))

unless_right : (reader : Reader) (why : Option Stop) (g : Gap) (place : Place) (bytes : List ℕ) (kind : ItemKind) (item rest : List ℕ) → IsNext (begins_line place) bytes kind item rest
    → fault_of kind item rest ≡ why → ((h : Gap) (later : Place) → Right h later rest (reader h later rest))
    → Right g place bytes (read_unless why place (read_past reader (token_kind kind item) g place item rest))
unless_right reader (Some stop) g place bytes kind item rest next is right =
    ([], record { stop = stop; place = place }, bad_item g place bytes kind item rest stop next is, refl)
unless_right reader None g place bytes kind item rest next is right = past_right reader (token_kind kind item) g place bytes kind item rest next is refl right

found_right : (reader : Reader) (found : Option Found) (g : Gap) (place : Place) (bytes : List ℕ) → bytes ≢ [] → scan [] (begin (begins_line place)) None bytes ≡ found
    → ((h : Gap) (later : Place) (rest : List ℕ) → length rest < length bytes → Right h later rest (reader h later rest)) → Right g place bytes (read_found reader found g place bytes)
found_right reader None g place bytes some is right =
    ([], record { stop = stop_at bytes; place = place }, no_item g place bytes some (none_next (begins_line place) bytes is), refl)
found_right reader (Some found) g place bytes some is right =
    let cut = cut_at (begins_line place) bytes found is in
    unless_right reader (fault_of found.kind (take found.size bytes) (drop found.size bytes)) g place bytes found.kind (take found.size bytes) (drop found.size bytes) cut.next refl
    (λ h later. right h later (drop found.size bytes) (omega (arith, length-drop found.size bytes, cut.some, cut.within)))

within_right : (n : ℕ) (g : Gap) (place : Place) (bytes : List ℕ) → length bytes ≤ n → Right g place bytes (read_within n g place bytes)
unfolding read_within
within_right zero g place [] short = ended g place
within_right zero g place (b ∷ bytes) short = absurd (omega arith)
within_right (suc n) g place [] short = ended g place
within_right (suc n) g place (b ∷ bytes) short =
    found_right (λ h later rest. read_within n h later rest) (scan [] (begin (begins_line place)) None (b ∷ bytes)) g place (b ∷ bytes) (λ none. cc none) refl
    (λ h later rest less. within_right n h later rest (omega arith))

-- the function's list or refusal is the one that the definition means
pub list_right : (file : ℕ) (bytes : List ℕ) → TokensOf file bytes (with_memory (token_list file bytes))
unfolding token_list
list_right file bytes = elim (cases_Bool (is_utf8 bytes)) [
  | inl is ↦ rw is (record {
    text = λ _. within_right (length (text_of bytes)) (text_gap bytes) (text_start file bytes) (text_of bytes) (omega arith);
    ill_formed = λ not. absurd (not (IsUtf8-from_is_utf8 bytes is));
  })
  | inr other ↦ rw other (record {
    text = λ is. absurd (cc (other, is_utf8-from_IsUtf8 bytes is));
    ill_formed = λ not. refl;
  })
]

-- two answers from the same bytes
same_list : (g : Gap) (place : Place) (bytes : List ℕ) (list : Result (List Token) Refusal) (answer : Result (List Token) Fault) → Right g place bytes list → AnswersFrom g place bytes answer
    → AnswersList list answer
same_list g place bytes (Ok tokens) (Ok others) a b = ap (λ x. Ok x) (one_reading g place bytes tokens others None None a b).same_tokens
same_list g place bytes (Ok tokens) (Err (Refused r)) a b =
    let s : None ≡ Some b.1 = (one_reading g place bytes tokens b.0 None (Some b.1) a b.2).same_ending in cc
same_list g place bytes (Ok tokens) (Err Memory) a b = tt
same_list g place bytes (Err r) (Ok others) a b =
    let s : Some a.1 ≡ None = (one_reading g place bytes a.0 others (Some a.1) None a.2 b).same_ending in cc
same_list g place bytes (Err r) (Err (Refused q)) a b =
    let s : Some a.1 ≡ Some b.1 = (one_reading g place bytes a.0 b.0 (Some a.1) (Some b.1) a.2 b.2).same_ending in
    let t : a.1 ≡ b.1 = cc in
    ap (λ x. Err x) (a.3 ∙ ap refusal_of t ∙ sym b.3)
same_list g place bytes (Err r) (Err Memory) a b = tt

ill_formed_list : (file : ℕ) (bytes : List ℕ) (list : Result (List Token) Refusal) (answer : Result (List Token) Fault) → AnswersIllFormed file bytes (with_memory list)
    → AnswersIllFormed file bytes answer → AnswersList list answer
ill_formed_list file bytes (Ok tokens) answer a b = absurd a
ill_formed_list file bytes (Err r) (Ok tokens) a b = absurd b
ill_formed_list file bytes (Err r) (Err (Refused q)) a b = ap (λ x. Err x) (a ∙ sym b)
ill_formed_list file bytes (Err r) (Err Memory) a b = tt

-- an answer that the definition means is the function's
pub listed : (file : ℕ) (bytes : List ℕ) (answer : Result (List Token) Fault) → TokensOf file bytes answer → AnswersList (token_list file bytes) answer
listed file bytes answer right = elim (cases_Bool (is_utf8 bytes)) [
  | inl is ↦
      let utf8 = IsUtf8-from_is_utf8 bytes is in
      same_list (text_gap bytes) (text_start file bytes) (text_of bytes) (token_list file bytes) answer ((list_right file bytes).text utf8) (right.text utf8)
  | inr other ↦
      let not : ¬ (IsUtf8 bytes) = λ utf8. cc (other, is_utf8-from_IsUtf8 bytes utf8) in
      ill_formed_list file bytes (token_list file bytes) answer ((list_right file bytes).ill_formed not) (right.ill_formed not)
]
