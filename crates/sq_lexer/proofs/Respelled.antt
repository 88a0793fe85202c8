-- What is printed of simple tokens is read as the same tokens again, apart from their places.
use Rattle.std.proofs.Common.{zero, suc, ◌≡◌, ◌≢◌, ◌≤◌, ℕ, ◌==◌, ◌&&◌, not, Bool, true, false, List, [], ◌∷◌, ◌++◌, length, take, drop, map, if◌then◌else◌, Option, Some, None, Ok, refl, ap, ◌∙◌, sym, subst, arith, ◌⊎◌, inl, inr}
use Rattle.std.proofs.lemmas.Bool.{eqb-true}
use Rattle.std.proofs.lemmas.Str.{IsUtf8-from_is_utf8, is_utf8-from_IsUtf8, IsUtf8-nil, IsUtf8-append, IsUtf8-past_char}
use Rattle.std.specs.Str.{IsUtf8, is_utf8}
use Rattle.sq_base.specs.declared.place.Place.{Place}
use Rattle.sq_syntax.specs.Bytes.{class_of, plain_class, is_blank_byte}
use Rattle.sq_syntax.specs.Classes.{next_class, each, IsWord, IsQuoted, IsPunct, is_blank, begins_word, continues_word, is_digit, is_lone_punct}
use Rattle.sq_syntax.specs.Items.{IsItem, IsNext, fault_of, token_kind}
use Rattle.sq_syntax.specs.Tokens.{Reads, Stopped, after, gap_after, begins_line, TokensOf, file_start, text_of, text_start, text_gap, has_mark}
use Rattle.sq_syntax.specs.Tokens.Reads.{no_item, bad_item, ended, between, token}
use Rattle.sq_lexer.specs.Printed.{gap_text, spaced, printed, Spelling, spelling, is_simple_as, AreSimple}
use Rattle.sq_syntax.specs.declared.class.ByteClass.{ByteClass}
use Rattle.sq_syntax.specs.declared.class.ByteClass.TheVariants as class
use Rattle.sq_syntax.specs.declared.item.ItemKind.{ItemKind}
use Rattle.sq_syntax.specs.declared.item.ItemKind.TheVariants as kind
use Rattle.sq_syntax.specs.declared.token.TokenKind.{TokenKind}
use Rattle.sq_syntax.specs.declared.token.TokenKind.TheVariants as token
use Rattle.sq_syntax.specs.declared.token.Token.{Token}
use Rattle.sq_syntax.specs.declared.token.Gap.{Gap}
use Rattle.sq_syntax.specs.declared.token.Gap.TheVariants as gap
use Rattle.sq_lexer.specs.Respelling.{ReadAs, ListedAs}
use Rattle.sq_lexer.specs.TokenList.{token_list, with_memory}
use Rattle.sq_lexer.specs.Machine.{step, accepts, run, begin, word, letter_e, after_double}
use Rattle.sq_lexer.specs.declared.machine.State.{State}
use Rattle.sq_lexer.specs.declared.machine.State.TheVariants as at
use Rattle.sq_lexer.proofs.Runs.{dead, and_left, and_right, not_true, begin_step}
use Rattle.sq_lexer.proofs.QuoteMarks.{class_of_double}
use Rattle.sq_lexer.proofs.Complete.{item_accepted, quoted_runs, double_quoting}
use Rattle.sq_lexer.proofs.Characters.{item_text}
use Rattle.sq_lexer.proofs.Linked.{Shaped, Linked, may_follow, stops_quoted, linked, drop_linked, take_linked}
use Rattle.sq_lexer.proofs.ListLemmas.{list_right, listed}

-- in this state no more can be read of these bytes
abbrev Stops : State → List ℕ → Type 0
Stops state [] = Unit {0}
Stops state (b ∷ rest) = (seen : List ℕ) → step seen state b ≡ at.Dead

no_longer : (item rest front after seen : List ℕ) (state : State) (k : ItemKind) → item ++ rest ≡ front ++ after → Stops (run seen state item) rest
    → accepts (run seen state front) (next_class after) ≡ Some k → length front ≤ length item
no_longer [] rest [] after seen state k whole stops is = omega arith
no_longer [] [] (c ∷ front) after seen state k whole stops is = absurd (cc whole)
no_longer [] (b ∷ rest) (c ∷ front) after seen state k whole stops is =
    let same : b ≡ c = cc in
    let ends : step seen state c ≡ at.Dead = ap (step seen state) (sym same) ∙ stops seen in
    absurd (dead front (seen ++ c ∷ []) (next_class after) k (ap (λ s. accepts (run (seen ++ c ∷ []) s front) (next_class after)) (sym ends) ∙ is))
no_longer (b ∷ item) rest [] after seen state k whole stops is = omega arith
no_longer (b ∷ item) rest (c ∷ front) after seen state k whole stops is =
    let same : b ≡ c = cc in
    let others : item ++ rest ≡ front ++ after = cc in
    let short = no_longer item rest front after (seen ++ b ∷ []) (step seen state b) k others stops
    (ap (λ x. accepts (run (seen ++ x ∷ []) (step seen state x) front) (next_class after)) same ∙ is) in
    omega (arith, short)

-- an item behind which no more can be read is the next
next_item : (first : Bool) (k : ItemKind) (item rest : List ℕ) → IsItem first k item rest → Stops (run [] (begin first) item) rest → IsNext first (item ++ rest) k item rest
next_item first k item rest is stops = record {
  whole = refl;
  stands = is;
  longest = λ other front after whole fits. no_longer item rest front after [] (begin first) other whole stops (item_accepted first other front after fits);
}

-- what may come next behind a token of this kind
abbrev ends_word : Option ByteClass → Bool
ends_word None = true
ends_word (Some class.SingleQuote) = false
ends_word (Some c) = not (continues_word c)

abbrev ends_punct : Option ByteClass → Bool
ends_punct None = true
ends_punct (Some c) = not (is_digit c)

abbrev ends_as : TokenKind → Option ByteClass → Bool
ends_as token.Word next = ends_word next
ends_as token.Quoted next = stops_quoted next
ends_as token.Punct next = ends_punct next
ends_as _ next = true

-- words
word_dies : (c : ByteClass) → ends_word (Some c) ≡ true → (word c ≡ at.Dead) × (letter_e c ≡ at.Dead)
word_dies class.Letter h = absurd (cc h)
word_dies class.LetterE h = absurd (cc h)
word_dies class.Zero h = absurd (cc h)
word_dies class.Digit h = absurd (cc h)
word_dies class.Dollar h = absurd (cc h)
word_dies class.SingleQuote h = absurd (cc h)
word_dies _ h = (refl, refl)

stays_word : (bytes seen : List ℕ) → each continues_word bytes ≡ true → run seen at.Word bytes ≡ at.Word
stays_word [] seen all = refl
stays_word (b ∷ bytes) seen all =
    ap (λ t. run (seen ++ b ∷ []) (if t then at.Word else at.Dead) bytes) (and_left _ _ all) ∙ stays_word bytes (seen ++ b ∷ []) (and_right _ _ all)

e_goes_on : (c : ByteClass) → continues_word c ≡ true → letter_e c ≡ at.Word
e_goes_on class.Letter h = refl
e_goes_on class.LetterE h = refl
e_goes_on class.Zero h = refl
e_goes_on class.Digit h = refl
e_goes_on class.Dollar h = refl
e_goes_on _ h = cc

e_runs : (b : ℕ) (bytes : List ℕ) → each continues_word bytes ≡ true → (run (b ∷ []) at.LetterE bytes ≡ at.Word) ⊎ (run (b ∷ []) at.LetterE bytes ≡ at.LetterE)
e_runs b [] all = inr refl
e_runs b (d ∷ bytes) all = inl (ap (λ s. run (b ∷ d ∷ []) s bytes) (e_goes_on (class_of d) (and_left _ _ all)) ∙ stays_word bytes (b ∷ d ∷ []) (and_right _ _ all))

word_runs : (first : Bool) (bytes : List ℕ) → IsWord bytes → (run [] (begin first) bytes ≡ at.Word) ⊎ (run [] (begin first) bytes ≡ at.LetterE)
word_runs first [] is = absurd is
word_runs first (b ∷ bytes) is = at_class (class_of b) refl is.0
  where
    at_class : (c : ByteClass) → class_of b ≡ c → begins_word c ≡ true → (run [] (begin first) (b ∷ bytes) ≡ at.Word) ⊎ (run [] (begin first) (b ∷ bytes) ≡ at.LetterE)
    at_class class.Letter letter h = inl (ap (λ s. run (b ∷ []) s bytes) (begin_step first b class.Letter letter refl) ∙ stays_word bytes (b ∷ []) is.1)
    at_class class.LetterE letter h =
        subst (λ s. (run (b ∷ []) s bytes ≡ at.Word) ⊎ (run (b ∷ []) s bytes ≡ at.LetterE)) (sym (begin_step first b class.LetterE letter refl)) (e_runs b bytes is.1)
    at_class _ letter h = absurd (cc h)

word_stops : (first : Bool) (bytes rest : List ℕ) → IsWord bytes → ends_word (next_class rest) ≡ true → Stops (run [] (begin first) bytes) rest
word_stops first bytes [] is h = tt
word_stops first bytes (b ∷ rest) is h = λ seen. by_state seen (word_runs first bytes is)
  where
    by_state : (seen : List ℕ) → (run [] (begin first) bytes ≡ at.Word) ⊎ (run [] (begin first) bytes ≡ at.LetterE) → step seen (run [] (begin first) bytes) b ≡ at.Dead
    by_state seen (inl e) = ap (λ s. step seen s b) e ∙ (word_dies (class_of b) h).0
    by_state seen (inr e) = ap (λ s. step seen s b) e ∙ (word_dies (class_of b) h).1

no_single : (next : Option ByteClass) → ends_word next ≡ true → next ≡ Some class.SingleQuote → ⊥
no_single next h is = let clash : false ≡ true = ap ends_word (sym is) ∙ h in cc

-- quoted names
quoted_dies : (c : ByteClass) → stops_quoted (Some c) ≡ true → after_double c ≡ at.Dead
quoted_dies class.DoubleQuote h = cc
quoted_dies _ h = refl

quoted_stops : (first : Bool) (bytes rest : List ℕ) → IsQuoted 34 bytes → stops_quoted (next_class rest) ≡ true → Stops (run [] (begin first) bytes) rest
quoted_stops first bytes [] is h = tt
quoted_stops first bytes (b ∷ rest) is h = λ seen.
    ap (λ s. step seen s b) (quoted_runs 34 class.DoubleQuote at.InsideDouble at.AfterDouble double_quoting first bytes is) ∙ quoted_dies (class_of b) h

no_double : (next : Option ByteClass) → stops_quoted next ≡ true → next ≢ Some class.DoubleQuote
no_double next h is = let clash : false ≡ true = ap stops_quoted (sym is) ∙ h in cc

-- marks
punct_stops : (first : Bool) (b : ℕ) (rest : List ℕ) → is_lone_punct (class_of b) ≡ true → ends_punct (next_class rest) ≡ true → Stops (run [] (begin first) (b ∷ [])) rest
punct_stops first b [] is h = tt
punct_stops first b (d ∷ rest) is h = λ seen. at_class seen (class_of b) refl is
  where
    at_class : (seen : List ℕ) (c : ByteClass) → class_of b ≡ c → is_lone_punct c ≡ true → step seen (step [] (begin first) b) d ≡ at.Dead
    at_class seen class.Bracket same one = ap (λ s. step seen s d) (begin_step first b class.Bracket same refl)
    at_class seen class.Point same one = ap (λ s. step seen s d) (begin_step first b class.Point same refl) ∙ ap (λ t. if t then at.Fraction else at.Dead) (not_true _ h)
    at_class seen _ same one = absurd (cc one)

-- blanks
class_of_space : class_of 32 ≡ class.Blank
unfolding class_of plain_class is_blank_byte
class_of_space = refl

class_of_newline : class_of 10 ≡ class.Newline
unfolding class_of plain_class is_blank_byte
class_of_newline = refl

abbrev not_blank : Option ByteClass → Bool
not_blank None = true
not_blank (Some c) = not (is_blank c)

blank_stops : (b : ℕ) (first : Bool) (rest : List ℕ) → step [] (begin first) b ≡ at.Blank → not_blank (next_class rest) ≡ true → Stops (run [] (begin first) (b ∷ [])) rest
blank_stops b first [] is h = tt
blank_stops b first (d ∷ rest) is h = λ seen. ap (λ s. step seen s d) is ∙ ap (λ t. if t then at.Blank else at.Dead) (not_true _ h)

-- what the bytes of a simple token are
abbrev Simple : TokenKind → List ℕ → Type 0
Simple token.Word bytes = IsWord bytes
Simple token.Quoted bytes = IsQuoted 34 bytes × ((length bytes == 2) ≡ false)
Simple token.Punct bytes = (b : ℕ) × (bytes ≡ b ∷ []) × (is_lone_punct (class_of b) ≡ true)
Simple _ bytes = ⊥

one_punct : (bytes : List ℕ) → IsPunct bytes → (length bytes == 1) ≡ true → Simple token.Punct bytes
one_punct [] is one = absurd is
one_punct (b ∷ []) is one = (b, refl, is)
one_punct (b ∷ d ∷ bytes) is one = absurd (omega (arith, eqb-true (length (b ∷ d ∷ bytes)) 1 one))

simple_of : (of : TokenKind) (bytes : List ℕ) → Shaped of bytes → is_simple_as of bytes ≡ true → Simple of bytes
simple_of token.Word bytes is simple = is
simple_of token.Quoted bytes is simple = is
simple_of token.Punct bytes is simple = one_punct bytes is simple
simple_of _ bytes is simple = absurd (cc simple)

item_again : (g : Gap) (place : Place) (k : ItemKind) (of : TokenKind) (bytes rest : List ℕ) (spelt : List Spelling) → IsNext (begins_line place) (bytes ++ rest) k bytes rest
    → fault_of k bytes rest ≡ None → token_kind k bytes ≡ Some of → ReadAs gap.Nothing (after place bytes) rest spelt → ReadAs g place (bytes ++ rest) (record { kind = of; bytes = bytes } ∷ spelt)
item_again g place k of bytes rest spelt next clear is more = record {
  tokens = record { kind = of; bytes = bytes; place = place; gap = g } ∷ more.tokens;
  reads = token g place (bytes ++ rest) k bytes rest of more.tokens None next clear is more.reads;
  same = ap (λ x. record { kind = of; bytes = bytes } ∷ x) more.same;
}

blank_again : (g : Gap) (place : Place) (b : ℕ) (rest : List ℕ) (spelt : List Spelling) → ((first : Bool) → step [] (begin first) b ≡ at.Blank) → is_blank (class_of b) ≡ true
    → not_blank (next_class rest) ≡ true → ((h : Gap) (later : Place) → ReadAs h later rest spelt) → ReadAs g place (b ∷ rest) spelt
blank_again g place b rest spelt steps is ends more =
    let m = more (gap_after g (b ∷ [])) (after place (b ∷ [])) in
    let item : IsItem (begins_line place) kind.Blank (b ∷ []) rest = ((λ none. cc none), ap (λ t. t && true) is) in
    record {
      tokens = m.tokens;
      reads = between g place (b ∷ rest) kind.Blank (b ∷ []) rest m.tokens None (next_item (begins_line place) kind.Blank (b ∷ []) rest item (blank_stops b (begins_line place) rest (steps (begins_line place)) ends))
          refl refl m.reads;
      same = m.same;
    }

one_again : (of : TokenKind) (g : Gap) (place : Place) (bytes rest : List ℕ) (spelt : List Spelling) → Simple of bytes → ends_as of (next_class rest) ≡ true
    → ((h : Gap) (later : Place) → ReadAs h later rest spelt) → ReadAs g place (bytes ++ rest) (record { kind = of; bytes = bytes } ∷ spelt)
one_again token.Word g place bytes rest spelt is ends more =
    item_again g place kind.Word token.Word bytes rest spelt
    (next_item (begins_line place) kind.Word bytes rest (is, λ single. absurd (no_single (next_class rest) ends single)) (word_stops (begins_line place) bytes rest is ends)) refl refl
    (more gap.Nothing (after place bytes))
one_again token.Quoted g place bytes rest spelt is ends more =
    item_again g place kind.Quoted token.Quoted bytes rest spelt
    (next_item (begins_line place) kind.Quoted bytes rest (is.0, no_double (next_class rest) ends) (quoted_stops (begins_line place) bytes rest is.0 ends))
    (rw is.1 refl) refl (more gap.Nothing (after place bytes))
one_again token.Punct g place bytes rest spelt is ends more =
    subst (λ x. ReadAs g place (x ++ rest) (record { kind = token.Punct; bytes = x } ∷ spelt)) (sym is.1)
    (item_again g place kind.Punct token.Punct (is.0 ∷ []) rest spelt
    (next_item (begins_line place) kind.Punct (is.0 ∷ []) rest is.2 (punct_stops (begins_line place) is.0 rest is.2 ends)) refl refl
    (more gap.Nothing (after place (is.0 ∷ []))))
one_again _ g place bytes rest spelt is ends more = absurd is

-- the class of a token's first byte
abbrev opens_as : TokenKind → ByteClass → Bool
opens_as token.Word c = begins_word c
opens_as token.Quoted class.DoubleQuote = true
opens_as token.Quoted _ = false
opens_as token.Punct c = is_lone_punct c
opens_as _ c = false

record Opening (of : TokenKind) (text : List ℕ) : Type 0 where
  c : ByteClass
  is : next_class text ≡ Some c
  opens : opens_as of c ≡ true

opening : (of : TokenKind) (bytes rest : List ℕ) → Simple of bytes → Opening of (bytes ++ rest)
opening token.Word [] rest is = absurd is
opening token.Word (b ∷ bytes) rest is = record { c = class_of b; is = refl; opens = is.0 }
opening token.Quoted bytes rest is =
    record { c = class.DoubleQuote; is = ap (λ x. next_class (x ++ rest)) is.0.1 ∙ ap (λ x. Some x) class_of_double; opens = refl }
opening token.Punct bytes rest is = record { c = class_of is.0; is = ap (λ x. next_class (x ++ rest)) is.1; opens = is.2 }
opening _ bytes rest is = absurd is

opens_not_blank : (of : TokenKind) (c : ByteClass) → opens_as of c ≡ true → not (is_blank c) ≡ true
opens_not_blank token.Word class.Blank h = cc
opens_not_blank token.Word class.Newline h = cc
opens_not_blank token.Word _ h = refl
opens_not_blank token.Quoted class.DoubleQuote h = refl
opens_not_blank token.Quoted _ h = cc
opens_not_blank token.Punct class.Bracket h = refl
opens_not_blank token.Punct class.Point h = refl
opens_not_blank token.Punct _ h = cc
opens_not_blank _ c h = cc

-- a token's first byte ends the token before it
ends_before : (prev of : TokenKind) (c : ByteClass) → may_follow (Some prev) of ≡ true → opens_as of c ≡ true → ends_as prev (Some c) ≡ true
ends_before token.Word token.Word c m h = cc
ends_before token.Word token.Quoted class.DoubleQuote m h = refl
ends_before token.Word token.Quoted _ m h = cc
ends_before token.Word token.Punct class.Bracket m h = refl
ends_before token.Word token.Punct class.Point m h = refl
ends_before token.Word token.Punct _ m h = cc
ends_before token.Word _ c m h = cc
ends_before token.Quoted token.Quoted c m h = cc
ends_before token.Quoted token.Word class.Letter m h = refl
ends_before token.Quoted token.Word class.LetterE m h = refl
ends_before token.Quoted token.Word _ m h = cc
ends_before token.Quoted token.Punct class.Bracket m h = refl
ends_before token.Quoted token.Punct class.Point m h = refl
ends_before token.Quoted token.Punct _ m h = cc
ends_before token.Quoted _ c m h = cc
ends_before token.Punct token.Word class.Letter m h = refl
ends_before token.Punct token.Word class.LetterE m h = refl
ends_before token.Punct token.Word _ m h = cc
ends_before token.Punct token.Quoted class.DoubleQuote m h = refl
ends_before token.Punct token.Quoted _ m h = cc
ends_before token.Punct token.Punct class.Bracket m h = refl
ends_before token.Punct token.Punct class.Point m h = refl
ends_before token.Punct token.Punct _ m h = cc
ends_before token.Punct _ c m h = cc
ends_before _ of c m h = refl

blank_ends : (prev : TokenKind) → (ends_as prev (Some class.Blank) ≡ true) × (ends_as prev (Some class.Newline) ≡ true) × (ends_as prev None ≡ true)
blank_ends token.Word = (refl, refl, refl)
blank_ends token.Quoted = (refl, refl, refl)
blank_ends token.Punct = (refl, refl, refl)
blank_ends _ = (refl, refl, refl)

gap_ends : (prev : TokenKind) (gp : Gap) (of : TokenKind) (bytes rest : List ℕ) → Simple of bytes → (gp ≡ gap.Nothing → may_follow (Some prev) of ≡ true)
    → ends_as prev (next_class ((gap_text gp ++ bytes) ++ rest)) ≡ true
gap_ends prev gap.Nothing of bytes rest is may =
    let o = opening of bytes rest is in ap (ends_as prev) o.is ∙ ends_before prev of o.c (may refl) o.opens
gap_ends prev gap.Blank of bytes rest is may = ap (λ c. ends_as prev (Some c)) class_of_space ∙ (blank_ends prev).0
gap_ends prev gap.Line of bytes rest is may = ap (λ c. ends_as prev (Some c)) class_of_newline ∙ (blank_ends prev).1

gap_again : (gp : Gap) (of : TokenKind) (bytes rest : List ℕ) (spelt : List Spelling) → Simple of bytes → ((h : Gap) (later : Place) → ReadAs h later (bytes ++ rest) spelt)
    → (g : Gap) (place : Place) → ReadAs g place ((gap_text gp ++ bytes) ++ rest) spelt
gap_again gap.Nothing of bytes rest spelt is more g place = more g place
gap_again gap.Blank of bytes rest spelt is more g place =
    let o = opening of bytes rest is in
    blank_again g place 32 (bytes ++ rest) spelt (λ first. begin_step first 32 class.Blank class_of_space refl) (ap is_blank class_of_space) (ap not_blank o.is ∙ opens_not_blank of o.c o.opens) more
gap_again gap.Line of bytes rest spelt is more g place =
    let o = opening of bytes rest is in
    blank_again g place 10 (bytes ++ rest) spelt (λ first. begin_step first 10 class.Newline class_of_newline refl) (ap is_blank class_of_newline) (ap not_blank o.is ∙ opens_not_blank of o.c o.opens) more

spaced_ends : (prev : TokenKind) (ts : List Token) → Linked (Some prev) ts → AreSimple ts → ends_as prev (next_class (spaced ts)) ≡ true
spaced_ends prev [] l simple = (blank_ends prev).2
spaced_ends prev (t ∷ ts) l simple = gap_ends prev t.gap t.kind t.bytes (spaced ts) (simple_of t.kind t.bytes l.0 (and_left _ _ simple)) l.1

spaced_again : (prev : Option TokenKind) (ts : List Token) → Linked prev ts → AreSimple ts → (g : Gap) (place : Place) → ReadAs g place (spaced ts) (map spelling ts)
spaced_again prev [] l simple g place = record { tokens = []; reads = ended g place; same = refl }
spaced_again prev (t ∷ ts) l simple g place =
    let is = simple_of t.kind t.bytes l.0 (and_left _ _ simple) in
    gap_again t.gap t.kind t.bytes (spaced ts) (map spelling (t ∷ ts)) is
    (λ h later. one_again t.kind h later t.bytes (spaced ts) (map spelling ts) is (spaced_ends t.kind ts l.2 (and_right _ _ simple)) (spaced_again (Some t.kind) ts l.2 (and_right _ _ simple))) g place

printed_again : (prev : Option TokenKind) (ts : List Token) → Linked prev ts → AreSimple ts → (g : Gap) (place : Place) → ReadAs g place (printed ts) (map spelling ts)
printed_again prev [] l simple g place = record { tokens = []; reads = ended g place; same = refl }
printed_again prev (t ∷ ts) l simple g place =
    one_again t.kind g place t.bytes (spaced ts) (map spelling ts) (simple_of t.kind t.bytes l.0 (and_left _ _ simple)) (spaced_ends t.kind ts l.2 (and_right _ _ simple))
    (spaced_again (Some t.kind) ts l.2 (and_right _ _ simple))

-- a stretch of simple tokens, printed, is read as the same tokens
pub stretch_again : (g : Gap) (place : Place) (bytes : List ℕ) (tokens : List Token) (ending : Option Stopped) (skipped count : ℕ) (h : Gap) (later : Place) → Reads g place bytes tokens ending
    → AreSimple (take count (drop skipped tokens)) → ReadAs h later (printed (take count (drop skipped tokens))) (map spelling (take count (drop skipped tokens)))
stretch_again g place bytes tokens ending skipped count h later reads simple =
    printed_again None (take count (drop skipped tokens)) (take_linked count None (drop skipped tokens) (drop_linked skipped None tokens (linked g place bytes tokens ending reads None (λ _. refl)))) simple h later

-- a token list reads the text of its file
list_reads : (file : ℕ) (bytes : List ℕ) (tokens : List Token) → token_list file bytes ≡ Ok tokens → IsUtf8 bytes × Reads (text_gap bytes) (text_start file bytes) (text_of bytes) tokens None
list_reads file bytes tokens is = by_test (is_utf8 bytes) refl
  where
    right : TokensOf file bytes (Ok tokens)
    right = subst (λ x. TokensOf file bytes (with_memory x)) is (list_right file bytes)

    by_test : (t : Bool) → is_utf8 bytes ≡ t → IsUtf8 bytes × Reads (text_gap bytes) (text_start file bytes) (text_of bytes) tokens None
    by_test true utf8 = let u = IsUtf8-from_is_utf8 bytes utf8 in (u, right.text u)
    by_test false other = absurd (right.ill_formed (λ utf8. cc (other, is_utf8-from_IsUtf8 bytes utf8)))

-- what is read from the start of a file that is UTF-8 and has no mark is its list
as_list : (file : ℕ) (bytes : List ℕ) (spelt : List Spelling) → IsUtf8 bytes → has_mark bytes ≡ false → ReadAs gap.Nothing (file_start file) bytes spelt → ListedAs file bytes spelt
as_list file bytes spelt utf8 plain r =
    let meant : TokensOf file bytes (Ok r.tokens) = record { text = λ _. rw plain r.reads; ill_formed = λ not. not utf8 } in
    record { tokens = r.tokens; listed = listed file bytes (Ok r.tokens) meant; same = r.same }

-- the bytes of each token are UTF-8
abbrev Texts : List Token → Type 0
Texts [] = Unit {0}
Texts (t ∷ ts) = IsUtf8 t.bytes × Texts ts

reads_texts : (g : Gap) (place : Place) (bytes : List ℕ) (tokens : List Token) (ending : Option Stopped) → Reads g place bytes tokens ending → IsUtf8 bytes → Texts tokens
reads_texts _ _ _ _ _ (ended g place) utf8 = tt
reads_texts _ _ _ _ _ (no_item g place bytes some none) utf8 = tt
reads_texts _ _ _ _ _ (bad_item g place bytes k item rest stop next is) utf8 = tt
reads_texts _ _ _ _ _ (between g place bytes k item rest tokens ending next clear is reads) utf8 =
    reads_texts (gap_after g item) (after place item) rest tokens ending reads (item_text (begins_line place) bytes k item rest utf8 next).1
reads_texts _ _ _ _ _ (token g place bytes k item rest of tokens ending next clear is reads) utf8 =
    let texts = item_text (begins_line place) bytes k item rest utf8 next in
    (texts.0, reads_texts gap.Nothing (after place item) rest tokens ending reads texts.1)

drop_texts : (n : ℕ) (ts : List Token) → Texts ts → Texts (drop n ts)
drop_texts zero ts texts = texts
drop_texts (suc n) [] texts = tt
drop_texts (suc n) (t ∷ ts) texts = drop_texts n ts texts.1

take_texts : (n : ℕ) (ts : List Token) → Texts ts → Texts (take n ts)
take_texts zero ts texts = tt
take_texts (suc n) [] texts = tt
take_texts (suc n) (t ∷ ts) texts = (texts.0, take_texts n ts texts.1)

gap_is_text : (g : Gap) → IsUtf8 (gap_text g)
unfolding lib.Utf8.encode
gap_is_text gap.Nothing = IsUtf8-nil
gap_is_text gap.Blank = (32 ∷ [], (refl, refl))
gap_is_text gap.Line = (10 ∷ [], (refl, refl))

spaced_text : (ts : List Token) → Texts ts → IsUtf8 (spaced ts)
spaced_text [] texts = IsUtf8-nil
spaced_text (t ∷ ts) texts =
    IsUtf8-append (gap_text t.gap ++ t.bytes) (spaced ts) (IsUtf8-append (gap_text t.gap) t.bytes (gap_is_text t.gap) texts.0) (spaced_text ts texts.1)

printed_text : (ts : List Token) → Texts ts → IsUtf8 (printed ts)
printed_text [] texts = IsUtf8-nil
printed_text (t ∷ ts) texts = IsUtf8-append t.bytes (spaced ts) texts.0 (spaced_text ts texts.1)

-- behind the byte order mark the text goes on
past_mark : (bytes : List ℕ) → IsUtf8 bytes → has_mark bytes ≡ true → IsUtf8 (drop 3 bytes)
unfolding lib.Utf8.encode
past_mark [] utf8 is = absurd (cc is)
past_mark (a ∷ []) utf8 is = absurd (no_two (239 == a) is)
  where
    no_two : (t : Bool) → (t && false) ≡ true → ⊥
    no_two true h = cc
    no_two false h = cc
past_mark (a ∷ b ∷ []) utf8 is = absurd (no_three (239 == a) (187 == b) is)
  where
    no_three : (t u : Bool) → (t && (u && false)) ≡ true → ⊥
    no_three true true h = cc
    no_three true false h = cc
    no_three false u h = cc
past_mark (a ∷ b ∷ c ∷ rest) utf8 is =
    let x : 239 ≡ a = eqb-true 239 a (and_left _ _ is) in
    let y : 187 ≡ b = eqb-true 187 b (and_left _ _ (and_right _ _ is)) in
    let z : 191 ≡ c = eqb-true 191 c (and_left _ _ (and_right _ _ (and_right _ _ is))) in
    let whole : a ∷ b ∷ c ∷ rest ≡ 239 ∷ 187 ∷ 191 ∷ rest = ap (λ n. n ∷ b ∷ c ∷ rest) (sym x) ∙ ap (λ n. 239 ∷ n ∷ c ∷ rest) (sym y) ∙ ap (λ n. 239 ∷ 187 ∷ n ∷ rest) (sym z) in
    IsUtf8-past_char (a ∷ b ∷ c ∷ rest) rest 65279 utf8 whole

text_utf8 : (bytes : List ℕ) → IsUtf8 bytes → IsUtf8 (text_of bytes)
text_utf8 bytes utf8 = by_test (has_mark bytes) refl
  where
    by_test : (t : Bool) → has_mark bytes ≡ t → IsUtf8 (if t then drop 3 bytes else bytes)
    by_test true is = past_mark bytes utf8 is
    by_test false is = utf8

-- a stretch of simple tokens of a file, printed, has a list of the same tokens, where it does not begin as a byte order mark
pub stretch_listed : (file : ℕ) (bytes : List ℕ) (tokens : List Token) (skipped count other : ℕ) → token_list file bytes ≡ Ok tokens → AreSimple (take count (drop skipped tokens))
    → has_mark (printed (take count (drop skipped tokens))) ≡ false → ListedAs other (printed (take count (drop skipped tokens))) (map spelling (take count (drop skipped tokens)))
stretch_listed file bytes tokens skipped count other is simple plain =
    let r = list_reads file bytes tokens is in
    let texts : Texts tokens = reads_texts (text_gap bytes) (text_start file bytes) (text_of bytes) tokens None r.1 (text_utf8 bytes r.0) in
    let utf8 : IsUtf8 (printed (take count (drop skipped tokens))) = printed_text (take count (drop skipped tokens)) (take_texts count (drop skipped tokens) (drop_texts skipped tokens texts)) in
    as_list other (printed (take count (drop skipped tokens))) (map spelling (take count (drop skipped tokens))) utf8 plain
    (stretch_again (text_gap bytes) (text_start file bytes) (text_of bytes) tokens None skipped count gap.Nothing (file_start other) r.1 simple)
