-- What a token list says of the tokens that stand side by side.
use Rattle.std.proofs.Common.{◌≡◌, ◌≢◌, ◌≤◌, ℕ, zero, suc, ◌==◌, ◌&&◌, not, Bool, true, false, List, [], ◌∷◌, ◌++◌, length, take, drop, if◌then◌else◌, Option, Some, None, refl, ap, ◌∙◌, sym, subst, arith, append_assoc, length-append}
use Rattle.sq_base.specs.declared.place.Place.{Place}
use Rattle.sq_syntax.specs.Bytes.{class_of}
use Rattle.sq_syntax.specs.Classes.{next_class, each, IsWord, is_lone_e, IsQuoted, IsPunct, begins_word, continues_word}
use Rattle.sq_syntax.specs.Items.{IsItem, IsNext, fault_of, token_kind, stops_word}
use Rattle.sq_syntax.specs.Tokens.{Reads, Stopped, after, gap_after, begins_line}
use Rattle.sq_syntax.specs.Tokens.Reads.{ended, no_item, bad_item, between, token}
use Rattle.sq_syntax.specs.declared.class.ByteClass.{ByteClass}
use Rattle.sq_syntax.specs.declared.class.ByteClass.TheVariants as class
use Rattle.sq_syntax.specs.declared.item.ItemKind.{ItemKind}
use Rattle.sq_syntax.specs.declared.item.ItemKind.TheVariants as kind
use Rattle.sq_syntax.specs.declared.item.Stop.TheVariants.{Unterminated}
use Rattle.sq_syntax.specs.declared.token.TokenKind.{TokenKind}
use Rattle.sq_syntax.specs.declared.token.TokenKind.TheVariants as token
use Rattle.sq_syntax.specs.declared.token.Token.{Token}
use Rattle.sq_syntax.specs.declared.token.Gap.{Gap}
use Rattle.sq_syntax.specs.declared.token.Gap.TheVariants as gap
use Rattle.sq_lexer.proofs.Runs.{and_left, and_right, not_true}
use Rattle.sq_lexer.proofs.QuoteMarks.{class_of_double}

-- no double quote comes next
abbrev pub stops_quoted : Option ByteClass → Bool
stops_quoted None = true
stops_quoted (Some class.DoubleQuote) = false
stops_quoted (Some _) = true

-- what may come next directly behind a token of this kind, if one stands there
abbrev pub may_meet : Option TokenKind → Option ByteClass → Bool
may_meet (Some token.Word) next = stops_word next
may_meet (Some token.Quoted) next = stops_quoted next
may_meet _ next = true

-- a token of which kind may come directly behind one of another
abbrev pub may_follow : Option TokenKind → TokenKind → Bool
may_follow (Some token.Word) token.Word = false
may_follow (Some token.Quoted) token.Quoted = false
may_follow _ _ = true

-- what the bytes of a token are, where that is needed
abbrev pub Shaped : TokenKind → List ℕ → Type 0
Shaped token.Word bytes = IsWord bytes
Shaped token.Quoted bytes = IsQuoted 34 bytes × ((length bytes == 2) ≡ false)
Shaped token.Punct bytes = IsPunct bytes
Shaped _ bytes = Unit {0}

-- tokens of which each has its shape, and may stand where it stands
abbrev pub Linked : Option TokenKind → List Token → Type 0
Linked prev [] = Unit {0}
Linked prev (t ∷ ts) = Shaped t.kind t.bytes × (t.gap ≡ gap.Nothing → may_follow prev t.kind ≡ true) × Linked (Some t.kind) ts

shaped_as : (one of : TokenKind) (item : List ℕ) → Some one ≡ Some of → Shaped one item → Shaped of item
shaped_as one of item is s = let same : one ≡ of = cc in subst (λ k. Shaped k item) same s

not_two : (t : Bool) → (if t then Some Unterminated else None) ≡ None → t ≡ false
not_two true is = cc
not_two false is = refl

note_shaped : (t : Bool) (of : TokenKind) (item : List ℕ) → (if t then Some token.Note else None) ≡ Some of → Shaped of item
note_shaped true of item is = shaped_as token.Note of item is tt
note_shaped false of item is = cc

shape_of : (first : Bool) (k : ItemKind) (item rest : List ℕ) (of : TokenKind) → IsItem first k item rest → fault_of k item rest ≡ None → token_kind k item ≡ Some of → Shaped of item
shape_of first kind.Blank item rest of stands clear is = absurd (cc is)
shape_of first kind.LineComment item rest of stands clear is = note_shaped _ of item is
shape_of first kind.BlockComment item rest of stands clear is = absurd (cc is)
shape_of first kind.BackslashLine item rest of stands clear is = absurd (cc is)
shape_of first kind.Word item rest of stands clear is = shaped_as token.Word of item is stands.0
shape_of first kind.Quoted item rest of stands clear is = shaped_as token.Quoted of item is (stands.0, not_two (length item == 2) clear)
shape_of first kind.Text item rest of stands clear is = shaped_as token.Text of item is tt
shape_of first kind.EText item rest of stands clear is = shaped_as token.EText of item is tt
shape_of first kind.Dollar item rest of stands clear is = shaped_as token.Dollar of item is tt
shape_of first kind.Number item rest of stands clear is = shaped_as token.Number of item is tt
shape_of first kind.Parameter item rest of stands clear is = shaped_as token.Parameter of item is tt
shape_of first kind.Named item rest of stands clear is = shaped_as token.Named of item is tt
shape_of first kind.Operator item rest of stands clear is = shaped_as token.Operator of item is tt
shape_of first kind.Punct item rest of stands clear is = shaped_as token.Punct of item is stands

meets_as : (one of : TokenKind) (next : Option ByteClass) → Some one ≡ Some of → may_meet (Some one) next ≡ true → may_meet (Some of) next ≡ true
meets_as one of next is m = let same : one ≡ of = cc in subst (λ k. may_meet (Some k) next ≡ true) same m

note_meets : (t : Bool) (of : TokenKind) (next : Option ByteClass) → (if t then Some token.Note else None) ≡ Some of → may_meet (Some of) next ≡ true
note_meets true of next is = meets_as token.Note of next is refl
note_meets false of next is = cc

continues : (c : ByteClass) → begins_word c ≡ true → continues_word c ≡ true
continues class.Letter h = refl
continues class.LetterE h = refl
continues _ h = cc

each_push : (bytes : List ℕ) (b : ℕ) → each continues_word bytes ≡ true → continues_word (class_of b) ≡ true → each continues_word (bytes ++ b ∷ []) ≡ true
each_push [] b all one = ap (λ t. t && true) one
each_push (d ∷ bytes) b all one = ap (λ t. t && each continues_word (bytes ++ b ∷ [])) (and_left _ _ all) ∙ each_push bytes b (and_right _ _ all) one

longer_word : (item : List ℕ) (b : ℕ) → IsWord item → begins_word (class_of b) ≡ true → IsWord (item ++ b ∷ [])
longer_word [] b is one = absurd is
longer_word (d ∷ item) b is one = (is.0, each_push item b is.1 (continues (class_of b) one))

no_lone_e : (item : List ℕ) (b : ℕ) → IsWord item → is_lone_e (item ++ b ∷ []) ≡ false
no_lone_e [] b is = absurd is
no_lone_e (d ∷ []) b is = refl
no_lone_e (d ∷ e ∷ item) b is = refl

-- no Word begins behind a Word
word_ends : (first : Bool) (bytes item rest : List ℕ) → IsNext first bytes kind.Word item rest → stops_word (next_class rest) ≡ true
word_ends first bytes item [] next = refl
word_ends first bytes item (b ∷ rest) next = by_test (begins_word (class_of b)) refl
  where
    by_test : (t : Bool) → begins_word (class_of b) ≡ t → not t ≡ true
    by_test true is =
        let short : length (item ++ b ∷ []) ≤ length item =
        next.longest kind.Word (item ++ b ∷ []) rest (next.whole ∙ sym (append_assoc item (b ∷ []) rest)) (longer_word item b next.stands.0 is, λ _. no_lone_e item b next.stands.0) in
        absurd (omega (arith, short, length-append item (b ∷ [])))
    by_test false is = refl

quoted_ends : (next : Option ByteClass) → next ≢ Some class.DoubleQuote → stops_quoted next ≡ true
quoted_ends None apart = refl
quoted_ends (Some class.DoubleQuote) apart = absurd (apart refl)
quoted_ends (Some _) apart = refl

meets_after : (first : Bool) (bytes : List ℕ) (k : ItemKind) (item rest : List ℕ) (of : TokenKind) → IsNext first bytes k item rest → token_kind k item ≡ Some of → may_meet (Some of) (next_class rest) ≡ true
meets_after first bytes kind.Blank item rest of next is = absurd (cc is)
meets_after first bytes kind.LineComment item rest of next is = note_meets _ of (next_class rest) is
meets_after first bytes kind.BlockComment item rest of next is = absurd (cc is)
meets_after first bytes kind.BackslashLine item rest of next is = absurd (cc is)
meets_after first bytes kind.Word item rest of next is = meets_as token.Word of (next_class rest) is (word_ends first bytes item rest next)
meets_after first bytes kind.Quoted item rest of next is = meets_as token.Quoted of (next_class rest) is (quoted_ends (next_class rest) next.stands.1)
meets_after first bytes kind.Text item rest of next is = meets_as token.Text of (next_class rest) is refl
meets_after first bytes kind.EText item rest of next is = meets_as token.EText of (next_class rest) is refl
meets_after first bytes kind.Dollar item rest of next is = meets_as token.Dollar of (next_class rest) is refl
meets_after first bytes kind.Number item rest of next is = meets_as token.Number of (next_class rest) is refl
meets_after first bytes kind.Parameter item rest of next is = meets_as token.Parameter of (next_class rest) is refl
meets_after first bytes kind.Named item rest of next is = meets_as token.Named of (next_class rest) is refl
meets_after first bytes kind.Operator item rest of next is = meets_as token.Operator of (next_class rest) is refl
meets_after first bytes kind.Punct item rest of next is = meets_as token.Punct of (next_class rest) is refl

word_word : (item rest : List ℕ) → IsWord item → stops_word (next_class (item ++ rest)) ≡ true → ⊥
word_word [] rest is m = is
word_word (b ∷ item) rest is m = let e : begins_word (class_of b) ≡ false = not_true _ m in let h : begins_word (class_of b) ≡ true = is.0 in cc

quoted_quoted : (item rest : List ℕ) → IsQuoted 34 item → stops_quoted (next_class (item ++ rest)) ≡ true → ⊥
quoted_quoted item rest is m =
    let e : next_class (item ++ rest) ≡ Some class.DoubleQuote = ap (λ x. next_class (x ++ rest)) is.1 ∙ ap (λ x. Some x) class_of_double in
    let clash : false ≡ true = ap stops_quoted (sym e) ∙ m in cc

follow : (prev : Option TokenKind) (of : TokenKind) (item rest : List ℕ) → Shaped of item → may_meet prev (next_class (item ++ rest)) ≡ true → may_follow prev of ≡ true
follow None of item rest s m = refl
follow (Some token.Word) token.Word item rest s m = absurd (word_word item rest s m)
follow (Some token.Word) _ item rest s m = refl
follow (Some token.Quoted) token.Quoted item rest s m = absurd (quoted_quoted item rest s.0 m)
follow (Some token.Quoted) _ item rest s m = refl
follow (Some _) of item rest s m = refl

some_gap : (t : Bool) → (if t then gap.Line else gap.Blank) ≢ gap.Nothing
some_gap true is = cc
some_gap false is = cc

-- the tokens of a reading are linked
pub linked : (g : Gap) (place : Place) (bytes : List ℕ) (tokens : List Token) (ending : Option Stopped) → Reads g place bytes tokens ending
    → (prev : Option TokenKind) → (g ≡ gap.Nothing → may_meet prev (next_class bytes) ≡ true) → Linked prev tokens
linked _ _ _ _ _ (ended g place) prev m = tt
linked _ _ _ _ _ (no_item g place bytes some none) prev m = tt
linked _ _ _ _ _ (bad_item g place bytes k item rest stop next is) prev m = tt
linked _ _ _ _ _ (between g place bytes k item rest tokens ending next clear is reads) prev m =
    linked (gap_after g item) (after place item) rest tokens ending reads prev (λ none. absurd (some_gap _ none))
linked _ _ _ _ _ (token g place bytes k item rest of tokens ending next clear is reads) prev m =
    let s = shape_of (begins_line place) k item rest of next.stands clear is in (
      s,
      (λ none. follow prev of item rest s (ap (λ x. may_meet prev (next_class x)) (sym next.whole) ∙ m none)),
      linked gap.Nothing (after place item) rest tokens ending reads (Some of) (λ none. meets_after (begins_line place) bytes k item rest of next is),
    )

linked_any : (prev : Option TokenKind) (ts : List Token) → Linked prev ts → Linked None ts
linked_any prev [] l = tt
linked_any prev (t ∷ ts) l = (l.0, (λ _. refl), l.2)

pub drop_linked : (n : ℕ) (prev : Option TokenKind) (ts : List Token) → Linked prev ts → Linked None (drop n ts)
drop_linked zero prev ts l = linked_any prev ts l
drop_linked (suc n) prev [] l = tt
drop_linked (suc n) prev (t ∷ ts) l = drop_linked n (Some t.kind) ts l.2

pub take_linked : (n : ℕ) (prev : Option TokenKind) (ts : List Token) → Linked prev ts → Linked prev (take n ts)
take_linked zero prev ts l = tt
take_linked (suc n) prev [] l = tt
take_linked (suc n) prev (t ∷ ts) l = (l.0, l.1, take_linked n (Some t.kind) ts l.2)
