-- No item of a text ends inside a character.
use Rattle.std.proofs.Common.{◌≡◌, ◌≢◌, ◌≤◌, ◌<◌, ◌+◌, ℕ, ◌==◌, ◌||◌, Bool, true, false, List, [], ◌∷◌, ◌++◌, length, take, drop, get_or, nat_le, if◌then◌else◌, Option, Some, None, refl, ap, ◌∙◌, sym, subst, arith, append_assoc, append-nil, length-append, ◌⊎◌, inl, inr}
use Rattle.std.proofs.lemmas.Bool.{eqb-true}
use Rattle.std.proofs.lemmas.Bool.Decides.{nat_tests}
use Rattle.std.proofs.lemmas.List.{take_at, drop_at}
use Rattle.std.proofs.Math.Seq.{get_or-append_seam}
use Rattle.std.proofs.lemmas.Str.{IsUtf8-take, IsUtf8-drop, IsCharBoundary-start, IsCharBoundary-end, IsCharBoundary-before_ascii, IsCharBoundary-after_ascii}
use Rattle.std.specs.Str.{IsUtf8, IsCharBoundary}
use Rattle.std.specs.Char.{is_ascii_alphabetic}
use Rattle.sq_syntax.specs.Bytes.{class_of, plain_class, is_blank_byte, is_letter_e, is_letter}
use Rattle.sq_syntax.specs.Classes.{next_class, IsDollar, IsMark, begins, ends_first}
use Rattle.sq_syntax.specs.Items.{IsItem, IsNext}
use Rattle.sq_syntax.specs.declared.class.ByteClass.{ByteClass}
use Rattle.sq_syntax.specs.declared.class.ByteClass.TheVariants as class
use Rattle.sq_syntax.specs.declared.item.ItemKind.{ItemKind}
use Rattle.sq_syntax.specs.declared.item.ItemKind.TheVariants as kind
use Rattle.sq_lexer.specs.Machine.{step, accepts, run, begin, start, line_start, blank, line_comment, backslash_line, word, letter_e, named, parameter, inside_double, after_double, inside_single, after_single, inside_escaped, after_escaped, whole, point, fraction, exponent, exponent_mark, operator, lone, comment, comment_slash, comment_star, colon, dollar_sign, tag, matched_after}
use Rattle.sq_lexer.specs.declared.machine.State.{State}
use Rattle.sq_lexer.specs.declared.machine.State.TheVariants as at
use Rattle.sq_lexer.proofs.Complete.{item_accepted}
use Rattle.sq_lexer.proofs.Sound.{accepted_item}
use Rattle.sq_lexer.proofs.Runs.{and_left, and_right}

-- a byte beyond ASCII is a letter
not_here : (test : Bool) (one rest : ByteClass) → test ≡ false → (if test then one else rest) ≡ rest
not_here true one rest is = cc
not_here false one rest is = refl

here : (test : Bool) (one rest : ByteClass) → test ≡ true → (if test then one else rest) ≡ one
here true one rest is = refl
here false one rest is = cc

apart : (b n : ℕ) → 128 ≤ b → n < 128 → (b == n) ≡ false
apart b n big small = grind (arith, nat_tests)

or_false : (a b : Bool) → a ≡ false → b ≡ false → (a || b) ≡ false
or_false true b x y = cc
or_false false b x y = y

or_true : (a b : Bool) → b ≡ true → (a || b) ≡ true
or_true true b y = refl
or_true false b y = y

no_blank : (b : ℕ) → 128 ≤ b → is_blank_byte b ≡ false
unfolding is_blank_byte
no_blank b big =
    or_false _ _ (or_false _ _ (or_false _ _ (or_false _ _ (apart b 32 big (omega arith)) (apart b 9 big (omega arith))) (apart b 13 big (omega arith))) (apart b 12 big (omega arith))) (apart b 11 big (omega arith))

no_e : (b : ℕ) → 128 ≤ b → is_letter_e b ≡ false
unfolding is_letter_e
no_e b big = or_false _ _ (apart b 101 big (omega arith)) (apart b 69 big (omega arith))

a_letter : (b : ℕ) → 128 ≤ b → is_letter b ≡ true
unfolding is_letter
a_letter b big = let le : nat_le 128 b ≡ true = grind (arith, nat_tests) in or_true (is_ascii_alphabetic b || b == 95) (nat_le 128 b) le

plain_letter : (b : ℕ) → 128 ≤ b → plain_class b ≡ class.Letter
unfolding plain_class
plain_letter b big = not_here _ _ _ (no_blank b big) ∙ not_here _ _ _ (apart b 10 big (omega arith)) ∙ not_here _ _ _ (no_e b big) ∙ here _ _ _ (a_letter b big)

beyond : (b : ℕ) → 128 ≤ b → class_of b ≡ class.Letter
unfolding class_of
beyond b big =
    not_here _ _ _ (apart b 34 big (omega arith)) ∙ not_here _ _ _ (apart b 39 big (omega arith)) ∙ not_here _ _ _ (apart b 36 big (omega arith)) ∙ plain_letter b big

-- a state behind a letter: nothing but a dollar quote ends there, or one more letter may come
data Behind (s : State) : Type 0 where
  no_end : ((next : Option ByteClass) (k : ItemKind) → accepts s next ≡ Some k → k ≡ kind.Dollar) → Behind s
  goes_on : ((seen : List ℕ) (b : ℕ) (next : Option ByteClass) → class_of b ≡ class.Letter → (k : ItemKind) × (accepts (step seen s b) next ≡ Some k)) → Behind s

behind_dead : Behind at.Dead
behind_dead = no_end (λ next k is. cc is)

behind_word : Behind at.Word
behind_word = goes_on (λ seen b next is. (kind.Word, ap (λ c. accepts (word c) next) is))

behind_named : Behind at.Named
behind_named = goes_on (λ seen b next is. (kind.Named, ap (λ c. accepts (named c) next) is))

behind_lone : (last : ByteClass) → Behind (lone last class.Letter)
behind_lone class.At = behind_named
behind_lone _ = behind_dead

dollar_kind : (t : Bool) (k : ItemKind) → (if t then Some kind.Dollar else None) ≡ Some k → k ≡ kind.Dollar
dollar_kind true k is = cc
dollar_kind false k is = cc

behind_dollar : (t : Bool) (size matched : ℕ) → Behind (if t then at.Dollar size matched else at.Dead)
behind_dollar true size matched = no_end (λ next k is. dollar_kind (matched == size) k is)
behind_dollar false size matched = behind_dead

letter_behind : (seen : List ℕ) (s : State) (b : ℕ) → class_of b ≡ class.Letter → Behind (step seen s b)
letter_behind seen at.Start b is = subst (λ c. Behind (start c)) (sym is) behind_word
letter_behind seen at.LineStart b is = subst (λ c. Behind (line_start c)) (sym is) behind_word
letter_behind seen at.Dead b is = behind_dead
letter_behind seen at.Blank b is = subst (λ c. Behind (blank c)) (sym is) behind_dead
letter_behind seen at.LineComment b is = subst (λ c. Behind (line_comment c)) (sym is) (goes_on (λ more d next one. (kind.LineComment, ap (λ c. accepts (line_comment c) next) one)))
letter_behind seen (at.Comment depth) b is = subst (λ c. Behind (comment depth c)) (sym is) (no_end (λ next k h. cc h))
letter_behind seen (at.CommentSlash depth) b is = subst (λ c. Behind (comment_slash depth c)) (sym is) (no_end (λ next k h. cc h))
letter_behind seen (at.CommentStar depth) b is = subst (λ c. Behind (comment_star depth c)) (sym is) (no_end (λ next k h. cc h))
letter_behind seen at.CommentEnd b is = behind_dead
letter_behind seen at.BackslashLine b is = subst (λ c. Behind (backslash_line c)) (sym is) (goes_on (λ more d next one. (kind.BackslashLine, ap (λ c. accepts (backslash_line c) next) one)))
letter_behind seen at.LetterE b is = subst (λ c. Behind (letter_e c)) (sym is) behind_word
letter_behind seen at.Word b is = subst (λ c. Behind (word c)) (sym is) behind_word
letter_behind seen at.InsideDouble b is = subst (λ c. Behind (inside_double c)) (sym is) (no_end (λ next k h. cc h))
letter_behind seen at.AfterDouble b is = subst (λ c. Behind (after_double c)) (sym is) behind_dead
letter_behind seen at.InsideSingle b is = subst (λ c. Behind (inside_single c)) (sym is) (no_end (λ next k h. cc h))
letter_behind seen at.AfterSingle b is = subst (λ c. Behind (after_single c)) (sym is) behind_dead
letter_behind seen at.InsideEscaped b is = subst (λ c. Behind (inside_escaped c)) (sym is) (no_end (λ next k h. cc h))
letter_behind seen at.AfterEscaped b is = subst (λ c. Behind (after_escaped c)) (sym is) behind_dead
letter_behind seen at.Escape b is = no_end (λ next k h. cc h)
letter_behind seen at.DollarSign b is = subst (λ c. Behind (dollar_sign (length seen + 1) c)) (sym is) (no_end (λ next k h. cc h))
letter_behind seen at.Tag b is = subst (λ c. Behind (tag (length seen + 1) c)) (sym is) (no_end (λ next k h. cc h))
letter_behind seen (at.Dollar size matched) b is = behind_dollar _ size (matched_after seen matched b)
letter_behind seen at.Parameter b is = subst (λ c. Behind (parameter c)) (sym is) behind_dead
letter_behind seen at.Named b is = subst (λ c. Behind (named c)) (sym is) behind_named
letter_behind seen at.Whole b is = subst (λ c. Behind (whole c)) (sym is) behind_dead
letter_behind seen at.WholePoint b is = subst (λ c. Behind (point c)) (sym is) behind_dead
letter_behind seen at.LeadingPoint b is = subst (λ c. Behind (point c)) (sym is) behind_dead
letter_behind seen at.Fraction b is = subst (λ c. Behind (fraction c)) (sym is) behind_dead
letter_behind seen at.ExponentMark b is = subst (λ c. Behind (exponent_mark c)) (sym is) behind_dead
letter_behind seen at.ExponentSign b is = subst (λ c. Behind (exponent c)) (sym is) behind_dead
letter_behind seen at.Exponent b is = subst (λ c. Behind (exponent c)) (sym is) behind_dead
letter_behind seen (at.Lone last) b is = subst (λ c. Behind (lone last c)) (sym is) (behind_lone last)
letter_behind seen (at.Operator special last) b is = subst (λ c. Behind (operator special last c)) (sym is) behind_dead
letter_behind seen at.Colon b is = subst (λ c. Behind (colon c)) (sym is) behind_dead
letter_behind seen at.Punct b is = behind_dead

-- a list and its last
record Ends (item : List ℕ) : Type 0 where
  front : List ℕ
  last : ℕ
  is : item ≡ front ++ last ∷ []

ends : (b : ℕ) (item : List ℕ) → Ends (b ∷ item)
ends b [] = record { front = []; last = b; is = refl }
ends b (d ∷ item) = let e = ends d item in record { front = b ∷ e.front; last = e.last; is = ap (λ x. b ∷ x) e.is }

run_both : (front rest seen : List ℕ) (s : State) → run seen s (front ++ rest) ≡ run (seen ++ front) (run seen s front) rest
run_both [] rest seen s = ap (λ x. run x s rest) (sym (append-nil seen))
run_both (b ∷ front) rest seen s =
    run_both front rest (seen ++ b ∷ []) (step seen s b) ∙ ap (λ x. run x (run (seen ++ b ∷ []) (step seen s b) front) rest) (append_assoc seen (b ∷ []) front)

-- a dollar quote ends in a dollar
begins_all : (mark bytes : List ℕ) → begins mark bytes ≡ true → length bytes ≡ length mark → bytes ≡ mark
begins_all [] [] is size = refl
begins_all [] (b ∷ bytes) is size = absurd (omega (arith, size))
begins_all (m ∷ mark) [] is size = absurd (omega (arith, size))
begins_all (m ∷ mark) (b ∷ bytes) is size =
    ap (λ x. x ∷ bytes) (eqb-true b m (and_left _ _ is)) ∙ ap (λ x. m ∷ x) (begins_all mark bytes (and_right _ _ is) (omega (arith, size)))

ends_in : (mark inside : List ℕ) → ends_first mark inside ≡ true → (front : List ℕ) × (inside ≡ front ++ mark)
ends_in mark [] is = absurd (cc is)
ends_in mark (b ∷ inside) is = by_test (λ h. ends_in mark inside h) (begins mark (b ∷ inside)) refl is
  where
    by_test : (ends_first mark inside ≡ true → (front : List ℕ) × (inside ≡ front ++ mark)) → (t : Bool) → begins mark (b ∷ inside) ≡ t → (if t then length (b ∷ inside) == length mark else ends_first mark inside) ≡ true → (front : List ℕ) × (b ∷ inside ≡ front ++ mark)
    by_test more true starts h = ([], begins_all mark (b ∷ inside) starts (eqb-true (length (b ∷ inside)) (length mark) h))
    by_test more false starts h = let r = more h in (b ∷ r.0, ap (λ x. b ∷ x) r.1)

dollar_ends : (item : List ℕ) → IsDollar item → (front : List ℕ) × (item ≡ front ++ 36 ∷ [])
dollar_ends item is =
    let mark = is.0 in
    let inside = is.1 in
    let m : IsMark mark = is.2 in
    let tail = ends_in mark inside is.4 in
    let split : mark ≡ (36 ∷ m.0) ++ 36 ∷ [] = m.1 in (
      mark ++ (tail.0 ++ (36 ∷ m.0)),
      is.3 ∙ ap (λ x. mark ++ x) (tail.1 ∙ ap (λ x. tail.0 ++ x) split ∙ sym (append_assoc tail.0 (36 ∷ m.0) (36 ∷ []))) ∙ sym (append_assoc mark (tail.0 ++ (36 ∷ m.0)) (36 ∷ [])),
    )

-- a text may be cut behind a byte of ASCII, and before one
cut_behind : (bytes front rest : List ℕ) (l : ℕ) → IsUtf8 bytes → bytes ≡ (front ++ l ∷ []) ++ rest → l < 128 → IsCharBoundary bytes (length (front ++ l ∷ []))
cut_behind bytes front rest l utf8 split small =
    let whole : bytes ≡ front ++ l ∷ rest = split ∙ append_assoc front (l ∷ []) rest in
    let at_l : get_or bytes (length front) 0 ≡ l = ap (λ x. get_or x (length front) 0) whole ∙ get_or-append_seam front l rest 0 in
    let within : length front < length bytes = omega (arith, ap length whole, length-append front (l ∷ rest)) in
    let size : length front + 1 ≡ length (front ++ l ∷ []) = omega (arith, length-append front (l ∷ [])) in
    subst (IsCharBoundary bytes) size (IsCharBoundary-after_ascii bytes (length front) utf8 within (omega (arith, at_l)))

cut_before : (bytes item rest : List ℕ) (b : ℕ) → bytes ≡ item ++ b ∷ rest → b < 128 → IsCharBoundary bytes (length item)
cut_before bytes item rest b whole small =
    let at_b : get_or bytes (length item) 0 ≡ b = ap (λ x. get_or x (length item) 0) whole ∙ get_or-append_seam item b rest 0 in
    let within : length item < length bytes = omega (arith, ap length whole, length-append item (b ∷ rest)) in
    IsCharBoundary-before_ascii bytes (length item) within (omega (arith, at_b))

cut_at_end : (bytes item : List ℕ) → bytes ≡ item ++ [] → IsCharBoundary bytes (length item)
cut_at_end bytes item whole =
    let same : length bytes ≡ length item = ap length (whole ∙ append-nil item) in
    subst (IsCharBoundary bytes) same (IsCharBoundary-end bytes)

-- no letter follows an item that ends in a letter, but for a dollar quote
no_letter : (first : Bool) (bytes : List ℕ) (k : ItemKind) (front : List ℕ) (l b : ℕ) (rest : List ℕ) → IsNext first bytes k (front ++ l ∷ []) (b ∷ rest) → k ≢ kind.Dollar
    → class_of l ≡ class.Letter → class_of b ≡ class.Letter → ⊥
no_letter first bytes k front l b rest next other last letter = by_behind (letter_behind front (run [] (begin first) front) l last)
  where
    runs : run [] (begin first) (front ++ l ∷ []) ≡ step front (run [] (begin first) front) l
    runs = run_both front (l ∷ []) [] (begin first)

    by_behind : Behind (step front (run [] (begin first) front) l) → ⊥
    by_behind (no_end none) =
        other (none (Some (class_of b)) k (ap (λ s. accepts s (Some (class_of b))) (sym runs) ∙ item_accepted first k (front ++ l ∷ []) (b ∷ rest) next.stands))
    by_behind (goes_on more) =
        let m = more (front ++ l ∷ []) b (next_class rest) letter in
        let accepted : accepts (run [] (begin first) ((front ++ l ∷ []) ++ b ∷ [])) (next_class rest) ≡ Some m.0 =
        ap (λ s. accepts s (next_class rest)) (run_both (front ++ l ∷ []) (b ∷ []) [] (begin first)) ∙ ap (λ s. accepts (step (front ++ l ∷ []) s b) (next_class rest)) runs ∙ m.1 in
        let short : length ((front ++ l ∷ []) ++ b ∷ []) ≤ length (front ++ l ∷ []) =
        next.longest m.0 ((front ++ l ∷ []) ++ b ∷ []) rest (next.whole ∙ sym (append_assoc (front ++ l ∷ []) (b ∷ []) rest)) (accepted_item first ((front ++ l ∷ []) ++ b ∷ []) rest m.0 accepted) in
        omega (arith, short, length-append (front ++ l ∷ []) (b ∷ []))

dollar_or : (k : ItemKind) → (k ≡ kind.Dollar) ⊎ (k ≢ kind.Dollar)
dollar_or kind.Dollar = inl refl
dollar_or _ = inr (λ is. cc is)

small_or : (b : ℕ) → (b < 128) ⊎ (128 ≤ b)
small_or b = grind (arith, nat_tests)

-- behind an item a character begins
item_ends : (first : Bool) (bytes : List ℕ) (k : ItemKind) (item rest : List ℕ) → IsUtf8 bytes → IsNext first bytes k item rest → IsCharBoundary bytes (length item)
item_ends first bytes k [] rest utf8 next = IsCharBoundary-start bytes utf8
item_ends first bytes k (d ∷ item) rest utf8 next = at_last (ends d item) (d ∷ item) rest (ends d item).is next
  where
    at_rest : (front : List ℕ) (l : ℕ) (rest : List ℕ) → IsNext first bytes k (front ++ l ∷ []) rest → k ≢ kind.Dollar → 128 ≤ l → IsCharBoundary bytes (length (front ++ l ∷ []))
    at_rest front l [] next other big = cut_at_end bytes (front ++ l ∷ []) next.whole
    at_rest front l (b ∷ rest) next other big = elim (small_or b) [
      | inl small ↦ cut_before bytes (front ++ l ∷ []) rest b next.whole small
      | inr more ↦ absurd (no_letter first bytes k front l b rest next other (beyond l big) (beyond b more))
    ]

    at_last : (e : Ends (d ∷ item)) (all rest : List ℕ) → all ≡ e.front ++ e.last ∷ [] → IsNext first bytes k all rest → IsCharBoundary bytes (length all)
    at_last e all rest same next =
        let n : IsNext first bytes k (e.front ++ e.last ∷ []) rest = subst (λ x. IsNext first bytes k x rest) same next in
        let c : IsCharBoundary bytes (length (e.front ++ e.last ∷ [])) = elim (small_or e.last) [
          | inl small ↦ cut_behind bytes e.front rest e.last utf8 n.whole small
          | inr big ↦ elim (dollar_or k) [
            | inl is ↦
                let stands : IsItem first kind.Dollar all rest = subst (λ x. IsItem first x all rest) is next.stands in
                let r = dollar_ends all stands in
                subst (λ x. IsCharBoundary bytes (length x)) (sym r.1 ∙ same)
                (cut_behind bytes r.0 rest 36 utf8 (next.whole ∙ ap (λ x. x ++ rest) r.1) (omega arith))
            | inr other ↦ at_rest e.front e.last rest n other big
          ]
        ] in
        subst (λ x. IsCharBoundary bytes (length x)) (sym same) c

-- so an item of a text is a text, and what follows it
pub item_text : (first : Bool) (bytes : List ℕ) (k : ItemKind) (item rest : List ℕ) → IsUtf8 bytes → IsNext first bytes k item rest → IsUtf8 item × IsUtf8 rest
item_text first bytes k item rest utf8 next =
    let cut = item_ends first bytes k item rest utf8 next in
    let front : take (length item) bytes ≡ item = ap (take (length item)) next.whole ∙ take_at item rest (length item) refl in
    let back : drop (length item) bytes ≡ rest = ap (drop (length item)) next.whole ∙ drop_at item rest (length item) refl in
    (subst IsUtf8 front (IsUtf8-take bytes (length item) utf8 cut), subst IsUtf8 back (IsUtf8-drop bytes (length item) utf8 cut))
