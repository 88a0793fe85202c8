-- To count the bytes of the mark finds it where it first stands.
use Rattle.std.proofs.Common.{◌≡◌, ℕ, ◌+◌, ◌<◌, ◌==◌, ◌&&◌, suc, Bool, true, false, List, [], ◌∷◌, ◌++◌, length, get_or, nat_lt, if◌then◌else◌, refl, ap, ◌∙◌, sym, arith, append_assoc, append-nil, eqb-true, eq-eqb}
use Rattle.std.proofs.lemmas.List.{get_or_at, length-append, length_push}
use Rattle.std.proofs.lemmas.Bool.Decides.{nat_tests}
use Rattle.std.specs.List.{AllByRecursion}
use Rattle.sq_syntax.specs.Bytes.{class_of}
use Rattle.sq_syntax.specs.Classes.{IsMark, begins, ends_first, is_tag, begins_word, continues_tag, each}
use Rattle.sq_syntax.specs.declared.class.ByteClass.{ByteClass}
use Rattle.sq_syntax.specs.declared.class.ByteClass.TheVariants as class
use Rattle.sq_lexer.specs.Machine.{matched_after}
use Rattle.sq_lexer.proofs.QuoteMarks.{class_of_dollar}
use Rattle.sq_lexer.proofs.Runs.{and_left, and_right}

-- counted byte by byte, the mark is whole with the last byte
abbrev pub counts_whole : List ℕ → ℕ → List ℕ → Bool
counts_whole mark matched [] = matched == length mark
counts_whole mark matched (b ∷ bytes) = nat_lt matched (length mark) && counts_whole mark (matched_after mark matched b) bytes

-- a mark whose tag holds no dollar
abbrev pub HasTag : List ℕ → Type 0
HasTag mark = (tag : List ℕ) × (mark ≡ 36 ∷ (tag ++ 36 ∷ [])) × AllByRecursion (λ b. (b == 36) ≡ false) tag

tag_apart : (c : ByteClass) → continues_tag c ≡ true → c ≡ class.Dollar → ⊥
tag_apart class.Dollar h e = cc
tag_apart _ h e = cc

word_apart : (c : ByteClass) → begins_word c ≡ true → c ≡ class.Dollar → ⊥
word_apart class.Dollar h e = cc
word_apart _ h e = cc

no_dollar : (b : ℕ) → (class_of b ≡ class.Dollar → ⊥) → (test : Bool) → (b == 36) ≡ test → (b == 36) ≡ false
no_dollar b apart true same = absurd (apart (ap class_of (eqb-true b 36 same) ∙ class_of_dollar))
no_dollar b apart false same = same

no_dollars : (bytes : List ℕ) → each continues_tag bytes ≡ true → AllByRecursion (λ b. (b == 36) ≡ false) bytes
no_dollars [] h = tt
no_dollars (b ∷ bytes) h = (no_dollar b (tag_apart (class_of b) (and_left _ _ h)) (b == 36) refl, no_dollars bytes (and_right _ _ h))

tag_plain : (tag : List ℕ) → is_tag tag ≡ true → AllByRecursion (λ b. (b == 36) ≡ false) tag
tag_plain [] h = tt
tag_plain (b ∷ tag) h = (no_dollar b (word_apart (class_of b) (and_left _ _ h)) (b == 36) refl, no_dollars tag (and_right _ _ h))

and_false : (test other : Bool) → other ≡ false → (test && other) ≡ false
and_false true other h = h
and_false false other h = refl

begins_apart : (front : List ℕ) (m : ℕ) (back : List ℕ) (b : ℕ) (rest : List ℕ) → (b == m) ≡ false → begins (front ++ m ∷ back) (front ++ b ∷ rest) ≡ false
begins_apart [] m back b rest apart = ap (λ t. t && begins back rest) apart
begins_apart (c ∷ front) m back b rest apart = and_false (c == c) _ (begins_apart front m back b rest apart)

begins_itself : (mark rest : List ℕ) → begins mark (mark ++ rest) ≡ true
begins_itself [] rest = refl
begins_itself (m ∷ mark) rest = ap (λ t. t && begins mark (mark ++ rest)) (eq-eqb m m refl) ∙ begins_itself mark rest

begins_short : (mark bytes : List ℕ) → length bytes < length mark → begins mark bytes ≡ false
begins_short [] bytes less = absurd (omega arith)
begins_short (m ∷ mark) [] less = refl
begins_short (m ∷ mark) (b ∷ bytes) less = and_false (b == m) (begins mark bytes) (begins_short mark bytes (omega arith))

short_ends : (mark bytes : List ℕ) → length bytes < length mark → ends_first mark bytes ≡ false
short_ends mark [] less = refl
short_ends mark (b ∷ bytes) less =
    ap (λ t. if t then length (b ∷ bytes) == length mark else ends_first mark bytes) (begins_short mark (b ∷ bytes) less) ∙ short_ends mark bytes (omega arith)

-- bytes that are no dollar begin no mark
other_ends : (mark : List ℕ) (b : ℕ) (rest : List ℕ) → HasTag mark → (b == 36) ≡ false → ends_first mark (b ∷ rest) ≡ ends_first mark rest
other_ends mark b rest is apart =
    let none : begins mark (b ∷ rest) ≡ false = ap (λ x. begins x (b ∷ rest)) is.1 ∙ ap (λ t. t && begins (is.0 ++ 36 ∷ []) rest) apart in
    ap (λ t. if t then length (b ∷ rest) == length mark else ends_first mark rest) none

others_end : (mark front : List ℕ) (rest : List ℕ) → HasTag mark → AllByRecursion (λ b. (b == 36) ≡ false) front → ends_first mark (front ++ rest) ≡ ends_first mark rest
others_end mark [] rest is none = refl
others_end mark (b ∷ front) rest is none = other_ends mark b (front ++ rest) is none.0 ∙ others_end mark front rest is none.1

-- in front of its last byte, a mark's only dollar is its first byte
front_of_tag : (tag front : List ℕ) (m : ℕ) (back : List ℕ) → AllByRecursion (λ b. (b == 36) ≡ false) tag → tag ++ 36 ∷ [] ≡ front ++ m ∷ back → AllByRecursion (λ b. (b == 36) ≡ false) front
front_of_tag tag [] m back none e = tt
front_of_tag [] (c ∷ []) m back none e = cc
front_of_tag [] (c ∷ d ∷ front) m back none e = cc
front_of_tag (t ∷ tag) (c ∷ front) m back none e =
    let head : t ≡ c = cc in
    let tail : tag ++ 36 ∷ [] ≡ front ++ m ∷ back = cc in
    (ap (λ x. x == 36) (sym head) ∙ none.0, front_of_tag tag front m back none.1 tail)

-- what has been counted is no front of another mark
skips : (mark front : List ℕ) (m : ℕ) (back : List ℕ) (b : ℕ) (rest : List ℕ) → HasTag mark → mark ≡ front ++ m ∷ back → (b == m) ≡ false
    → ends_first mark (front ++ b ∷ rest) ≡ ends_first mark (b ∷ rest)
skips mark [] m back b rest is split apart = refl
skips mark (c ∷ front) m back b rest is split apart =
    let tail : is.0 ++ 36 ∷ [] ≡ front ++ m ∷ back = let e : 36 ∷ (is.0 ++ 36 ∷ []) ≡ c ∷ (front ++ m ∷ back) = sym is.1 ∙ split in cc in
    let none : begins mark (c ∷ (front ++ b ∷ rest)) ≡ false = ap (λ x. begins x (c ∷ (front ++ b ∷ rest))) split ∙ begins_apart (c ∷ front) m back b rest apart in
    ap (λ t. if t then length (c ∷ (front ++ b ∷ rest)) == length mark else ends_first mark (front ++ b ∷ rest)) none
    ∙ others_end mark front (b ∷ rest) is (front_of_tag is.0 front m back is.2 tail)

-- a mark that has come whole ends the form where nothing follows
whole_ends : (mark rest : List ℕ) → HasTag mark → counts_whole mark (length mark) rest ≡ ends_first mark (mark ++ rest)
whole_ends [] rest is = let e : [] ≡ 36 ∷ (is.0 ++ 36 ∷ []) = is.1 in cc
whole_ends (m ∷ mark) rest is =
    at_rest rest ∙ sym (ap (λ t. if t then length (m ∷ (mark ++ rest)) == length (m ∷ mark) else ends_first (m ∷ mark) (mark ++ rest)) (begins_itself (m ∷ mark) rest))
  where
    at_rest : (rest : List ℕ) → counts_whole (m ∷ mark) (length (m ∷ mark)) rest ≡ (length (m ∷ (mark ++ rest)) == length (m ∷ mark))
    at_rest [] = ap (λ x. length (m ∷ x) == length (m ∷ mark)) (sym (append-nil mark))
    at_rest (b ∷ rest) =
        let full : nat_lt (length (m ∷ mark)) (length (m ∷ mark)) ≡ false = grind (arith, nat_tests) in
        let size : length (mark ++ b ∷ rest) ≡ length mark + suc (length rest) = length-append mark (b ∷ rest) in
        let longer : (length (m ∷ (mark ++ b ∷ rest)) == length (m ∷ mark)) ≡ false = grind (arith, nat_tests) in
        ap (λ t. t && counts_whole (m ∷ mark) (matched_after (m ∷ mark) (length (m ∷ mark)) b) rest) full ∙ sym longer

-- the bytes of the mark that have come stand in front of those that come
pub counts : (bytes mark front : List ℕ) (m : ℕ) (back : List ℕ) → HasTag mark → mark ≡ front ++ m ∷ back → counts_whole mark (length front) bytes ≡ ends_first mark (front ++ bytes)
counts [] mark front m back is split =
    let size : length mark ≡ length front + suc (length back) = ap length split ∙ length-append front (m ∷ back) in
    let apart : (length front == length mark) ≡ false = grind (arith, nat_tests) in
    apart ∙ sym (ap (ends_first mark) (append-nil front) ∙ short_ends mark front (omega arith))
counts (b ∷ bytes) mark front m back is split =
    let size : length mark ≡ length front + suc (length back) = ap length split ∙ length-append front (m ∷ back) in
    let less : nat_lt (length front) (length mark) ≡ true = grind (arith, nat_tests) in
    let reads : get_or mark (length front) 0 ≡ m = ap (λ x. get_or x (length front) 0) split ∙ get_or_at front m back 0 (length front) refl in
    ap (λ t. t && counts_whole mark (matched_after mark (length front) b) bytes) less
    ∙ ap (λ x. counts_whole mark (if b == x then length front + 1 else (if b == 36 then 1 else 0)) bytes) reads
    ∙ at_test (b == m) refl back split (counts bytes mark)
  where
    pushed : length front + 1 ≡ length (front ++ m ∷ [])
    pushed = sym (length_push front m)

    at_dollar : (test : Bool) → (b == 36) ≡ test
        → ((front : List ℕ) (m : ℕ) (back : List ℕ) → HasTag mark → mark ≡ front ++ m ∷ back → counts_whole mark (length front) bytes ≡ ends_first mark (front ++ bytes))
        → (tag : List ℕ) → mark ≡ 36 ∷ (tag ++ 36 ∷ [])
        → counts_whole mark (if test then 1 else 0) bytes ≡ ends_first mark (b ∷ bytes)
    at_dollar true same more [] e = more (36 ∷ []) 36 [] is e ∙ ap (λ x. ends_first mark (x ∷ bytes)) (sym (eqb-true b 36 same))
    at_dollar true same more (t ∷ tag) e = more (36 ∷ []) t (tag ++ 36 ∷ []) is e ∙ ap (λ x. ends_first mark (x ∷ bytes)) (sym (eqb-true b 36 same))
    at_dollar false apart more tag e = more [] 36 (tag ++ 36 ∷ []) is e ∙ sym (other_ends mark b bytes is apart)

    at_test : (test : Bool) → (b == m) ≡ test → (back : List ℕ) → mark ≡ front ++ m ∷ back
        → ((front : List ℕ) (m : ℕ) (back : List ℕ) → HasTag mark → mark ≡ front ++ m ∷ back → counts_whole mark (length front) bytes ≡ ends_first mark (front ++ bytes))
        → counts_whole mark (if test then length front + 1 else (if b == 36 then 1 else 0)) bytes ≡ ends_first mark (front ++ b ∷ bytes)
    at_test true same [] split more =
        ap (λ n. counts_whole mark n bytes) (pushed ∙ ap length (sym split)) ∙ whole_ends mark bytes is
        ∙ ap (λ x. ends_first mark (x ++ bytes)) split ∙ ap (ends_first mark) (append_assoc front (m ∷ []) bytes) ∙ ap (λ x. ends_first mark (front ++ x ∷ bytes)) (sym (eqb-true b m same))
    at_test true same (n ∷ back) split more =
        ap (λ n. counts_whole mark n bytes) pushed ∙ more (front ++ m ∷ []) n back is (split ∙ sym (append_assoc front (m ∷ []) (n ∷ back)))
        ∙ ap (ends_first mark) (append_assoc front (m ∷ []) bytes) ∙ ap (λ x. ends_first mark (front ++ x ∷ bytes)) (sym (eqb-true b m same))
    at_test false apart back split more =
        at_dollar (b == 36) refl more is.0 is.1 ∙ sym (skips mark front m back b bytes is split apart)

pub first_mark : (mark bytes : List ℕ) → IsMark mark → counts_whole mark 0 bytes ≡ ends_first mark bytes
first_mark mark bytes is = counts bytes mark [] 36 (is.0 ++ 36 ∷ []) (is.0, is.1, tag_plain is.0 is.2) is.1
