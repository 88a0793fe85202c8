-- A raw text is read again.
use Rattle.std.proofs.Common.{◌≡◌, ℕ, ◌==◌, ◌&&◌, ◌||◌, Bool, true, false, cond, [], ◌∷◌, ◌++◌, codes, Some, None, nat_eq, refl, ap, sym, subst, ◌∙◌, append_assoc, arith, ◌⊎◌, inl, inr}
use Rattle.std.specs.List.{starts_with}
use Rattle.std.proofs.lemmas.Bool.Decides.{nat_tests}
use Rattle.sq_shown.specs.Layout.{raw, raw_byte as written_byte, leaving, mark}
use Rattle.sq_reader.specs.Parts.{Text, outside_at, is_outside, onto, at_quote, raw_after}

-- whether a byte and what follows it begin as U+FEFF
abbrev pub is_marked : ℕ → Text → Bool
is_marked b bs = (b == 239) && starts_with nat_eq bs (187 ∷ 191 ∷ [])

-- a byte is read again
byte_again : (b : ℕ) (bs : Text) → is_marked b bs ≡ false → raw_after (written_byte b ++ bs) 0 ≡ onto (b ∷ []) (raw_after bs 0)
unfolding outside_at
byte_again b bs unmarked = go (b == 96) (b == 13) refl refl
  where
    go : (quote return : Bool) → (b == 96) ≡ quote → (b == 13) ≡ return → raw_after (written_byte b ++ bs) 0 ≡ onto (b ∷ []) (raw_after bs 0)
    go true return e f =
        let is : b ≡ 96 = grind (arith, nat_tests) in
        subst (λ (b : ℕ). raw_after (written_byte b ++ bs) 0 ≡ onto (b ∷ []) (raw_after bs 0)) (sym is) refl
    go false true e f =
        let is : b ≡ 13 = grind (arith, nat_tests) in
        subst (λ (b : ℕ). raw_after (written_byte b ++ bs) 0 ≡ onto (b ∷ []) (raw_after bs 0)) (sym is) refl
    go false false e f =
        ap (λ (t : Bool). raw_after (cond t (leaving (codes "`")) (cond (b == 13) (leaving (codes "\\r")) (b ∷ [])) ++ bs) 0) e
        ∙ ap (λ (t : Bool). raw_after (cond t (leaving (codes "\\r")) (b ∷ []) ++ bs) 0) f
        ∙ ap (λ (t : Bool). cond t (at_quote (outside_at bs) bs (raw_after bs)) (cond (is_outside b bs) None (onto (b ∷ []) (raw_after bs 0)))) e
        ∙ ap (λ (t : Bool). cond (t || is_marked b bs) None (onto (b ∷ []) (raw_after bs 0))) f
        ∙ ap (λ (t : Bool). cond t None (onto (b ∷ []) (raw_after bs 0))) unmarked

-- what is written for a byte begins with it, or with a back-quote
byte_first : (b : ℕ) (x : Text) → (written_byte b ++ x ≡ b ∷ x) ⊎ ((y : Text) × (written_byte b ++ x ≡ 96 ∷ y))
byte_first b x = go (b == 96) (b == 13) refl refl
  where
    go : (quote return : Bool) → (b == 96) ≡ quote → (b == 13) ≡ return → (written_byte b ++ x ≡ b ∷ x) ⊎ ((y : Text) × (written_byte b ++ x ≡ 96 ∷ y))
    go true return e f = inr (_, ap (λ (t : Bool). cond t (leaving (codes "`")) (cond (b == 13) (leaving (codes "\\r")) (b ∷ [])) ++ x) e)
    go false true e f = inr (_, ap (λ (t : Bool). cond t (leaving (codes "`")) (cond (b == 13) (leaving (codes "\\r")) (b ∷ [])) ++ x) e ∙ ap (λ (t : Bool). cond t (leaving (codes "\\r")) (b ∷ []) ++ x) f)
    go false false e f = inl (ap (λ (t : Bool). cond t (leaving (codes "`")) (cond (b == 13) (leaving (codes "\\r")) (b ∷ [])) ++ x) e ∙ ap (λ (t : Bool). cond t (leaving (codes "\\r")) (b ∷ []) ++ x) f)

-- the same for a text
text_first : (b : ℕ) (bs tail : Text) → (raw (b ∷ bs) ++ tail ≡ b ∷ (raw bs ++ tail)) ⊎ ((y : Text) × (raw (b ∷ bs) ++ tail ≡ 96 ∷ y))
text_first b [] tail = byte_first b tail
text_first b (c ∷ []) tail = go (byte_first b (written_byte c ++ tail))
  where
    go : (written_byte b ++ (written_byte c ++ tail) ≡ b ∷ (written_byte c ++ tail)) ⊎ ((y : Text) × (written_byte b ++ (written_byte c ++ tail) ≡ 96 ∷ y)) →
        (raw (b ∷ c ∷ []) ++ tail ≡ b ∷ (raw (c ∷ []) ++ tail)) ⊎ ((y : Text) × (raw (b ∷ c ∷ []) ++ tail ≡ 96 ∷ y))
    go (inl e) = inl (append_assoc (written_byte b) (written_byte c) tail ∙ e)
    go (inr e) = inr (e.0, append_assoc (written_byte b) (written_byte c) tail ∙ e.1)
text_first b (c ∷ d ∷ bs) tail = go (starts_with nat_eq (b ∷ c ∷ d ∷ []) mark) refl (byte_first b (raw (c ∷ d ∷ bs) ++ tail))
  where
    go : (t : Bool) → starts_with nat_eq (b ∷ c ∷ d ∷ []) mark ≡ t → (written_byte b ++ (raw (c ∷ d ∷ bs) ++ tail) ≡ b ∷ (raw (c ∷ d ∷ bs) ++ tail)) ⊎ ((y : Text) × (written_byte b ++ (raw (c ∷ d ∷ bs) ++ tail) ≡ 96 ∷ y)) →
        (raw (b ∷ c ∷ d ∷ bs) ++ tail ≡ b ∷ (raw (c ∷ d ∷ bs) ++ tail)) ⊎ ((y : Text) × (raw (b ∷ c ∷ d ∷ bs) ++ tail ≡ 96 ∷ y))
    go true e first = inr (_, ap (λ (t : Bool). cond t (leaving (codes "\\ufeff") ++ raw bs) (written_byte b ++ raw (c ∷ d ∷ bs)) ++ tail) e)
    go false e (inl first) = inl (ap (λ (t : Bool). cond t (leaving (codes "\\ufeff") ++ raw bs) (written_byte b ++ raw (c ∷ d ∷ bs)) ++ tail) e ∙ append_assoc (written_byte b) (raw (c ∷ d ∷ bs)) tail ∙ first)
    go false e (inr first) = inr (first.0, ap (λ (t : Bool). cond t (leaving (codes "\\ufeff") ++ raw bs) (written_byte b ++ raw (c ∷ d ∷ bs)) ++ tail) e ∙ append_assoc (written_byte b) (raw (c ∷ d ∷ bs)) tail ∙ first.1)

and_false : (a : Bool) → (a && false) ≡ false
and_false true = refl
and_false false = refl

both : (a b : Bool) → (a && b) ≡ true → (a ≡ true) × (b ≡ true)
both true b h = (refl, h)
both false b h = absurd (cc)

-- the bytes of U+FEFF
marks : (b c d : ℕ) → starts_with nat_eq (b ∷ c ∷ d ∷ []) mark ≡ true → b ∷ c ∷ d ∷ [] ≡ mark
marks b c d e =
    let first = both (239 == b) ((187 == c) && ((191 == d) && true)) e in
    let second = both (187 == c) ((191 == d) && true) first.1 in
    let third = both (191 == d) true second.1 in
    let x : b ≡ 239 = grind (arith, nat_tests, first.0) in
    let y : c ≡ 187 = grind (arith, nat_tests, second.0) in
    let z : d ≡ 191 = grind (arith, nat_tests, third.0) in
    cc

flip : (a b : ℕ) → (a == b) ≡ (b == a)
flip a b = go (a == b) (b == a) refl refl
  where
    go : (s t : Bool) → (a == b) ≡ s → (b == a) ≡ t → (a == b) ≡ (b == a)
    go true true e f = e ∙ sym f
    go false false e f = e ∙ sym f
    go true false e f = absurd (grind (arith, nat_tests))
    go false true e f = absurd (grind (arith, nat_tests))

-- what stands behind the text
abbrev pub closing : Text → Text
closing rest = 10 ∷ 96 ∷ 10 ∷ rest

-- three bytes that are no U+FEFF are not written as one
unmarked_three : (b c d : ℕ) (bs tail : Text) → starts_with nat_eq (b ∷ c ∷ d ∷ []) mark ≡ false → is_marked b (raw (c ∷ d ∷ bs) ++ tail) ≡ false
unmarked_three b c d bs tail other = go (text_first c (d ∷ bs) tail) (text_first d bs tail)
  where
    go : (raw (c ∷ d ∷ bs) ++ tail ≡ c ∷ (raw (d ∷ bs) ++ tail)) ⊎ ((y : Text) × (raw (c ∷ d ∷ bs) ++ tail ≡ 96 ∷ y)) →
        (raw (d ∷ bs) ++ tail ≡ d ∷ (raw bs ++ tail)) ⊎ ((y : Text) × (raw (d ∷ bs) ++ tail ≡ 96 ∷ y)) → is_marked b (raw (c ∷ d ∷ bs) ++ tail) ≡ false
    go (inr e) later = ap (is_marked b) e.1 ∙ and_false (b == 239)
    go (inl e) (inr f) = ap (is_marked b) (e ∙ ap (λ (x : Text). c ∷ x) f.1) ∙ ap (λ (t : Bool). (b == 239) && t) (and_false (187 == c)) ∙ and_false (b == 239)
    go (inl e) (inl f) = ap (is_marked b) (e ∙ ap (λ (x : Text). c ∷ x) f) ∙ ap (λ (t : Bool). t && ((187 == c) && ((191 == d) && true))) (flip b 239) ∙ other

-- two bytes before the closing
unmarked_two : (b c : ℕ) (rest : Text) → is_marked b (written_byte c ++ closing rest) ≡ false
unmarked_two b c rest = go (byte_first c (closing rest))
  where
    go : (written_byte c ++ closing rest ≡ c ∷ closing rest) ⊎ ((y : Text) × (written_byte c ++ closing rest ≡ 96 ∷ y)) → is_marked b (written_byte c ++ closing rest) ≡ false
    go (inr e) = ap (is_marked b) e.1 ∙ and_false (b == 239)
    go (inl e) = ap (is_marked b) e ∙ ap (λ (t : Bool). (b == 239) && t) (and_false (187 == c)) ∙ and_false (b == 239)

-- a text and a newline are read again up to the closing back-quote
pub raw_again : (text rest : Text) → raw_after (raw text ++ closing rest) 0 ≡ Some (text ++ 10 ∷ [], 10 ∷ rest)
unfolding outside_at
raw_again [] rest = refl
raw_again (b ∷ []) rest = byte_again b (closing rest) (and_false (b == 239))
raw_again (b ∷ c ∷ []) rest =
    ap (λ (x : Text). raw_after x 0) (append_assoc (written_byte b) (written_byte c) (closing rest))
    ∙ byte_again b (written_byte c ++ closing rest) (unmarked_two b c rest)
    ∙ ap (onto (b ∷ [])) (raw_again (c ∷ []) rest)
raw_again (b ∷ c ∷ d ∷ bs) rest = go (starts_with nat_eq (b ∷ c ∷ d ∷ []) mark) refl (raw_again bs rest) (raw_again (c ∷ d ∷ bs) rest)
  where
    go : (t : Bool) → starts_with nat_eq (b ∷ c ∷ d ∷ []) mark ≡ t → raw_after (raw bs ++ closing rest) 0 ≡ Some (bs ++ 10 ∷ [], 10 ∷ rest) →
        raw_after (raw (c ∷ d ∷ bs) ++ closing rest) 0 ≡ Some (c ∷ d ∷ bs ++ 10 ∷ [], 10 ∷ rest) →
        raw_after (raw (b ∷ c ∷ d ∷ bs) ++ closing rest) 0 ≡ Some (b ∷ c ∷ d ∷ bs ++ 10 ∷ [], 10 ∷ rest)
    go true e later more =
        ap (λ (t : Bool). raw_after (cond t (leaving (codes "\\ufeff") ++ raw bs) (written_byte b ++ raw (c ∷ d ∷ bs)) ++ closing rest) 0) e
        ∙ ap (onto mark) later
        ∙ ap (λ (m : Text). Some (m ++ bs ++ 10 ∷ [], 10 ∷ rest)) (sym (marks b c d e))
    go false e later more =
        ap (λ (t : Bool). raw_after (cond t (leaving (codes "\\ufeff") ++ raw bs) (written_byte b ++ raw (c ∷ d ∷ bs)) ++ closing rest) 0) e
        ∙ ap (λ (x : Text). raw_after x 0) (append_assoc (written_byte b) (raw (c ∷ d ∷ bs)) (closing rest))
        ∙ byte_again b (raw (c ∷ d ∷ bs) ++ closing rest) (unmarked_three b c d bs (closing rest) e)
        ∙ ap (onto (b ∷ [])) more
