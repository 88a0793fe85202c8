-- Items with commas between them, as a loop reads them.
use Rattle.std.proofs.Common.{◌≡◌, ◌<◌, ◌≤◌, ℕ, zero, suc, Bool, true, false, List, [], ◌∷◌, ◌++◌, length, None, Some, refl, sym, ◌∙◌, ap, arith, append_assoc}
use Rattle.std.specs.Option.{option_map}
use Rattle.sq_syntax.specs.declared.token.Token.{Token}
use Rattle.sq_syntax.specs.declared.token.TokenKind.{TokenKind}
use Rattle.sq_run.specs.Statements.{Part, next, items_from, items_at, with_item}

-- items before those of the tokens that follow
abbrev pub with_items : {A : Type 0} → List A → Part (List A) → Part (List A)
with_items items later = option_map (λ r. (items ++ r.0, r.1)) later

-- the items so far, and those of the rest, are those of all tokens
pub record IsTold {A : Type 0} (item : List Token → Part A) (kind : TokenKind) (close : List ℕ) (tokens : List Token) (items : List A) (rest : List Token) : Type 0 where
  pub count : ℕ
  pub within : length rest ≤ count
  pub told : with_items items (items_from item kind close count rest) ≡ items_at item kind close tokens

no_items : {A : Type 0} (later : Part (List A)) → with_items [] later ≡ later
no_items None = refl
no_items (Some r) = refl

one_more : {A : Type 0} (items : List A) (x : A) (later : Part (List A)) → with_items items (with_item x later) ≡ with_items (items ++ x ∷ []) later
one_more items x None = refl
one_more items x (Some r) = ap (λ (xs : List _). Some (xs, r.1)) (sym (append_assoc items (x ∷ []) r.0))

module _ {A : Type 0} (item : List Token → Part A) (kind : TokenKind) (close : List ℕ) (tokens : List Token) where
  pub told_first : IsTold item kind close tokens [] tokens
  told_first = record { count = length tokens; within = omega arith; told = no_items (items_from item kind close (length tokens) tokens) }

  pub told_none : (items : List A) (rest : List Token) → IsTold item kind close tokens items rest → item rest ≡ None → items_at item kind close tokens ≡ None
  told_none items rest t none = by_count t.count t.told
    where
      by_count : (n : ℕ) → with_items items (items_from item kind close n rest) ≡ items_at item kind close tokens → items_at item kind close tokens ≡ None
      by_count zero told = sym told
      by_count (suc n) told = sym told ∙ rw none refl

  pub told_stuck : (items : List A) (rest : List Token) (x : A) (later : List Token) → IsTold item kind close tokens items rest → item rest ≡ Some (x, later) → next kind close later ≡ None → items_at item kind close tokens ≡ None
  told_stuck items rest x later t is none = by_count t.count t.told
    where
      by_count : (n : ℕ) → with_items items (items_from item kind close n rest) ≡ items_at item kind close tokens → items_at item kind close tokens ≡ None
      by_count zero told = sym told
      by_count (suc n) told = sym told ∙ rw (is, none) refl

  pub told_end : (items : List A) (rest : List Token) (x : A) (later end : List Token) → IsTold item kind close tokens items rest → item rest ≡ Some (x, later) → next kind close later ≡ Some (false, end) → length later < length rest
      → items_at item kind close tokens ≡ Some (items ++ x ∷ [], end)
  told_end items rest x later end t is closed shorter = by_count t.count t.within t.told
    where
      by_count : (n : ℕ) → length rest ≤ n → with_items items (items_from item kind close n rest) ≡ items_at item kind close tokens → items_at item kind close tokens ≡ Some (items ++ x ∷ [], end)
      by_count zero within told = absurd (omega arith)
      by_count (suc n) within told = sym told ∙ rw (is, closed) refl

  pub told_more : (items : List A) (rest : List Token) (x : A) (later : List Token) (more : Bool) (end : List Token) → IsTold item kind close tokens items rest → item rest ≡ Some (x, later) → next kind close later ≡ Some (more, end) → more ≡ true
      → length later < length rest → length end < length later → IsTold item kind close tokens (items ++ x ∷ []) end
  told_more items rest x later more end t is goes goes_on shorter shorter_still = by_count t.count t.within t.told
    where
      by_count : (n : ℕ) → length rest ≤ n → with_items items (items_from item kind close n rest) ≡ items_at item kind close tokens → IsTold item kind close tokens (items ++ x ∷ []) end
      by_count zero within told = absurd (omega arith)
      by_count (suc n) within told = record {
        count = n;
        within = omega arith;
        told = sym (one_more items x (items_from item kind close n end)) ∙ sym (rw (is, goes, goes_on) refl) ∙ told;
      }
