-- How tokens are cut at their first semicolon.
use Rattle.std.proofs.Common.{◌≡◌, ◌<◌, ◌≤◌, ℕ, ◌+◌, ◌-◌, List, [], ◌∷◌, length, take, drop, None, Some, sym, ◌∙◌, ap, subst, inl, inr, arith}
use Rattle.std.specs.Prelude.{nat_lt, position}
use Rattle.std.specs.List.{slice_split, position_or_len}
use Rattle.std.proofs.lemmas.Bool.{cases_Bool, ltb-true, ltb-false}
use Rattle.std.proofs.lemmas.List.{length-drop, take_all}
use Rattle.std.proofs.lemmas.List.Splits.{slice_split_first, slice_split_none}
use Rattle.std.proofs.lemmas.List.Sums.{fails_before_first}
use Rattle.std.proofs.lemmas.Option.{same_Some}
use Rattle.sq_syntax.specs.declared.token.Token.{Token}
use Rattle.sq_run.specs.Statements.{is_end}

-- a semicolon at this place is the first one
pub record CutAt (tokens : List Token) (end : ℕ) : Type 0 where
  pub within : end < length tokens
  pub split : slice_split is_end tokens ≡ take end tokens ∷ slice_split is_end (take (length tokens - (end + 1)) (drop (end + 1) tokens))

-- what stands behind the first elements is all that is left
rest_of : (tokens : List Token) (count : ℕ) → take (length tokens - count) (drop count tokens) ≡ drop count tokens
rest_of tokens count = take_all (length tokens - count) (drop count tokens) (omega (arith, length-drop count tokens))

pub cut_at : (tokens : List Token) (end : ℕ) → position is_end tokens ≡ Some end → CutAt tokens end
cut_at [] end found = absurd (cc found)
cut_at (t ∷ ts) end found = elim (cases_Bool (nat_lt (position_or_len is_end (t ∷ ts)) (length (t ∷ ts)))) [
  | inl within ↦
      let at = position_or_len is_end (t ∷ ts) in
      let lies = ltb-true at (length (t ∷ ts)) within in
      let split = slice_split_first is_end (t ∷ ts) t lies ∙ ap (λ (rest : List Token). take at (t ∷ ts) ∷ slice_split is_end rest) (sym (rest_of (t ∷ ts) (at + 1))) in
      subst (CutAt (t ∷ ts)) (same_Some _ _ (rw within at found)) (record { within = lies; split = split })
  | inr past ↦ absurd (cc (rw past at found))
]

pub not_cut : (tokens : List Token) → position is_end tokens ≡ None → slice_split is_end tokens ≡ tokens ∷ []
not_cut tokens none = elim (cases_Bool (nat_lt (position_or_len is_end tokens) (length tokens))) [
  | inl within ↦ absurd (cc (rw within at none))
  | inr past ↦
      let all : length tokens ≤ position_or_len is_end tokens = ltb-false (position_or_len is_end tokens) (length tokens) past in
      slice_split_none is_end tokens (λ k d lies. fails_before_first is_end tokens k d (omega (arith, all, lies)))
]
