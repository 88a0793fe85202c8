-- The longest front of whole characters.
use Rattle.std.proofs.Common.{◌≡◌, ℕ, List, length, take, min, ap, ◌∙◌, sym, arith}
use Rattle.std.proofs.lemmas.List.{take_all, take_min}
use Rattle.std.specs.Str.{IsUtf8}
use Rattle.std.specs.Str.Lossy.{utf8_valid_len}
use Rattle.std.proofs.lemmas.Str.{utf8_valid_len-IsUtf8}
use Rattle.sq_base.specs.Folding.{whole_front}

-- where the first bytes are whole characters
pub front_whole : (limit n : ℕ) (text piece front : List ℕ) → n ≡ min limit (length text) → piece ≡ take n text → front ≡ piece → IsUtf8 piece → front ≡ whole_front limit text
front_whole limit n text piece front counts cut same is =
    let first : piece ≡ take limit text = cut ∙ ap (λ m. take m text) counts ∙ take_min limit text in
    same ∙ sym (take_all (utf8_valid_len piece) piece (omega (arith, utf8_valid_len-IsUtf8 piece is))) ∙ ap (λ x. take (utf8_valid_len x) x) first

-- where they are not
pub front_cut : (limit n size : ℕ) (text piece front : List ℕ) → n ≡ min limit (length text) → piece ≡ take n text → size ≡ utf8_valid_len piece → front ≡ take size piece → front ≡ whole_front limit text
front_cut limit n size text piece front counts cut valid same =
    let first : piece ≡ take limit text = cut ∙ ap (λ m. take m text) counts ∙ take_min limit text in
    same ∙ ap (λ m. take m piece) valid ∙ ap (λ x. take (utf8_valid_len x) x) first
