-- The steps of a text within a raw string.
use Rattle.std.proofs.Common.{◌≡◌, ◌<◌, Bool, true, false, [], ◌∷◌, ◌++◌, refl, sym, append-nil, append_assoc, ◌&&◌, drop, length, get_or, nat_eq, arith}
use Rattle.std.specs.List.{starts_with}
use Rattle.std.specs.Prelude.{codes}
use Rattle.sq_shown.specs.Lines.{Text}
use Rattle.sq_shown.specs.Layout.{raw, raw_byte, leaving, mark}

-- a test that ends in false fails
fails : (one : Bool) → (one && false) ≡ true → ⊥
fails true h = cc
fails false h = cc

fails_twice : (one two : Bool) → (one && (two && false)) ≡ true → ⊥
fails_twice true two h = fails two h
fails_twice false two h = cc

-- a text that begins with U+FEFF
pub raw_marked : (text : Text) → starts_with nat_eq text mark ≡ true → raw text ≡ leaving (codes "\\ufeff") ++ raw (drop 3 text)
raw_marked [] h = cc
raw_marked (first ∷ []) h = absurd (fails (nat_eq 239 first) h)
raw_marked (first ∷ second ∷ []) h = absurd (fails_twice (nat_eq 239 first) (nat_eq 187 second) h)
raw_marked (first ∷ second ∷ third ∷ bytes) h = rw h refl

-- any other text
pub raw_unmarked : (text : Text) → starts_with nat_eq text mark ≡ false → 0 < length text → raw text ≡ raw_byte (get_or text 0 0) ++ raw (drop 1 text)
raw_unmarked [] h some = absurd (omega arith)
raw_unmarked (first ∷ []) h some = sym (append-nil (raw_byte first))
raw_unmarked (first ∷ second ∷ []) h some = refl
raw_unmarked (first ∷ second ∷ third ∷ bytes) h some = rw h refl

-- what is written and what is left, after U+FEFF
pub marked_step : (before now rest text : Text) → starts_with nat_eq text mark ≡ true → now ≡ before ++ leaving (codes "\\ufeff") → rest ≡ drop 3 text → now ++ raw rest ≡ before ++ raw text
marked_step before now rest text test written left = rw (written, left, append_assoc, raw_marked text test) refl
