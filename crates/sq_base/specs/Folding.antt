-- Names that stand without quotes are folded: their ASCII letters are lowered, and they are cut
-- (PostgreSQL 16 manual, section 4.1.1).
use Rattle.std.specs.Prelude.{ℕ, List, take}
use Rattle.std.specs.Str.{str_to_ascii_lowercase}
use Rattle.std.specs.Str.Lossy.{utf8_valid_len}

-- of the first bytes, at most so many, the longest front that is whole characters
abbrev pub whole_front : ℕ → List ℕ → List ℕ
whole_front limit text = take (utf8_valid_len (take limit text)) (take limit text)

-- the name that a word stands for
abbrev pub folded : List ℕ → List ℕ
folded text = str_to_ascii_lowercase (whole_front 63 text)
