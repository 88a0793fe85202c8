-- Words: texts of ASCII letters, digits and `_` that have a byte.
use Rattle.std.specs.Prelude.{ℕ, ◌==◌, Bool, false, ◌||◌, [], ◌∷◌}
use Rattle.std.specs.List.{list_all}
use Rattle.std.specs.Char.{is_ascii_alphanumeric}
use Rattle.sq_shown.specs.Lines.{Text}

-- whether a byte may stand in a word
abbrev pub is_word_byte : ℕ → Bool
is_word_byte b = is_ascii_alphanumeric b || (b == 95)

-- whether a text is a word
abbrev pub is_word : Text → Bool
is_word [] = false
is_word (b ∷ bs) = list_all is_word_byte (b ∷ bs)
