-- The names that tokens stand for (PostgreSQL manual, section 4.1.1).
use Rattle.std.specs.Prelude.{ℕ, ◌==◌, ◌&&◌, ◌||◌, ◌-◌, not, Bool, true, false, if◌then◌else◌, List, [], ◌∷◌, length, take, drop, map, Option, None, Some}
use Rattle.std.specs.List.{list_all, list_any}
use Rattle.std.specs.Str.{is_utf8, str_eq_ignore_ascii_case}
use Rattle.std.specs.Char.{is_ascii_alphanumeric, is_ascii_digit}
use Rattle.sq_base.specs.Folding.{folded, whole_front}
use Rattle.sq_syntax.specs.declared.token.TokenKind.{TokenKind}
use Rattle.sq_syntax.specs.declared.token.TokenKind.TheVariants.{Word, Quoted}
use Rattle.sq_run.specs.declared.names.TheConstants.{RESERVED}

-- whether two texts are equal but for the case of ASCII letters
unfoldable pub same_word : List ℕ → List ℕ → Bool
same_word a b = str_eq_ignore_ascii_case a b

-- an ASCII letter, a digit or an underscore
abbrev pub is_name_byte : ℕ → Bool
is_name_byte b = is_ascii_alphanumeric b || b == 95

-- letters, digits and underscores alone
abbrev pub are_name_bytes : List ℕ → Bool
are_name_bytes bytes = list_all is_name_byte bytes

-- a text is an identifier: an ASCII letter or an underscore, then these and digits
abbrev pub is_identifier : List ℕ → Bool
is_identifier [] = false
is_identifier (b ∷ bytes) = not (is_ascii_digit b) && are_name_bytes (b ∷ bytes)

-- whether a word is among these, in any letter case
abbrev pub is_among : List (List ℕ) → List ℕ → Bool
is_among words text = list_any (λ word. same_word text word) words

-- a word that is a name only where it is quoted
unfoldable pub is_reserved : List ℕ → Bool
is_reserved text = is_among (map (λ word. word.now) RESERVED) text

-- the name of a word is what it folds to, unless it is reserved
unfoldable pub word_name : List ℕ → Option (List ℕ)
word_name bytes = if is_utf8 bytes && not (is_reserved bytes) then Some (folded bytes) else None

-- what two quotes stand round
abbrev pub inside : List ℕ → List ℕ
inside bytes = take (length bytes - 2) (drop 1 bytes)

-- the bytes without those that double a quote, the next of which may be such a one
abbrev pub undoubled_from : Bool → List ℕ → List ℕ
undoubled_from behind_quote [] = []
undoubled_from true (b ∷ bytes) = undoubled_from false bytes
undoubled_from false (b ∷ bytes) = b ∷ undoubled_from (b == 34) bytes

-- the bytes with one double quote for two
abbrev pub undoubled : List ℕ → List ℕ
undoubled bytes = undoubled_from false bytes

-- the name in double quotes, cut as a word is
unfoldable pub quoted_name : List ℕ → Option (List ℕ)
quoted_name bytes = let name = undoubled (inside bytes) in if is_utf8 name then Some (whole_front 63 name) else None

-- the name that a token of this kind stands for
unfoldable pub name_text : TokenKind → List ℕ → Option (List ℕ)
name_text Word bytes = word_name bytes
name_text Quoted bytes = quoted_name bytes
name_text _ bytes = None
