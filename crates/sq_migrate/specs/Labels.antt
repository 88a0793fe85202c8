-- The labels of enumerations (PostgreSQL manual, sections 4.1.2.1 and 8.7).
use Rattle.std.specs.Prelude.{ℕ, ◌&&◌, ◌==◌, Bool, false, if◌then◌else◌, List, [], ◌∷◌}
use Rattle.std.specs.Str.{is_utf8}
use Rattle.sq_syntax.specs.Symbols.{within}

-- bytes with one single quote for two; whether the next one may double the one before it
abbrev pub undoubled : Bool → List ℕ → List ℕ
undoubled after [] = []
undoubled after (byte ∷ bytes) = if after && byte == 39 then undoubled false bytes else byte ∷ undoubled (byte == 39) bytes

-- bytes as a text; those that are none come from no file
abbrev pub as_text : List ℕ → List ℕ
as_text bytes = if is_utf8 bytes then bytes else []

-- the label that a text in single quotes is
abbrev pub label : List ℕ → List ℕ
label bytes = as_text (undoubled false (within bytes))
