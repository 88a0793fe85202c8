-- The printed lines.
use Rattle.std.specs.Prelude.{ℕ, ◌==◌, ◌||◌, nat_lt, if◌then◌else◌, List, [], ◌∷◌, ◌++◌, map, codes, decimal}
use Rattle.sq_base.specs.Refusals.{number, word}
use Rattle.sq_base.specs.declared.code.Code.{Code}
use Rattle.sq_base.specs.declared.place.Place.{Place}
use Rattle.sq_plan.specs.declared.halt.Finding.{Finding}
use Rattle.sq_plan.specs.declared.halt.Spot.{Spot}
use Rattle.sq_plan.specs.declared.halt.Spot.TheVariants.{Whole, Line, Placed}

-- a control byte is shown as a question mark
abbrev pub shown_byte : ℕ → ℕ
shown_byte byte = if nat_lt byte 32 || byte == 127 then 63 else byte

-- a path or a text as it is shown
abbrev pub shown : List ℕ → List ℕ
shown text = map shown_byte text

-- a path, a text behind it, and the end of the line
abbrev pub line : List ℕ → List ℕ → List ℕ
line path text = shown path ++ text ++ 10 ∷ []

-- a text that a refusal keeps, and a space before it; an empty one is left away
abbrev pub kept : List ℕ → List ℕ
kept [] = []
kept (byte ∷ text) = 32 ∷ shown (byte ∷ text)

-- the number in brackets, and its word
abbrev pub numbered : Code → List ℕ
numbered code = codes "[" ++ decimal (number code) ++ codes "] " ++ word code

-- what stands between the path and the number
abbrev pub at_spot : Spot → Place → List ℕ
at_spot Whole place = codes ": "
at_spot Line place = codes ":" ++ decimal place.line ++ codes ": "
at_spot Placed place = codes ":" ++ decimal place.line ++ codes ":" ++ decimal place.column ++ codes ": "

-- the line of a refusal
abbrev pub finding_line : Finding → List ℕ
finding_line finding =
    shown finding.path ++ at_spot finding.spot finding.refusal.place ++ numbered finding.refusal.code ++ kept finding.refusal.first ++ kept finding.refusal.second ++ 10 ∷ []

-- the line that says how the program is called
abbrev pub usage_lines : List (List ℕ)
usage_lines = codes "usage: sqlc generate|compile [-f PATH | --file PATH | --file=PATH]\n" ∷ []
