-- The tokens ahead.
use Rattle.std.specs.Prelude.{Bool, false, ◌&&◌, codes, if◌then◌else◌, List, [], ◌∷◌, map}
use Rattle.sq_syntax.specs.declared.symbol.Reading.{Reading}
use Rattle.sq_syntax.specs.Schemas.{is, begins_named_change}
use Rattle.sq_grammar.specs.Ahead.{Lexemes}

abbrev pub readings : Lexemes → List Reading
readings tokens = map (λ x. x.reading) tokens

-- the tokens after COLUMN, where it comes first
abbrev pub past_column : Lexemes → Lexemes
past_column [] = []
past_column (x ∷ rest) = if is (codes "column") x.reading then rest else x ∷ rest

abbrev pub begins_alter : Lexemes → Bool
begins_alter [] = false
begins_alter (x ∷ rest) = is (codes "alter") x.reading && begins_named_change (readings (past_column rest))
