-- What the next tokens begin.
use Rattle.std.specs.Prelude.{Bool, false, ◌&&◌, [], ◌∷◌}
use Rattle.sq_syntax.specs.declared.symbol.Symbol.TheVariants as s
use Rattle.sq_grammar.specs.Reading.{is, begins}
use Rattle.sq_grammar.specs.Primaries.{purpose_of}
use Rattle.sq_grammar.specs.Ahead.{Lexemes, is_some}

abbrev pub begins_call_of_purpose : Lexemes → Bool
begins_call_of_purpose [] = false
begins_call_of_purpose (x ∷ rest) = is_some (purpose_of x.reading x.place) && begins s.Open rest

abbrev pub begins_dotted_purpose : Lexemes → Bool
begins_dotted_purpose [] = false
begins_dotted_purpose (x ∷ rest) = is s.Dot x.reading && begins_call_of_purpose rest

abbrev pub begins_dotted_star : Lexemes → Bool
begins_dotted_star [] = false
begins_dotted_star (x ∷ rest) = is s.Dot x.reading && begins s.Times rest
