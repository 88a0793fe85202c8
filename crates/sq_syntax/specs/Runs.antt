-- Runs: lists of tokens that are kept as they are, with balanced brackets.
use Rattle.std.specs.Prelude.{Bool, false, ◌&&◌, not, List, [], ◌∷◌, Option, Some, None}
use Rattle.sq_syntax.specs.declared.symbol.Symbol.{Symbol}
use Rattle.sq_syntax.specs.declared.symbol.Symbol.TheVariants as s
use Rattle.sq_syntax.specs.declared.symbol.Reading.{Reading}
use Rattle.sq_syntax.specs.declared.symbol.Reading.TheVariants as reading
use Rattle.sq_syntax.specs.Pieces.{is_empty}

-- a bracket that is open
pub data Bracket : Type 0 where
  round : Bracket
  square : Bracket

-- the brackets that are open where a round one closes, and None where the innermost is no round one
abbrev pub close_round : List Bracket → Option (List Bracket)
close_round (Bracket.round ∷ above) = Some above
close_round _ = None

abbrev pub close_square : List Bracket → Option (List Bracket)
close_square (Bracket.square ∷ above) = Some above
close_square _ = None

abbrev pub symbol_behind : Symbol → List Bracket → Option (List Bracket)
symbol_behind s.Open above = Some (Bracket.round ∷ above)
symbol_behind s.OpenSquare above = Some (Bracket.square ∷ above)
symbol_behind s.Close above = close_round above
symbol_behind s.CloseSquare above = close_square above
symbol_behind _ above = Some above

-- the brackets that are open behind a token
abbrev pub behind : Reading → List Bracket → Option (List Bracket)
behind (reading.Symbol x) above = symbol_behind x above
behind _ above = Some above

-- brackets are balanced, and no token at the run's own depth is one of these
abbrev pub fits : (Reading → Bool) → Option (List Bracket) → List Reading → Bool
fits stop None run = false
fits stop (Some above) [] = is_empty above
fits stop (Some above) (r ∷ run) = not (is_empty above && stop r) && fits stop (behind r above) run

abbrev pub run_fits : (Reading → Bool) → List Reading → Bool
run_fits stop run = fits stop (Some []) run

-- the same from the second token on
abbrev pub run_fits_behind : (Reading → Bool) → List Reading → Bool
run_fits_behind stop [] = false
run_fits_behind stop (r ∷ run) = fits stop (behind r []) run

-- nothing ends a run but the bracket that it stands in
abbrev pub no_stop : Reading → Bool
no_stop r = false
