-- Runs, as they are read token by token.
use Rattle.std.specs.Prelude.{ℕ, suc, Bool, true, ◌&&◌, ◌||◌, List, [], ◌∷◌, ◌++◌, Some, None}
use Rattle.sq_syntax.specs.declared.symbol.Reading.{Reading}
use Rattle.sq_syntax.specs.Facts.{Stream}
use Rattle.sq_syntax.specs.Pieces.{is_empty}
use Rattle.sq_syntax.specs.Runs as runs
use Rattle.sq_syntax.specs.Schemas.{is_comma, ends_default, ends_partition}
use Rattle.sq_grammar.specs.Reading.{Outcome}
use Rattle.sq_grammar.specs.Ahead.{Lexemes}
use Rattle.sq_grammar.specs.Schemas.{before, closes, run_from}
use Rattle.sq_parse_ddl.specs.declared.runs.Bracket.{Bracket}
use Rattle.sq_parse_ddl.specs.declared.runs.Bracket.TheVariants as bracket
use Rattle.sq_parse_ddl.specs.declared.runs.Stop.{Stop}
use Rattle.sq_parse_ddl.specs.declared.runs.Stop.TheVariants as stop

-- the tokens that end a run at its own depth
abbrev pub stops : Stop → Reading → Bool
stops stop.Never = runs.no_stop
stops stop.Comma = is_comma
stops stop.Default = ends_default
stops stop.Partition = ends_partition

abbrev pub as_bracket : Bracket → runs.Bracket
as_bracket bracket.Round = runs.Bracket.round
as_bracket bracket.Square = runs.Bracket.square

-- the innermost comes first here, and last in the code
abbrev pub innermost_first : List Bracket → List runs.Bracket
innermost_first [] = []
innermost_first (x ∷ bs) = innermost_first bs ++ as_bracket x ∷ []

-- with these tokens before those that are read
abbrev pub joined : List Reading → Outcome (List Reading) → Outcome (List Reading)
joined front None = None
joined front (Some p) = Some (front ++ p.0, p.1)

-- the rest of a run, of which these tokens are read and these brackets are open
abbrev pub rest_of_run : Stop → List Bracket → List Reading → Stream → Outcome (List Reading)
rest_of_run stop bs found now = joined found (run_from (stops stop) now.at (Some (innermost_first bs)) now.tokens)

-- the tokens from one on that belongs to a run, behind these brackets
abbrev pub run_behind : (Reading → Bool) → List runs.Bracket → ℕ → Lexemes → Outcome (List Reading)
run_behind stop above n [] = None
run_behind stop above n (x ∷ rest) = before x.reading (run_from stop (suc n) (runs.behind x.reading above) rest)

-- the same rest, where the next token belongs to the run
abbrev pub going_on : Stop → List Bracket → List Reading → Stream → Outcome (List Reading)
going_on stop bs found now = joined found (run_behind (stops stop) (innermost_first bs) now.at now.tokens)

-- the first token ends a run at its own depth, or there is none
abbrev pub ends_run : Stop → Lexemes → Bool
ends_run stop [] = true
ends_run stop (x ∷ rest) = stops stop x.reading || closes x.reading

-- a run is read: each bracket that was open is closed, and the next token ends the run
abbrev pub is_over : Stop → List Bracket → Stream → Bool
is_over stop bs now = is_empty bs && ends_run stop now.tokens
