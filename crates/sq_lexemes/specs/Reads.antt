-- What a function that parses ensures.
use Rattle.std.specs.Prelude.{◌≡◌, ◌≢◌, Option, Some, None, Result, Ok, Err}
use Rattle.sq_lexemes.specs.declared.error.ParseError.{ParseError}
use Rattle.sq_lexemes.specs.declared.error.ParseError.TheVariants.{Memory}
use Rattle.sq_syntax.specs.Facts.{Stream}
use Rattle.sq_grammar.specs.Reading.{Outcome}

-- what was read and what is left are those of the parser, and nothing is refused that it reads, unless memory runs out
abbrev pub Reads : {A : Type 0} → Outcome A → Result A ParseError → Stream → Type 0
Reads outcome (Ok a) new = outcome ≡ Some (a, new)
Reads outcome (Err e) new = e ≢ Memory → outcome ≡ None

-- the same of what is found in one token
abbrev pub Finds : {A : Type 0} → Option A → Result A ParseError → Type 0
Finds found (Ok a) = found ≡ Some a
Finds found (Err e) = e ≢ Memory → found ≡ None
