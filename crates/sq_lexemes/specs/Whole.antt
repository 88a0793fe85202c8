-- What is read of all tokens, as the grammar sees them.
use Rattle.std.specs.Prelude.{List, Option}
use Rattle.sq_syntax.specs.declared.symbol.Lexeme.{Lexeme}
use Rattle.sq_grammar.specs.Reading.{Parser}
use Rattle.sq_grammar.specs.Whole.{finished}

-- what the parser reads of the tokens from number 0 on, where none is left over
abbrev pub whole : {A : Type 0} → Parser A → List Lexeme → Option A
whole p lexemes = finished (p (record { at = 0; tokens = lexemes }))
