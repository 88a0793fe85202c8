use Rattle.std.proofs.Common.{◌≡◌, ◌++◌, drop, map}
use Rattle.sq_syntax.specs.Symbols.{lexeme}
use Rattle.sq_lexemes.specs.Cursor.{AreTexts}
use Rattle.sq_lexemes.proofs.lexemes.lexemes.Given as goal

abbrev pub invariant-loop-token : goal.invariant-loop-token
invariant-loop-token l = (l.found ++ map lexeme (drop l.token-index l.tokens) ≡ map lexeme l.tokens) × AreTexts l.found
