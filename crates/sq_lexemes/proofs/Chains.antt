-- What decides how chains of operators go on.
use Rattle.std.proofs.Common.{◌≡◌, ℕ, ◌&&◌, Option, None, Some, refl}
use Rattle.std.specs.Prelude.{not}
use Rattle.sq_syntax.specs.declared.expr.Operator.{Operator}
use Rattle.sq_syntax.specs.ExpressionPieces.{is_level}
use Rattle.sq_grammar.specs.Ahead.{Lexemes, begins_quantifier, is_some}
use Rattle.sq_grammar.specs.Levels.{links_at}
use Rattle.sq_grammar.specs.Tests.{is_quantified}
use Rattle.sq_lexemes.specs.Levels.{level_in}

pub links_at_is : (level : ℕ) (o : Option Operator) (rest : Lexemes) → links_at level o rest ≡ (is_level level (level_in o) && not (begins_quantifier rest))
links_at_is level None rest = refl
links_at_is level (Some x) rest = refl

pub is_quantified_is : (o : Option Operator) (rest : Lexemes) → is_quantified o rest ≡ (is_some o && begins_quantifier rest)
is_quantified_is None rest = refl
is_quantified_is (Some x) rest = refl
