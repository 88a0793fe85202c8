-- The levels of operators.
use Rattle.std.specs.Prelude.{ℕ, Option, None, Some}
use Rattle.sq_syntax.specs.declared.expr.Operator.{Operator}
use Rattle.sq_syntax.specs.ExpressionPieces.{chain_level}

-- the level of the chains that an operator stands in
abbrev pub level_in : Option Operator → Option ℕ
level_in None = None
level_in (Some x) = chain_level x
