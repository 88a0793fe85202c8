-- Whether tokens are left over.
use Rattle.std.proofs.Common.{◌≡◌, ◌≢◌, List, [], ◌∷◌, length, None, Some, refl, arith}
use Rattle.sq_syntax.specs.declared.symbol.Lexeme.{Lexeme}
use Rattle.sq_grammar.specs.Whole.{where_none_is_left}

pub last_some : {A : Type 0} (a : A) (rest : List Lexeme) → length rest ≡ 0 → where_none_is_left a rest ≡ Some a
last_some a [] h = refl
last_some a (x ∷ rest) h = absurd (omega arith)

pub last_none : {A : Type 0} (a : A) (rest : List Lexeme) → length rest ≢ 0 → where_none_is_left a rest ≡ None
last_none a [] h = absurd (h refl)
last_none a (x ∷ rest) h = refl
