-- What is answered for all the tokens of a statement, or of a part of one.
use Rattle.std.specs.Prelude.{◌≡◌, ℕ, ◌≤◌, ◌<◌, List, [], ◌∷◌, length, map, Result, Ok, Err}
use Rattle.sq_base.specs.Refusals.{refused}
use Rattle.sq_base.specs.declared.code.Code.{Code}
use Rattle.sq_base.specs.declared.code.Code.TheVariants.{TooLong, TooNested, Syntax, TooDeep}
use Rattle.sq_base.specs.declared.limits.TheConstants.{MOST_TOKENS, MOST_DEPTH, MOST_HEIGHT}
use Rattle.sq_base.specs.declared.place.Place.{Place}
use Rattle.sq_base.specs.declared.refusal.Fault.{Fault}
use Rattle.sq_base.specs.declared.refusal.Fault.TheVariants.{Refused, Memory}
use Rattle.sq_syntax.specs.declared.symbol.Lexeme.{Lexeme}
use Rattle.sq_syntax.specs.declared.token.Token.{Token}
use Rattle.sq_syntax.specs.Grammar.{nesting_depth}
use Rattle.sq_syntax.specs.Symbols.{lexeme}
use Rattle.sq_lexemes.specs.Cursor.{Fits}

-- the place of the first token
abbrev pub first_place : List Token → Place
first_place [] = record { file = 0; line = 0; column = 0 }
first_place (token ∷ rest) = token.place

-- there are as many tokens, and they nest as deep, as are read
pub record Readable (tokens : List Token) : Type 0 where
  pub counted : length tokens ≤ MOST_TOKENS
  pub nested : nesting_depth tokens ≤ MOST_DEPTH

-- why tokens are refused before they are read: there are too many, else they nest too deep
pub data Exceeds (tokens : List Token) : Code → Type 0 where
  too_long : MOST_TOKENS < length tokens → Exceeds tokens TooLong
  too_nested : length tokens ≤ MOST_TOKENS → MOST_DEPTH < nesting_depth tokens → Exceeds tokens TooNested

-- why nothing is answered: that, else the tokens spell no tree, else their tree is too high
pub data Refuses {A : Type 0} (Is : List Token → A → Type 0) (height : A → ℕ) (tokens : List Token) : Code → Type 0 where
  exceeds : (code : Code) → Exceeds tokens code → Refuses Is height tokens code
  no_tree : Readable tokens → ((x : A) → Is tokens x → ⊥) → Refuses Is height tokens Syntax
  too_deep : (x : A) → Readable tokens → Is tokens x → MOST_HEIGHT < height x → Refuses Is height tokens TooDeep

-- the tree that all of the tokens spell, or the refusal at the first token, or want of memory
abbrev pub Answers : {A : Type 0} → (List Token → A → Type 0) → (A → ℕ) → List Token → Result A Fault → Type 0
Answers Is height tokens (Ok x) = Readable tokens × Is tokens x × (height x ≤ MOST_HEIGHT)
Answers Is height tokens (Err Memory) = Unit {0}
Answers Is height tokens (Err (Refused r)) = Refuses Is height tokens r.code × (r ≡ refused r.code (first_place tokens))

-- the tokens as the grammar sees them, where they are read
abbrev pub Prepares : List Token → Result (List Lexeme) Fault → Type 0
Prepares tokens (Ok found) = Readable tokens × (found ≡ map lexeme tokens) × Fits 0 found
Prepares tokens (Err Memory) = Unit {0}
Prepares tokens (Err (Refused r)) = Exceeds tokens r.code × (r ≡ refused r.code (first_place tokens))
