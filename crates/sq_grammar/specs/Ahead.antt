-- What the tokens ahead decide: whether brackets hold a query, whether a type and a text follow, and how tightly the next token binds.
use Rattle.std.specs.Prelude.{ℕ, zero, suc, Bool, true, false, ◌||◌, if◌then◌else◌, List, [], ◌∷◌, drop, Option, Some, None}
use Rattle.sq_syntax.specs.declared.symbol.Symbol.{Symbol}
use Rattle.sq_syntax.specs.declared.symbol.Symbol.TheVariants as s
use Rattle.sq_syntax.specs.declared.symbol.Reading.{Reading}
use Rattle.sq_syntax.specs.declared.symbol.Reading.TheVariants as reading
use Rattle.sq_syntax.specs.declared.symbol.Lexeme.{Lexeme}
use Rattle.sq_syntax.specs.declared.expr.Operator.{Operator}
use Rattle.sq_syntax.specs.declared.expr.Operator.TheVariants as operator
use Rattle.sq_syntax.specs.declared.expr.Comparison.TheVariants as comparison
use Rattle.sq_syntax.specs.Facts.{Turn, turn}
use Rattle.sq_syntax.specs.ExpressionPieces.{chain_level, or_none}
use Rattle.sq_grammar.specs.Reading.{begins, is}

abbrev pub Lexemes : Type 0
Lexemes = List Lexeme

-- ---- brackets

-- how many brackets are open after a token, where these and one more were before it
abbrev pub turned : Turn → ℕ → ℕ
turned Turn.opening n = suc (suc n)
turned Turn.closing n = n
turned Turn.neither n = suc n

-- the tokens after those that close this many brackets
abbrev pub closed : Lexemes → ℕ → Option Lexemes
closed [] zero = Some []
closed [] (suc n) = None
closed (x ∷ rest) zero = Some (x ∷ rest)
closed (x ∷ rest) (suc n) = closed rest (turned (turn x.reading) n)

abbrev pub begins_core : Lexemes → Bool
begins_core rest = begins s.Select rest || begins s.With rest

abbrev pub symbol_follows_query : Symbol → Bool
symbol_follows_query s.Close = true
symbol_follows_query s.Union = true
symbol_follows_query s.Except = true
symbol_follows_query s.Intersect = true
symbol_follows_query s.Order = true
symbol_follows_query s.Limit = true
symbol_follows_query s.Offset = true
symbol_follows_query s.For = true
symbol_follows_query _ = false

abbrev pub follows_query : Reading → Bool
follows_query (reading.Symbol x) = symbol_follows_query x
follows_query _ = false

-- a bracketed query that comes first in brackets is a part of the query that the brackets hold
abbrev pub goes_on_query : Lexemes → Bool
goes_on_query [] = false
goes_on_query (x ∷ rest) = follows_query x.reading

abbrev pub close_query : Option Lexemes → Option Lexemes
close_query None = None
close_query (Some rest) = if goes_on_query rest then closed rest 1 else None

-- the tokens after the brackets that open here, where they hold a query
abbrev pub queried : Lexemes → Option Lexemes
queried [] = None
queried (x ∷ rest) = if begins s.Open (x ∷ rest) then (if begins_core rest then closed rest 1 else close_query (queried rest)) else None

abbrev pub is_some : {A : Type 0} → Option A → Bool
is_some None = false
is_some (Some x) = true

unfoldable pub holds_query : Lexemes → Bool
holds_query rest = is_some (queried rest)

-- ---- types before a text

abbrev pub is_text : Reading → Bool
is_text (reading.Text bytes) = true
is_text _ = false

-- a text follows after brackets, where this many are open
abbrev pub text_after_squares : Lexemes → ℕ → Bool
text_after_squares [] n = false
text_after_squares (x ∷ rest) zero = if is s.OpenSquare x.reading then text_after_squares rest 1 else is_text x.reading
text_after_squares (x ∷ rest) (suc n) = text_after_squares rest (turned (turn x.reading) n)

-- the tokens after pairs of a dot and a name
abbrev pub skip_dots : Lexemes → Lexemes
skip_dots [] = []
skip_dots (x ∷ []) = x ∷ []
skip_dots (x ∷ y ∷ rest) = if is s.Dot x.reading then skip_dots rest else x ∷ y ∷ rest

abbrev pub skip_word : Lexemes → Lexemes
skip_word [] = []
skip_word (x ∷ rest) = if is s.Precision x.reading || is s.Varying x.reading then rest else x ∷ rest

abbrev pub or_nothing : Option Lexemes → Lexemes
or_nothing None = []
or_nothing (Some rest) = rest

abbrev pub skip_brackets : Lexemes → Lexemes
skip_brackets [] = []
skip_brackets (x ∷ rest) = if is s.Open x.reading then or_nothing (closed rest 1) else x ∷ rest

abbrev pub skip_zone : Lexemes → Lexemes
skip_zone [] = []
skip_zone (x ∷ rest) = if is s.With x.reading || is s.Without x.reading then drop 2 rest else x ∷ rest

-- a type and a text stand here, where a name does
unfoldable pub types_text : Lexemes → Bool
types_text [] = false
types_text (x ∷ rest) = text_after_squares (skip_zone (skip_brackets (skip_word (skip_dots rest)))) 0

-- ---- operators

abbrev pub symbol_operator : Symbol → Option Operator
symbol_operator s.Power = Some operator.Power
symbol_operator s.Times = Some operator.Times
symbol_operator s.Divide = Some operator.Divide
symbol_operator s.Modulo = Some operator.Modulo
symbol_operator s.Plus = Some operator.Plus
symbol_operator s.Minus = Some operator.Minus
symbol_operator s.Less = Some (operator.Comparison comparison.Less)
symbol_operator s.Greater = Some (operator.Comparison comparison.Greater)
symbol_operator s.Equal = Some (operator.Comparison comparison.Equal)
symbol_operator s.LessEqual = Some (operator.Comparison comparison.LessEqual)
symbol_operator s.GreaterEqual = Some (operator.Comparison comparison.GreaterEqual)
symbol_operator s.NotEqual = Some (operator.Comparison comparison.NotEqual)
symbol_operator _ = None

abbrev pub operator_of : Reading → Option Operator
operator_of (reading.Symbol x) = symbol_operator x
operator_of (reading.Operator bytes) = Some (operator.Other bytes)
operator_of _ = None

-- ANY, SOME or ALL stands here
abbrev pub begins_quantifier : Lexemes → Bool
begins_quantifier rest = begins s.Any rest || (begins s.Some rest || begins s.All rest)

abbrev pub level_of : Operator → ℕ
level_of (operator.Comparison x) = 4
level_of x = or_none (chain_level x)

abbrev pub operator_binds : Operator → Lexemes → Option ℕ
operator_binds x rest = Some (if begins_quantifier rest then 4 else level_of x)

abbrev pub may_bind : Option Operator → Lexemes → Option ℕ
may_bind None rest = None
may_bind (Some x) rest = operator_binds x rest

-- the level at which a symbol that is no operator goes on with an expression, before these tokens
abbrev pub symbol_binds : Symbol → Lexemes → Option ℕ
symbol_binds s.Or rest = Some 0
symbol_binds s.And rest = Some 1
symbol_binds s.Is rest = Some 3
symbol_binds s.IsNull rest = Some 3
symbol_binds s.NotNull rest = Some 3
symbol_binds s.Not rest = Some 5
symbol_binds s.Between rest = Some 5
symbol_binds s.In rest = Some 5
symbol_binds s.Like rest = Some 5
symbol_binds s.Ilike rest = Some 5
symbol_binds s.At rest = if begins s.Time rest then Some 10 else None
symbol_binds s.Collate rest = Some 11
symbol_binds s.Colons rest = Some 13
symbol_binds s.OpenSquare rest = Some (if text_after_squares rest 1 then 15 else 14)
symbol_binds s.Open rest = Some 15
symbol_binds s.Dot rest = Some 15
symbol_binds s.Filter rest = Some 15
symbol_binds s.With rest = Some 15
symbol_binds s.Without rest = Some 15
symbol_binds s.Precision rest = Some 15
symbol_binds s.Varying rest = Some 15
symbol_binds x rest = may_bind (symbol_operator x) rest

abbrev pub reading_binds : Reading → Lexemes → Option ℕ
reading_binds (reading.Symbol x) rest = symbol_binds x rest
reading_binds (reading.Operator bytes) rest = operator_binds (operator.Other bytes) rest
reading_binds (reading.Text bytes) rest = Some 15
reading_binds _ rest = None

-- the level at which the next token goes on with the expression before it
abbrev pub binding : Lexemes → Option ℕ
binding [] = None
binding (x ∷ rest) = reading_binds x.reading rest
