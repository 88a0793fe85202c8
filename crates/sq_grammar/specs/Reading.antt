-- Parsers, and the steps that they are made of.
use Rattle.std.specs.Prelude.{ℕ, zero, suc, ◌-◌, Bool, true, false, ◌&&◌, if◌then◌else◌, List, [], ◌∷◌, length, Option, Some, None}
use denote.Enum.Bare.{sameb}
use Rattle.sq_base.specs.declared.place.Place.{Place}
use Rattle.sq_syntax.specs.contracts.symbol.Symbol.{the_type}
use Rattle.sq_syntax.specs.declared.symbol.Symbol.{Symbol}
use Rattle.sq_syntax.specs.declared.symbol.Reading.{Reading}
use Rattle.sq_syntax.specs.declared.symbol.Reading.TheVariants as reading
use Rattle.sq_syntax.specs.declared.symbol.Lexeme.{Lexeme}
use Rattle.sq_syntax.specs.declared.expr.Node.{Node}
use Rattle.sq_syntax.specs.declared.expr.Expression.{Expression}
use Rattle.sq_syntax.specs.Facts.{Stream}

-- what was read, and the tokens after it
abbrev pub Outcome : Type 0 → Type 0
Outcome A = Option (A × Stream)

abbrev pub Parser : Type 0 → Type 0
Parser A = Stream → Outcome A

abbrev pub and_then : {A B : Type 0} → Outcome A → (A → Parser B) → Outcome B
and_then None f = None
and_then (Some p) f = f p.0 p.1

infixl 10 ◌>>=◌
abbrev pub ◌>>=◌ : {A B : Type 0} → Parser A → (A → Parser B) → Parser B
p >>= f = λ now. and_then (p now) f

infixl 10 ◌>>◌
abbrev pub ◌>>◌ : {A B : Type 0} → Parser A → Parser B → Parser B
p >> q = p >>= (λ _. q)

abbrev pub pure : {A : Type 0} → A → Parser A
pure a = λ now. Some (a, now)

abbrev pub fail : {A : Type 0} → Parser A
fail = λ now. None

-- the tokens after the first, which has this number
abbrev pub after : ℕ → List Lexeme → Stream
after n rest = record { at = suc n; tokens = rest }

-- the first parser where this is seen, else the second
abbrev pub choose : {A : Type 0} → (Stream → Bool) → Parser A → Parser A → Parser A
choose seen p q = λ now. if seen now then p now else q now

-- ---- single tokens

unfoldable pub same : Symbol → Symbol → Bool
same = sameb the_type

abbrev pub is : Symbol → Reading → Bool
is x (reading.Symbol y) = same y x
is x _ = false

-- the first token is this symbol
abbrev pub begins : Symbol → List Lexeme → Bool
begins x [] = false
begins x (y ∷ rest) = is x y.reading

-- the first two tokens are these symbols
abbrev pub begins_both : Symbol → Symbol → List Lexeme → Bool
begins_both x y [] = false
begins_both x y (z ∷ rest) = is x z.reading && begins y rest

abbrev pub sees : Symbol → Stream → Bool
sees x now = begins x now.tokens

abbrev pub take_symbol : Symbol → ℕ → List Lexeme → Outcome (Unit {0})
take_symbol x n [] = None
take_symbol x n (y ∷ rest) = if is x y.reading then Some (tt, after n rest) else None

unfoldable pub expect : Symbol → Parser (Unit {0})
expect x now = take_symbol x now.at now.tokens

-- whether the symbol comes next, which is taken
unfoldable pub optional : Symbol → Parser Bool
optional x now = if sees x now then (expect x >> pure true) now else Some (false, now)

abbrev pub and_rest : {A : Type 0} → Option A → Stream → Outcome A
and_rest None now = None
and_rest (Some a) now = Some (a, now)

-- the next token, read as something where it may be
abbrev pub take_as : {A : Type 0} → (Reading → Place → Option A) → ℕ → List Lexeme → Outcome A
take_as f n [] = None
take_as f n (x ∷ rest) = and_rest (f x.reading x.place) (after n rest)

abbrev pub token : {A : Type 0} → (Reading → Place → Option A) → Parser A
token f now = take_as f now.at now.tokens

-- ---- places

abbrev pub nowhere : Place
nowhere = record { file = 0; line = 0; column = 0 }

abbrev pub place_of : List Lexeme → Place
place_of [] = nowhere
place_of (x ∷ rest) = x.place

-- the place of the next token
abbrev pub here : Stream → Place
here now = place_of now.tokens

-- an expression that begins where the first tokens did, and ends before the second
abbrev pub node : Stream → Place → Expression → Parser (Node Expression)
node start place form now = Some (record { place = place; first = start.at; last = now.at - 1; form = form }, now)

-- ---- lists. The number bounds the turns, and each turn takes a token, so the count of tokens is enough.

unfoldable pub many_from : {A : Type 0} → (Stream → Bool) → Parser A → ℕ → Parser (List A)
many_from more item zero now = Some ([], now)
many_from more item (suc n) now = if more now then (item >>= (λ x. many_from more item n >>= (λ xs. pure (x ∷ xs)))) now else Some ([], now)

-- items, as long as one begins
abbrev pub many : {A : Type 0} → (Stream → Bool) → Parser A → Parser (List A)
many more item = λ now. many_from more item (length now.tokens) now
