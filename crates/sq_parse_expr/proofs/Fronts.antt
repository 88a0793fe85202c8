-- What the next tokens begin, and the brackets that they close.
use Rattle.std.proofs.Common.{◌≡◌, ℕ, zero, suc, ◌<◌, ◌≤◌, ◌+◌, ◌-◌, ◌&&◌, Bool, true, false, [], ◌∷◌, Option, None, Some, refl, ap, arith, if◌then◌else◌}
use Rattle.sq_syntax.specs.declared.symbol.Lexeme.{Lexeme}
use Rattle.sq_syntax.specs.declared.symbol.Symbol.TheVariants as s
use Rattle.sq_syntax.specs.Facts.{Turn, turn}
use Rattle.sq_grammar.specs.Reading.{is}
use Rattle.sq_grammar.specs.Ahead.{Lexemes, closed, turned, is_text, text_after_squares, close_query, goes_on_query}
use Rattle.sq_grammar.specs.Primaries.{begins_purpose}
use Rattle.sq_grammar.specs.Queries.{begins_star_of}
use Rattle.sq_parse_expr.specs.Brackets.{close_all}
use Rattle.sq_parse_expr.specs.Levels.{begins_dotted_purpose, begins_dotted_star}

never : (b : Bool) → false ≡ (b && false)
never true = refl
never false = refl

pub begins_purpose_is : (x : Lexeme) (rest : Lexemes) → begins_purpose (x ∷ rest) ≡ begins_dotted_purpose rest
begins_purpose_is x [] = refl
begins_purpose_is x (y ∷ []) = never (is s.Dot y.reading)
begins_purpose_is x (y ∷ z ∷ rest) = refl

pub begins_star_of_is : (x : Lexeme) (rest : Lexemes) → begins_star_of (x ∷ rest) ≡ begins_dotted_star rest
begins_star_of_is x [] = refl
begins_star_of_is x (y ∷ []) = never (is s.Dot y.reading)
begins_star_of_is x (y ∷ z ∷ rest) = refl

pub closed_none : (rest : Lexemes) → closed rest 0 ≡ Some rest
closed_none [] = refl
closed_none (x ∷ rest) = refl

pub closed_end : (count : ℕ) → 0 < count → closed [] count ≡ None
closed_end zero h = absurd (omega arith)
closed_end (suc count) h = refl

pub closed_step : (x : Lexeme) (rest : Lexemes) (count : ℕ) → 0 < count → closed (x ∷ rest) count ≡ closed rest (turned (turn x.reading) (count - 1))
closed_step x rest zero h = absurd (omega arith)
closed_step x rest (suc count) h =
    let same : count ≡ suc count - 1 = omega arith in
    ap (λ n. closed rest (turned (turn x.reading) n)) same

pub turned_few : (t : Turn) (n : ℕ) → turned t n ≤ n + 2
turned_few Turn.opening n = omega arith
turned_few Turn.closing n = omega arith
turned_few Turn.neither n = omega arith

pub text_end : (count : ℕ) → text_after_squares [] count ≡ false
text_end count = refl

pub text_step : (x : Lexeme) (rest : Lexemes) (count : ℕ) → 0 < count → text_after_squares (x ∷ rest) count ≡ text_after_squares rest (turned (turn x.reading) (count - 1))
text_step x rest zero h = absurd (omega arith)
text_step x rest (suc count) h =
    let same : count ≡ suc count - 1 = omega arith in
    ap (λ n. text_after_squares rest (turned (turn x.reading) n)) same

pub text_first : (x : Lexeme) (rest : Lexemes) (count : ℕ) → count ≡ 0 → text_after_squares (x ∷ rest) count ≡ (if is s.OpenSquare x.reading then text_after_squares rest 1 else is_text x.reading)
text_first x rest zero h = refl
text_first x rest (suc count) h = absurd (omega arith)

pub close_none : (n : ℕ) → close_all n None ≡ None
close_none zero = refl
close_none (suc n) = close_none n

pub close_step : (n turn : ℕ) (rest : Lexemes) → turn < n → close_all (n - turn) (Some rest) ≡ close_all (n - (turn + 1)) (if goes_on_query rest then closed rest 1 else None)
close_step n turn rest h =
    let one : n - turn ≡ suc (n - (turn + 1)) = omega arith in
    ap (λ k. close_all k (Some rest)) one

pub close_over : (n : ℕ) (rest : Lexemes) → n ≡ 0 → close_all n (Some rest) ≡ Some rest
close_over zero rest h = refl
close_over (suc n) rest h = absurd (omega arith)

pub close_within : (n : ℕ) (rest : Option Lexemes) → close_all n (close_query rest) ≡ close_all (n + 1) rest
close_within n rest =
    let one : suc n ≡ n + 1 = omega arith in
    ap (λ k. close_all k rest) one
