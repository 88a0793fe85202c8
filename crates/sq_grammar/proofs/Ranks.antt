-- The parts of a query stand in one order, so that each token that begins a part ends every part before it.
use Rattle.std.proofs.Common.{◌≡◌, ℕ, ◌≤◌, Bool, true, false, List, [], ◌∷◌, refl, ap, arith}
use Rattle.std.specs.Prelude.{◌<◌, bytes_eq, codes}
use Rattle.std.proofs.lemmas.Slice.Eq.{bytes_eq-Decides}
use Rattle.sq_syntax.specs.declared.symbol.Symbol.{Symbol}
use Rattle.sq_syntax.specs.declared.symbol.Symbol.TheVariants as s
use Rattle.sq_syntax.specs.declared.symbol.Reading.{Reading}
use Rattle.sq_syntax.specs.declared.symbol.Reading.TheVariants as reading
use Rattle.sq_syntax.specs.Facts.{Stream, Says, Piece, from}
use Rattle.sq_syntax.specs.Symbols.{is_bare_label}
use Rattle.sq_grammar.specs.Reading.{is, begins, same}
use Rattle.sq_grammar.specs.Ahead.{Lexemes, symbol_binds, reading_binds, binding}
use Rattle.sq_grammar.specs.Queries.{begins_label, begins_join}
use Rattle.sq_grammar.proofs.Runs.{Run}
use Rattle.sq_grammar.proofs.Complete.{goes_on}
use Rattle.sq_grammar.proofs.Joints.{same_is}
use Rattle.sq_grammar.proofs.ReadsBelow.{is_over}
use Rattle.sq_grammar.proofs.ReadNames.{Lacks}
use Rattle.sq_grammar.proofs.Aliases.{neither, EndsLabel}
use Rattle.sq_grammar.proofs.Lists.{EndsList}

-- the place of a symbol in the order of the parts: those of a source first, then those of a list, then the clauses; none is that of what begins no part
abbrev pub symbol_rank : Symbol → ℕ
symbol_rank s.Using = 1
symbol_rank s.Cross = 2
symbol_rank s.Join = 2
symbol_rank s.Inner = 2
symbol_rank s.Left = 2
symbol_rank s.Right = 2
symbol_rank s.Full = 2
symbol_rank s.Comma = 3
symbol_rank s.From = 4
symbol_rank s.Where = 5
symbol_rank s.Group = 6
symbol_rank s.Having = 7
symbol_rank s.Intersect = 8
symbol_rank s.Union = 9
symbol_rank s.Except = 9
symbol_rank s.Order = 10
symbol_rank s.Limit = 11
symbol_rank s.Offset = 12
symbol_rank s.For = 13
symbol_rank s.Close = 14
symbol_rank s.On = 14
symbol_rank _ = 0

-- RETURNING and DO stand behind whole queries and conditions, as the ON of ON CONFLICT does
abbrev pub word_rank : Bool → Bool → ℕ
word_rank true b = 14
word_rank false true = 14
word_rank false false = 0

abbrev pub reading_rank : Reading → ℕ
reading_rank (reading.Symbol x) = symbol_rank x
reading_rank (reading.Word word) = word_rank (bytes_eq word (codes "returning")) (bytes_eq word (codes "do"))
reading_rank _ = 0

abbrev pub rank : Lexemes → ℕ
rank [] = 14
rank (x ∷ rest) = reading_rank x.reading

-- what stands behind begins a part of this place or a later one, or is nothing
abbrev pub Behind : ℕ → List Piece → ℕ → Stream → Type 0
Behind n rest d next = (u : Stream) → Run rest d u next → n ≤ rank u.tokens

pub says_rank : (r : Reading) (now next : Stream) → Says r now next → rank now.tokens ≡ reading_rank r
says_rank r now next h = ap rank h.first

over_reading : (r : Reading) → is s.Close r ≡ true → reading_rank r ≡ 14
over_reading (reading.Symbol x) h = ap symbol_rank (same_is x s.Close h)
over_reading _ h = absurd (cc)

pub over_rank : (tokens : Lexemes) → is_over tokens ≡ true → 14 ≤ rank tokens
over_rank [] h = omega arith
over_rank (x ∷ rest) h = omega (arith, over_reading x.reading h)

-- ---- what is not seen there

unranked : (k : Symbol) (n : ℕ) (r : Reading) → n ≤ reading_rank r → symbol_rank k < n → is k r ≡ false
unranked k n (reading.Symbol x) h less = by_same (same x k) refl
  where
    by_same : (b : Bool) → same x k ≡ b → b ≡ false
    by_same false e = refl
    by_same true e = absurd (omega (arith, h, less, ap symbol_rank (same_is x k e)))
unranked k n _ h less = refl

pub unseen_before : (k : Symbol) (n : ℕ) (tokens : Lexemes) → n ≤ rank tokens → symbol_rank k < n → begins k tokens ≡ false
unseen_before k n [] h less = refl
unseen_before k n (x ∷ rest) h less = unranked k n x.reading h less

pub lacks_before : (k : Symbol) (n : ℕ) (rest : List Piece) (d : ℕ) (next : Stream) → Behind n rest d next → symbol_rank k < n → Lacks k rest d next
lacks_before k n rest d next behind less u run = unseen_before k n u.tokens (behind u run) less

pub no_join : (tokens : Lexemes) → 3 ≤ rank tokens → begins_join tokens ≡ false
no_join tokens h =
    neither _ _ (unseen_before s.Cross 3 tokens h (omega arith)) (
    neither _ _ (unseen_before s.Join 3 tokens h (omega arith)) (
    neither _ _ (unseen_before s.Inner 3 tokens h (omega arith)) (
    neither _ _ (unseen_before s.Left 3 tokens h (omega arith)) (
    neither _ _ (unseen_before s.Right 3 tokens h (omega arith)) (unseen_before s.Full 3 tokens h (omega arith))))))

symbol_ends : (x : Symbol) (rest : Lexemes) → 1 ≤ symbol_rank x → (from 0 (symbol_binds x rest) ≡ false) × (is_bare_label (reading.Symbol x) ≡ false)
symbol_ends s.On rest h = (refl, refl)
symbol_ends s.Using rest h = (refl, refl)
symbol_ends s.Cross rest h = (refl, refl)
symbol_ends s.Join rest h = (refl, refl)
symbol_ends s.Inner rest h = (refl, refl)
symbol_ends s.Left rest h = (refl, refl)
symbol_ends s.Right rest h = (refl, refl)
symbol_ends s.Full rest h = (refl, refl)
symbol_ends s.Comma rest h = (refl, refl)
symbol_ends s.From rest h = (refl, refl)
symbol_ends s.Where rest h = (refl, refl)
symbol_ends s.Group rest h = (refl, refl)
symbol_ends s.Having rest h = (refl, refl)
symbol_ends s.Intersect rest h = (refl, refl)
symbol_ends s.Union rest h = (refl, refl)
symbol_ends s.Except rest h = (refl, refl)
symbol_ends s.Order rest h = (refl, refl)
symbol_ends s.Limit rest h = (refl, refl)
symbol_ends s.Offset rest h = (refl, refl)
symbol_ends s.For rest h = (refl, refl)
symbol_ends s.Close rest h = (refl, refl)
symbol_ends _ rest h = absurd (omega (arith, h))

word_ends : (word : List ℕ) (a b : Bool) → bytes_eq word (codes "returning") ≡ a → bytes_eq word (codes "do") ≡ b → 1 ≤ word_rank a b → is_bare_label (reading.Word word) ≡ false
word_ends word true b e k h = ap (λ w. is_bare_label (reading.Word w)) ((bytes_eq-Decides word (codes "returning")).0 e)
word_ends word false true e k h = ap (λ w. is_bare_label (reading.Word w)) ((bytes_eq-Decides word (codes "do")).0 k)
word_ends word false false e k h = absurd (omega (arith, h))

reading_ends : (r : Reading) (rest : Lexemes) → 1 ≤ reading_rank r → (from 0 (reading_binds r rest) ≡ false) × (is_bare_label r ≡ false)
reading_ends (reading.Symbol x) rest h = symbol_ends x rest h
reading_ends (reading.Word word) rest h = (refl, word_ends word (bytes_eq word (codes "returning")) (bytes_eq word (codes "do")) refl refl h)
reading_ends _ rest h = absurd (omega (arith, h))

-- no part goes on with the expression or the name before it
pub part_ends : (tokens : Lexemes) → 1 ≤ rank tokens → (from 0 (binding tokens) ≡ false) × (begins_label tokens ≡ false)
part_ends [] h = (refl, refl)
part_ends (x ∷ rest) h = reading_ends x.reading rest h

pub stops_behind : (n : ℕ) (rest : List Piece) (d : ℕ) (next : Stream) → Behind n rest d next → 1 ≤ n → (u : Stream) → Run rest d u next → goes_on 0 u ≡ false
stops_behind n rest d next behind some u run = (part_ends u.tokens (omega (arith, some, behind u run))).0

pub label_behind : (n : ℕ) (rest : List Piece) (d : ℕ) (next : Stream) → Behind n rest d next → 1 ≤ n → EndsLabel rest d next
label_behind n rest d next behind some u run = (unseen_before s.As n u.tokens (behind u run) (omega (arith, some)), (part_ends u.tokens (omega (arith, some, behind u run))).1)

pub list_behind : (n : ℕ) (rest : List Piece) (d : ℕ) (next : Stream) → Behind n rest d next → 4 ≤ n → EndsList rest d next
list_behind n rest d next behind some u run = (stops_behind n rest d next behind (omega (arith, some)) u run, unseen_before s.Comma n u.tokens (behind u run) (omega (arith, some)))

pub behind_less : (n m : ℕ) (rest : List Piece) (d : ℕ) (next : Stream) → Behind n rest d next → m ≤ n → Behind m rest d next
behind_less n m rest d next behind less u run = omega (arith, behind u run, less)

pub behind_word : (k : Symbol) (n : ℕ) (now next : Stream) → Says (reading.Symbol k) now next → n ≤ symbol_rank k → n ≤ rank now.tokens
behind_word k n now next h less = omega (arith, says_rank (reading.Symbol k) now next h, less)
