-- A type and a text are read as they are spelled.
use Rattle.std.proofs.Common.{◌≡◌, ℕ, ◌+◌, Bool, true, false, List, [], ◌∷◌, ◌++◌, Some, refl, ap, subst, ◌∙◌, arith, append_assoc, map, ◌⊎◌, inl, inr}
use Rattle.std.specs.Prelude.{flat_map, drop, ◌-◌}
use Rattle.sq_syntax.specs.declared.symbol.Symbol.{Symbol}
use Rattle.sq_syntax.specs.declared.symbol.Symbol.TheVariants as s
use Rattle.sq_syntax.specs.declared.symbol.Reading.{Reading}
use Rattle.sq_syntax.specs.declared.symbol.Reading.TheVariants as reading
use Rattle.sq_syntax.specs.declared.name.TimeZone.{TimeZone}
use Rattle.sq_syntax.specs.declared.name.TimeZone.TheVariants as zone
use Rattle.sq_syntax.specs.Facts.{Stream, Says, Piece, turn, most_layers}
use Rattle.sq_syntax.specs.Pieces as p
use Rattle.sq_syntax.specs.Pieces.{sym as word, say, at}
use Rattle.sq_grammar.specs.Reading.{sees, begins, is, same}
use Rattle.sq_grammar.specs.Ahead.{Lexemes, closed, turned, text_after_squares, skip_word, or_nothing, skip_brackets, skip_zone, skip_dots}
use Rattle.sq_grammar.proofs.Runs.{Run}
use Rattle.sq_grammar.proofs.Complete.{says_begins}
use Rattle.sq_grammar.proofs.ReadTypes.{other_symbol, that_symbol}
use Rattle.sq_grammar.proofs.Walks.{Flat, nil, token as flat_token, list_of}
use Rattle.sq_grammar.proofs.Named.{closed_counts, run_part, not_dot}
use Rattle.sq_grammar.proofs.Calls.{closed_over}

-- tokens after some that are skipped, and the pieces that are left
abbrev Left : Lexemes → List Piece → Stream → Type 0
Left tokens ps next = (v : Stream) × (rest : ℕ) × (tokens ≡ v.tokens) × Run ps rest v next

abbrev pub ending : List ℕ → List Piece
ending bytes = say (reading.Text bytes) ∷ []

abbrev pub squares : List (List ℕ) → List ℕ → List Piece
squares xs bytes = flat_map p.array xs ++ ending bytes

-- ---- square brackets

square_opened : (u v : Stream) → Says (reading.Symbol s.OpenSquare) u v → text_after_squares u.tokens 0 ≡ text_after_squares v.tokens 1
unfolding same
square_opened u v h = ap (λ tokens. text_after_squares tokens 0) h.first

square_passed : (r : Reading) (u v : Stream) → Says r u v → text_after_squares u.tokens 1 ≡ text_after_squares v.tokens (turned (turn r) 0)
square_passed r u v h = ap (λ tokens. text_after_squares tokens 1) h.first

text_seen : (bytes : List ℕ) (u v : Stream) → Says (reading.Text bytes) u v → text_after_squares u.tokens 0 ≡ true
text_seen bytes u v h = ap (λ tokens. text_after_squares tokens 0) h.first

squares_text : (xs : List (List ℕ)) (bytes : List ℕ) (d : ℕ) (u next : Stream) → Run (squares xs bytes) d u next → text_after_squares u.tokens 0 ≡ true
squares_text [] bytes d u next run = text_seen bytes u run.0 run.1
squares_text ([] ∷ xs) bytes d u next run =
    let c = run.3 in
    square_opened u run.0 run.1 ∙ square_passed (reading.Symbol s.CloseSquare) run.0 c.0 c.1 ∙ squares_text xs bytes ((d - 1) + 1) c.0 next c.3
squares_text ((k ∷ ks) ∷ xs) bytes d u next run =
    let n = run.3 in
    let c = n.3 in
    square_opened u run.0 run.1 ∙ square_passed (reading.Number (k ∷ ks)) run.0 n.0 n.1 ∙ square_passed (reading.Symbol s.CloseSquare) n.0 c.0 c.1 ∙ squares_text xs bytes ((d - 1) + 1) c.0 next c.3

squares_lack : (k : Symbol) → same s.OpenSquare k ≡ false → (xs : List (List ℕ)) (bytes : List ℕ) (d : ℕ) (u next : Stream) → Run (squares xs bytes) d u next → sees k u ≡ false
squares_lack k h [] bytes d u next run = says_begins k (reading.Text bytes) u run.0 run.1
squares_lack k h ([] ∷ xs) bytes d u next run = other_symbol k s.OpenSquare u run.0 run.1 h
squares_lack k h ((n ∷ ns) ∷ xs) bytes d u next run = other_symbol k s.OpenSquare u run.0 run.1 h

-- ---- time zones

abbrev pub zoned : TimeZone → List (List ℕ) → List ℕ → List Piece
zoned z xs bytes = p.time_zone z ++ squares xs bytes

zoneless : (tokens : Lexemes) → begins s.With tokens ≡ false → begins s.Without tokens ≡ false → skip_zone tokens ≡ tokens
zoneless [] h k = refl
zoneless (x ∷ rest) h k = rw (h, k) refl

three_skipped : (x : Symbol) (u v w t : Stream) → Says (reading.Symbol x) u v → Says (reading.Symbol s.Time) v w → Says (reading.Symbol s.Zone) w t → (sees s.With u ≡ true) ⊎ (sees s.Without u ≡ true) → skip_zone u.tokens ≡ t.tokens
three_skipped x u v w t a b c h = by_tokens u.tokens h a.first
  where
    dropped : drop 2 v.tokens ≡ t.tokens
    dropped = ap (λ tokens. drop 2 tokens) b.first ∙ ap (λ tokens. drop 1 tokens) c.first

    by_tokens : (tokens : Lexemes) → (begins s.With tokens ≡ true) ⊎ (begins s.Without tokens ≡ true) → tokens ≡ record { reading = reading.Symbol x; place = a.place } ∷ v.tokens → skip_zone tokens ≡ t.tokens
    by_tokens tokens k first = ap skip_zone first ∙ with_first (subst (λ ts. (begins s.With ts ≡ true) ⊎ (begins s.Without ts ≡ true)) first k)
      where
        with_first : (is s.With (reading.Symbol x) ≡ true) ⊎ (is s.Without (reading.Symbol x) ≡ true) → skip_zone (record { reading = reading.Symbol x; place = a.place } ∷ v.tokens) ≡ t.tokens
        with_first (inl m) = rw m dropped
        with_first (inr m) = either (is s.With (reading.Symbol x)) refl
          where
            either : (c : Bool) → is s.With (reading.Symbol x) ≡ c → skip_zone (record { reading = reading.Symbol x; place = a.place } ∷ v.tokens) ≡ t.tokens
            either true n = rw n dropped
            either false n = rw (n, m) dropped

zone_skipped : (z : TimeZone) (xs : List (List ℕ)) (bytes : List ℕ) (d : ℕ) (u next : Stream) → Run (zoned z xs bytes) d u next → Left (skip_zone u.tokens) (squares xs bytes) next
unfolding same
zone_skipped zone.Unsaid xs bytes d u next run = (u, d, zoneless u.tokens (squares_lack s.With refl xs bytes d u next run) (squares_lack s.Without refl xs bytes d u next run), run)
zone_skipped zone.With xs bytes d u next run = (run.3.3.0, d, three_skipped s.With u run.0 run.3.0 run.3.3.0 run.1 run.3.1 run.3.3.1 (inl (that_symbol s.With u run.0 run.1)), run.3.3.3)
zone_skipped zone.Without xs bytes d u next run = (run.3.3.0, d, three_skipped s.Without u run.0 run.3.0 run.3.3.0 run.1 run.3.1 run.3.3.1 (inr (that_symbol s.Without u run.0 run.1)), run.3.3.3)

pub zone_lacks : (k : Symbol) → same s.OpenSquare k ≡ false → same s.With k ≡ false → same s.Without k ≡ false → (z : TimeZone) (xs : List (List ℕ)) (bytes : List ℕ) (d : ℕ) (u next : Stream) → Run (zoned z xs bytes) d u next → sees k u ≡ false
zone_lacks k a b c zone.Unsaid xs bytes d u next run = squares_lack k a xs bytes d u next run
zone_lacks k a b c zone.With xs bytes d u next run = other_symbol k s.With u run.0 run.1 b
zone_lacks k a b c zone.Without xs bytes d u next run = other_symbol k s.Without u run.0 run.1 c

-- ---- sizes

abbrev pub sized : List (List ℕ) → TimeZone → List (List ℕ) → List ℕ → List Piece
sized ns z xs bytes = p.size ns ++ zoned z xs bytes

bracketless : (tokens : Lexemes) → begins s.Open tokens ≡ false → skip_brackets tokens ≡ tokens
bracketless [] h = refl
bracketless (x ∷ rest) h = rw h refl

brackets_skipped : (u v : Stream) (rest : Lexemes) → Says (reading.Symbol s.Open) u v → closed v.tokens 1 ≡ Some rest → skip_brackets u.tokens ≡ rest
unfolding same
brackets_skipped u v rest o h = ap skip_brackets o.first ∙ ap or_nothing h

abbrev number_of : List ℕ → List Piece
number_of b = say (reading.Number b) ∷ []

size_skipped : (ns : List (List ℕ)) (z : TimeZone) (xs : List (List ℕ)) (bytes : List ℕ) (d : ℕ) (u next : Stream) → Run (sized ns z xs bytes) d u next → Left (skip_brackets u.tokens) (zoned z xs bytes) next
unfolding same
size_skipped [] z xs bytes d u next run = (u, d, bracketless u.tokens (zone_lacks s.Open refl refl refl z xs bytes d u next run), run)
size_skipped (n ∷ ns) z xs bytes d u next run =
    let inside = p.listed (map number_of (n ∷ ns)) in
    let all = subst (λ ps. Run ps (d - 1) run.0 next) (append_assoc inside (word s.Close ∷ []) (zoned z xs bytes)) run.3 in
    let t = run_part inside (word s.Close ∷ zoned z xs bytes) (d - 1) run.0 next all in
    let m = most_layers inside in
    let flat : Flat closed m 0 0 inside = list_of closed closed_counts m number_of (λ b. flat_token closed closed_counts m (reading.Number b) refl (nil closed closed_counts m)) (n ∷ ns) in
    (t.4.0, _, brackets_skipped u run.0 t.4.0.tokens run.1 (closed_over run.0 t.0 t.4.0 (flat.flat (omega arith) t.2 0 run.0 t.0 t.3) t.4.1), t.4.3)

pub size_lacks : (k : Symbol) → same s.Open k ≡ false → same s.OpenSquare k ≡ false → same s.With k ≡ false → same s.Without k ≡ false → (ns : List (List ℕ)) (z : TimeZone) (xs : List (List ℕ)) (bytes : List ℕ) (d : ℕ) (u next : Stream) → Run (sized ns z xs bytes) d u next → sees k u ≡ false
size_lacks k o a b c [] z xs bytes d u next run = zone_lacks k a b c z xs bytes d u next run
size_lacks k o a b c (n ∷ ns) z xs bytes d u next run = other_symbol k s.Open u run.0 run.1 o

-- ---- words

wordless : (tokens : Lexemes) → begins s.Precision tokens ≡ false → begins s.Varying tokens ≡ false → skip_word tokens ≡ tokens
wordless [] h k = refl
wordless (x ∷ rest) h k = rw (h, k) refl

-- a type and a text stand behind what was skipped
pub behind_words : (ns : List (List ℕ)) (z : TimeZone) (xs : List (List ℕ)) (bytes : List ℕ) (d : ℕ) (tokens : Lexemes) (v next : Stream) → Run (sized ns z xs bytes) d v next → tokens ≡ v.tokens → text_after_squares (skip_zone (skip_brackets tokens)) 0 ≡ true
behind_words ns z xs bytes d tokens v next run h =
    let a = size_skipped ns z xs bytes d v next run in
    let b = zone_skipped z xs bytes a.1 a.0 next a.3 in
    ap (λ ts. text_after_squares (skip_zone (skip_brackets ts)) 0) h
    ∙ ap (λ ts. text_after_squares (skip_zone ts) 0) a.2
    ∙ ap (λ ts. text_after_squares ts 0) b.2
    ∙ squares_text xs bytes b.1 b.0 next b.3

pub no_words : (ns : List (List ℕ)) (z : TimeZone) (xs : List (List ℕ)) (bytes : List ℕ) (d : ℕ) (v next : Stream) → Run (sized ns z xs bytes) d v next → skip_word (skip_dots v.tokens) ≡ v.tokens
unfolding same
no_words ns z xs bytes d v next run =
    ap skip_word (not_dot v.tokens (size_lacks s.Dot refl refl refl refl ns z xs bytes d v next run))
    ∙ wordless v.tokens (size_lacks s.Precision refl refl refl refl ns z xs bytes d v next run) (size_lacks s.Varying refl refl refl refl ns z xs bytes d v next run)
