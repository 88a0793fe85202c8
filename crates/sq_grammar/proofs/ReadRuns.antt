-- Runs are read as they are spelled.
use Rattle.std.proofs.Common.{◌≡◌, ℕ, Bool, true, false, List, [], ◌∷◌, Option, Some, None, refl, sym, ap, ◌∙◌}
use Rattle.std.specs.Prelude.{◌&&◌, ◌||◌, not}
use Rattle.sq_syntax.specs.declared.symbol.Symbol.TheVariants as s
use Rattle.sq_syntax.specs.declared.symbol.Reading.{Reading}
use Rattle.sq_syntax.specs.declared.symbol.Reading.TheVariants as reading
use Rattle.sq_syntax.specs.Facts.{Stream, Piece}
use Rattle.sq_syntax.specs.Pieces as p
use Rattle.sq_syntax.specs.Pieces.{is_empty, sym as word}
use Rattle.sq_syntax.specs.Runs.{Bracket, behind, fits, run_fits, run_fits_behind, no_stop}
use Rattle.sq_syntax.specs.Schemas as z
use Rattle.sq_syntax.specs.Schemas.{ends_default}
use Rattle.sq_grammar.specs.Ahead.{Lexemes}
use Rattle.sq_grammar.specs.Schemas.{closes, before, run_from, run, if_some, some_run, first_and_run, default_run, within}
use Rattle.sq_grammar.proofs.Runs.{both}
use Rattle.sq_grammar.proofs.Complete.{says_expect}
use Rattle.sq_grammar.proofs.Joints.{false_true}
use Rattle.sq_grammar.proofs.TakeRuns.{ends_at, and_true}
use Rattle.sq_grammar.proofs.Between.{Between, split, on, if_so, if_not}
use Rattle.sq_grammar.proofs.ReadAlone.{ended}

-- a token that closes no bracket of a run closes none outside of it
unclosed : (stop : Reading → Bool) (r : Reading) (xs : List Reading) → fits stop (behind r []) xs ≡ true → closes r ≡ false
unclosed stop (reading.Symbol s.Close) xs h = absurd (false_true h)
unclosed stop (reading.Symbol s.CloseSquare) xs h = absurd (false_true h)
unclosed stop (reading.Symbol _) xs h = refl
unclosed stop _ xs h = refl

neither_seen : (a b : Bool) → not (true && a) ≡ true → b ≡ false → true && (a || b) ≡ false
neither_seen false b h e = e
neither_seen true b h e = absurd (cc)

goes_on : (stop : Reading → Bool) (above : List Bracket) (r : Reading) (xs : List Reading) → not (is_empty above && stop r) ≡ true → fits stop (behind r above) xs ≡ true → is_empty above && (stop r || closes r) ≡ false
goes_on stop [] r xs h k = neither_seen (stop r) (closes r) h (unclosed stop r xs k)
goes_on stop (b ∷ above) r xs h k = refl

stops_here : (stop : Reading → Bool) (above : List Bracket) (n : ℕ) (tokens : Lexemes) → is_empty above ≡ true → ends_at stop tokens ≡ true → run_from stop n (Some above) tokens ≡ Some ([], record { at = n; tokens = tokens })
stops_here stop above n [] h e = if_so _ h refl
stops_here stop above n (x ∷ rest) h e = if_so _ (and_true (is_empty above) (stop x.reading || closes x.reading) h e) refl

-- the tokens of a run are taken up to its end
ran : (stop : Reading → Bool) (above : Option (List Bracket)) (xs : List Reading) (now next : Stream) → fits stop above xs ≡ true → Between (z.tokens xs) now next → ends_at stop next.tokens ≡ true → run_from stop now.at above now.tokens ≡ Some (xs, next)
ran stop None xs now next h b e = absurd (false_true h)
ran stop (Some above) [] now next h b e = stops_here stop above now.at now.tokens h (ap (λ (u : Stream). ends_at stop u.tokens) b ∙ e) ∙ ended b
ran stop (Some above) (r ∷ xs) now next h b e =
    let c = both (not (is_empty above && stop r)) (fits stop (behind r above) xs) h in
    let others = ran stop (behind r above) xs b.0 next c.1 b.2 e in
    ap (run_from stop now.at (Some above)) b.1.first
    ∙ if_not _ (goes_on stop above r xs c.0 c.1) (ap (λ n. before r (run_from stop n (behind r above) b.0.tokens)) (sym b.1.counted) ∙ ap (before r) others)

pub run_alone : (stop : Reading → Bool) (xs : List Reading) (now next : Stream) → run_fits stop xs ≡ true → Between (z.tokens xs) now next → ends_at stop next.tokens ≡ true → run stop now ≡ Some (xs, next)
unfolding run
run_alone stop xs now next h b e = ran stop (Some []) xs now next h b e

pub some_found : (xs : List Reading) (next : Stream) → not (is_empty xs) ≡ true → if_some xs next ≡ Some (xs, next)
some_found [] next h = absurd (false_true h)
some_found (x ∷ xs) next h = refl

-- a run that is not empty
pub some_run_alone : (stop : Reading → Bool) (xs : List Reading) (now next : Stream) → Between (p.some xs ∷ Piece.need (run_fits stop xs) ∷ z.tokens xs) now next → ends_at stop next.tokens ≡ true → some_run stop now ≡ Some (xs, next)
unfolding some_run
some_run_alone stop xs now next h e = on _ (run_alone stop xs now next h.1.0 h.1.1 e) (some_found xs next h.0)

pub default_alone : (xs : List Reading) (now next : Stream) → run_fits_behind ends_default xs ≡ true → Between (z.tokens xs) now next → ends_at ends_default next.tokens ≡ true → default_run now ≡ Some (xs, next)
unfolding default_run
default_alone [] now next h b e = absurd (false_true h)
default_alone (r ∷ xs) now next h b e =
    ap (first_and_run now.at) b.1.first
    ∙ ap (λ n. before r (run_from ends_default n (behind r []) b.0.tokens)) (sym b.1.counted) ∙ ap (before r) (ran ends_default (behind r []) xs b.0 next h b.2 e)

pub within_alone : (xs : List Reading) (now next : Stream) → Between (z.within xs) now next → within now ≡ Some (xs, next)
unfolding within
within_alone xs now next h =
    let m = split (z.tokens xs) (word s.Close ∷ []) h.0 next h.2.1 in
    let c = m.2 in
    on _ (says_expect s.Open now h.0 h.1) (on _ (run_alone no_stop xs h.0 m.0 h.2.0 m.1 (ap (ends_at no_stop) c.1.first)) (on _ (says_expect s.Close m.0 c.0 c.1) (ended c.2)))
