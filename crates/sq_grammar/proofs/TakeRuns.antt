-- The runs that are read are spelled by the tokens, and are balanced.
use Rattle.std.proofs.Common.{◌≡◌, ℕ, suc, Bool, true, false, List, [], ◌∷◌, Option, Some, None, refl, ap, subst, inl, inr}
use Rattle.std.specs.Prelude.{◌&&◌, ◌||◌, not}
use Rattle.sq_syntax.specs.declared.symbol.Reading.{Reading}
use Rattle.sq_syntax.specs.Facts.{Stream, Along, Piece, all_hold, marks_of}
use Rattle.sq_syntax.specs.Pieces as p
use Rattle.sq_syntax.specs.Pieces.{is_empty, sym as word}
use Rattle.sq_syntax.specs.Runs.{Bracket, fits, run_fits, run_fits_behind, no_stop, behind as brackets_behind}
use Rattle.sq_syntax.specs.Schemas as z
use Rattle.sq_syntax.specs.Schemas.{ends_default}
use Rattle.sq_grammar.specs.Reading.{Outcome}
use Rattle.sq_grammar.specs.Ahead.{Lexemes}
use Rattle.sq_grammar.specs.Schemas.{closes, before, run_from, run, if_some, some_run, first_and_run, default_run, within}
use Rattle.sq_grammar.proofs.Runs.{both}
use Rattle.sq_grammar.proofs.Complete.{same_some}
use Rattle.sq_grammar.proofs.Begins.{part_of, none_some}
use Rattle.sq_grammar.proofs.Takes.{Took, Spells, ◌then◌, expected, behind, chosen, kept, given, needed, found}

abbrev from_here : ℕ → Lexemes → Stream
from_here n tokens = record { at = n; tokens = tokens }

-- what stands behind a run is one of these or closes another bracket, or is nothing
abbrev pub ends_at : (Reading → Bool) → Lexemes → Bool
ends_at stop [] = true
ends_at stop (x ∷ rest) = stop x.reading || closes x.reading

-- tokens that are read as a run, which fits
record Ran (stop : Reading → Bool) (above : Option (List Bracket)) (xs : List Reading) (now next : Stream) : Type 0 where
  holds : fits stop above xs ≡ true
  along : Along (marks_of (z.tokens xs)) now next
  ends : ends_at stop next.tokens ≡ true

not_stopped : (a b c : Bool) → a && (b || c) ≡ false → not (a && b) ≡ true
not_stopped false b c h = refl
not_stopped true false c h = refl
not_stopped true true c h = absurd (cc)

pub and_true : (a b : Bool) → a ≡ true → b ≡ true → a && b ≡ true
and_true a b h k = rw (h, k) refl

-- what was put before a run
record Before (r : Reading) (o : Outcome (List Reading)) (xs : List Reading) (next : Stream) : Type 0 where
  others : List Reading
  is : o ≡ Some (others, next)
  whole : r ∷ others ≡ xs

before_of : (r : Reading) (o : Outcome (List Reading)) (xs : List Reading) (next : Stream) → before r o ≡ Some (xs, next) → Before r o xs next
before_of r None xs next h = absurd (none_some h)
before_of r (Some q) xs next h =
    let e = same_some h in
    record { others = q.0; is = ap (λ (u : Stream). Some (q.0, u)) (ap (λ (v : List Reading × Stream). v.1) e); whole = ap (λ (v : List Reading × Stream). v.0) e }

ended : (stop : Reading → Bool) (above : List Bracket) (now next : Stream) (xs : List Reading) → is_empty above ≡ true → ends_at stop now.tokens ≡ true → found [] now ≡ Some (xs, next) → Ran stop (Some above) xs now next
ended stop above now next xs e last h =
    let made : Ran stop (Some above) [] now now = record { holds = e; along = refl; ends = last } in
    kept (λ ys u. Ran stop (Some above) ys now u) h made

ran : (stop : Reading → Bool) (n : ℕ) (above : Option (List Bracket)) (tokens : Lexemes) (xs : List Reading) (next : Stream) → run_from stop n above tokens ≡ Some (xs, next) → Ran stop above xs (from_here n tokens) next
ran stop n None tokens xs next h = absurd (none_some h)
ran stop n (Some above) [] xs next h = elim (chosen {b = is_empty above} h) [
  | inl (b, e) ↦ ended stop above (from_here n []) next xs b refl e
  | inr (b, e) ↦ absurd (none_some e)
]
ran stop n (Some above) (x ∷ rest) xs next h = elim (chosen {b = is_empty above && (stop x.reading || closes x.reading)} h) [
  | inl (b, e) ↦ let c = both (is_empty above) (stop x.reading || closes x.reading) b in ended stop above (from_here n (x ∷ rest)) next xs c.0 c.1 e
  | inr (b, e) ↦
      let q = before_of x.reading (run_from stop (suc n) (brackets_behind x.reading above) rest) xs next e in
      let i = ran stop (suc n) (brackets_behind x.reading above) rest q.others next q.is in
      let made : Ran stop (Some above) (x.reading ∷ q.others) (from_here n (x ∷ rest)) next = record {
        holds = and_true _ _ (not_stopped (is_empty above) (stop x.reading) (closes x.reading) b) i.holds;
        along = (from_here (suc n) rest, record { place = x.place; first = refl; counted = refl }, i.along);
        ends = i.ends;
      } in
      subst (λ ys. Ran stop (Some above) ys (from_here n (x ∷ rest)) next) q.whole made
]

tokens_hold : (xs : List Reading) → all_hold (z.tokens xs) ≡ true
tokens_hold [] = refl
tokens_hold (x ∷ xs) = tokens_hold xs

-- ---- runs

-- a run, and a condition on it that holds
pub record RunTook (condition : List Reading → Bool) (xs : List Reading) (now next : Stream) : Type 0 where
  pub holds : condition xs ≡ true
  pub took : Took (z.tokens xs) now next

pub run_took : (stop : Reading → Bool) (now next : Stream) (xs : List Reading) → run stop now ≡ Some (xs, next) → RunTook (run_fits stop) xs now next
unfolding run
run_took stop now next xs h =
    let r = ran stop now.at (Some []) now.tokens xs next h in
    record { holds = r.holds; took = record { holds = λ l. tokens_hold xs; along = λ l. r.along } }

some_of : (tokens xs : List Reading) (now next : Stream) → if_some tokens now ≡ Some (xs, next) → (not (is_empty tokens) ≡ true) × (found tokens now ≡ Some (xs, next))
some_of [] xs now next h = absurd (none_some h)
some_of (x ∷ tokens) xs now next h = (refl, h)

pub run_ends : (stop : Reading → Bool) (now next : Stream) (xs : List Reading) → run stop now ≡ Some (xs, next) → ends_at stop next.tokens ≡ true
unfolding run
run_ends stop now next xs h = (ran stop now.at (Some []) now.tokens xs next h).ends

-- a run that is not empty
pub some_run_took : (stop : Reading → Bool) → Spells (λ xs. p.some xs ∷ Piece.need (run_fits stop xs) ∷ z.tokens xs) (some_run stop)
unfolding some_run
some_run_took stop now next xs h =
    let one = part_of (run stop now) if_some (xs, next) h in
    let r = run_took stop now one.next one.value one.is in
    let e = some_of one.value xs one.next next one.more in
    given (λ ys. p.some ys ∷ Piece.need (run_fits stop ys) ∷ z.tokens ys) e.1 (needed e.0 (needed r.holds r.took))

pub some_run_ends : (stop : Reading → Bool) (now next : Stream) (xs : List Reading) → some_run stop now ≡ Some (xs, next) → ends_at stop next.tokens ≡ true
unfolding some_run
some_run_ends stop now next xs h =
    let one = part_of (run stop now) if_some (xs, next) h in
    let e = some_of one.value xs one.next next one.more in
    kept (λ ys u. ends_at stop u.tokens ≡ true) e.1 (run_ends stop now one.next one.value one.is)

pub default_took : (now next : Stream) (xs : List Reading) → default_run now ≡ Some (xs, next) → RunTook (run_fits_behind ends_default) xs now next
unfolding default_run
default_took now next xs h = by_tokens now.at now.tokens h
  where
    by_tokens : (n : ℕ) (tokens : Lexemes) → first_and_run n tokens ≡ Some (xs, next) → RunTook (run_fits_behind ends_default) xs (from_here n tokens) next
    by_tokens n [] g = absurd (none_some g)
    by_tokens n (x ∷ rest) g =
        let q = before_of x.reading (run_from ends_default (suc n) (brackets_behind x.reading []) rest) xs next g in
        let i = ran ends_default (suc n) (brackets_behind x.reading []) rest q.others next q.is in
        let made : RunTook (run_fits_behind ends_default) (x.reading ∷ q.others) (from_here n (x ∷ rest)) next = record {
          holds = i.holds;
          took = record { holds = λ l. tokens_hold (x.reading ∷ q.others); along = λ l. (from_here (suc n) rest, record { place = x.place; first = refl; counted = refl }, i.along) };
        } in
        subst (λ ys. RunTook (run_fits_behind ends_default) ys (from_here n (x ∷ rest)) next) q.whole made

pub within_took : Spells z.within within
unfolding within
within_took now next xs h =
    let one = behind h in
    let two = behind one.second in
    let three = behind two.second in
    let r = run_took no_stop one.mid two.mid two.value two.first in
    given z.within three.second (expected one.first then needed r.holds (r.took then expected three.first))
