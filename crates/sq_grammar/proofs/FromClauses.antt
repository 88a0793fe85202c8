-- FROM is read as it is spelled.
use Rattle.std.proofs.Common.{◌≡◌, ℕ, ◌≤◌, Bool, false, List, [], ◌∷◌, ◌++◌, length, ap, subst, ◌∙◌, arith, map}
use Rattle.std.specs.Prelude.{flat_map, not, nat_le}
use Rattle.std.proofs.lemmas.Grind.{common_steps}
use Rattle.std.proofs.lemmas.List.Folds.{flat_map-map}
use Rattle.std.proofs.lemmas.Simd.{map-map}
use Rattle.sq_syntax.specs.declared.symbol.Symbol.TheVariants as s
use Rattle.sq_syntax.specs.declared.query.From.{From}
use Rattle.sq_syntax.specs.declared.query.Query.{Query}
use Rattle.sq_syntax.specs.Facts.{Stream, Facts, Piece}
use Rattle.sq_syntax.specs.Pieces as p
use Rattle.sq_syntax.specs.Pieces.{sym as word}
use Rattle.sq_syntax.specs.QueryPieces as f
use Rattle.sq_syntax.specs.Grammar.{from_facts}
use Rattle.sq_grammar.specs.Reading.{Parser, ◌>>=◌, ◌>>◌, pure, sees, expect, many}
use Rattle.sq_grammar.specs.Levels.{Expr}
use Rattle.sq_grammar.specs.Queries.{from_at, from_clause}
use Rattle.sq_grammar.proofs.Runs.{Run}
use Rattle.sq_grammar.proofs.Complete.{step, says_expect, Item}
use Rattle.sq_grammar.proofs.Chains.{Gives, many_reads, next_stops}
use Rattle.sq_grammar.proofs.Lists.{ReadsTo}
use Rattle.sq_grammar.proofs.ReadsBelow.{ReadsBelow}
use Rattle.sq_grammar.proofs.ReadNames.{chosen, passed}
use Rattle.sq_grammar.proofs.ReadTypes.{that_symbol}
use Rattle.sq_grammar.proofs.Ranks.{rank, Behind, lacks_before, behind_word}
use Rattle.sq_grammar.proofs.FromItems.{from_at_read}

-- what goes on with an item of FROM
abbrev pub from_goes_on : Stream → Bool
from_goes_on u = not (nat_le 3 (rank u.tokens))

pub from_ends : (u : Stream) → from_goes_on u ≡ false → 3 ≤ rank u.tokens
from_ends u h = grind (arith, common_steps)

pub ends_from : (u : Stream) → 3 ≤ rank u.tokens → from_goes_on u ≡ false
ends_from u h = grind (arith, common_steps)

abbrev comma_from : From → List Piece
comma_from x = word s.Comma ∷ p.whole (from_facts x) ∷ []

from_pieces : (x : From) (xs : List From) → p.listed (map (λ (y : Facts). p.whole y ∷ []) (map from_facts (x ∷ xs))) ≡ p.whole (from_facts x) ∷ flat_map comma_from xs
from_pieces x xs =
    ap (λ ps. p.whole (from_facts x) ∷ ps)
    (ap (λ ps. flat_map (λ item. word s.Comma ∷ item) ps) (map-map (λ (y : Facts). p.whole y ∷ []) from_facts xs) ∙ flat_map-map (λ (item : List Piece). word s.Comma ∷ item) (λ (y : From). p.whole (from_facts y) ∷ []) xs)

module _ (expr : Parser Expr) (inner : Parser Query) (k : ℕ) (read : ReadsTo k expr) (queries : ReadsBelow k inner) where
  abbrev from_item : Parser From
  from_item now = from_at expr inner (length now.tokens) now

  abbrev next_from : Parser From
  next_from = expect s.Comma >> from_item

  abbrev from_items : Parser (List From)
  from_items = expect s.From >>= (λ _. from_item >>= (λ y. many (sees s.Comma) next_from >>= (λ ys. pure (y ∷ ys))))

  pub item_read : (x : From) (rest : List Piece) (now next : Stream) → Run (p.whole (from_facts x) ∷ rest) k now next → ((u : Stream) → Run rest k u next → from_goes_on u ≡ false) → Gives (from_item now) x rest k next
  item_read x rest now next run stop = (run.0, from_at_read expr inner k read queries (length now.tokens) x now run.0 run.1 run.2 run.3 (from_ends run.0 (stop run.0 run.4)) (omega arith), run.4)

  next_item : Item k (sees s.Comma) next_from comma_from from_goes_on
  next_item = record {
    begun = λ x rest now next run stop. that_symbol s.Comma now run.0 run.1;
    stops = λ x rest now next run. ends_from now (behind_word s.Comma 3 now run.0 run.1 (omega arith));
    some = λ x. omega arith;
    reads = λ x rest now next run stop.
        let t = item_read x rest run.0 next run.3 stop in
        (t.0, step (expect s.Comma) (λ _. from_item) now run.0 tt (says_expect s.Comma now run.0 run.1) ∙ t.1, t.2);
  }

  pub from_read : (xs : List From) (rest : List Piece) (now next : Stream) → Run (f.from (map from_facts xs) ++ rest) k now next → Behind 5 rest k next → Gives (from_clause expr inner now) xs rest k next
  unfolding from_clause
  from_read [] rest now next run behind = (now, passed (sees s.From) from_items (pure []) now (lacks_before s.From 5 rest k next behind (omega arith) now run), run)
  from_read (x ∷ xs) rest now next run behind =
      let u = run.0 in
      let parts = subst (λ ps. Run (ps ++ rest) k u next) (from_pieces x xs) run.3 in
      let ends = λ (v : Stream) (r : Run rest k v next). ends_from v (omega (arith, behind v r)) in
      let first = item_read x (flat_map comma_from xs ++ rest) u next parts (λ v r. next_stops k (sees s.Comma) next_from comma_from from_goes_on next_item xs rest v next r ends) in
      let others = many_reads k (sees s.Comma) next_from comma_from from_goes_on next_item xs rest first.0 next first.2 (λ v r. (lacks_before s.Comma 5 rest k next behind (omega arith) v r, ends v r)) in (
        others.0,
        chosen (sees s.From) from_items (pure []) now (that_symbol s.From now u run.1)
            ∙ step (expect s.From) (λ _. from_item >>= (λ y. many (sees s.Comma) next_from >>= (λ ys. pure (y ∷ ys)))) now u tt (says_expect s.From now u run.1)
            ∙ step from_item (λ y. many (sees s.Comma) next_from >>= (λ ys. pure (y ∷ ys))) u first.0 x first.1
            ∙ step (many (sees s.Comma) next_from) (λ ys. pure (x ∷ ys)) first.0 others.0 xs others.1,
        others.2,
      )
