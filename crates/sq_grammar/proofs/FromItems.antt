-- The items of FROM are read as they are spelled.
use Rattle.std.proofs.Common.{◌≡◌, ℕ, zero, suc, ◌≤◌, Bool, true, List, [], ◌∷◌, ◌++◌, length, Some, ap, subst, ◌∙◌, arith, map}
use Rattle.sq_syntax.specs.declared.symbol.Symbol.TheVariants as s
use Rattle.sq_syntax.specs.declared.symbol.Reading.TheVariants as reading
use Rattle.sq_syntax.specs.declared.query.From.{From}
use Rattle.sq_syntax.specs.declared.query.Join.{Join}
use Rattle.sq_syntax.specs.declared.query.Query.{Query}
use Rattle.sq_syntax.specs.declared.query.Source.{Source}
use Rattle.sq_syntax.specs.declared.query.Source.TheVariants as source_kind
use Rattle.sq_syntax.specs.Facts.{Stream, Along, Facts, Piece, from, all_hold}
use Rattle.sq_syntax.specs.Pieces as p
use Rattle.sq_syntax.specs.Pieces.{sym as word}
use Rattle.sq_syntax.specs.QueryPieces as f
use Rattle.sq_syntax.specs.Grammar.{from_facts, join_facts, source_facts, query_facts}
use Rattle.sq_grammar.specs.Reading.{Parser, ◌>>=◌, pure, many, many_from}
use Rattle.sq_grammar.specs.Levels.{Expr}
use Rattle.sq_grammar.specs.Queries.{begins_join, source, join, from_at}
use Rattle.sq_grammar.proofs.Runs.{Run, along_shorter}
use Rattle.sq_grammar.proofs.Complete.{step, only_if-from}
use Rattle.sq_grammar.proofs.Lists.{ReadsTo}
use Rattle.sq_grammar.proofs.ReadsBelow.{ReadsBelow}
use Rattle.sq_grammar.proofs.Ranks.{rank, no_join}
use Rattle.sq_grammar.proofs.Fronts.{schema_first}
use Rattle.sq_grammar.proofs.FromFronts.{begun_split}
use Rattle.sq_grammar.proofs.FromShapes.{SourceShape, source_shape, FromShape, from_shape, from_of, source_node, table_facts, derived_facts, grouped_facts, joined_facts}
use Rattle.sq_grammar.proofs.JoinWords.{says_fewer}
use Rattle.sq_grammar.proofs.Joins.{join_front, join_read}
use Rattle.sq_grammar.proofs.Sources.{ReadsFrom, run_by, source_read}
use Rattle.sq_grammar.proofs.Walks.{pieces_split, holds_split}

abbrev joins_pieces : List Join → List Piece
joins_pieces joins = map p.whole (map join_facts joins)

joins_count : (joins : List Join) (d : ℕ) (now next : Stream) → Run (joins_pieces joins) d now next → length joins ≤ length now.tokens
joins_count [] d now next run = omega arith
joins_count (x ∷ joins) d now next run = omega (arith, joins_count joins d run.0 next run.4, (join_front x now run.0 run.1 run.3).fewer)

joins_ranked : (joins : List Join) (d : ℕ) (now next : Stream) → Run (joins_pieces joins) d now next → 3 ≤ rank next.tokens → 2 ≤ rank now.tokens
joins_ranked [] d now next run stop = omega (arith, stop, ap (λ (z : Stream). rank z.tokens) run)
joins_ranked (x ∷ joins) d now next run stop = (join_front x now run.0 run.1 run.3).ranked

-- ---- every item has a token

source_some : (x : Source) → SourceShape x → (now next : Stream) → from 0 (source_facts x).level ≡ true → Along (source_facts x).marks now next → 1 ≤ length now.tokens
source_some _ (SourceShape.table x called) now next h a =
    let pieces = p.qualified_name x ++ f.optional_alias called in
    let e = table_facts x called in
    let t = pieces_split (p.qualified_name x) (f.optional_alias called) now next (subst (λ (y : Facts). Along y.marks now next) e a) in
    let holds = holds_split (p.qualified_name x) (f.optional_alias called) (only_if-from (all_hold pieces) 0 0 (subst (λ (y : Facts). from 0 y.level ≡ true) e h)) in
    let first = schema_first x.schema x.name now t.0 holds.0 t.1 in
    omega (arith, says_fewer first.0 now first.1 first.2)
source_some _ (SourceShape.derived x called) now next h a =
    let run = run_by _ (word s.Open ∷ p.whole (query_facts x) ∷ word s.Close ∷ f.alias called) (derived_facts x called) (source_facts (source_kind.Derived x called)).depth now next h (omega arith) a in
    omega (arith, says_fewer (reading.Symbol s.Open) now run.0 run.1)
source_some _ (SourceShape.grouped x) now next h a =
    let run = run_by _ (word s.Open ∷ p.whole (from_facts x) ∷ word s.Close ∷ []) (grouped_facts x) (source_facts (source_kind.Grouped x)).depth now next h (omega arith) a in
    omega (arith, says_fewer (reading.Symbol s.Open) now run.0 run.1)

from_some : (x : From) → FromShape x → (k : ℕ) (now next : Stream) → from 0 (from_facts x).level ≡ true → (from_facts x).depth ≤ k → Along (from_facts x).marks now next → 1 ≤ length now.tokens
from_some _ (FromShape.joined x joins) k now next h le a =
    let run = run_by _ (p.whole (f.begun (source_node x)) ∷ joins_pieces joins) (joined_facts x joins) k now next h le a in
    let b = begun_split (source_node x) k now run.0 run.1 run.2 run.3 in
    source_some x.form (source_shape x.form) now run.0 b.level b.along

-- ---- items

module _ (expr : Parser Expr) (inner : Parser Query) (k : ℕ) (read : ReadsTo k expr) (queries : ReadsBelow k inner) where
  module _ (n : ℕ) (within : Parser From) (reads : ReadsFrom k n within) where
    abbrev more : Stream → Bool
    more now = begins_join now.tokens

    joins_read : (joins : List Join) (m : ℕ) (now next : Stream) → Run (joins_pieces joins) k now next → 3 ≤ rank next.tokens → length joins ≤ m → length now.tokens ≤ suc n → many_from more (join expr inner within) m now ≡ Some (joins, next)
    unfolding many_from
    joins_read [] zero now next run stop turns long = ap (λ z. Some ([], z)) run
    joins_read [] (suc m) now next run stop turns long = rw (no_join now.tokens (omega (arith, stop, ap (λ (z : Stream). rank z.tokens) run))) (ap (λ z. Some ([], z)) run)
    joins_read (x ∷ joins) zero now next run stop turns long = absurd (omega (arith, turns))
    joins_read (x ∷ joins) (suc m) now next run stop turns long =
        let u = run.0 in
        let front = join_front x now u run.1 run.3 in
        let first = join_read expr inner k read queries n within reads x now u run.1 run.2 run.3 (joins_ranked joins k u next run.4 stop) long in
        let others = joins_read joins m u next run.4 stop (omega (arith, turns)) (omega (arith, long, front.fewer)) in
        rw front.begins (
        step (join expr inner within) (λ y. many_from more (join expr inner within) m >>= (λ ys. pure (y ∷ ys))) now u x first
        ∙ step (many_from more (join expr inner within) m) (λ ys. pure (x ∷ ys)) u next joins others)

    abbrev over : Parser From
    over = source expr inner within >>= (λ y. many more (join expr inner within) >>= (λ ys. pure (from_of y ys)))

    over_read : (x : From) → FromShape x → (now next : Stream) → from 0 (from_facts x).level ≡ true → (from_facts x).depth ≤ k → Along (from_facts x).marks now next → 3 ≤ rank next.tokens → length now.tokens ≤ suc n → over now ≡ Some (x, next)
    over_read _ (FromShape.joined x joins) now next h le a stop long =
        let run = run_by _ (p.whole (f.begun (source_node x)) ∷ joins_pieces joins) (joined_facts x joins) k now next h le a in
        let u = run.0 in
        let ranked = joins_ranked joins k u next run.4 stop in
        let fewer = along_shorter (f.begun (source_node x)).marks now u run.3 in
        let first = source_read expr inner k queries n within reads x now u (begun_split (source_node x) k now u run.1 run.2 run.3) (omega (arith, ranked)) long in
        let others = joins_read joins (length u.tokens) u next run.4 stop (joins_count joins k u next run.4) (omega (arith, fewer, long)) in
        step (source expr inner within) (λ y. many more (join expr inner within) >>= (λ ys. pure (from_of y ys))) now u x first
        ∙ step (many more (join expr inner within)) (λ ys. pure (from_of x ys)) u next joins others

  pub from_at_read : (n : ℕ) → ReadsFrom k n (from_at expr inner n)
  unfolding from_at
  from_at_read zero x now next h le a stop long = absurd (omega (arith, long, from_some x (from_shape x) k now next h le a))
  from_at_read (suc n) x now next h le a stop long = over_read n (from_at expr inner n) (from_at_read n) x (from_shape x) now next h le a stop long
