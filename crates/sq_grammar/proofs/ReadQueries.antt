-- A query is read as it is spelled.
use Rattle.std.proofs.Common.{◌≡◌, ℕ, suc, ◌-◌, ◌≤◌, true, false, List, [], ◌∷◌, ◌++◌, Option, Some, refl, sym, ap, subst, ◌∙◌, arith, append_assoc, map}
use Rattle.std.specs.Prelude.{flat_map}
use Rattle.std.proofs.lemmas.List.{append-nil}
use Rattle.sq_base.specs.declared.place.Place.{Place}
use Rattle.sq_syntax.specs.declared.symbol.Symbol.TheVariants as s
use Rattle.sq_syntax.specs.declared.expr.Sort.{Sort as SortItem}
use Rattle.sq_syntax.specs.declared.expr.Expression.TheViews.{roll-out-Query}
use Rattle.sq_syntax.specs.declared.query.Query.{Query, out-Query, roll-Query}
use Rattle.sq_syntax.specs.declared.query.Factor.{Factor}
use Rattle.sq_syntax.specs.declared.query.Operands.{Operands}
use Rattle.sq_syntax.specs.declared.query.With.{With}
use Rattle.sq_syntax.specs.declared.query.Limit.{Limit}
use Rattle.sq_syntax.specs.declared.query.Offset.{Offset}
use Rattle.sq_syntax.specs.declared.query.Lock.{Lock}
use Rattle.sq_syntax.specs.Facts.{Mark, Stream, Along, Facts, Piece, from, marks_of}
use Rattle.sq_syntax.specs.Pieces as p
use Rattle.sq_syntax.specs.ExpressionPieces as g
use Rattle.sq_syntax.specs.QueryPieces as f
use Rattle.sq_syntax.specs.Grammar.{query_facts}
use Rattle.sq_grammar.specs.Reading.{Parser, ◌>>=◌, sees, same, here, many}
use Rattle.sq_grammar.specs.Levels.{Expr}
use Rattle.sq_grammar.specs.Primaries.{order}
use Rattle.sq_grammar.specs.Queries.{with_queries, body, limit, offset, lock, query}
use Rattle.sq_grammar.proofs.Runs.{Run, along_split}
use Rattle.sq_grammar.proofs.Complete.{Reads, step, stands_here}
use Rattle.sq_grammar.proofs.Begins.{Starts, starts_negated}
use Rattle.sq_grammar.proofs.Stars.{Unstarred}
use Rattle.sq_grammar.proofs.Lists.{ReadsTo}
use Rattle.sq_grammar.proofs.Sorts.{sort_facts}
use Rattle.sq_grammar.proofs.Layers.{QueryLayer, query_out}
use Rattle.sq_grammar.proofs.QueryFacts.{with_facts, body_facts, limit_facts, offset_facts, query_with, query_parts_of}
use Rattle.sq_grammar.proofs.ReadsBelow.{ReadsBelow, is_over}
use Rattle.sq_grammar.proofs.Ranks.{Behind, rank, over_rank, unseen_before, behind_word}
use Rattle.sq_grammar.proofs.Aliases.{neither}
use Rattle.sq_grammar.proofs.Distinct.{unseen_head}
use Rattle.sq_grammar.proofs.Clauses.{past_order, past_limit, past_offset, sorts_read, limit_read, offset_read}
use Rattle.sq_grammar.proofs.Locks.{lock_goes_on, locks_read}
use Rattle.sq_grammar.proofs.FromFronts.{wholly}
use Rattle.sq_grammar.proofs.Withs.{withs_read}
use Rattle.sq_grammar.proofs.Factors.{no_factor}
use Rattle.sq_grammar.proofs.Bodies.{body_read, body_begins}

abbrev query_of : Place → ℕ → ℕ → List (With Query) → Operands (Operands Factor) → List (SortItem Expr) → Option (Limit Expr) → Option (Offset Expr) → List Lock → QueryLayer
query_of place first last withs operations sorts limited skipped locks = record { place = place; first = first; last = last; with = withs; body = operations; order = sorts; limit = limited; offset = skipped; locks = locks }

abbrev query_pieces : Place → List (With Query) → Operands (Operands Factor) → List (SortItem Expr) → Option (Limit Expr) → Option (Offset Expr) → List Lock → List Piece
query_pieces place withs operations sorts limited skipped locks =
    p.at place ∷ f.with_queries (map with_facts withs) ++ f.body (body_facts operations) ++ g.order (map sort_facts sorts) ++ f.limit_pieces (limit_facts limited) ++ f.offset (offset_facts skipped) ++ flat_map f.lock locks

regrouped : (place : Place) (withs : List (With Query)) (operations : Operands (Operands Factor)) (sorts : List (SortItem Expr)) (limited : Option (Limit Expr)) (skipped : Option (Offset Expr)) (locks : List Lock) (rest : List Piece)
    → query_pieces place withs operations sorts limited skipped locks ++ rest
    ≡ p.at place ∷ f.with_queries (map with_facts withs) ++ (f.body (body_facts operations) ++ (g.order (map sort_facts sorts) ++ (f.limit_pieces (limit_facts limited) ++ (f.offset (offset_facts skipped) ++ (flat_map f.lock locks ++ rest)))))
regrouped place withs operations sorts limited skipped locks rest =
    let a = p.at place ∷ f.with_queries (map with_facts withs) in
    let b = f.body (body_facts operations) in
    let c = g.order (map sort_facts sorts) in
    let l = f.limit_pieces (limit_facts limited) in
    let o = f.offset (offset_facts skipped) in
    let k = flat_map f.lock locks in
    append_assoc (a ++ b ++ c ++ l ++ o) k rest ∙ append_assoc (a ++ b ++ c ++ l) o (k ++ rest) ∙ append_assoc (a ++ b ++ c) l (o ++ (k ++ rest)) ∙ append_assoc (a ++ b) c (l ++ (o ++ (k ++ rest)))
    ∙ append_assoc a b (c ++ (l ++ (o ++ (k ++ rest))))

past_locks : (xs : List Lock) (n m d : ℕ) (rest : List Piece) (next : Stream) → n ≤ 13 → n ≤ m → Behind m rest d next → Behind n (flat_map f.lock xs ++ rest) d next
past_locks [] n m d rest next low less behind u run = omega (arith, less, behind u run)
past_locks (x ∷ xs) n m d rest next low less behind u run = behind_word s.For n u run.0 run.1 low

no_lock : (u : Stream) → 14 ≤ rank u.tokens → (sees s.For u ≡ false) × (lock_goes_on u ≡ false)
no_lock u h = (
  unseen_before s.For 14 u.tokens h (omega arith),
  neither _ _ (unseen_before s.Of 14 u.tokens h (omega arith)) (
      neither _ _ (unseen_before s.Comma 14 u.tokens h (omega arith)) (neither _ _ (unseen_before s.NoWait 14 u.tokens h (omega arith)) (unseen_before s.Skip 14 u.tokens h (omega arith)))),
)

module _ (expr : Parser Expr) (inner : Parser Query) (k : ℕ) (read : ReadsTo k expr) (starts : Starts starts_negated expr) (unstarred : Unstarred expr) (queries : ReadsBelow k inner) where
  -- what was read up to here is a query that began there
  abbrev ended : Stream → List (With Query) → Operands (Operands Factor) → List (SortItem Expr) → Option (Limit Expr) → Option (Offset Expr) → List Lock → Parser Query
  ended start withs operations sorts limited skipped locks = λ now. Some (roll-Query (query_of (here start) start.at (now.at - 1) withs operations sorts limited skipped locks), now)

  abbrev to_locks : Stream → List (With Query) → Operands (Operands Factor) → List (SortItem Expr) → Option (Limit Expr) → Option (Offset Expr) → Parser Query
  to_locks start withs operations sorts limited skipped = many (sees s.For) lock >>= ended start withs operations sorts limited skipped

  abbrev to_offset : Stream → List (With Query) → Operands (Operands Factor) → List (SortItem Expr) → Option (Limit Expr) → Parser Query
  to_offset start withs operations sorts limited = offset expr inner >>= to_locks start withs operations sorts limited

  abbrev to_limit : Stream → List (With Query) → Operands (Operands Factor) → List (SortItem Expr) → Parser Query
  to_limit start withs operations sorts = limit expr inner >>= to_offset start withs operations sorts

  abbrev to_order : Stream → List (With Query) → Operands (Operands Factor) → Parser Query
  to_order start withs operations = order expr inner >>= to_limit start withs operations

  abbrev to_body : Stream → List (With Query) → Parser Query
  to_body start withs = body expr inner >>= to_order start withs

  parts_read : (place : Place) (first last : ℕ) (withs : List (With Query)) (operations : Operands (Operands Factor)) (sorts : List (SortItem Expr)) (limited : Option (Limit Expr)) (skipped : Option (Offset Expr)) (locks : List Lock) (now next : Stream)
      → Run (query_pieces place withs operations sorts limited skipped locks ++ []) k now next → first ≡ now.at → suc last ≡ next.at → 14 ≤ rank next.tokens
      → query expr inner now ≡ Some (roll-Query (query_of place first last withs operations sorts limited skipped locks), next)
  unfolding query same
  parts_read place first last withs operations sorts limited skipped locks now next run begun end over =
      let locked = flat_map f.lock locks ++ [] in
      let past_skipped = f.offset (offset_facts skipped) ++ locked in
      let past_limited = f.limit_pieces (limit_facts limited) ++ past_skipped in
      let past_sorted = g.order (map sort_facts sorts) ++ past_limited in
      let past_withs = f.body (body_facts operations) ++ past_sorted in
      let behind_all : Behind 14 [] k next = λ u r. omega (arith, over, ap (λ (v : Stream). rank v.tokens) r) in
      let before_locks : Behind 13 locked k next = past_locks locks 13 14 k [] next (omega arith) (omega arith) behind_all in
      let before_offset : Behind 12 past_skipped k next = past_offset skipped 12 13 k locked next (omega arith) (omega arith) before_locks in
      let before_limit : Behind 11 past_limited k next = past_limit limited 11 12 k past_skipped next (omega arith) (omega arith) before_offset in
      let before_order : Behind 10 past_sorted k next = past_order sorts 10 11 k past_limited next (omega arith) (omega arith) before_limit in
      let all = subst (λ ps. Run ps k now next) (regrouped place withs operations sorts limited skipped locks []) run in
      let w = withs_read expr inner k queries withs past_withs now next all.1
      (λ u r. no_factor s.With u.tokens refl (body_begins expr inner k read starts unstarred queries operations past_sorted u next r))
      (λ u r. no_factor s.Comma u.tokens refl (body_begins expr inner k read starts unstarred queries operations past_sorted u next r)) in
      let b = body_read expr inner k read starts unstarred queries operations past_sorted w.0 next w.2 before_order in
      let o = sorts_read expr inner k read sorts past_limited b.0 next b.2 before_limit in
      let l = limit_read expr inner k read limited past_skipped o.0 next o.2 before_offset (λ y u v h. unseen_head s.All u.tokens (starts u v y h) refl) in
      let a = offset_read expr inner k read skipped locked l.0 next l.2 before_locks in
      let m = locks_read k locks [] a.0 next a.2 (λ u r. no_lock u (behind_all u r)) in
      let is_last : next.at - 1 ≡ last = omega (arith, end) in
      step (with_queries expr inner) (to_body now) now w.0 withs w.1
      ∙ step (body expr inner) (to_order now withs) w.0 b.0 operations b.1
      ∙ step (order expr inner) (to_limit now withs operations) b.0 o.0 sorts o.1
      ∙ step (limit expr inner) (to_offset now withs operations sorts) o.0 l.0 limited l.1
      ∙ step (offset expr inner) (to_locks now withs operations sorts limited) l.0 a.0 skipped a.1
      ∙ step (many (sees s.For) lock) (ended now withs operations sorts limited skipped) a.0 m.0 locks m.1
      ∙ ap (λ u. ended now withs operations sorts limited skipped locks u) m.2
      ∙ ap (λ n. Some (roll-Query (query_of (here now) now.at n withs operations sorts limited skipped locks), next)) is_last
      ∙ ap (λ n. Some (roll-Query (query_of (here now) n last withs operations sorts limited skipped locks), next)) (sym begun)
      ∙ ap (λ at. Some (roll-Query (query_of at first last withs operations sorts limited skipped locks), next)) (stands_here place now.tokens all.0)

  layer_read : (l : QueryLayer) (now next : Stream) → let z = f.query_layer (query_with l.place l.first l.last l.with l.body l.order l.limit l.offset l.locks) in
      from 0 z.level ≡ true → z.depth ≤ k → Along z.marks now next → 14 ≤ rank next.tokens → query expr inner now ≡ Some (roll-Query l, next)
  layer_read l now next ok le a over =
      let pieces = query_pieces l.place l.with l.body l.order l.limit l.offset l.locks in
      let m = along_split (marks_of pieces) (Mark.ends l.last ∷ []) now next a.1 in
      let run = subst (λ u. Run pieces k now u) m.2.1 (wholly pieces k now m.0 ok le m.1) in
      parts_read l.place l.first l.last l.with l.body l.order l.limit l.offset l.locks now next (subst (λ ps. Run ps k now next) (sym (append-nil pieces)) run) a.0 (m.2.0 ∙ ap (λ (u : Stream). u.at) m.2.1) over

  -- a query is read where nothing that stands behind goes on with it
  pub query_before : (x : Query) (now next : Stream) → from 0 (query_facts x).level ≡ true → (query_facts x).depth ≤ k → Along (query_facts x).marks now next → 14 ≤ rank next.tokens → query expr inner now ≡ Some (x, next)
  query_before x now next ok le a over =
      let l = out-Query x in
      let e = query_out x ∙ ap f.query_layer (query_parts_of l) in
      layer_read l now next
      (subst (λ (z : Facts). from 0 z.level ≡ true) e ok)
      (subst (λ (z : Facts). z.depth ≤ k) e le)
      (subst (λ (z : Facts). Along z.marks now next) e a)
      over
      ∙ ap (λ y. Some (y, next)) (roll-out-Query x)

  pub query_read : (x : Query) (now next : Stream) → from 0 (query_facts x).level ≡ true → (query_facts x).depth ≤ k → Along (query_facts x).marks now next → is_over next.tokens ≡ true → query expr inner now ≡ Some (x, next)
  query_read x now next ok le a over = query_before x now next ok le a (over_rank next.tokens over)

pub reads_query : (d : ℕ) (expr : Parser Expr) (inner : Parser Query) → Reads d 0 expr → Starts starts_negated expr → Unstarred expr → ReadsBelow d inner → ReadsBelow (suc d) (query expr inner)
reads_query d expr inner read starts unstarred queries x now next h less a stop =
    query_read expr inner d (λ y u v level le along ends. read.reads y u v level le along ends) starts unstarred queries x now next h (omega (arith, less)) a stop
