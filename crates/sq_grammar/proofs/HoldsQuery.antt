-- Brackets that hold a query are seen to do so by the tokens ahead.
use Rattle.std.proofs.Common.{◌≡◌, ℕ, zero, suc, ◌≤◌, Bool, true, false, List, [], ◌∷◌, ◌++◌, Option, Some, None, refl, sym, ap, subst, ◌∙◌, arith, map}
use Rattle.std.specs.Prelude.{flat_map, ◌&&◌, ◌||◌, if◌then◌else◌}
use Rattle.sq_syntax.specs.declared.symbol.Symbol.{Symbol}
use Rattle.sq_syntax.specs.declared.symbol.Symbol.TheVariants as s
use Rattle.sq_syntax.specs.declared.symbol.Reading.{Reading}
use Rattle.sq_syntax.specs.declared.symbol.Reading.TheVariants as reading
use Rattle.sq_syntax.specs.declared.expr.Sort.{Sort as SortItem}
use Rattle.sq_syntax.specs.declared.expr.Expression.TheOpen.{Factor-F}
use Rattle.sq_syntax.specs.declared.query.Factor.{out-Factor}
use Rattle.sq_syntax.specs.declared.query.Query.{Query, out-Query}
use Rattle.sq_syntax.specs.declared.query.Select.{Select, out-Select}
use Rattle.sq_syntax.specs.declared.query.With.{With}
use Rattle.sq_syntax.specs.declared.query.Operands.{Operands}
use Rattle.sq_syntax.specs.declared.query.SetLink.{SetLink}
use Rattle.sq_syntax.specs.declared.query.SetOperation.{SetOperation}
use Rattle.sq_syntax.specs.declared.query.SetOperation.TheVariants as set_operation
use Rattle.sq_syntax.specs.declared.query.Limit.{Limit}
use Rattle.sq_syntax.specs.declared.query.Limit.TheVariants as limit
use Rattle.sq_syntax.specs.declared.query.Offset.{Offset}
use Rattle.sq_syntax.specs.declared.query.Lock.{Lock}
use Rattle.sq_syntax.specs.Facts.{Mark, Stream, Says, Along, Facts, Piece, from, marks_of, all_hold, most_layers}
use Rattle.sq_syntax.specs.Pieces as p
use Rattle.sq_syntax.specs.Pieces.{sym as word, at}
use Rattle.sq_syntax.specs.ExpressionPieces as g
use Rattle.sq_syntax.specs.QueryPieces as f
use Rattle.sq_syntax.specs.QueryPieces.{select_layer, factor_layer, query_layer}
use Rattle.sq_syntax.specs.Grammar.{factor_facts, query_facts, select_facts}
use Rattle.sq_grammar.specs.Reading.{is, same}
use Rattle.sq_grammar.specs.Ahead.{closed, begins_core, follows_query, goes_on_query, close_query, queried, is_some, holds_query}
use Rattle.sq_grammar.specs.Levels.{Expr}
use Rattle.sq_grammar.proofs.Runs.{along_split, both}
use Rattle.sq_grammar.proofs.Complete.{only_if-from}
use Rattle.sq_grammar.proofs.Sorts.{sort_facts}
use Rattle.sq_grammar.proofs.Layers.{QueryLayer, FactorLayer, factor_parts, query_out, factor_out, select_out}
use Rattle.sq_grammar.proofs.QueryFacts.{link_facts, operands_facts, limit_facts, offset_facts, query_with, query_parts_of, select_parts_of}
use Rattle.sq_grammar.proofs.Walks.{Flat, append, pieces_split, holds_split}
use Rattle.sq_grammar.proofs.WalkTrees.{order}
use Rattle.sq_grammar.proofs.WalkQueries.{set_links, factor, tight_operands, limits, offsets, locks}
use Rattle.sq_grammar.proofs.Walking.{below, whole_query_walked}
use Rattle.sq_grammar.proofs.Named.{closed_counts}
use Rattle.sq_grammar.proofs.Calls.{closed_over}

-- ---- what stands behind a bracketed query that comes first goes on with the query

record Follow (ps : List Piece) : Type 0 where
  follow : (now next : Stream) → Along (marks_of ps) now next → goes_on_query next.tokens ≡ true → goes_on_query now.tokens ≡ true

follow_none : Follow []
follow_none = record { follow = λ now next a h. subst (λ (v : Stream). goes_on_query v.tokens ≡ true) (sym a) h }

follow_both : (a b : List Piece) → Follow a → Follow b → Follow (a ++ b)
follow_both a b h k = record { follow = λ now next along stop. let t = pieces_split a b now next along in h.follow now t.0 t.1 (k.follow t.0 next t.2 stop) }

follow_says : (x : Symbol) (ps : List Piece) → follows_query (reading.Symbol x) ≡ true → Follow (word x ∷ ps)
follow_says x ps h = record { follow = λ now next a stop. ap goes_on_query a.1.first ∙ h }

set_follows : (x : SetOperation) → follows_query (reading.Symbol (f.set_symbol x)) ≡ true
set_follows set_operation.Union = refl
set_follows set_operation.Except = refl
set_follows set_operation.Intersect = refl

follow_links : {A B : Type 0} (tight : Bool) (pieces : B → List Piece) (h : A → B) (xs : List (SetLink A)) → Follow (flat_map (f.set_link tight pieces) (map (link_facts h) xs))
follow_links tight pieces h [] = follow_none
follow_links tight pieces h (x ∷ xs) = record { follow = λ now next a stop. ap goes_on_query a.1.1.first ∙ set_follows x.operation }

follow_order : (xs : List (SortItem Expr)) → Follow (g.order (map sort_facts xs))
follow_order [] = follow_none
follow_order (x ∷ xs) = follow_says s.Order _ refl

follow_limit : (x : Option (Limit Expr)) → Follow (f.limit_pieces (limit_facts x))
follow_limit None = follow_none
follow_limit (Some limit.All) = follow_says s.Limit _ refl
follow_limit (Some (limit.Count x)) = follow_says s.Limit _ refl

follow_offset : (x : Option (Offset Expr)) → Follow (f.offset (offset_facts x))
follow_offset None = follow_none
follow_offset (Some x) = follow_says s.Offset _ refl

follow_locks : (xs : List Lock) → Follow (flat_map f.lock xs)
follow_locks [] = follow_none
follow_locks (x ∷ xs) = record { follow = λ now next a stop. ap goes_on_query a.1.first ∙ refl }

-- ---- a query behind its first factor

abbrev pub tight_pieces : Operands Facts → List Piece
tight_pieces = f.operands true (λ y. p.whole y ∷ [])

abbrev pub links_of : QueryLayer → List Piece
links_of l = flat_map (f.set_link true (λ y. p.whole y ∷ [])) (map (link_facts factor_facts) l.body.first.links) ++ flat_map (f.set_link false tight_pieces) (map (link_facts (operands_facts factor_facts)) l.body.links)

abbrev pub rest_of : QueryLayer → List Piece
rest_of l = (((links_of l ++ g.order (map sort_facts l.order)) ++ f.limit_pieces (limit_facts l.limit)) ++ f.offset (offset_facts l.offset)) ++ flat_map f.lock l.locks

rest_follows : (l : QueryLayer) → Follow (rest_of l)
rest_follows l =
    follow_both _ _ (follow_both _ _ (follow_both _ _ (follow_both _ _ (follow_both _ _ (follow_links true (λ y. p.whole y ∷ []) factor_facts l.body.first.links) (follow_links false tight_pieces (operands_facts factor_facts) l.body.links))
    (follow_order l.order)) (follow_limit l.limit)) (follow_offset l.offset)) (follow_locks l.locks)

rest_flat : (l : QueryLayer) (m : ℕ) → Flat closed m 0 0 (rest_of l)
rest_flat l m =
    let c = closed_counts in
    let b = below closed closed_counts m in
    append closed c m _ _ (append closed c m _ _ (append closed c m _ _ (append closed c m _ _
    (append closed c m _ _ (set_links closed c m b true (λ y. p.whole y ∷ []) factor_facts (λ y. factor closed c m b y (Rattle.sq_grammar.proofs.Walks.nil closed c m)) l.body.first.links)
    (set_links closed c m b false tight_pieces (operands_facts factor_facts) (tight_operands closed c m b) l.body.links))
    (order closed c m b l.order)) (limits closed c m b l.limit)) (offsets closed c m b l.offset)) (locks closed c m b l.locks)

-- the tokens after the brackets are found where these hold the tree
abbrev Found : Query → Type 0
Found x = (now u v next : Stream) → Says (reading.Symbol s.Open) now u → from 0 (query_facts x).level ≡ true → Along (query_facts x).marks u v → Says (reading.Symbol s.Close) v next → queried now.tokens ≡ Some next.tokens

found_core : (x : Query) (now u v next : Stream) → Says (reading.Symbol s.Open) now u → from 0 (query_facts x).level ≡ true → Along (query_facts x).marks u v → Says (reading.Symbol s.Close) v next → begins_core u.tokens ≡ true → queried now.tokens ≡ Some next.tokens
unfolding same
found_core x now u v next o h a c core =
    ap queried o.first
    ∙ ap (λ b. if b then closed u.tokens 1 else close_query (queried u.tokens)) core
    ∙ closed_over u v next ((whole_query_walked closed closed_counts x).walked h 0 u v a) c

or_left : (a b : Bool) → a ≡ true → a || b ≡ true
or_left true b h = refl
or_left false b h = absurd (cc)

core_select : (r : Reading) (u v : Stream) → Says r u v → r ≡ reading.Symbol s.Select → begins_core u.tokens ≡ true
unfolding same
core_select r u v h e = ap begins_core h.first ∙ ap (λ q. is s.Select q || is s.With q) e

core_with : (u v : Stream) → Says (reading.Symbol s.With) u v → begins_core u.tokens ≡ true
unfolding same
core_with u v h = ap begins_core h.first

-- a query that begins with SELECT
select_core : (x : Select) (u v : Stream) → Along (select_facts x).marks u v → begins_core u.tokens ≡ true
select_core x u v a =
    let l = out-Select x in
    let e = select_out x ∙ ap select_layer (select_parts_of l) in
    let b = subst (λ (y : Facts). Along y.marks u v) e a in
    core_select (reading.Symbol s.Select) u b.0 b.1 refl

nested_found : (l : QueryLayer) (y : Query) (now u v next : Stream) → Found y → Says (reading.Symbol s.Open) now u → (u1 w1 w : Stream) → Says (reading.Symbol s.Open) u u1 → from 0 (query_facts y).level ≡ true → Along (query_facts y).marks u1 w1 → Says (reading.Symbol s.Close) w1 w
    → all_hold (rest_of l) ≡ true → Along (marks_of (rest_of l)) w v → Says (reading.Symbol s.Close) v next → queried now.tokens ≡ Some next.tokens
unfolding same
nested_found l y now u v next ih o u1 w1 w p1 lev a c holds rest close =
    let inside = ih u u1 w1 w p1 lev a c in
    let goes = (rest_follows l).follow w v rest (ap goes_on_query close.first) in
    let flat = (rest_flat l (most_layers (rest_of l))).flat (omega arith) holds 0 w v rest in
    ap queried o.first
    ∙ ap (λ b. if b then closed u.tokens 1 else close_query (queried u.tokens)) (ap begins_core p1.first)
    ∙ ap close_query inside
    ∙ ap (λ b. if b then closed w.tokens 1 else None) goes
    ∙ closed_over w v next flat close

-- by the first factor of the query
by_factor : (m : ℕ) → ((y : Query) → (query_facts y).layers ≤ m → Found y) → (x : Query) (l : QueryLayer) (k : FactorLayer) (now u v next : Stream) → Says (reading.Symbol s.Open) now u → from 0 (query_facts x).level ≡ true → Along (query_facts x).marks u v → Says (reading.Symbol s.Close) v next
    → (factor_layer (factor_parts k)).layers ≤ suc m → from 0 (factor_layer (factor_parts k)).level ≡ true → (w : Stream) → Along (factor_layer (factor_parts k)).marks u w → all_hold (rest_of l) ≡ true → Along (marks_of (rest_of l)) w v → queried now.tokens ≡ Some next.tokens
by_factor m ih x l (Factor-F.Core y) now u v next o lev a c le ok w factor_along holds rest =
    let t = along_split (select_facts y).marks [] u w factor_along in
    found_core x now u v next o lev a c (select_core y u t.0 t.1)
by_factor m ih x l (Factor-F.Nested y) now u v next o lev a c le ok w factor_along holds rest =
    let t = along_split (query_facts y).marks (Mark.says (reading.Symbol s.Close) ∷ []) factor_along.0 w factor_along.2 in
    let good = both (from 0 (query_facts y).level) true (only_if-from (from 0 (query_facts y).level && true) 0 0 ok) in
    nested_found l y now u v next (ih y (omega (arith, le))) o factor_along.0 t.0 w factor_along.1 good.0 t.1 (subst (λ z. Says (reading.Symbol s.Close) t.0 z) t.2.2 t.2.1) holds rest c

by_with : (m : ℕ) → ((y : Query) → (query_facts y).layers ≤ m → Found y) → (x : Query) (l : QueryLayer) (ws : List (With Query)) (now u v next : Stream) → Says (reading.Symbol s.Open) now u → from 0 (query_facts x).level ≡ true → Along (query_facts x).marks u v → Says (reading.Symbol s.Close) v next
    → (query_layer (query_with l.place l.first l.last ws l.body l.order l.limit l.offset l.locks)).layers ≤ suc (suc m) → from 0 (query_layer (query_with l.place l.first l.last ws l.body l.order l.limit l.offset l.locks)).level ≡ true
    → Along (query_layer (query_with l.place l.first l.last ws l.body l.order l.limit l.offset l.locks)).marks u v → queried now.tokens ≡ Some next.tokens
by_with m ih x l (y ∷ ys) now u v next o lev a c le ok along = found_core x now u v next o lev a c (core_with u along.1.1.0 along.1.1.1)
by_with m ih x l [] now u v next o lev a c le ok along =
    let first = factor_facts l.body.first.first in
    let t = along_split (marks_of (at l.place ∷ p.whole first ∷ rest_of l)) (Mark.ends l.last ∷ []) u v along.1 in
    let r = along_split first.marks (marks_of (rest_of l)) u t.0 t.1.1 in
    let good = both (from 0 first.level) (all_hold (rest_of l)) (only_if-from (all_hold (at l.place ∷ p.whole first ∷ rest_of l)) 0 0 ok) in
    let e = factor_out l.body.first.first in
    by_factor m ih x l (out-Factor l.body.first.first) now u v next o lev a c
    (subst (λ (y : Facts). y.layers ≤ suc m) e (omega (arith, le))) (subst (λ (y : Facts). from 0 y.level ≡ true) e good.0) r.0 (subst (λ (y : Facts). Along y.marks u r.0) e r.1) good.1 (subst (λ z. Along (marks_of (rest_of l)) r.0 z) t.2.1 r.2)

found_step : (m : ℕ) → ((y : Query) → (query_facts y).layers ≤ m → Found y) → (x : Query) → (query_facts x).layers ≤ suc (suc m) → Found x
found_step m ih x le now u v next o lev a c =
    let l = out-Query x in
    let e = query_out x ∙ ap query_layer (query_parts_of l) in
    by_with m ih x l l.with now u v next o lev a c (subst (λ (y : Facts). y.layers ≤ suc (suc m)) e le) (subst (λ (y : Facts). from 0 y.level ≡ true) e lev) (subst (λ (y : Facts). Along y.marks u v) e a)

-- a query has a layer
query_layers : (x : Query) → 1 ≤ (query_facts x).layers
query_layers x = omega (arith, ap (λ (y : Facts). y.layers) (query_out x))

found_below : (m : ℕ) (x : Query) → (query_facts x).layers ≤ m → Found x
found_below zero x le = absurd (omega (arith, le, query_layers x))
found_below (suc zero) x le = found_step 0 (λ y less. absurd (omega (arith, less, query_layers y))) x (omega (arith, le))
found_below (suc (suc m)) x le = found_step m (found_below m) x le

pub query_found : (x : Query) → Found x
query_found x = found_below (query_facts x).layers x (omega arith)

pub query_held : (x : Query) (now u v next : Stream) → Says (reading.Symbol s.Open) now u → from 0 (query_facts x).level ≡ true → Along (query_facts x).marks u v → Says (reading.Symbol s.Close) v next → holds_query now.tokens ≡ true
unfolding holds_query
query_held x now u v next o lev a c = ap is_some (query_found x now u v next o lev a c)
