-- Brackets that hold sources of a query are seen to hold no query by the tokens ahead.
use Rattle.std.proofs.Common.{◌≡◌, ℕ, zero, suc, ◌≤◌, Bool, true, false, List, [], ◌∷◌, Some, None, refl, ap, subst, ◌∙◌, arith, map}
use Rattle.std.specs.Prelude.{if◌then◌else◌, ◌&&◌}
use Rattle.sq_syntax.specs.declared.symbol.Symbol.TheVariants as s
use Rattle.sq_syntax.specs.declared.symbol.Reading.{Reading}
use Rattle.sq_syntax.specs.declared.symbol.Reading.TheVariants as reading
use Rattle.sq_syntax.specs.declared.name.Identifier.{Identifier}
use Rattle.sq_syntax.specs.declared.expr.Expression.TheOpen.{Source-F}
use Rattle.sq_syntax.specs.declared.query.From.{From, out-From}
use Rattle.sq_syntax.specs.declared.query.Source.{Source, out-Source}
use Rattle.sq_syntax.specs.Facts.{Mark, Stream, Says, Along, Facts, Piece, first_place, from, marks_of, all_hold}
use Rattle.sq_syntax.specs.Symbols.{identifier_reading, is_bare_label}
use Rattle.sq_syntax.specs.Pieces as p
use Rattle.sq_syntax.specs.QueryPieces as f
use Rattle.sq_syntax.specs.Grammar.{from_facts, join_facts, source_facts, query_facts}
use Rattle.sq_grammar.specs.Reading.{same}
use Rattle.sq_grammar.specs.Ahead.{begins_core, closed, close_query, queried, follows_query, goes_on_query, holds_query, is_some}
use Rattle.sq_syntax.specs.declared.expr.Node.{Node}
use Rattle.sq_grammar.proofs.Runs.{Run, along_split, run_of, both}
use Rattle.sq_grammar.proofs.Complete.{only_if-from}
use Rattle.sq_grammar.proofs.Layers.{SourceLayer, source_parts, source_out, from_out}
use Rattle.sq_grammar.proofs.Walks.{pieces_split, holds_split}
use Rattle.sq_grammar.proofs.Fronts.{First, apart_core, apart_open, schema_first}
use Rattle.sq_grammar.proofs.HoldsQuery.{query_found}

-- the pieces of a production that has no level of its own are those of its tokens
pub wholly : (pieces : List Piece) (d : ℕ) (now next : Stream) → from 0 (f.whole_facts pieces).level ≡ true → (f.whole_facts pieces).depth ≤ d → Along (f.whole_facts pieces).marks now next → Run pieces d now next
wholly pieces d now next h le a = run_of pieces 0 d now next (only_if-from (all_hold pieces) 0 0 h) le a

-- a part's tokens, apart from their numbers and their place
pub record Begun (x : Node Facts) (d : ℕ) (now next : Stream) : Type 0 where
  pub first : x.first ≡ now.at
  pub place : first_place now.tokens ≡ Some x.place
  pub level : from 0 x.form.level ≡ true
  pub depth : x.form.depth ≤ d
  pub along : Along x.form.marks now next
  pub last : suc x.last ≡ next.at

pub begun_split : (x : Node Facts) (d : ℕ) (now next : Stream) → from 0 (f.begun x).level ≡ true → (f.begun x).depth ≤ d → Along (f.begun x).marks now next → Begun x d now next
begun_split x d now next h le a =
    let pieces = p.at x.place ∷ p.whole x.form ∷ [] in
    let m = along_split (marks_of pieces) (Mark.ends x.last ∷ []) now next a.1 in
    let r = wholly pieces d now m.0 h le m.1 in
    let to_next : r.1.0 ≡ next = r.1.4 ∙ m.2.1 in
    record { first = a.0; place = r.0; level = r.1.1; depth = r.1.2; along = subst (λ (z : Stream). Along x.form.marks now z) to_next r.1.3; last = m.2.0 ∙ ap (λ (z : Stream). z.at) m.2.1 }

-- what the tokens of sources tell of brackets round them
pub record FromFront (u : Stream) : Type 0 where
  pub core : begins_core u.tokens ≡ false
  pub unclosed : close_query (queried u.tokens) ≡ None

front_first : (u : Stream) → First u → FromFront u
front_first u h = record {
  core = ap begins_core h.2.first ∙ apart_core h.0 h.3;
  unclosed = ap close_query (ap queried h.2.first ∙ ap (λ b. if b then (if begins_core h.1.tokens then closed h.1.tokens 1 else close_query (queried h.1.tokens)) else None) (apart_open h.0 h.3));
}

-- brackets round what is so hold no query
pub unqueried : (now u : Stream) → Says (reading.Symbol s.Open) now u → FromFront u → queried now.tokens ≡ None
unfolding same
unqueried now u o h = ap queried o.first ∙ ap (λ b. if b then closed u.tokens 1 else close_query (queried u.tokens)) h.core ∙ h.unclosed

label_follows : (r : Reading) → is_bare_label r ≡ true → follows_query r ≡ false
label_follows (reading.Symbol s.Close) h = absurd (cc)
label_follows (reading.Symbol s.Union) h = absurd (cc)
label_follows (reading.Symbol s.Except) h = absurd (cc)
label_follows (reading.Symbol s.Intersect) h = absurd (cc)
label_follows (reading.Symbol s.Order) h = absurd (cc)
label_follows (reading.Symbol s.Limit) h = absurd (cc)
label_follows (reading.Symbol s.Offset) h = absurd (cc)
label_follows (reading.Symbol s.For) h = absurd (cc)
label_follows (reading.Symbol _) h = refl
label_follows _ h = refl

alias_goes : (has_as : Bool) (x : Identifier) (columns : List Identifier) (w v : Stream) → all_hold (f.alias (record { has_as = has_as; name = x; columns = columns })) ≡ true
    → Along (marks_of (f.alias (record { has_as = has_as; name = x; columns = columns }))) w v → goes_on_query w.tokens ≡ false
alias_goes true x columns w v h a = ap goes_on_query a.1.first
alias_goes false x columns w v h a = ap goes_on_query a.1.1.first ∙ label_follows (identifier_reading x) (both _ _ h).0

module _ (m : ℕ) (ih : (y : From) → (from_facts y).layers ≤ m → (u v : Stream) → from 0 (from_facts y).level ≡ true → Along (from_facts y).marks u v → FromFront u) where
  source_front : (l : SourceLayer) → (f.source_layer (source_parts l)).layers ≤ suc m → (u v : Stream) → from 0 (f.source_layer (source_parts l)).level ≡ true → Along (f.source_layer (source_parts l)).marks u v → FromFront u
  unfolding same
  source_front (Source-F.Table x called) le u v ok a =
      let t = pieces_split (p.qualified_name x) (f.optional_alias called) u v a in
      front_first u (schema_first x.schema x.name u t.0 (holds_split (p.qualified_name x) (f.optional_alias called) (only_if-from _ 0 0 ok)).0 t.1)
  source_front (Source-F.Derived q called) le u v ok a =
      let h = both (from 0 (query_facts q).level) (all_hold (f.alias called)) (only_if-from (from 0 (query_facts q).level && all_hold (f.alias called)) 0 0 ok) in
      let t = along_split (query_facts q).marks (Mark.says (reading.Symbol s.Close) ∷ marks_of (f.alias called)) a.0 v a.2 in
      let w = t.2.0 in
      record {
        core = ap begins_core a.1.first;
        unclosed = ap close_query (query_found q u a.0 t.0 w a.1 h.0 t.1 t.2.1) ∙ ap (λ b. if b then closed w.tokens 1 else None) (alias_goes called.has_as called.name called.columns w v h.1 t.2.2);
      }
  source_front (Source-F.Grouped y) le u v ok a =
      let h = both (from 0 (from_facts y).level) true (only_if-from (from 0 (from_facts y).level && true) 0 0 ok) in
      let t = along_split (from_facts y).marks (Mark.says (reading.Symbol s.Close) ∷ []) a.0 v a.2 in
      record {
        core = ap begins_core a.1.first;
        unclosed = ap close_query (unqueried u a.0 a.1 (ih y (omega (arith, le)) a.0 t.0 h.0 t.1));
      }

  source_front_of : (x : Source) → (source_facts x).layers ≤ suc m → (u v : Stream) → from 0 (source_facts x).level ≡ true → Along (source_facts x).marks u v → FromFront u
  source_front_of x le u v ok a =
      let e = source_out x in
      source_front (out-Source x) (subst (λ (z : Facts). z.layers ≤ suc m) e le) u v (subst (λ (z : Facts). from 0 z.level ≡ true) e ok) (subst (λ (z : Facts). Along z.marks u v) e a)

  from_front_step : (x : From) → (from_facts x).layers ≤ suc m → (u v : Stream) → from 0 (from_facts x).level ≡ true → Along (from_facts x).marks u v → FromFront u
  from_front_step x le u v ok a =
      let l = out-From x in
      let e = from_out x in
      let le_ = subst (λ (z : Facts). z.layers ≤ suc m) e le in
      let ok_ = subst (λ (z : Facts). from 0 z.level ≡ true) e ok in
      let a_ = subst (λ (z : Facts). Along z.marks u v) e a in
      let x0 : Node Facts = record { place = l.source.place; first = l.source.first; last = l.source.last; form = source_facts l.source.form } in
      let pieces = p.whole (f.begun x0) ∷ map p.whole (map join_facts l.joins) in
      let deep = (f.whole_facts pieces).depth in
      let run = wholly pieces deep u v ok_ (omega arith) a_ in
      let b = begun_split x0 deep u run.0 run.1 run.2 run.3 in
      source_front_of l.source.form (omega (arith, le_)) u run.0 b.level b.along

from_layers : (x : From) → 1 ≤ (from_facts x).layers
from_layers x = omega (arith, ap (λ (y : Facts). y.layers) (from_out x))

from_front_below : (m : ℕ) (x : From) → (from_facts x).layers ≤ m → (u v : Stream) → from 0 (from_facts x).level ≡ true → Along (from_facts x).marks u v → FromFront u
from_front_below zero x le u v ok a = absurd (omega (arith, le, from_layers x))
from_front_below (suc m) x le u v ok a = from_front_step m (from_front_below m) x le u v ok a

pub from_lacks : (x : From) (now u v : Stream) → Says (reading.Symbol s.Open) now u → from 0 (from_facts x).level ≡ true → Along (from_facts x).marks u v → holds_query now.tokens ≡ false
unfolding holds_query
from_lacks x now u v o ok a = ap is_some (unqueried now u o (from_front_below (from_facts x).layers x (omega arith) u v ok a))
