-- Subscripts are read as they are spelled.
use Rattle.std.proofs.Common.{◌≡◌, ℕ, suc, ◌+◌, ◌≤◌, Bool, true, false, List, [], ◌∷◌, ◌++◌, length, Some, refl, sym, ap, subst, ◌∙◌, arith, inl, inr, map}
use Rattle.std.specs.Prelude.{flat_map, if◌then◌else◌, ◌-◌}
use Rattle.std.proofs.lemmas.List.{append-nil}
use Rattle.std.proofs.lemmas.List.Folds.{flat_map-map}
use Rattle.sq_base.specs.declared.place.Place.{Place}
use Rattle.sq_syntax.specs.declared.symbol.Symbol.TheVariants as s
use Rattle.sq_syntax.specs.declared.symbol.Reading.{Reading}
use Rattle.sq_syntax.specs.declared.symbol.Reading.TheVariants as reading
use Rattle.sq_syntax.specs.declared.expr.Index.{Index}
use Rattle.sq_syntax.specs.declared.expr.Expression.{Expression, out-Expression}
use Rattle.sq_syntax.specs.declared.expr.Expression.TheOpen.{Expression-F}
use Rattle.sq_syntax.specs.declared.expr.Expression.TheVariants as e
use Rattle.sq_syntax.specs.declared.query.Query.{Query}
use Rattle.sq_syntax.specs.Facts.{Stream, Says, Along, Piece, Sort, from, built}
use Rattle.sq_syntax.specs.Pieces as p
use Rattle.sq_syntax.specs.Pieces.{Operand, sym as word, say, at}
use Rattle.sq_syntax.specs.ExpressionPieces as g
use Rattle.sq_syntax.specs.ExpressionPieces.{expression_layer}
use Rattle.sq_syntax.specs.Grammar.{tree_facts, expression_facts}
use Rattle.sq_syntax.proofs.Equations as q
use Rattle.sq_syntax.proofs.Equations.{Shape, shape}
use Rattle.sq_grammar.specs.Reading.{Parser, ◌>>=◌, pure, choose, sees, expect, begins, is, same, here, node, many}
use Rattle.sq_grammar.specs.Ahead.{Lexemes, binding, reading_binds, text_after_squares}
use Rattle.sq_grammar.specs.Levels.{Expr, chained}
use Rattle.sq_grammar.specs.Primaries.{primary, layer_takes_index, takes_index, index, index_place, subscripted}
use Rattle.sq_grammar.proofs.Runs.{Run}
use Rattle.sq_grammar.proofs.Complete.{step, says_expect, stands_here, same_some, Reads, Item, Framed, framed, opened, made, goes_on, above, stops-more}
use Rattle.sq_grammar.proofs.Joints.{says_goes, false_true}
use Rattle.sq_grammar.proofs.ReadNames.{chosen, passed}
use Rattle.sq_grammar.proofs.ReadTypes.{that_symbol, back}
use Rattle.sq_grammar.proofs.Testing.{from_level}
use Rattle.sq_grammar.proofs.Homes.{at_home}
use Rattle.sq_grammar.proofs.Layers.{ExpressionLayer, expression_parts, expression_out}
use Rattle.sq_grammar.proofs.Lists.{Inside, facts_of}
use Rattle.sq_grammar.proofs.Chains.{Gives, many_reads, many_none}
use Rattle.sq_grammar.proofs.Walking.{tree_walked}
use Rattle.sq_grammar.proofs.Named.{squares_count}

abbrev pub index_facts : Index Expr → Index Operand
index_facts x = record { place = x.place; index = facts_of x.index }

abbrev pub index_pieces : Index Expr → List Piece
index_pieces x = g.index (index_facts x)

-- a subscript may stand behind these
pub layer_takes : (l : ExpressionLayer) (place : Place) → g.is_indexable (expression_layer (expression_parts l) place) ≡ layer_takes_index l
layer_takes (Expression-F.Parameter x) place = refl
layer_takes (Expression-F.Column x) place = refl
layer_takes (Expression-F.Bracketed x) place = refl
layer_takes _ place = refl

takes : (x : Expr) → g.is_indexable (tree_facts x) ≡ true → takes_index x.form ≡ true
unfolding takes_index
takes x h = sym (layer_takes (out-Expression x.form) x.place) ∙ sym (ap (λ f. g.is_indexable (f x.place)) (expression_out x.form)) ∙ h

-- ---- no text stands behind the brackets

squares_behind : (r : Reading) (place : Place) (rest : Lexemes) → from 14 (reading_binds r rest) ≡ false → text_after_squares (record { reading = r; place = place } ∷ rest) 0 ≡ false
unfolding same
squares_behind (reading.Symbol s.OpenSquare) place rest h = absurd (either (text_after_squares rest 1) h)
  where
    either : (c : Bool) → from 14 (Some (if c then 15 else 14)) ≡ false → ⊥
    either true k = cc
    either false k = cc
squares_behind (reading.Text bytes) place rest h = absurd (cc)
squares_behind (reading.Symbol _) place rest h = refl
squares_behind _ place rest h = refl

squares_over : (tokens : Lexemes) → from 14 (binding tokens) ≡ false → text_after_squares tokens 0 ≡ false
squares_over [] h = refl
squares_over (x ∷ rest) h = squares_behind x.reading x.place rest h

squares_begin : (r : Reading) (place : Place) (rest : Lexemes) → from 14 (reading_binds r rest) ≡ false → is s.OpenSquare r ≡ false
unfolding same
squares_begin (reading.Symbol s.OpenSquare) place rest h = absurd (either (text_after_squares rest 1) h)
  where
    either : (c : Bool) → from 14 (Some (if c then 15 else 14)) ≡ false → ⊥
    either true k = cc
    either false k = cc
squares_begin (reading.Symbol _) place rest h = refl
squares_begin _ place rest h = refl

no_square : (tokens : Lexemes) → from 14 (binding tokens) ≡ false → begins s.OpenSquare tokens ≡ false
no_square [] h = refl
no_square (x ∷ rest) h = squares_begin x.reading x.place rest h

square_text : (u v : Stream) → Says (reading.Symbol s.OpenSquare) u v → text_after_squares u.tokens 0 ≡ text_after_squares v.tokens 1
unfolding same
square_text u v h = ap (λ tokens. text_after_squares tokens 0) h.first

square_closed : (u v : Stream) → Says (reading.Symbol s.CloseSquare) u v → text_after_squares u.tokens 1 ≡ text_after_squares v.tokens 0
square_closed u v h = ap (λ tokens. text_after_squares tokens 1) h.first

no_text : (xs : List (Index Expr)) (d : ℕ) (now next : Stream) → Run (flat_map index_pieces xs) d now next → goes_on 14 next ≡ false → text_after_squares now.tokens 0 ≡ false
no_text [] d now next run stop = ap (λ (v : Stream). text_after_squares v.tokens 0) run ∙ squares_over next.tokens stop
no_text (x ∷ xs) d now next run stop =
    let o = run.1 in
    let y = o.3 in
    let c = y.4 in
    square_text now o.0 o.1
    ∙ (tree_walked text_after_squares squares_count x.index).walked y.1 0 o.0 y.0 y.3
    ∙ square_closed y.0 c.0 c.1
    ∙ no_text xs ((d - 1) + 1) c.0 next c.3 stop

square_stops : (d : ℕ) (x : Index Expr) (xs : List (Index Expr)) (now next : Stream) → Run (flat_map index_pieces (x ∷ xs)) d now next → goes_on 14 next ≡ false → goes_on 15 now ≡ false
unfolding same
square_stops d x xs now next run stop =
    let o = run.1 in
    says_goes 15 (reading.Symbol s.OpenSquare) now o.0 o.1
    ∙ ap (λ c. from 15 (Some (if c then 15 else 14))) (sym (square_text now o.0 o.1) ∙ no_text (x ∷ xs) d now next run stop)

pub pieces_again : (y : Expr) (links : List (Index Expr)) (place : Place) → expression_facts (e.Subscript y links) place
    ≡ built 14 (length links) (Piece.need (g.is_indexable (tree_facts y)) ∷ p.some (map index_facts links) ∷ Piece.part 15 (tree_facts y) ∷ at place ∷ flat_map index_pieces links)
pieces_again y links place = q.facts-subscript y links place ∙ again (length_of links) (flat_map-map g.index index_facts links)
  where
    length_of : (xs : List (Index Expr)) → length (map index_facts xs) ≡ length xs
    length_of [] = refl
    length_of (x ∷ xs) = ap suc (length_of xs)

    again : {k : ℕ} {ps : List Piece} → k ≡ length links → ps ≡ flat_map index_pieces links
        → built 14 k (Piece.need (g.is_indexable (tree_facts y)) ∷ p.some (map index_facts links) ∷ Piece.part 15 (tree_facts y) ∷ at place ∷ ps)
        ≡ built 14 (length links) (Piece.need (g.is_indexable (tree_facts y)) ∷ p.some (map index_facts links) ∷ Piece.part 15 (tree_facts y) ∷ at place ∷ flat_map index_pieces links)
    again {k} {ps} a b = ap (λ n. built 14 n (Piece.need (g.is_indexable (tree_facts y)) ∷ p.some (map index_facts links) ∷ Piece.part 15 (tree_facts y) ∷ at place ∷ ps)) a ∙ ap (λ qs. built 14 (length links) (Piece.need (g.is_indexable (tree_facts y)) ∷ p.some (map index_facts links) ∷ Piece.part 15 (tree_facts y) ∷ at place ∷ qs)) b

module _ (d : ℕ) (nested : Parser Expr) (inner : Parser Query) (i : Inside d nested inner) where
  index_read : (x : Index Expr) (rest : List Piece) (now next : Stream) → Run (index_pieces x ++ rest) d now next → Gives (index nested inner now) x rest d next
  unfolding index
  index_read x rest now next run =
      let o = run.1 in
      let y = o.3 in
      let c = y.4 in (
        c.0,
        step (expect s.OpenSquare) (λ _. nested >>= (λ a. expect s.CloseSquare >>= (λ _. pure (record { place = here now; index = a })))) now o.0 tt (says_expect s.OpenSquare now o.0 o.1)
            ∙ step nested (λ a. expect s.CloseSquare >>= (λ _. pure (record { place = here now; index = a }))) o.0 y.0 x.index
            (i.reads x.index o.0 y.0 y.1 (omega (arith, y.2, o.2)) y.3 (says_goes 0 (reading.Symbol s.CloseSquare) y.0 c.0 c.1))
            ∙ step (expect s.CloseSquare) (λ _. pure (record { place = here now; index = x.index })) y.0 c.0 tt (says_expect s.CloseSquare y.0 c.0 c.1)
            ∙ ap (λ place. Some (record { place = place; index = x.index }, c.0)) (stands_here x.place now.tokens run.0),
        subst (λ k. Run rest k c.0 next) (back d o.2) c.3,
      )

  index_item : Item d (sees s.OpenSquare) (index nested inner) index_pieces (λ now. false)
  index_item = record {
    begun = λ x rest now next run stop. that_symbol s.OpenSquare now run.1.0 run.1.1;
    stops = λ x rest now next run. refl;
    some = λ x. omega arith;
    reads = λ x rest now next run stop. index_read x rest now next run;
  }

  none_behind : (next : Stream) → goes_on 14 next ≡ false → sees s.OpenSquare next ≡ false
  none_behind next stop = no_square next.tokens stop

  subscripted_at : Reads d 15 (primary nested inner) → (form : Expression) (k : Shape form) (x : Expr) (now next : Stream) → x.form ≡ form → (expression_facts form x.place).level ≡ Some 14 → (expression_facts form x.place).depth ≤ d
      → Along (expression_facts form x.place).marks now next → Framed x now next → goes_on 14 next ≡ false → subscripted nested inner now ≡ Some (x, next)
  unfolding subscripted
  subscripted_at r _ (Shape.subscript y []) x now next form st de a f stop =
      let bad = opened Sort.plain 14 0 14 d (Piece.need (g.is_indexable (tree_facts y)) ∷ Piece.need false ∷ Piece.part 15 (tree_facts y) ∷ at x.place ∷ []) (expression_facts (e.Subscript y []) x.place) now next (pieces_again y [] x.place) (from_level st) de a in
      absurd (false_true bad.1.0)
  subscripted_at r _ (Shape.subscript y (l ∷ links)) x now next form st de a f stop =
      let run = opened Sort.plain 14 (length (l ∷ links)) 14 d (Piece.need (g.is_indexable (tree_facts y)) ∷ p.some (map index_facts (l ∷ links)) ∷ Piece.part 15 (tree_facts y) ∷ at x.place ∷ flat_map index_pieces (l ∷ links)) (expression_facts (e.Subscript y (l ∷ links)) x.place) now next
      (pieces_again y (l ∷ links) x.place) (from_level st) de a in
      let t = run.1.1 in
      let u = t.0 in
      let behind = t.4.1 in
      let all = subst (λ ps. Run ps d u next) (sym (append-nil (flat_map index_pieces (l ∷ links)))) behind in
      let m = many_reads d (sees s.OpenSquare) (index nested inner) index_pieces (λ v. false) index_item (l ∷ links) [] u next all (λ v w. (none_behind v (subst (λ z. goes_on 14 z ≡ false) (sym w) stop), refl)) in
      step (primary nested inner) (λ first. choose (λ v. takes_index first.form) (many (sees s.OpenSquare) (index nested inner) >>= chained now (index_place nested inner) e.Subscript first) (pure first)) now u y
      (r.reads y now u t.1 t.2 t.3 (square_stops d l links u next behind stop))
      ∙ chosen (λ v. takes_index y.form) (many (sees s.OpenSquare) (index nested inner) >>= chained now (index_place nested inner) e.Subscript y) (pure y) u (takes y run.0)
      ∙ step (many (sees s.OpenSquare) (index nested inner)) (chained now (index_place nested inner) e.Subscript y) u m.0 (l ∷ links) m.1
      ∙ ap (λ v. node now l.place (e.Subscript y (l ∷ links)) v) m.2
      ∙ made x now next l.place (e.Subscript y (l ∷ links)) f (same_some (sym t.4.0 ∙ behind.0)) form
  subscripted_at r _ (Shape.operation y links) x now next form st de a f stop = let bad = at_home _ (Shape.operation y links) x.place 14 st in absurd (omega (arith, bad.1))
  subscripted_at r form k x now next is st de a f stop = let bad = at_home form k x.place 14 st in absurd (first_of (omega arith, cc))

  subscripted_lift : Reads d 15 (primary nested inner) → (x : Expr) (now next : Stream) → from 15 (tree_facts x).level ≡ true → (tree_facts x).depth ≤ d → Along (tree_facts x).marks now next → goes_on 14 next ≡ false → subscripted nested inner now ≡ Some (x, next)
  unfolding subscripted
  subscripted_lift r x now next st de a stop =
      step (primary nested inner) (λ first. choose (λ v. takes_index first.form) (many (sees s.OpenSquare) (index nested inner) >>= chained now (index_place nested inner) e.Subscript first) (pure first)) now next x
      (r.reads x now next st de a (stops-more 14 15 next (omega arith) stop))
      ∙ either (takes_index x.form) refl
    where
      either : (c : Bool) → takes_index x.form ≡ c → choose (λ v. takes_index x.form) (many (sees s.OpenSquare) (index nested inner) >>= chained now (index_place nested inner) e.Subscript x) (pure x) next ≡ Some (x, next)
      either true k =
          chosen (λ v. takes_index x.form) (many (sees s.OpenSquare) (index nested inner) >>= chained now (index_place nested inner) e.Subscript x) (pure x) next k
          ∙ step (many (sees s.OpenSquare) (index nested inner)) (chained now (index_place nested inner) e.Subscript x) next next [] (many_none d (sees s.OpenSquare) (index nested inner) index_pieces (λ v. false) index_item (length next.tokens) next (none_behind next stop))
      either false k = passed (λ v. takes_index x.form) (many (sees s.OpenSquare) (index nested inner) >>= chained now (index_place nested inner) e.Subscript x) (pure x) next k

  pub reads_subscripted : Reads d 15 (primary nested inner) → Reads d 14 (subscripted nested inner)
  reads_subscripted r = record {
    reads = λ x now next sx de a stop. elim (above 14 (tree_facts x).level sx) [
      | inl here_ ↦ let f = framed x now next a in subscripted_at r x.form (shape x.form) x now next refl here_ de f.along f stop
      | inr up ↦ subscripted_lift r x now next up de a stop
    ];
  }
