use Rattle.std.proofs.Common.{◌≡◌, ℕ, List, [], ◌∷◌, ◌++◌, Some, refl, ap, ◌∙◌, arith, inl, map}
use Rattle.std.specs.Prelude.{not}
use Rattle.sq_syntax.specs.declared.symbol.Symbol.TheVariants as s
use Rattle.sq_syntax.specs.declared.symbol.Reading.{Reading}
use Rattle.sq_syntax.specs.declared.symbol.Reading.TheVariants as reading
use Rattle.sq_syntax.specs.declared.expr.Expression.{Expression}
use Rattle.sq_syntax.specs.declared.expr.Expression.TheVariants as e
use Rattle.sq_syntax.specs.Facts.{Stream, Says, first_place, Piece}
use Rattle.sq_syntax.specs.Pieces.{Operand, Placed, at, sym as word, say, is_empty}
use Rattle.sq_syntax.specs.ExpressionPieces as g
use Rattle.sq_syntax.specs.Grammar.{tree_facts}
use Rattle.sq_grammar.specs.Reading.{Parser, ◌>>=◌, sees, expect, is, same, here, token}
use Rattle.sq_grammar.proofs.Runs.{Run}
use Rattle.sq_grammar.proofs.Complete.{step, says_expect, says_token, stands_here, Framed}
use Rattle.sq_syntax.specs.Pieces as p
use Rattle.sq_grammar.proofs.Joints.{says_goes}
use Rattle.sq_syntax.specs.declared.query.Query.{Query}
use Rattle.sq_syntax.specs.Grammar.{query_facts}
use Rattle.sq_grammar.specs.Reading.{choose, node}
use Rattle.sq_grammar.specs.Ahead.{holds_query}
use Rattle.sq_grammar.specs.Levels.{Expr}
use Rattle.sq_grammar.proofs.Complete.{made}
use Rattle.sq_grammar.proofs.ReadNames.{chosen, passed}
use Rattle.sq_grammar.proofs.ReadTypes.{other_symbol, that_symbol}
use Rattle.std.specs.Prelude.{◌<◌, ◌-◌}
use Rattle.std.proofs.Common.{inl}
use Rattle.sq_grammar.proofs.Lists.{Inside, Looks}
use Rattle.sq_grammar.proofs.Relations.{untrue}
use Rattle.sq_syntax.specs.declared.expr.Constant.{Constant}
use Rattle.sq_syntax.specs.declared.expr.Constant.TheVariants as constant
use Rattle.sq_syntax.specs.declared.expr.Moment.{Moment}
use Rattle.sq_syntax.specs.declared.expr.Moment.TheVariants as moment
use Rattle.sq_grammar.specs.Tests.{list}
use Rattle.sq_grammar.specs.Primaries.{primary, primary_of, by_reading, constant_at, moment_at, scalar, bracketed, exists, array, array_query, array_list}
use Rattle.sq_grammar.proofs.Lists.{facts_of, list_read, close_ends}

-- a primary is read by its first token
pub by_first : (nested : Parser Expr) (inner : Parser Query) (r : Reading) (now u : Stream) → Says r now u → primary nested inner now ≡ by_reading nested inner r now
unfolding primary
by_first nested inner r now u h = ap (λ tokens. primary_of nested inner tokens now) h.first

pub token_taken : {A : Type 0} (a : A) (r : Reading) (now u : Stream) → Says r now u → token (λ s place. Some a) now ≡ Some (a, u)
token_taken a r now u h = says_token (λ s place. Some a) a r now u h refl

-- the frame of a primary whose place is that of its first token
pub placed : (x : Expr) (now next : Stream) (form : Expression) → Framed x now next → x.form ≡ form → first_place now.tokens ≡ Some x.place → node now (here now) form next ≡ Some (x, next)
placed x now next form f is at = ap (λ place. node now place form next) (stands_here x.place now.tokens at) ∙ made x now next x.place form f refl is

module _ (d : ℕ) (nested : Parser Expr) (inner : Parser Query) (i : Inside d nested inner) (looks : Looks) where
  -- ---- constants, parameters and moments

  constant_read : (c : Constant) (x : Expr) (now next : Stream) → x.form ≡ e.Constant c → Framed x now next → Run (at x.place ∷ say (g.constant_reading c) ∷ []) d now next → constant_at c now ≡ Some (x, next)
  constant_read c x now next is f run =
      step (token (λ r place. Some c)) (λ y. node now (here now) (e.Constant y)) now run.1.0 c (token_taken c (g.constant_reading c) now run.1.0 run.1.1)
      ∙ ap (λ v. node now (here now) (e.Constant c) v) run.1.3
      ∙ placed x now next (e.Constant c) f is run.0

  pub reads_constant : (c : Constant) (x : Expr) (now next : Stream) → x.form ≡ e.Constant c → Framed x now next → Run (at x.place ∷ say (g.constant_reading c) ∷ []) d now next → primary nested inner now ≡ Some (x, next)
  reads_constant (constant.Number bytes) x now next is f run = by_first nested inner (reading.Number bytes) now run.1.0 run.1.1 ∙ constant_read (constant.Number bytes) x now next is f run
  reads_constant (constant.Text bytes) x now next is f run = by_first nested inner (reading.Text bytes) now run.1.0 run.1.1 ∙ constant_read (constant.Text bytes) x now next is f run
  reads_constant (constant.EText bytes) x now next is f run = by_first nested inner (reading.EText bytes) now run.1.0 run.1.1 ∙ constant_read (constant.EText bytes) x now next is f run
  reads_constant (constant.Dollar bytes) x now next is f run = by_first nested inner (reading.Dollar bytes) now run.1.0 run.1.1 ∙ constant_read (constant.Dollar bytes) x now next is f run
  reads_constant constant.True x now next is f run = by_first nested inner (reading.Symbol s.True) now run.1.0 run.1.1 ∙ constant_read constant.True x now next is f run
  reads_constant constant.False x now next is f run = by_first nested inner (reading.Symbol s.False) now run.1.0 run.1.1 ∙ constant_read constant.False x now next is f run
  reads_constant constant.Null x now next is f run = by_first nested inner (reading.Symbol s.Null) now run.1.0 run.1.1 ∙ constant_read constant.Null x now next is f run

  moment_read : (m : Moment) (x : Expr) (now next : Stream) → x.form ≡ e.Moment m → Framed x now next → (u : Stream) → Says (reading.Symbol (g.moment_symbol m)) now u → u ≡ next → first_place now.tokens ≡ Some x.place → moment_at m now ≡ Some (x, next)
  moment_read m x now next is f u h same at =
      step (expect (g.moment_symbol m)) (λ _. node now (here now) (e.Moment m)) now u tt (says_expect (g.moment_symbol m) now u h)
      ∙ ap (λ v. node now (here now) (e.Moment m) v) same ∙ placed x now next (e.Moment m) f is at

  pub reads_moment : (m : Moment) (x : Expr) (now next : Stream) → x.form ≡ e.Moment m → Framed x now next → Run (at x.place ∷ word (g.moment_symbol m) ∷ []) d now next → primary nested inner now ≡ Some (x, next)
  reads_moment moment.CurrentDate x now next is f run = by_first nested inner (reading.Symbol s.CurrentDate) now run.1.0 run.1.1 ∙ moment_read moment.CurrentDate x now next is f run.1.0 run.1.1 run.1.3 run.0
  reads_moment moment.CurrentTimestamp x now next is f run = by_first nested inner (reading.Symbol s.CurrentTimestamp) now run.1.0 run.1.1 ∙ moment_read moment.CurrentTimestamp x now next is f run.1.0 run.1.1 run.1.3 run.0
  reads_moment moment.LocalTimestamp x now next is f run = by_first nested inner (reading.Symbol s.LocalTimestamp) now run.1.0 run.1.1 ∙ moment_read moment.LocalTimestamp x now next is f run.1.0 run.1.1 run.1.3 run.0

  -- ---- brackets

  pub reads_scalar : (query : Query) (x : Expr) (now next : Stream) → x.form ≡ e.Scalar query → Framed x now next → Run (at x.place ∷ word s.Open ∷ p.whole (query_facts query) ∷ word s.Close ∷ []) d now next → primary nested inner now ≡ Some (x, next)
  unfolding scalar
  reads_scalar query x now next is f run =
      let o = run.1 in
      let u = o.0 in
      let y = o.3 in
      let c = y.4 in
      by_first nested inner (reading.Symbol s.Open) now u o.1
      ∙ chosen (λ v. holds_query v.tokens) (scalar nested inner) (bracketed nested inner) now (looks.holds query now u y.0 c.0 o.1 y.1 y.3 c.1)
      ∙ step (expect s.Open) (λ _. inner >>= (λ z. expect s.Close >>= (λ _. node now (here now) (e.Scalar z)))) now u tt (says_expect s.Open now u o.1)
      ∙ step inner (λ z. expect s.Close >>= (λ _. node now (here now) (e.Scalar z))) u y.0 query (i.queries query u y.0 y.1 (omega (arith, y.2, o.2)) y.3 (that_symbol s.Close y.0 c.0 c.1))
      ∙ step (expect s.Close) (λ _. node now (here now) (e.Scalar query)) y.0 c.0 tt (says_expect s.Close y.0 c.0 c.1)
      ∙ ap (λ v. node now (here now) (e.Scalar query) v) c.3
      ∙ placed x now next (e.Scalar query) f is run.0

  pub reads_bracketed : (inside : Expr) (x : Expr) (now next : Stream) → x.form ≡ e.Bracketed inside → Framed x now next
      → Run (at x.place ∷ word s.Open ∷ Piece.need (not (g.is_scalar (tree_facts inside))) ∷ Piece.part 0 (tree_facts inside) ∷ word s.Close ∷ []) d now next → primary nested inner now ≡ Some (x, next)
  unfolding bracketed
  reads_bracketed inside x now next is f run =
      let o = run.1 in
      let u = o.0 in
      let y = o.3.1 in
      let c = y.4 in
      let found = i.reads inside u y.0 y.1 (omega (arith, y.2, o.2)) y.3 (says_goes 0 (reading.Symbol s.Close) y.0 c.0 c.1) in
      by_first nested inner (reading.Symbol s.Open) now u o.1
      ∙ passed (λ v. holds_query v.tokens) (scalar nested inner) (bracketed nested inner) now (looks.lacks inside now u y.0 o.1 y.1 y.3 (i.starts u y.0 inside found) (inl (untrue (g.is_scalar (tree_facts inside)) o.3.0)))
      ∙ step (expect s.Open) (λ _. nested >>= (λ z. expect s.Close >>= (λ _. node now (here now) (e.Bracketed z)))) now u tt (says_expect s.Open now u o.1)
      ∙ step nested (λ z. expect s.Close >>= (λ _. node now (here now) (e.Bracketed z))) u y.0 inside found
      ∙ step (expect s.Close) (λ _. node now (here now) (e.Bracketed inside)) y.0 c.0 tt (says_expect s.Close y.0 c.0 c.1)
      ∙ ap (λ v. node now (here now) (e.Bracketed inside) v) c.3
      ∙ placed x now next (e.Bracketed inside) f is run.0

  pub reads_exists : (query : Query) (x : Expr) (now next : Stream) → x.form ≡ e.Exists query → Framed x now next → Run (at x.place ∷ word s.Exists ∷ word s.Open ∷ p.whole (query_facts query) ∷ word s.Close ∷ []) d now next → primary nested inner now ≡ Some (x, next)
  unfolding exists
  reads_exists query x now next is f run =
      let h = run.1 in
      let o = h.3 in
      let y = o.3 in
      let c = y.4 in
      by_first nested inner (reading.Symbol s.Exists) now h.0 h.1
      ∙ step (expect s.Exists) (λ _. expect s.Open >>= (λ _. inner >>= (λ z. expect s.Close >>= (λ _. node now (here now) (e.Exists z))))) now h.0 tt (says_expect s.Exists now h.0 h.1)
      ∙ step (expect s.Open) (λ _. inner >>= (λ z. expect s.Close >>= (λ _. node now (here now) (e.Exists z)))) h.0 o.0 tt (says_expect s.Open h.0 o.0 o.1)
      ∙ step inner (λ z. expect s.Close >>= (λ _. node now (here now) (e.Exists z))) o.0 y.0 query (i.queries query o.0 y.0 y.1 (omega (arith, y.2, o.2)) y.3 (that_symbol s.Close y.0 c.0 c.1))
      ∙ step (expect s.Close) (λ _. node now (here now) (e.Exists query)) y.0 c.0 tt (says_expect s.Close y.0 c.0 c.1)
      ∙ ap (λ v. node now (here now) (e.Exists query) v) c.3
      ∙ placed x now next (e.Exists query) f is run.0

  pub reads_array_query : (query : Query) (x : Expr) (now next : Stream) → x.form ≡ e.ArrayQuery query → Framed x now next → Run (at x.place ∷ word s.Array ∷ word s.Open ∷ p.whole (query_facts query) ∷ word s.Close ∷ []) d now next → primary nested inner now ≡ Some (x, next)
  unfolding array
  reads_array_query query x now next is f run =
      let h = run.1 in
      let o = h.3 in
      let y = o.3 in
      let c = y.4 in
      by_first nested inner (reading.Symbol s.Array) now h.0 h.1
      ∙ step (expect s.Array) (λ _. choose (sees s.Open) (array_query nested inner now) (array_list nested inner now)) now h.0 tt (says_expect s.Array now h.0 h.1)
      ∙ chosen (sees s.Open) (array_query nested inner now) (array_list nested inner now) h.0 (that_symbol s.Open h.0 o.0 o.1)
      ∙ step (expect s.Open) (λ _. inner >>= (λ z. expect s.Close >>= (λ _. node now (here now) (e.ArrayQuery z)))) h.0 o.0 tt (says_expect s.Open h.0 o.0 o.1)
      ∙ step inner (λ z. expect s.Close >>= (λ _. node now (here now) (e.ArrayQuery z))) o.0 y.0 query (i.queries query o.0 y.0 y.1 (omega (arith, y.2, o.2)) y.3 (that_symbol s.Close y.0 c.0 c.1))
      ∙ step (expect s.Close) (λ _. node now (here now) (e.ArrayQuery query)) y.0 c.0 tt (says_expect s.Close y.0 c.0 c.1)
      ∙ ap (λ v. node now (here now) (e.ArrayQuery query) v) c.3
      ∙ placed x now next (e.ArrayQuery query) f is run.0

  pub reads_array_list : (y : Expr) (ys : List Expr) (x : Expr) (now next : Stream) → x.form ≡ e.ArrayList (y ∷ ys) → Framed x now next
      → Run (at x.place ∷ word s.Array ∷ word s.OpenSquare ∷ p.some (map facts_of (y ∷ ys)) ∷ p.list (map facts_of (y ∷ ys)) ++ word s.CloseSquare ∷ []) d now next → primary nested inner now ≡ Some (x, next)
  unfolding array same
  reads_array_list y ys x now next is f run =
      let h = run.1 in
      let o = h.3 in
      let less : d - 1 < d = omega (arith, o.2) in
      let l = list_read d nested inner i (d - 1) less y ys (word s.CloseSquare ∷ []) o.0 next o.3.1 (close_ends s.CloseSquare [] (d - 1) next (λ tokens. refl) refl) in
      let c = l.2 in
      by_first nested inner (reading.Symbol s.Array) now h.0 h.1
      ∙ step (expect s.Array) (λ _. choose (sees s.Open) (array_query nested inner now) (array_list nested inner now)) now h.0 tt (says_expect s.Array now h.0 h.1)
      ∙ passed (sees s.Open) (array_query nested inner now) (array_list nested inner now) h.0 (other_symbol s.Open s.OpenSquare h.0 o.0 o.1 refl)
      ∙ step (expect s.OpenSquare) (λ _. list nested inner >>= (λ z. expect s.CloseSquare >>= (λ _. node now (here now) (e.ArrayList z)))) h.0 o.0 tt (says_expect s.OpenSquare h.0 o.0 o.1)
      ∙ step (list nested inner) (λ z. expect s.CloseSquare >>= (λ _. node now (here now) (e.ArrayList z))) o.0 l.0 (y ∷ ys) l.1
      ∙ step (expect s.CloseSquare) (λ _. node now (here now) (e.ArrayList (y ∷ ys))) l.0 c.0 tt (says_expect s.CloseSquare l.0 c.0 c.1)
      ∙ ap (λ v. node now (here now) (e.ArrayList (y ∷ ys)) v) c.3
      ∙ placed x now next (e.ArrayList (y ∷ ys)) f is run.0
