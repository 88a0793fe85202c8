-- Every primary is read as it is spelled.
use Rattle.std.proofs.Common.{◌≡◌, ℕ, ◌≤◌, true, false, List, [], ◌∷◌, ◌++◌, Option, Some, None, refl, arith, inl, inr, map}
use Rattle.std.specs.Prelude.{◌||◌, not, option_map}
use Rattle.std.proofs.lemmas.Bool.{leb-true}
use Rattle.sq_base.specs.declared.place.Place.{Place}
use Rattle.sq_syntax.specs.declared.symbol.Symbol.TheVariants as s
use Rattle.sq_syntax.specs.declared.symbol.Reading.TheVariants as reading
use Rattle.sq_syntax.specs.declared.name.Identifier.{Identifier}
use Rattle.sq_syntax.specs.declared.expr.Arguments.{Arguments}
use Rattle.sq_syntax.specs.declared.expr.Arguments.TheVariants as arguments
use Rattle.sq_syntax.specs.declared.expr.Expression.{Expression}
use Rattle.sq_syntax.specs.declared.expr.Expression.TheVariants as e
use Rattle.sq_syntax.specs.declared.query.Query.{Query}
use Rattle.sq_syntax.specs.Symbols.{word_reading, among}
use Rattle.sq_syntax.specs.Facts.{Stream, Along, Piece, Sort, from, built, sorted}
use Rattle.sq_syntax.specs.Pieces as p
use Rattle.sq_syntax.specs.Pieces.{sym as word, say, at}
use Rattle.sq_syntax.specs.ExpressionPieces as g
use Rattle.sq_syntax.specs.Grammar.{tree_facts, expression_facts, query_facts}
use Rattle.sq_syntax.proofs.Equations as q
use Rattle.sq_syntax.proofs.Equations.{Shape, shape}
use Rattle.sq_grammar.specs.Reading.{Parser}
use Rattle.sq_grammar.specs.Levels.{Expr}
use Rattle.sq_grammar.specs.Primaries.{primary}
use Rattle.sq_grammar.proofs.Runs.{Run}
use Rattle.sq_grammar.proofs.Complete.{Reads, Framed, framed, opened, goes_on, above}
use Rattle.sq_grammar.proofs.Joints.{false_true}
use Rattle.sq_grammar.proofs.Testing.{from_level}
use Rattle.sq_grammar.proofs.Homes.{at_home}
use Rattle.sq_grammar.proofs.Lists.{Inside, Looks, facts_of}
use Rattle.sq_grammar.proofs.Sorts.{argument_facts}
use Rattle.sq_grammar.proofs.Simple.{reads_constant, reads_moment, reads_scalar, reads_bracketed, reads_exists, reads_array_query, reads_array_list}
use Rattle.sq_grammar.proofs.Words.{case_pieces, case_facts, reads_case, reads_cast, reads_null_if, reads_pooled, reads_extract, reads_parameter}
use Rattle.sq_grammar.proofs.Named.{reads_column}
use Rattle.sq_grammar.proofs.Calls.{reads_call}
use Rattle.sq_grammar.proofs.ReadTypedTexts.{reads_typed_text}

abbrev pub call_pieces : Identifier → Arguments Expr → Option Expr → Place → List Piece
call_pieces x inside last place = at place ∷ Piece.need (among g.aggregates x.name || not (g.asks_aggregate (argument_facts inside) || g.is_some (option_map facts_of last))) ∷ g.call_name x ++ word s.Open ∷ g.argument_pieces (argument_facts inside) ++ word s.Close ∷ g.filter (option_map facts_of last)

pub call_facts : (x : Identifier) (inside : Arguments Expr) (last : Option Expr) (place : Place) → expression_facts (e.Call x inside last) place ≡ built 15 1 (call_pieces x inside last place)
call_facts x arguments.Star None place = q.facts-call x arguments.Star None place
call_facts x arguments.Star (Some y) place = q.facts-call x arguments.Star (Some y) place
call_facts x (arguments.List distinct xs items) None place = q.facts-call x (arguments.List distinct xs items) None place
call_facts x (arguments.List distinct xs items) (Some y) place = q.facts-call x (arguments.List distinct xs items) (Some y) place

-- no expression stands higher than a primary
no_higher : (form : Expression) (k : Shape form) (place : Place) (n : ℕ) → (expression_facts form place).level ≡ Some n → 16 ≤ n → ⊥
no_higher _ (Shape.operation y links) place n h le = let home = at_home _ (Shape.operation y links) place n h in omega (arith, home.1, le)
no_higher form k place n h le = let home = at_home form k place n h in omega (arith, home, le)

none_higher : (x : Expr) → from 16 (tree_facts x).level ≡ true → ⊥
none_higher x h = by_level (tree_facts x).level refl h
  where
    by_level : (found : Option ℕ) → (expression_facts x.form x.place).level ≡ found → from 16 found ≡ true → ⊥
    by_level None k up = absurd (false_true up)
    by_level (Some n) k up = no_higher x.form (shape x.form) x.place n k (leb-true 16 n up)

module _ (d : ℕ) (nested : Parser Expr) (inner : Parser Query) (i : Inside d nested inner) (looks : Looks) where
  -- the pieces of a primary's tokens
  abbrev run_of : (sort : Sort) (form : Expression) (place : Place) (pieces : List Piece) (now next : Stream) → expression_facts form place ≡ sorted sort (built 15 1 pieces) → (expression_facts form place).level ≡ Some 15 → (expression_facts form place).depth ≤ d
      → Along (expression_facts form place).marks now next → Run pieces d now next
  run_of sort form place pieces now next h st de a = opened sort 15 1 15 d pieces (expression_facts form place) now next h (from_level st) de a

  primary_at : (form : Expression) (k : Shape form) (x : Expr) (now next : Stream) → x.form ≡ form → (expression_facts form x.place).level ≡ Some 15 → (expression_facts form x.place).depth ≤ d → Along (expression_facts form x.place).marks now next
      → Framed x now next → goes_on 15 next ≡ false → primary nested inner now ≡ Some (x, next)
  primary_at _ (Shape.constant c) x now next is st de a f stop =
      reads_constant d nested inner i looks c x now next is f (run_of Sort.plain (e.Constant c) x.place (at x.place ∷ say (g.constant_reading c) ∷ []) now next (q.facts-constant c x.place) st de a)
  primary_at _ (Shape.parameter y) x now next is st de a f stop =
      reads_parameter d nested inner i y x now next is f (run_of Sort.indexable (e.Parameter y) x.place (at x.place ∷ g.parameter_pieces y) now next (q.facts-parameter y x.place) st de a)
  primary_at _ (Shape.column c) x now next is st de a f stop =
      reads_column nested inner d c x now next is f (run_of Sort.indexable (e.Column c) x.place (at x.place ∷ p.column_name c) now next (q.facts-column c x.place) st de a) stop
  primary_at _ (Shape.bracketed y) x now next is st de a f stop =
      reads_bracketed d nested inner i looks y x now next is f
      (run_of Sort.indexable (e.Bracketed y) x.place (at x.place ∷ word s.Open ∷ Piece.need (not (g.is_scalar (tree_facts y))) ∷ Piece.part 0 (tree_facts y) ∷ word s.Close ∷ []) now next (q.facts-bracketed y x.place) st de a)
  primary_at _ (Shape.scalar y) x now next is st de a f stop =
      reads_scalar d nested inner i looks y x now next is f (run_of Sort.scalar (e.Scalar y) x.place (at x.place ∷ word s.Open ∷ p.whole (query_facts y) ∷ word s.Close ∷ []) now next (q.facts-scalar y x.place) st de a)
  primary_at _ (Shape.exists y) x now next is st de a f stop =
      reads_exists d nested inner i looks y x now next is f (run_of Sort.plain (e.Exists y) x.place (at x.place ∷ word s.Exists ∷ word s.Open ∷ p.whole (query_facts y) ∷ word s.Close ∷ []) now next (q.facts-exists y x.place) st de a)
  primary_at _ (Shape.array_list []) x now next is st de a f stop =
      let run = run_of Sort.plain (e.ArrayList []) x.place (at x.place ∷ word s.Array ∷ word s.OpenSquare ∷ Piece.need false ∷ word s.CloseSquare ∷ []) now next (q.facts-array_list [] x.place) st de a in
      absurd (false_true run.1.3.3.0)
  primary_at _ (Shape.array_list (y ∷ ys)) x now next is st de a f stop =
      reads_array_list d nested inner i looks y ys x now next is f
      (run_of Sort.plain (e.ArrayList (y ∷ ys)) x.place (at x.place ∷ word s.Array ∷ word s.OpenSquare ∷ p.some (map facts_of (y ∷ ys)) ∷ p.list (map facts_of (y ∷ ys)) ++ word s.CloseSquare ∷ []) now next (q.facts-array_list (y ∷ ys) x.place) st de a)
  primary_at _ (Shape.array_query y) x now next is st de a f stop =
      reads_array_query d nested inner i looks y x now next is f (run_of Sort.plain (e.ArrayQuery y) x.place (at x.place ∷ word s.Array ∷ word s.Open ∷ p.whole (query_facts y) ∷ word s.Close ∷ []) now next (q.facts-array_query y x.place) st de a)
  primary_at _ (Shape.case y [] last) x now next is st de a f stop =
      let run = run_of Sort.plain (e.Case y [] last) x.place (case_pieces y [] last x.place) now next (case_facts y [] last x.place) st de a in
      absurd (false_true run.1.3.0)
  primary_at _ (Shape.case y (b ∷ arms) last) x now next is st de a f stop =
      reads_case d nested inner i y b arms last x now next is f (run_of Sort.plain (e.Case y (b ∷ arms) last) x.place (case_pieces y (b ∷ arms) last x.place) now next (case_facts y (b ∷ arms) last x.place) st de a)
  primary_at _ (Shape.cast y to) x now next is st de a f stop =
      reads_cast d nested inner i y to x now next is f
      (run_of Sort.plain (e.Cast y to) x.place (at x.place ∷ word s.Cast ∷ word s.Open ∷ Piece.part 0 (tree_facts y) ∷ word s.As ∷ p.type to ++ word s.Close ∷ []) now next (q.facts-cast y to x.place) st de a)
  primary_at _ (Shape.typed_text to text) x now next is st de a f stop =
      reads_typed_text nested inner d to text x now next is f (run_of Sort.plain (e.TypedText to text) x.place (at x.place ∷ p.type to ++ say (reading.Text text) ∷ []) now next (q.facts-typed_text to text x.place) st de a)
  primary_at _ (Shape.pooled pool []) x now next is st de a f stop =
      let run = run_of Sort.plain (e.Pooled pool []) x.place (at x.place ∷ word (g.pool_symbol pool) ∷ word s.Open ∷ Piece.need false ∷ word s.Close ∷ []) now next (q.facts-pooled pool [] x.place) st de a in
      absurd (false_true run.1.3.3.0)
  primary_at _ (Shape.pooled pool (y ∷ ys)) x now next is st de a f stop =
      reads_pooled d nested inner i pool y ys x now next is f
      (run_of Sort.plain (e.Pooled pool (y ∷ ys)) x.place (at x.place ∷ word (g.pool_symbol pool) ∷ word s.Open ∷ p.some (map facts_of (y ∷ ys)) ∷ p.list (map facts_of (y ∷ ys)) ++ word s.Close ∷ []) now next (q.facts-pooled pool (y ∷ ys) x.place) st de a)
  primary_at _ (Shape.null_if y z) x now next is st de a f stop =
      reads_null_if d nested inner i y z x now next is f
      (run_of Sort.plain (e.NullIf y z) x.place (at x.place ∷ word s.NullIf ∷ word s.Open ∷ Piece.part 0 (tree_facts y) ∷ word s.Comma ∷ Piece.part 0 (tree_facts z) ∷ word s.Close ∷ []) now next (q.facts-null_if y z x.place) st de a)
  primary_at _ (Shape.extract field y) x now next is st de a f stop =
      reads_extract d nested inner i field y x now next is f
      (run_of Sort.plain (e.Extract field y) x.place (at x.place ∷ word s.Extract ∷ word s.Open ∷ Piece.need (g.is_field (word_reading field)) ∷ say (word_reading field) ∷ word s.From ∷ Piece.part 0 (tree_facts y) ∷ word s.Close ∷ []) now next (q.facts-extract field y x.place) st de a)
  primary_at _ (Shape.moment m) x now next is st de a f stop =
      reads_moment d nested inner i looks m x now next is f (run_of Sort.plain (e.Moment m) x.place (at x.place ∷ word (g.moment_symbol m) ∷ []) now next (q.facts-moment m x.place) st de a)
  primary_at _ (Shape.call y inside last) x now next is st de a f stop =
      reads_call d nested inner i y inside last x now next is f (run_of Sort.plain (e.Call y inside last) x.place (call_pieces y inside last x.place) now next (call_facts y inside last x.place) st de a) stop
  primary_at _ (Shape.operation y links) x now next is st de a f stop = let home = at_home _ (Shape.operation y links) x.place 15 st in absurd (omega (arith, home.1))
  primary_at form k x now next is st de a f stop = let home = at_home form k x.place 15 st in absurd (first_of (omega arith, cc))

  pub reads_primary : Reads d 15 (primary nested inner)
  reads_primary = record {
    reads = λ x now next sx de a stop. elim (above 15 (tree_facts x).level sx) [
      | inl here ↦ let f = framed x now next a in primary_at x.form (shape x.form) x now next refl here de f.along f stop
      | inr up ↦ absurd (none_higher x up)
    ];
  }
