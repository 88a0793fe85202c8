-- What stands behind an operand and does not chain, and lists: what is read is spelled by the tokens.
use Rattle.std.proofs.Common.{◌≡◌, ℕ, ◌≤◌, Bool, true, false, List, [], ◌∷◌, ◌++◌, Some, refl, sym, ap, subst, ◌∙◌, arith, map, inl, inr}
use Rattle.std.specs.Prelude.{◌&&◌, not, if◌then◌else◌}
use Rattle.std.proofs.lemmas.Option.{some_pair_parts}
use Rattle.sq_base.specs.declared.place.Place.{Place}
use Rattle.sq_syntax.specs.declared.symbol.Symbol.{Symbol}
use Rattle.sq_syntax.specs.declared.symbol.Symbol.TheVariants as s
use Rattle.sq_syntax.specs.declared.symbol.Reading.TheVariants as reading
use Rattle.sq_syntax.specs.declared.expr.Expression.{Expression, out-Expression}
use Rattle.sq_syntax.specs.declared.expr.Expression.TheOpen.{Expression-F}
use Rattle.sq_syntax.specs.declared.query.Query.{Query}
use Rattle.sq_syntax.specs.Facts.{Mark, Stream, Says, Along, Facts, Piece, Sort, from, built, sorted, all_hold, marks_of}
use Rattle.sq_syntax.specs.Pieces as p
use Rattle.sq_syntax.specs.Pieces.{at, say, sym as word}
use Rattle.sq_syntax.specs.ExpressionPieces as g
use Rattle.sq_syntax.specs.ExpressionPieces.{expression_layer}
use Rattle.sq_syntax.specs.Grammar.{tree_facts, expression_facts, query_facts}
use Rattle.sq_grammar.specs.Reading.{Parser, sees, optional, here, node, same}
use Rattle.sq_grammar.specs.Ahead.{Lexemes, closed, queried, close_query, begins_core, is_some, holds_query}
use Rattle.sq_grammar.specs.Levels.{Expr}
use Rattle.sq_grammar.specs.Tests.{list, next_of_list}
use Rattle.sq_grammar.proofs.Runs.{along_split, both}
use Rattle.sq_grammar.proofs.Complete.{only_if-from}
use Rattle.sq_grammar.proofs.Joints.{false_true}
use Rattle.sq_grammar.proofs.Layers.{ExpressionLayer, expression_parts, expression_out}
use Rattle.sq_grammar.proofs.Lists.{facts_of, comma_part, list_pieces}
use Rattle.sq_grammar.proofs.HoldsQuery.{query_found}
use Rattle.sq_grammar.proofs.Takes.{Lexed, Took, Spells, tree, ◌then◌, none, said, expected, behind, chosen, given, at_here, noded, tokens_of}
use Rattle.sq_grammar.proofs.TakeChains.{marks_append, tokens_append}
use Rattle.sq_grammar.proofs.TakeLists.{items_took}

-- ---- some token

pub one_left : (a b : List Piece) → 1 ≤ tokens_of (marks_of a) → 1 ≤ tokens_of (marks_of (a ++ b))
one_left a b le = omega (arith, le, tokens_append a b)

pub one_right : (a b : List Piece) → 1 ≤ tokens_of (marks_of b) → 1 ≤ tokens_of (marks_of (a ++ b))
one_right a b le = omega (arith, le, tokens_append a b)

-- ---- what stands behind an operand

module _ (level k : ℕ) (form : Expression) (left : Expr) (pieces : List Piece) (one : 1 ≤ tokens_of (marks_of pieces)) where
  abbrev affix_pieces : Place → List Piece
  affix_pieces place = Piece.part k (tree_facts left) ∷ at place ∷ pieces

  affix_one : (place : Place) → 1 ≤ tokens_of (marks_of (affix_pieces place))
  affix_one place = omega (arith, one, marks_append (tree_facts left).marks (Mark.stands_at place ∷ marks_of pieces))

  pub affixed : {start mid now next : Stream} {x : Expr} → expression_facts form (here mid) ≡ sorted Sort.plain (built level 1 (affix_pieces (here mid))) → Took (tree k left) start mid → Took pieces mid now → node start (here mid) form now ≡ Some (x, next) → Took (tree level x) start next
  affixed {start} {mid} {now} {next} {x} e f g h = noded start (here mid) form Sort.plain level 1 level (affix_pieces (here mid)) (omega arith) e (affix_one (here mid)) (f then at_here one g) h

pub optional_took : (k : Symbol) → Spells (λ b. p.when b k) (optional k)
unfolding optional
optional_took k now next b h = elim (chosen {b = sees k now} h) [
  | inl (c, e) ↦ let one = behind e in given (λ a. p.when a k) one.second (expected one.first)
  | inr (c, e) ↦ given (λ a. p.when a k) e (none now)
]

-- ---- conditions

-- a condition that the tokens tell
pub needed_by : {b : Bool} {pieces : List Piece} {now next : Stream} → (Lexed now.tokens → all_hold pieces ≡ true → Along (marks_of pieces) now next → b ≡ true) → Took pieces now next → Took (Piece.need b ∷ pieces) now next
needed_by {b} {pieces} {now} {next} h f = record { holds = λ l. let k = h l (f.holds l) (f.along l) in rw (k, f.holds l) refl; along = λ l. f.along l }

-- ---- brackets that hold a bracketed query hold a query

abbrev pub query_tree : Query → List Piece
query_tree x = Piece.part 0 (query_facts x) ∷ []

closed_none : (tokens : Lexemes) → closed tokens 0 ≡ Some tokens
closed_none [] = refl
closed_none (x ∷ rest) = refl

scalar_at : (l : ExpressionLayer) (place : Place) → g.is_scalar (expression_layer (expression_parts l) place) ≡ true → from 0 (expression_layer (expression_parts l) place).level ≡ true
    → (now u v next : Stream) → Says (reading.Symbol s.Open) now u → Along (expression_layer (expression_parts l) place).marks u v → Says (reading.Symbol s.Close) v next → holds_query now.tokens ≡ true
unfolding holds_query same
scalar_at (Expression-F.Scalar q) place is ok now u v next o a c =
    let inside = a.1 in
    let t = along_split (query_facts q).marks (Mark.says (reading.Symbol s.Close) ∷ []) inside.0 v inside.2 in
    let good = both (from 0 (query_facts q).level) true (only_if-from (from 0 (query_facts q).level && true) 15 0 ok) in
    let found : queried u.tokens ≡ Some v.tokens = query_found q u inside.0 t.0 t.2.0 inside.1 good.0 t.1 t.2.1 ∙ ap (λ (w : Stream). Some w.tokens) t.2.2 in
    ap (λ tokens. is_some (queried tokens)) o.first
    ∙ ap (λ b. is_some (if b then closed u.tokens 1 else close_query (queried u.tokens))) (ap begins_core inside.1.first)
    ∙ ap (λ tokens. is_some (close_query tokens)) found
    ∙ ap (λ tokens. is_some (close_query (Some tokens))) c.first
    ∙ ap is_some (closed_none next.tokens)
scalar_at _ place is ok now u v next o a c = absurd (false_true is)

pub scalar_held : (x : Expr) (now u v next : Stream) → Says (reading.Symbol s.Open) now u → from 0 (tree_facts x).level ≡ true → Along (tree_facts x).marks u v → Says (reading.Symbol s.Close) v next → g.is_scalar (tree_facts x) ≡ true → holds_query now.tokens ≡ true
scalar_held x now u v next o ok a c is =
    let e = ap (λ f. f x.place) (expression_out x.form) in
    let t = along_split (expression_facts x.form x.place).marks (Mark.ends x.last ∷ []) u v a.1 in
    let along = subst (λ w. Along (expression_facts x.form x.place).marks u w) t.2.1 t.1 in
    scalar_at (out-Expression x.form) x.place (subst (λ (y : Facts). g.is_scalar y ≡ true) e is) (subst (λ (y : Facts). from 0 y.level ≡ true) e ok) now u v next o (subst (λ (y : Facts). Along y.marks u v) e along) c

not_so : (b : Bool) → (b ≡ true → false ≡ true) → not b ≡ true
not_so true h = absurd (false_true (h refl))
not_so false h = refl

-- an expression in brackets that are seen to hold no query is no bracketed query
pub unscalar : (x : Expr) (now u v next : Stream) → holds_query now.tokens ≡ false → Says (reading.Symbol s.Open) now u → from 0 (tree_facts x).level ≡ true → Along (tree_facts x).marks u v → Says (reading.Symbol s.Close) v next → not (g.is_scalar (tree_facts x)) ≡ true
unscalar x now u v next lacks o ok a c = not_so (g.is_scalar (tree_facts x)) (λ is. sym lacks ∙ scalar_held x now u v next o ok a c is)

pub alone_unscalar : (xs : List Expr) (now u v next : Stream) → holds_query now.tokens ≡ false → Says (reading.Symbol s.Open) now u → all_hold (p.list (map facts_of xs)) ≡ true → Along (marks_of (p.list (map facts_of xs))) u v → Says (reading.Symbol s.Close) v next
    → not (g.lone_scalar (map facts_of xs)) ≡ true
alone_unscalar [] now u v next lacks o ok a c = refl
alone_unscalar (x ∷ []) now u v next lacks o ok a c =
    let t = along_split (tree_facts x).marks [] u v a in
    unscalar x now u v next lacks o (both (from 0 (tree_facts x).level) true ok).0 (subst (λ w. Along (tree_facts x).marks u w) t.2 t.1) c
alone_unscalar (x ∷ y ∷ xs) now u v next lacks o ok a c = refl

-- ---- lists

module _ (nested : Parser Expr) (inner : Parser Query) (n : Spells (tree 0) nested) where
  comma_took : Spells comma_part (next_of_list nested inner)
  comma_took now next x h = let one = behind h in expected one.first then n one.mid next x one.second

  pub record Listed (xs : List Expr) (now next : Stream) : Type 0 where
    pub took : Took (p.list (map facts_of xs)) now next
    pub some : not (p.is_empty (map facts_of xs)) ≡ true

  pub list_took : (now next : Stream) (xs : List Expr) → list nested inner now ≡ Some (xs, next) → Listed xs now next
  unfolding list
  list_took now next xs h =
      let one = behind h in
      let two = behind one.second in
      let x = one.value in
      let all = n now one.mid x one.first then items_took (sees s.Comma) (next_of_list nested inner) comma_part comma_took one.mid two.mid two.value two.first in
      let e = some_pair_parts (x ∷ two.value) xs two.mid next two.second in
      let made : Listed (x ∷ two.value) now two.mid = record { took = subst (λ ps. Took ps now two.mid) (sym (list_pieces x two.value)) all; some = refl } in
      subst (λ w. Listed xs now w) e.1 (subst (λ ys. Listed ys now two.mid) e.0 made)

-- an expression in brackets that are seen to hold no query
pub unscalar_took : (x : Expr) (now u v next : Stream) → holds_query now.tokens ≡ false → Says (reading.Symbol s.Open) now u → Took (tree 0 x) u v → Says (reading.Symbol s.Close) v next
    → Took (Piece.need (not (g.is_scalar (tree_facts x))) ∷ Piece.part 0 (tree_facts x) ∷ word s.Close ∷ []) u next
unscalar_took x now u v next lacks o f c =
    needed_by (λ l ok a.
    let t = along_split (tree_facts x).marks (Mark.says (reading.Symbol s.Close) ∷ []) u next a in
    unscalar x now u t.0 t.2.0 lacks o (both (from 0 (tree_facts x).level) true ok).0 t.1 t.2.1) (f then said (reading.Symbol s.Close) v next c)
