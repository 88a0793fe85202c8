-- The outputs and clauses of SELECT that are read are spelled by the tokens.
use Rattle.std.proofs.Common.{◌≡◌, suc, ◌-◌, ◌≤◌, true, List, [], ◌∷◌, ◌++◌, Some, refl, sym, ap, subst, ◌∙◌, arith, map, inl, inr}
use Rattle.std.specs.Prelude.{flat_map, not, option_map}
use Rattle.sq_syntax.specs.declared.symbol.Symbol.{Symbol}
use Rattle.sq_syntax.specs.declared.symbol.Symbol.TheVariants as s
use Rattle.sq_syntax.specs.declared.expr.Node.{Node}
use Rattle.sq_syntax.specs.declared.expr.Expression.TheFolds.{fold-roll-Select}
use Rattle.sq_syntax.specs.declared.query.Output.{Output}
use Rattle.sq_syntax.specs.declared.query.Output.TheVariants as output_kind
use Rattle.sq_syntax.specs.declared.query.Query.{Query}
use Rattle.sq_syntax.specs.declared.query.Select.{Select, roll-Select}
use Rattle.sq_syntax.specs.Facts.{Mark, Stream, Facts, Piece, marks_of}
use Rattle.sq_syntax.specs.Pieces as p
use Rattle.sq_syntax.specs.Pieces.{Placed, at, sym as word}
use Rattle.sq_syntax.specs.ExpressionPieces.{expression_layer}
use Rattle.sq_syntax.specs.QueryPieces as f
use Rattle.sq_syntax.specs.QueryPieces.{source_layer, join_layer, from_layer, select_layer, factor_layer, query_layer}
use Rattle.sq_syntax.specs.Grammar.{tree_facts, expression_facts, factor_facts, join_facts, source_facts, from_facts, query_facts, select_facts}
use Rattle.sq_grammar.specs.Reading.{Parser, ◌>>◌, pure, choose, sees, expect, here, begins_both}
use Rattle.sq_grammar.specs.Levels.{Expr}
use Rattle.sq_grammar.specs.Queries.{begins_star_of, star_of, value, output, next_output, distinct_on, distinct, clause, group, select}
use Rattle.sq_grammar.proofs.Lists.{facts_of}
use Rattle.sq_grammar.proofs.Layers.{SelectLayer, select_parts}
use Rattle.sq_grammar.proofs.QueryFacts.{output_form, output_facts, distinct_facts, select_parts_of}
use Rattle.sq_grammar.proofs.Outputs.{comma_output, outputs_pieces}
use Rattle.sq_grammar.proofs.Takes.{kept, Lexed, Took, Spells, tree, tree_parts, ◌then◌, none, holds_append, pieces_join, expected, behind, chosen, given, needed, tokens_of, along_counts, along_first}
use Rattle.sq_grammar.proofs.TakeChains.{marks_append}
use Rattle.sq_grammar.proofs.TakeLists.{items_took}
use Rattle.sq_grammar.proofs.TakeNames.{name_took}
use Rattle.sq_grammar.proofs.TakeAffixes.{one_left, query_tree, list_took}
use Rattle.sq_grammar.proofs.TakeAliases.{label_took}
use Rattle.sq_grammar.proofs.TakeTokens.{tree_one}
use Rattle.sq_grammar.proofs.TakeSources.{whole, whole_took, from_clause_took}

-- ---- the numbers of an output

bounded : {pieces : List Piece} {start now : Stream} → (Lexed start.tokens → 1 ≤ tokens_of (marks_of pieces)) → Took pieces start now
    → Took (Piece.mark (Mark.begins start.at) ∷ at (here start) ∷ pieces ++ Piece.mark (Mark.ends (now.at - 1)) ∷ []) start now
bounded {pieces} {start} {now} one took = record {
  holds = λ l. holds_append pieces (Piece.mark (Mark.ends (now.at - 1)) ∷ []) (took.holds l) refl;
  along = λ l.
      let a = took.along l in
      let last : suc (now.at - 1) ≡ now.at = omega (arith, along_counts (marks_of pieces) start now a, one l) in
      (refl, (along_first (marks_of pieces) start now a (one l), pieces_join pieces (Piece.mark (Mark.ends (now.at - 1)) ∷ []) start now now a (last, refl)));
}

abbrev pub output_tree : Node (Output Expr) → List Piece
output_tree x = f.output_pieces (output_facts x)

abbrev form_pieces : Output Expr → List Piece
form_pieces x = f.shown (output_form x)

-- an output has a token
record Shown (x : Output Expr) (now next : Stream) : Type 0 where
  took : Took (form_pieces x) now next
  one : Lexed now.tokens → 1 ≤ tokens_of (marks_of (form_pieces x))

select_at : (l : SelectLayer) → select_facts (roll-Select l) ≡ select_layer (select_parts l)
unfolding expression_facts factor_facts join_facts source_facts from_facts query_facts select_facts
select_at l = fold-roll-Select Placed Facts Facts Facts Facts Facts Facts expression_layer factor_layer join_layer source_layer from_layer query_layer select_layer l

some_group : (xs : List Expr) (now next : Stream) → not (p.is_empty (map facts_of xs)) ≡ true → Took (word s.Group ∷ word s.By ∷ p.list (map facts_of xs)) now next → Took (f.group (map facts_of xs)) now next
some_group [] now next some took = absurd (cc)
some_group (x ∷ xs) now next some took = took

module _ (expr : Parser Expr) (inner : Parser Query) (n : Spells (tree 0) expr) (i : Spells query_tree inner) where
  -- ---- outputs

  value_took : (now next : Stream) (x : Output Expr) → value expr inner now ≡ Some (x, next) → Shown x now next
  value_took now next x h =
      let one = behind h in
      let two = behind one.second in
      let y = one.value in
      let t = n now one.mid y one.first in
      let made : Shown (output_kind.Value y two.value) now two.mid = record {
        took = t then label_took one.mid two.mid two.value two.first;
        one = λ l. one_left (tree 0 y) (f.output_label two.value) (omega (arith, tree_one y (tree_parts 0 y now one.mid l t).0, marks_append (tree_facts y).marks []));
      } in
      kept (λ z u. Shown z now u) two.second made

  star_of_took : (now next : Stream) (x : Output Expr) → star_of expr inner now ≡ Some (x, next) → Shown x now next
  star_of_took now next x h =
      let one = behind h in
      let two = behind one.second in
      let three = behind two.second in
      let made : Shown (output_kind.StarOf one.value) now three.mid = record { took = name_took now one.mid one.value one.first then expected two.first then expected three.first; one = λ l. omega arith } in
      kept (λ z u. Shown z now u) three.second made

  star_took : (now next : Stream) (x : Output Expr) → (expect s.Times >> pure output_kind.Star) now ≡ Some (x, next) → Shown x now next
  star_took now next x h =
      let one = behind h in
      let made : Shown output_kind.Star now one.mid = record { took = expected one.first; one = λ l. omega arith } in
      kept (λ z u. Shown z now u) one.second made

  form_took : (now next : Stream) (x : Output Expr) → choose (sees s.Times) (expect s.Times >> pure output_kind.Star) (choose (λ u. begins_star_of u.tokens) (star_of expr inner) (value expr inner)) now ≡ Some (x, next) → Shown x now next
  form_took now next x h = elim (chosen {b = sees s.Times now} h) [
    | inl (b, k) ↦ star_took now next x k
    | inr (b, k) ↦ elim (chosen {b = begins_star_of now.tokens} k) [
      | inl (c, l) ↦ star_of_took now next x l
      | inr (c, l) ↦ value_took now next x l
    ]
  ]

  pub output_took : Spells output_tree (output expr inner)
  unfolding output
  output_took now next x h =
      let one = behind h in
      let shown = form_took now one.mid one.value one.first in
      given output_tree one.second (bounded shown.one shown.took)

  comma_output_took : Spells comma_output (next_output expr inner)
  comma_output_took now next x h = let one = behind h in expected one.first then output_took one.mid next x one.second

  -- ---- DISTINCT

  distinct_on_took : Spells (λ x. f.distinct_words (distinct_facts x)) (distinct_on expr inner)
  distinct_on_took now next x h =
      let one = behind h in
      let two = behind one.second in
      let three = behind two.second in
      let four = behind three.second in
      let five = behind four.second in
      let l = list_took expr inner n three.mid four.mid four.value four.first in
      given (λ y. f.distinct_words (distinct_facts y)) five.second (expected one.first then expected two.first then expected three.first then needed l.some l.took then expected five.first)

  pub distinct_took : Spells (λ x. f.distinct_words (distinct_facts x)) (distinct expr inner)
  unfolding distinct
  distinct_took now next x h = elim (chosen {b = sees s.All now} h) [
    | inl (b, k) ↦ let one = behind k in given (λ y. f.distinct_words (distinct_facts y)) one.second (expected one.first)
    | inr (b, k) ↦ elim (chosen {b = begins_both s.Distinct s.On now.tokens} k) [
      | inl (c, l) ↦ distinct_on_took now next x l
      | inr (c, l) ↦ elim (chosen {b = sees s.Distinct now} l) [
        | inl (d, m) ↦ let one = behind m in given (λ y. f.distinct_words (distinct_facts y)) one.second (expected one.first)
        | inr (d, m) ↦ given (λ y. f.distinct_words (distinct_facts y)) m (none now)
      ]
    ]
  ]

  -- ---- clauses

  pub clause_took : (k : Symbol) → Spells (λ x. f.optional k (option_map facts_of x)) (clause expr inner k)
  unfolding clause
  clause_took k now next x h = elim (chosen {b = sees k now} h) [
    | inl (b, e) ↦
        let one = behind e in
        let two = behind one.second in
        given (λ y. f.optional k (option_map facts_of y)) two.second (expected one.first then n one.mid two.mid two.value two.first)
    | inr (b, e) ↦ given (λ y. f.optional k (option_map facts_of y)) e (none now)
  ]

  pub group_took : Spells (λ xs. f.group (map facts_of xs)) (group expr inner)
  unfolding group
  group_took now next xs h = elim (chosen {b = sees s.Group now} h) [
    | inl (b, k) ↦
        let one = behind k in
        let two = behind one.second in
        let l = list_took expr inner n two.mid next xs two.second in
        some_group xs now next l.some (expected one.first then expected two.first then l.took)
    | inr (b, k) ↦ given (λ ys. f.group (map facts_of ys)) k (none now)
  ]

  -- ---- SELECT

  abbrev pub select_tree : Select → List Piece
  select_tree x = whole (select_facts x)

  pub select_took : Spells select_tree (select expr inner)
  unfolding select
  select_took now next x h =
      let one = behind h in
      let two = behind one.second in
      let three = behind two.second in
      let four = behind three.second in
      let five = behind four.second in
      let six = behind five.second in
      let seven = behind six.second in
      let eight = behind seven.second in
      let y = three.value in
      let outputs = y ∷ four.value in
      let l : SelectLayer = record { distinct = two.value; outputs = outputs; from = five.value; condition = six.value; group = seven.value; having = eight.value } in
      let listed : Took (output_tree y ++ flat_map comma_output four.value) two.mid four.mid =
      output_took two.mid three.mid y three.first then items_took (sees s.Comma) (next_output expr inner) comma_output comma_output_took three.mid four.mid four.value four.first in
      let outputs_took = subst (λ ps. Took ps two.mid four.mid) (sym (outputs_pieces y four.value)) listed in
      let all = (((((expected one.first then distinct_took one.mid two.mid two.value two.first) then needed refl outputs_took) then from_clause_took expr inner n i four.mid five.mid five.value five.first)
      then clause_took s.Where five.mid six.mid six.value six.first) then group_took six.mid seven.mid seven.value seven.first) then clause_took s.Having seven.mid eight.mid eight.value eight.first in
      given select_tree eight.second (whole_took (select_at l ∙ ap select_layer (select_parts_of l)) all)
