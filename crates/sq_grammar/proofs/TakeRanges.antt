-- Tests of ranges and relations: what is read is spelled by the tokens.
use Rattle.std.proofs.Common.{◌≡◌, Bool, false, [], ◌∷◌, ◌++◌, Option, Some, None, refl, sym, ap, subst, ◌∙◌, arith, map, inl, inr, append_assoc}
use Rattle.std.specs.Prelude.{not}
use Rattle.sq_base.specs.declared.place.Place.{Place}
use Rattle.sq_syntax.specs.declared.symbol.Symbol.{Symbol}
use Rattle.sq_syntax.specs.declared.symbol.Symbol.TheVariants as s
use Rattle.sq_syntax.specs.declared.symbol.Reading.{Reading}
use Rattle.sq_syntax.specs.declared.symbol.Reading.TheVariants as reading
use Rattle.sq_syntax.specs.declared.expr.Operator.{Operator}
use Rattle.sq_syntax.specs.declared.expr.Operator.TheVariants as operator
use Rattle.sq_syntax.specs.declared.expr.Comparison.{Comparison}
use Rattle.sq_syntax.specs.declared.expr.Matching.{Matching}
use Rattle.sq_syntax.specs.declared.expr.Matching.TheVariants as matching
use Rattle.sq_syntax.specs.declared.expr.Quantifier.{Quantifier}
use Rattle.sq_syntax.specs.declared.expr.Expression.TheVariants as e
use Rattle.sq_syntax.specs.declared.query.Query.{Query}
use Rattle.sq_syntax.specs.Facts.{Stream, Piece}
use Rattle.sq_syntax.specs.Pieces as p
use Rattle.sq_syntax.specs.Pieces.{say, sym as word}
use Rattle.sq_syntax.specs.ExpressionPieces as g
use Rattle.sq_syntax.specs.Grammar.{tree_facts, query_facts}
use Rattle.sq_syntax.proofs.Equations as q
use Rattle.sq_grammar.specs.Reading.{Parser, here}
use Rattle.sq_grammar.specs.Ahead.{holds_query, operator_of}
use Rattle.sq_grammar.specs.Levels.{Expr}
use Rattle.sq_grammar.specs.Tests.{sees_range, between_after, like_after, begins_quantified, quantifier_of, a_quantifier, as_comparison, a_comparison, begins_comparison, comparison_after, in_query, in_list, in_after, ranged, any_query, any_array, quantified_after, related}
use Rattle.sq_grammar.proofs.Complete.{same_some}
use Rattle.sq_grammar.proofs.Lists.{facts_of}
use Rattle.sq_grammar.proofs.Walks.{holds_split, pieces_split}
use Rattle.sq_grammar.proofs.Takes.{Took, Spells, tree, ◌then◌, said, reads, expects, expected, behind, chosen, given, needed}
use Rattle.sq_grammar.proofs.TakeChains.{lower}
use Rattle.sq_grammar.proofs.TakeLevels.{operator_is, operator_took}
use Rattle.sq_grammar.proofs.TakeAffixes.{one_left, one_right, affixed, optional_took, needed_by, query_tree, alone_unscalar, list_took, unscalar_took}

-- ---- BETWEEN and LIKE

between_took : (operand : Parser Expr) → Spells (tree 6) operand → (start mid next : Stream) (left x : Expr) → Took (tree 6 left) start mid → between_after operand start (here mid) left mid ≡ Some (x, next) → Took (tree 5 x) start next
between_took operand r start mid next left x f h =
    let one = behind h in
    let two = behind one.second in
    let three = behind two.second in
    let four = behind three.second in
    let five = behind four.second in
    let six = behind five.second in
    let negated = one.value in
    let symmetric = three.value in
    let low = four.value in
    let high = six.value in
    let words = p.when negated s.Not ++ word s.Between ∷ p.when symmetric s.Symmetric in
    let rest = Piece.part 6 (tree_facts low) ∷ word s.And ∷ Piece.part 6 (tree_facts high) ∷ [] in
    let passed : Took (words ++ rest) mid six.mid =
    (optional_took s.Not mid one.mid negated one.first then expected two.first then optional_took s.Symmetric two.mid three.mid symmetric three.first)
    then r three.mid four.mid low four.first then expected five.first then r five.mid six.mid high six.first in
    affixed 5 6 (e.Between left negated symmetric low high) left (words ++ rest)
    (one_left words rest (one_right (p.when negated s.Not) (word s.Between ∷ p.when symmetric s.Symmetric) (omega arith)))
    (q.facts-between left negated symmetric low high (here mid)) f passed six.second

like_took : (k : Symbol) (kind : Matching) → g.matching_symbol kind ≡ k → (operand : Parser Expr) → Spells (tree 6) operand → (start mid next : Stream) (left x : Expr) → Took (tree 6 left) start mid → like_after k kind operand start (here mid) left mid ≡ Some (x, next) → Took (tree 5 x) start next
like_took k kind is operand r start mid next left x f h =
    let one = behind h in
    let two = behind one.second in
    let three = behind two.second in
    let negated = one.value in
    let right = three.value in
    let rest = word (g.matching_symbol kind) ∷ Piece.part 6 (tree_facts right) ∷ [] in
    let passed : Took (p.when negated s.Not ++ word k ∷ Piece.part 6 (tree_facts right) ∷ []) mid three.mid =
    optional_took s.Not mid one.mid negated one.first then expected two.first then r two.mid three.mid right three.first in
    let same : Took (p.when negated s.Not ++ rest) mid three.mid = subst (λ y. Took (p.when negated s.Not ++ word y ∷ Piece.part 6 (tree_facts right) ∷ []) mid three.mid) (sym is) passed in
    affixed 5 6 (e.Like left negated kind right) left (p.when negated s.Not ++ rest) (one_right (p.when negated s.Not) rest (omega arith)) (q.facts-like left negated kind right (here mid)) f same three.second

-- ---- relations

quantifier_is : (r : Reading) (place : Place) (x : Quantifier) → quantifier_of r place ≡ Some x → reading.Symbol (g.quantifier_symbol x) ≡ r
quantifier_is (reading.Symbol s.Any) place x h = ap (λ y. reading.Symbol (g.quantifier_symbol y)) (sym (same_some h))
quantifier_is (reading.Symbol s.Some) place x h = ap (λ y. reading.Symbol (g.quantifier_symbol y)) (sym (same_some h))
quantifier_is (reading.Symbol s.All) place x h = ap (λ y. reading.Symbol (g.quantifier_symbol y)) (sym (same_some h))
quantifier_is (reading.Symbol _) place x h = absurd (cc)
quantifier_is _ place x h = absurd (cc)

quantifier_took : Spells (λ x. word (g.quantifier_symbol x) ∷ []) a_quantifier
unfolding a_quantifier
quantifier_took now next x h =
    let r = reads h in
    subst (λ y. Took (say y ∷ []) now next) (sym (quantifier_is r.reading r.says.place x r.is)) (said r.reading now next r.says)

comparison_some : (o : Option Operator) (x : Comparison) → as_comparison o ≡ Some x → o ≡ Some (operator.Comparison x)
comparison_some (Some (operator.Comparison y)) x h = ap (λ z. Some (operator.Comparison z)) (same_some h)
comparison_some (Some _) x h = absurd (cc)
comparison_some None x h = absurd (cc)

comparison_took : Spells (λ x. word (g.comparison_symbol x) ∷ []) a_comparison
unfolding a_comparison
comparison_took now next x h =
    let r = reads h in
    subst (λ y. Took (say y ∷ []) now next) (sym (operator_is r.reading (operator.Comparison x) (comparison_some (operator_of r.reading) x r.is))) (said r.reading now next r.says)

compared_took : (operand : Parser Expr) → Spells (tree 5) operand → (start mid next : Stream) (left x : Expr) → Took (tree 5 left) start mid → comparison_after operand start (here mid) left mid ≡ Some (x, next) → Took (tree 4 x) start next
compared_took operand r start mid next left x f h =
    let one = behind h in
    let two = behind one.second in
    affixed 4 5 (e.Compared left one.value two.value) left (word (g.comparison_symbol one.value) ∷ Piece.part 5 (tree_facts two.value) ∷ []) (omega arith)
    (q.facts-compared left one.value two.value (here mid)) f (comparison_took mid one.mid one.value one.first then r one.mid two.mid two.value two.first) two.second

module _ (nested : Parser Expr) (inner : Parser Query) (n : Spells (tree 0) nested) (i : Spells query_tree inner) where
  in_query_took : (start mid now next : Stream) (left x : Expr) (negated : Bool) → Took (tree 6 left) start mid → Took (p.when negated s.Not ++ word s.In ∷ []) mid now → in_query nested inner start (here mid) left negated now ≡ Some (x, next) → Took (tree 5 x) start next
  in_query_took start mid now next left x negated f passed h =
      let one = behind h in
      let two = behind one.second in
      let three = behind two.second in
      let query = two.value in
      let words = p.when negated s.Not ++ word s.In ∷ [] in
      let rest = word s.Open ∷ Piece.part 0 (query_facts query) ∷ word s.Close ∷ [] in
      let all : Took (words ++ rest) mid three.mid = passed then expected one.first then i one.mid two.mid query two.first then expected three.first in
      let same = subst (λ ps. Took ps mid three.mid) (append_assoc (p.when negated s.Not) (word s.In ∷ []) rest) all in
      affixed 5 6 (e.InQuery left negated query) left (p.when negated s.Not ++ word s.In ∷ rest) (one_right (p.when negated s.Not) (word s.In ∷ rest) (omega arith))
      (q.facts-in_query left negated query (here mid)) f same three.second

  in_list_took : (start mid now next : Stream) (left x : Expr) (negated : Bool) → holds_query now.tokens ≡ false → Took (tree 6 left) start mid → Took (p.when negated s.Not ++ word s.In ∷ []) mid now → in_list nested inner start (here mid) left negated now ≡ Some (x, next) → Took (tree 5 x) start next
  in_list_took start mid now next left x negated lacks f passed h =
      let one = behind h in
      let two = behind one.second in
      let three = behind two.second in
      let xs = two.value in
      let l = list_took nested inner n one.mid two.mid xs two.first in
      let items = p.list (map facts_of xs) in
      let words = p.when negated s.Not ++ word s.In ∷ [] in
      let opens : Took (word s.Open ∷ []) now one.mid = expected one.first in
      let closes : Took (word s.Close ∷ []) two.mid three.mid = expected three.first in
      let inside : Took (Piece.need (not (g.lone_scalar (map facts_of xs))) ∷ items ++ word s.Close ∷ []) one.mid three.mid =
      needed_by (λ lexed ok a.
      let t = pieces_split items (word s.Close ∷ []) one.mid three.mid a in
      alone_unscalar xs now one.mid t.0 t.2.0 lacks (expects one.first) (holds_split items (word s.Close ∷ []) ok).0 t.1 t.2.1) (l.took then closes) in
      let rest = word s.Open ∷ p.some (map facts_of xs) ∷ Piece.need (not (g.lone_scalar (map facts_of xs))) ∷ items ++ word s.Close ∷ [] in
      let all : Took (words ++ rest) mid three.mid = passed then opens then needed l.some inside in
      let front = p.when negated s.Not ++ word s.In ∷ word s.Open ∷ p.some (map facts_of xs) ∷ Piece.need (not (g.lone_scalar (map facts_of xs))) ∷ items in
      let same = subst (λ ps. Took ps mid three.mid) (append_assoc (p.when negated s.Not) (word s.In ∷ []) rest ∙ sym (append_assoc (p.when negated s.Not) (word s.In ∷ word s.Open ∷ p.some (map facts_of xs) ∷ Piece.need (not (g.lone_scalar (map facts_of xs))) ∷ items) (word s.Close ∷ []))) all in
      affixed 5 6 (e.InList left negated xs) left (front ++ word s.Close ∷ []) (one_right front (word s.Close ∷ []) (omega arith))
      (q.facts-in_list left negated xs (here mid)) f same three.second

  in_took : (start mid next : Stream) (left x : Expr) → Took (tree 6 left) start mid → in_after nested inner start (here mid) left mid ≡ Some (x, next) → Took (tree 5 x) start next
  in_took start mid next left x f h =
      let one = behind h in
      let two = behind one.second in
      let passed : Took (p.when one.value s.Not ++ word s.In ∷ []) mid two.mid = optional_took s.Not mid one.mid one.value one.first then expected two.first in
      elim (chosen {b = holds_query two.mid.tokens} two.second) [
        | inl (b, k) ↦ in_query_took start mid two.mid next left x one.value f passed k
        | inr (b, k) ↦ in_list_took start mid two.mid next left x one.value b f passed k
      ]

  pub takes_ranged : (operand : Parser Expr) → Spells (tree 6) operand → Spells (tree 5) (ranged nested inner operand)
  unfolding ranged
  takes_ranged operand r start next x h =
      let one = behind h in
      let mid = one.mid in
      let left = one.value in
      let f = r start mid left one.first in
      elim (chosen {b = sees_range s.Between mid} one.second) [
        | inl (b, k) ↦ between_took operand r start mid next left x f k
        | inr (b, k) ↦ elim (chosen {b = sees_range s.In mid} k) [
          | inl (c, l) ↦ in_took start mid next left x f l
          | inr (c, l) ↦ elim (chosen {b = sees_range s.Like mid} l) [
            | inl (d, m) ↦ like_took s.Like matching.Like refl operand r start mid next left x f m
            | inr (d, m) ↦ elim (chosen {b = sees_range s.Ilike mid} m) [
              | inl (a, o) ↦ like_took s.Ilike matching.Ilike refl operand r start mid next left x f o
              | inr (a, o) ↦ lower 5 x (given (tree 6) o f)
            ]
          ]
        ]
      ]

  any_query_took : (start mid now next : Stream) (left x : Expr) (by : Operator) (kind : Quantifier) → Took (tree 5 left) start mid → Took (say (g.operator_reading by) ∷ word (g.quantifier_symbol kind) ∷ []) mid now → any_query nested inner start (here mid) left by kind now ≡ Some (x, next) → Took (tree 4 x) start next
  any_query_took start mid now next left x by kind f passed h =
      let one = behind h in
      let two = behind one.second in
      let three = behind two.second in
      affixed 4 5 (e.AnyQuery left by kind two.value) left (say (g.operator_reading by) ∷ word (g.quantifier_symbol kind) ∷ word s.Open ∷ Piece.part 0 (query_facts two.value) ∷ word s.Close ∷ []) (omega arith)
      (q.facts-any_query left by kind two.value (here mid)) f (passed then expected one.first then i one.mid two.mid two.value two.first then expected three.first) three.second

  any_array_took : (start mid now next : Stream) (left x : Expr) (by : Operator) (kind : Quantifier) → holds_query now.tokens ≡ false → Took (tree 5 left) start mid → Took (say (g.operator_reading by) ∷ word (g.quantifier_symbol kind) ∷ []) mid now → any_array nested inner start (here mid) left by kind now ≡ Some (x, next) → Took (tree 4 x) start next
  any_array_took start mid now next left x by kind lacks f passed h =
      let one = behind h in
      let two = behind one.second in
      let three = behind two.second in
      let y = two.value in
      let inside : Took (Piece.need (not (g.is_scalar (tree_facts y))) ∷ Piece.part 0 (tree_facts y) ∷ word s.Close ∷ []) one.mid three.mid =
      unscalar_took y now one.mid two.mid three.mid lacks (expects one.first) (n one.mid two.mid y two.first) (expects three.first) in
      affixed 4 5 (e.AnyArray left by kind y) left (say (g.operator_reading by) ∷ word (g.quantifier_symbol kind) ∷ word s.Open ∷ Piece.need (not (g.is_scalar (tree_facts y))) ∷ Piece.part 0 (tree_facts y) ∷ word s.Close ∷ []) (omega arith)
      (q.facts-any_array left by kind y (here mid)) f (passed then expected one.first then inside) three.second

  quantified_took : (start mid next : Stream) (left x : Expr) → Took (tree 5 left) start mid → quantified_after nested inner start (here mid) left mid ≡ Some (x, next) → Took (tree 4 x) start next
  quantified_took start mid next left x f h =
      let one = behind h in
      let two = behind one.second in
      let passed : Took (say (g.operator_reading one.value) ∷ word (g.quantifier_symbol two.value) ∷ []) mid two.mid = operator_took mid one.mid one.value one.first then quantifier_took one.mid two.mid two.value two.first in
      elim (chosen {b = holds_query two.mid.tokens} two.second) [
        | inl (b, k) ↦ any_query_took start mid two.mid next left x one.value two.value f passed k
        | inr (b, k) ↦ any_array_took start mid two.mid next left x one.value two.value b f passed k
      ]

  pub takes_related : (operand : Parser Expr) → Spells (tree 5) operand → Spells (tree 4) (related nested inner operand)
  unfolding related
  takes_related operand r start next x h =
      let one = behind h in
      let mid = one.mid in
      let left = one.value in
      let f = r start mid left one.first in
      elim (chosen {b = begins_quantified mid.tokens} one.second) [
        | inl (b, k) ↦ quantified_took start mid next left x f k
        | inr (b, k) ↦ elim (chosen {b = begins_comparison mid.tokens} k) [
          | inl (c, l) ↦ compared_took operand r start mid next left x f l
          | inr (c, l) ↦ lower 4 x (given (tree 5) l f)
        ]
      ]
