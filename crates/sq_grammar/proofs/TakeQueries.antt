-- Every query that is read is well levelled and spelled by the tokens, where what stands in its brackets is.
use Rattle.std.proofs.Common.{◌≡◌, ◌-◌, ◌≤◌, Bool, true, false, List, [], ◌∷◌, ◌++◌, Option, Some, sym, ap, subst, ◌∙◌, arith, map, inl, inr}
use Rattle.std.specs.Prelude.{flat_map, not, ◌||◌, if◌then◌else◌}
use Rattle.std.proofs.lemmas.Simd.{map-map}
use Rattle.std.proofs.lemmas.List.Folds.{flat_map-map}
use Rattle.sq_base.specs.declared.place.Place.{Place}
use Rattle.sq_syntax.specs.declared.symbol.Symbol.TheVariants as s
use Rattle.sq_syntax.specs.declared.symbol.Reading.{Reading}
use Rattle.sq_syntax.specs.declared.symbol.Reading.TheVariants as reading
use Rattle.sq_syntax.specs.declared.expr.Expression.TheFolds.{fold-roll-Factor, fold-roll-Query}
use Rattle.sq_syntax.specs.declared.expr.Expression.TheViews.{rolls-Core, rolls-Nested}
use Rattle.sq_syntax.specs.declared.expr.Expression.TheOpen.{Factor-F}
use Rattle.sq_syntax.specs.declared.query.Factor.{Factor, roll-Factor, out-Factor}
use Rattle.sq_syntax.specs.declared.query.Factor.TheVariants as factor_kind
use Rattle.sq_syntax.specs.declared.query.Limit.{Limit}
use Rattle.sq_syntax.specs.declared.query.Limit.TheVariants as limit_kind
use Rattle.sq_syntax.specs.declared.query.Operands.{Operands}
use Rattle.sq_syntax.specs.declared.query.Query.{Query, roll-Query}
use Rattle.sq_syntax.specs.declared.query.Select.{Select}
use Rattle.sq_syntax.specs.declared.query.SetLink.{SetLink}
use Rattle.sq_syntax.specs.declared.query.SetOperation.{SetOperation}
use Rattle.sq_syntax.specs.declared.query.With.{With}
use Rattle.sq_syntax.specs.Facts.{Stream, Facts, Piece, marks_of}
use Rattle.sq_syntax.specs.Pieces as p
use Rattle.sq_syntax.specs.Pieces.{Placed, at, say, sym as word}
use Rattle.sq_syntax.specs.ExpressionPieces.{expression_layer}
use Rattle.sq_syntax.specs.QueryPieces as f
use Rattle.sq_syntax.specs.QueryPieces.{source_layer, join_layer, from_layer, select_layer, factor_layer, query_layer}
use Rattle.sq_syntax.specs.Grammar.{expression_facts, factor_facts, join_facts, source_facts, from_facts, query_facts, select_facts}
use Rattle.sq_grammar.specs.Reading.{Parser, ◌>>◌, pure, choose, sees, begins, expect, here}
use Rattle.sq_grammar.specs.Levels.{Expr}
use Rattle.sq_grammar.specs.Queries.{loose_operation, tight_operation, set_link, operands, factor, body, with_query, next_with, with_queries, counted, limit, offset, lock, query}
use Rattle.sq_grammar.proofs.Complete.{same_some}
use Rattle.sq_grammar.proofs.Layers.{FactorLayer, QueryLayer, factor_parts, query_parts, factor_out, select_out}
use Rattle.sq_grammar.proofs.QueryFacts.{with_facts, link_facts, operands_facts, body_facts, limit_facts, offset_facts, query_parts_of}
use Rattle.sq_grammar.proofs.Takes.{Took, Spells, tree, ◌then◌, none, said, reads, expected, behind, chosen, given, needed, at_here, tokens_of}
use Rattle.sq_grammar.proofs.TakeChains.{marks_append}
use Rattle.sq_grammar.proofs.TakeLists.{items_took}
use Rattle.sq_grammar.proofs.TakeNames.{name_took}
use Rattle.sq_grammar.proofs.TakeAffixes.{one_left, one_right, query_tree}
use Rattle.sq_grammar.proofs.TakeAliases.{bracketed_names_took}
use Rattle.sq_grammar.proofs.TakeWords.{quantity_took, materialized_took, row_words_took, lock_took}
use Rattle.sq_grammar.proofs.TakeCalls.{order_of, order_took}
use Rattle.sq_grammar.proofs.TakeSources.{whole, whole_took, numbered_took}
use Rattle.sq_grammar.proofs.TakeSelects.{select_took}

-- ---- the facts of a query and of its operands

factor_at : (l : FactorLayer) → factor_facts (roll-Factor l) ≡ factor_layer (factor_parts l)
unfolding expression_facts factor_facts join_facts source_facts from_facts query_facts select_facts
factor_at l = fold-roll-Factor Placed Facts Facts Facts Facts Facts Facts expression_layer factor_layer join_layer source_layer from_layer query_layer select_layer l

core_facts : (x : Select) → factor_facts (factor_kind.Core x) ≡ f.whole_facts (p.whole (select_facts x) ∷ [])
core_facts x = ap factor_facts (sym (rolls-Core x)) ∙ factor_at (Factor-F.Core x)

nested_facts : (x : Query) → factor_facts (factor_kind.Nested x) ≡ f.whole_facts (word s.Open ∷ p.whole (query_facts x) ∷ word s.Close ∷ [])
nested_facts x = ap factor_facts (sym (rolls-Nested x)) ∙ factor_at (Factor-F.Nested x)

query_at : (l : QueryLayer) → query_facts (roll-Query l) ≡ query_layer (query_parts l)
unfolding expression_facts factor_facts join_facts source_facts from_facts query_facts select_facts
query_at l = fold-roll-Query Placed Facts Facts Facts Facts Facts Facts expression_layer factor_layer join_layer source_layer from_layer query_layer select_layer l

abbrev factor_tree : Factor → List Piece
factor_tree x = whole (factor_facts x)

-- a factor has a token

select_one : (x : Select) → 1 ≤ tokens_of (select_facts x).marks
select_one x = subst (λ (y : Facts). 1 ≤ tokens_of y.marks) (sym (select_out x)) (omega arith)

layer_one : (l : FactorLayer) → 1 ≤ tokens_of (factor_layer (factor_parts l)).marks
layer_one (Factor-F.Core x) = omega (arith, select_one x, marks_append (select_facts x).marks [])
layer_one (Factor-F.Nested x) = omega arith

factor_one : (x : Factor) → 1 ≤ tokens_of (factor_facts x).marks
factor_one x = subst (λ (y : Facts). 1 ≤ tokens_of y.marks) (sym (factor_out x)) (layer_one (out-Factor x))

-- ---- set operations

-- what an operation is spelled as, and how tightly it binds
abbrev Binds : Bool → (Reading → Place → Option SetOperation) → Type 0
Binds tight operation = (r : Reading) (place : Place) (x : SetOperation) → operation r place ≡ Some x → (reading.Symbol (f.set_symbol x) ≡ r) × ((if tight then f.is_tight x else not (f.is_tight x)) ≡ true)

loose_binds : Binds false loose_operation
loose_binds (reading.Symbol s.Union) place x h = let e = sym (same_some h) in (ap (λ y. reading.Symbol (f.set_symbol y)) e, ap (λ y. not (f.is_tight y)) e)
loose_binds (reading.Symbol s.Except) place x h = let e = sym (same_some h) in (ap (λ y. reading.Symbol (f.set_symbol y)) e, ap (λ y. not (f.is_tight y)) e)
loose_binds (reading.Symbol _) place x h = absurd (cc)
loose_binds _ place x h = absurd (cc)

tight_binds : Binds true tight_operation
tight_binds (reading.Symbol s.Intersect) place x h = let e = sym (same_some h) in (ap (λ y. reading.Symbol (f.set_symbol y)) e, ap f.is_tight e)
tight_binds (reading.Symbol _) place x h = absurd (cc)
tight_binds _ place x h = absurd (cc)

module _ {A B : Type 0} (tight : Bool) (operation : Reading → Place → Option SetOperation) (binds : Binds tight operation) (facts : A → B) (pieces : B → List Piece) (operand : Parser A) (took : Spells (λ x. pieces (facts x)) operand) where
  abbrev link_pieces : SetLink A → List Piece
  link_pieces x = f.set_link tight pieces (link_facts facts x)

  link_took : Spells link_pieces (set_link operation operand)
  link_took now next x h =
      let one = behind h in
      let two = behind one.second in
      let three = behind two.second in
      let r = reads {f = operation} one.first in
      let b = binds r.reading r.says.place one.value r.is in
      let said_word : Took (word (f.set_symbol one.value) ∷ []) now one.mid = subst (λ y. Took (say y ∷ []) now one.mid) (sym b.0) (said r.reading now one.mid r.says) in
      let all : Took (word (f.set_symbol one.value) ∷ f.quantity_words two.value ++ pieces (facts three.value)) now three.mid = (said_word then quantity_took one.mid two.mid two.value two.first) then took two.mid three.mid three.value three.first in
      given link_pieces three.second (needed b.1 (at_here (omega arith) all))

  operands_took : (more : Stream → Bool) → Spells (λ x. f.operands tight pieces (operands_facts facts x)) (operands more operation operand)
  operands_took more now next x h =
      let one = behind h in
      let two = behind one.second in
      let links = items_took more (set_link operation operand) link_pieces link_took one.mid two.mid two.value two.first in
      let again = flat_map-map (f.set_link tight pieces) (link_facts facts) two.value in
      let same = subst (λ ps. Took ps one.mid two.mid) (sym again) links in
      given (λ y. f.operands tight pieces (operands_facts facts y)) two.second (took now one.mid one.value one.first then same)

-- ---- the parts of a query

abbrev with_tree : With Query → List Piece
with_tree x = f.with_query (with_facts x)

abbrev comma_with : With Query → List Piece
comma_with x = word s.Comma ∷ with_tree x

withs_again : (x : With Query) (xs : List (With Query)) → f.with_queries (map with_facts (x ∷ xs)) ≡ word s.With ∷ with_tree x ++ flat_map comma_with xs
withs_again x xs =
    ap (λ ps. word s.With ∷ with_tree x ++ flat_map (λ item. word s.Comma ∷ item) ps) (map-map f.with_query with_facts xs)
    ∙ ap (λ ps. word s.With ∷ with_tree x ++ ps) (flat_map-map (λ (item : List Piece). word s.Comma ∷ item) with_tree xs)

abbrev body_tree : Operands (Operands Factor) → List Piece
body_tree x = f.body (body_facts x)

some_body : (x : Operands (Operands Factor)) → 1 ≤ tokens_of (marks_of (body_tree x))
some_body x =
    let y = x.first.first in
    let one : 1 ≤ tokens_of (marks_of (factor_tree y)) = omega (arith, factor_one y, marks_append (factor_facts y).marks []) in
    let tight = f.operands true (λ z. p.whole z ∷ []) in
    let inside = flat_map (f.set_link true (λ z. p.whole z ∷ [])) (body_facts x).first.links in
    let outside = flat_map (f.set_link false tight) (body_facts x).links in
    one_left (factor_tree y ++ inside) outside (one_left (factor_tree y) inside one)

module _ (expr : Parser Expr) (inner : Parser Query) (n : Spells (tree 0) expr) (i : Spells query_tree inner) where
  factor_took : Spells factor_tree (factor expr inner)
  unfolding factor
  factor_took now next x h = elim (chosen {b = sees s.Open now} h) [
    | inl (b, k) ↦
        let one = behind k in
        let two = behind one.second in
        let three = behind two.second in
        let all : Took (word s.Open ∷ p.whole (query_facts two.value) ∷ word s.Close ∷ []) now three.mid = expected one.first then i one.mid two.mid two.value two.first then expected three.first in
        given factor_tree three.second (whole_took (nested_facts two.value) all)
    | inr (b, k) ↦ let one = behind k in given factor_tree one.second (whole_took (core_facts one.value) (select_took expr inner n i now one.mid one.value one.first))
  ]

  tight_took : Spells (λ x. f.operands true (λ y. p.whole y ∷ []) (operands_facts factor_facts x)) (operands (sees s.Intersect) tight_operation (factor expr inner))
  tight_took = operands_took true tight_operation tight_binds factor_facts (λ y. p.whole y ∷ []) (factor expr inner) factor_took (sees s.Intersect)

  body_took : Spells body_tree (body expr inner)
  unfolding body
  body_took = operands_took false loose_operation loose_binds (operands_facts factor_facts) (f.operands true (λ y. p.whole y ∷ [])) (operands (sees s.Intersect) tight_operation (factor expr inner)) tight_took (λ now. begins s.Union now.tokens || begins s.Except now.tokens)

  with_took : Spells with_tree (with_query expr inner)
  unfolding with_query
  with_took now next x h =
      let one = behind h in
      let two = behind one.second in
      let three = behind two.second in
      let four = behind three.second in
      let five = behind four.second in
      let six = behind five.second in
      let seven = behind six.second in
      let head = name_took now one.mid one.value one.first then bracketed_names_took one.mid two.mid two.value two.first in
      let words = expected three.first then materialized_took three.mid four.mid four.value four.first in
      let tail = expected five.first then i five.mid six.mid six.value six.first then expected seven.first in
      given with_tree seven.second ((head then words) then tail)

  comma_with_took : Spells comma_with (next_with expr inner)
  comma_with_took now next x h = let one = behind h in expected one.first then with_took one.mid next x one.second

  pub withs_took : Spells (λ xs. f.with_queries (map with_facts xs)) (with_queries expr inner)
  unfolding with_queries
  withs_took now next xs h = elim (chosen {b = sees s.With now} h) [
    | inl (b, k) ↦
        let one = behind k in
        let two = behind one.second in
        let three = behind two.second in
        let all : Took (word s.With ∷ with_tree two.value ++ flat_map comma_with three.value) now three.mid =
        expected one.first then with_took one.mid two.mid two.value two.first then items_took (sees s.Comma) (next_with expr inner) comma_with comma_with_took two.mid three.mid three.value three.first in
        given (λ ys. f.with_queries (map with_facts ys)) three.second (subst (λ ps. Took ps now three.mid) (sym (withs_again two.value three.value)) all)
    | inr (b, k) ↦ given (λ ys. f.with_queries (map with_facts ys)) k (none now)
  ]

  counted_took : (start now next : Stream) (x : Option (Limit Expr)) → Took (word s.Limit ∷ []) start now → choose (sees s.All) (expect s.All >> pure (Some limit_kind.All)) (counted expr inner) now ≡ Some (x, next) → Took (f.limit_pieces (limit_facts x)) start next
  counted_took start now next x first h = elim (chosen {b = sees s.All now} h) [
    | inl (b, k) ↦ let one = behind k in given (λ y. f.limit_pieces (limit_facts y)) one.second (first then expected one.first)
    | inr (b, k) ↦ let one = behind k in given (λ y. f.limit_pieces (limit_facts y)) one.second (first then n now one.mid one.value one.first)
  ]

  limit_took : Spells (λ x. f.limit_pieces (limit_facts x)) (limit expr inner)
  unfolding limit
  limit_took now next x h = elim (chosen {b = sees s.Limit now} h) [
    | inl (b, k) ↦ let one = behind k in counted_took now one.mid next x (expected one.first) one.second
    | inr (b, k) ↦ given (λ y. f.limit_pieces (limit_facts y)) k (none now)
  ]

  offset_took : Spells (λ x. f.offset (offset_facts x)) (offset expr inner)
  unfolding offset
  offset_took now next x h = elim (chosen {b = sees s.Offset now} h) [
    | inl (b, k) ↦
        let one = behind k in
        let two = behind one.second in
        let three = behind two.second in
        given (λ y. f.offset (offset_facts y)) three.second (expected one.first then n one.mid two.mid two.value two.first then row_words_took two.mid three.mid three.value three.first)
    | inr (b, k) ↦ given (λ y. f.offset (offset_facts y)) k (none now)
  ]

  -- ---- queries

  pub query_took : Spells query_tree (query expr inner)
  unfolding query
  query_took now next x h =
      let one = behind h in
      let two = behind one.second in
      let three = behind two.second in
      let four = behind three.second in
      let five = behind four.second in
      let six = behind five.second in
      let withs = f.with_queries (map with_facts one.value) in
      let sorts = order_of three.value in
      let limits = f.limit_pieces (limit_facts four.value) in
      let offsets = f.offset (offset_facts five.value) in
      let pieces = withs ++ body_tree two.value ++ sorts ++ limits ++ offsets ++ flat_map f.lock six.value in
      let all : Took pieces now six.mid =
      ((((withs_took now one.mid one.value one.first then body_took one.mid two.mid two.value two.first) then order_took expr inner n two.mid three.mid three.value three.first)
      then limit_took three.mid four.mid four.value four.first) then offset_took four.mid five.mid five.value five.first) then items_took (sees s.For) lock f.lock lock_took five.mid six.mid six.value six.first in
      let some : 1 ≤ tokens_of (marks_of pieces) =
      one_left (withs ++ body_tree two.value ++ sorts ++ limits ++ offsets) (flat_map f.lock six.value)
      (one_left (withs ++ body_tree two.value ++ sorts ++ limits) offsets (one_left (withs ++ body_tree two.value ++ sorts) limits (one_left (withs ++ body_tree two.value) sorts (one_right withs (body_tree two.value) (some_body two.value))))) in
      let l : QueryLayer = record { place = here now; first = now.at; last = six.mid.at - 1; with = one.value; body = two.value; order = three.value; limit = four.value; offset = five.value; locks = six.value } in
      let facts = query_at l ∙ ap query_layer (query_parts_of l) in
      given query_tree six.second (subst (λ y. Took (whole y) now six.mid) (sym facts) (numbered_took some (at_here some all)))
