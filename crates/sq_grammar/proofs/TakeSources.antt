-- The sources, joins and items of FROM that are read are spelled by the tokens.
use Rattle.std.proofs.Common.{◌≡◌, ℕ, zero, suc, ◌-◌, ◌≤◌, true, List, [], ◌∷◌, ◌++◌, length, Some, refl, sym, ap, subst, ◌∙◌, arith, map, inl, inr}
use Rattle.std.specs.Prelude.{flat_map}
use Rattle.std.proofs.lemmas.Simd.{map-map}
use Rattle.std.proofs.lemmas.List.Folds.{flat_map-map}
use Rattle.sq_base.specs.declared.place.Place.{Place}
use Rattle.sq_syntax.specs.declared.symbol.Symbol.TheVariants as s
use Rattle.sq_syntax.specs.declared.name.QualifiedName.{QualifiedName}
use Rattle.sq_syntax.specs.declared.expr.Node.{Node}
use Rattle.sq_syntax.specs.declared.query.From.{From}
use Rattle.sq_syntax.specs.declared.query.Join.{Join}
use Rattle.sq_syntax.specs.declared.query.Join.TheVariants as join_kind
use Rattle.sq_syntax.specs.declared.query.JoinKind.{JoinKind}
use Rattle.sq_syntax.specs.declared.query.JoinKind.TheVariants as kind
use Rattle.sq_syntax.specs.declared.query.Matched.{Matched}
use Rattle.sq_syntax.specs.declared.query.Matched.TheVariants as matched
use Rattle.sq_syntax.specs.declared.query.Query.{Query}
use Rattle.sq_syntax.specs.declared.query.Source.{Source}
use Rattle.sq_syntax.specs.Facts.{Mark, Stream, Along, Facts, Piece, from as at_level, numbered, all_hold, marks_of}
use Rattle.sq_syntax.specs.Pieces as p
use Rattle.sq_syntax.specs.Pieces.{at, sym as word}
use Rattle.sq_syntax.specs.QueryPieces as f
use Rattle.sq_syntax.specs.Grammar.{tree_facts, query_facts, source_facts, join_facts, from_facts}
use Rattle.sq_grammar.specs.Reading.{Parser, choose, sees, here}
use Rattle.sq_grammar.specs.Ahead.{holds_query}
use Rattle.sq_grammar.specs.Levels.{Expr}
use Rattle.sq_grammar.specs.Queries.{derived, table, condition, grouped, source, cross, matching, begins_join, join, from_over, from_at, from_item, next_from, from_items, from_clause}
use Rattle.sq_grammar.proofs.FromShapes.{source_node, table_facts, derived_facts, grouped_facts, cross_facts, on_facts, using_facts, joined_facts}
use Rattle.sq_grammar.proofs.Takes.{kept, Took, Spells, tree, ◌then◌, none, expected, behind, chosen, given, at_here, tokens_of, part_took, from_level, along_join, along_counts}
use Rattle.sq_grammar.proofs.TakeChains.{marks_append}
use Rattle.sq_grammar.proofs.TakeLists.{items_took}
use Rattle.sq_grammar.proofs.TakeNames.{qualified_name_took}
use Rattle.sq_grammar.proofs.TakeAffixes.{one_left, one_right, query_tree}
use Rattle.sq_grammar.proofs.TakeAliases.{alias_took, optional_alias_took, in_brackets_took}
use Rattle.sq_grammar.proofs.TakeWords.{join_words_took}

-- ---- wholes

-- the pieces of a whole that has no level
abbrev pub whole : Facts → List Piece
whole x = Piece.part 0 x ∷ []

pub whole_took : {x : Facts} {pieces : List Piece} {now next : Stream} → x ≡ f.whole_facts pieces → Took pieces now next → Took (whole x) now next
whole_took {x} {pieces} {now} {next} e took = part_took 0 x now next (λ l. (
  subst (λ (y : Facts). at_level 0 y.level ≡ true) (sym e) (from_level 0 0 (all_hold pieces) (omega arith) (took.holds l)),
  subst (λ (y : Facts). Along y.marks now next) (sym e) (took.along l),
))

-- a whole with the numbers of its first and last token
pub numbered_took : {pieces : List Piece} {start now : Stream} → 1 ≤ tokens_of (marks_of pieces) → Took pieces start now → Took (whole (numbered start.at (now.at - 1) (f.whole_facts pieces))) start now
numbered_took {pieces} {start} {now} one took = part_took 0 (numbered start.at (now.at - 1) (f.whole_facts pieces)) start now (λ l.
    let a = took.along l in
    let last : suc (now.at - 1) ≡ now.at = omega (arith, along_counts (marks_of pieces) start now a, one) in
    (from_level 0 0 (all_hold pieces) (omega arith) (took.holds l), (refl, along_join (marks_of pieces) (Mark.ends (now.at - 1) ∷ []) start now now a (last, refl))))

-- a part that has a token
pub record Part (x : Facts) (now next : Stream) : Type 0 where
  pub took : Took (whole x) now next
  pub one : 1 ≤ tokens_of x.marks

part_of : {x : Facts} {pieces : List Piece} {now next : Stream} → x ≡ f.whole_facts pieces → 1 ≤ tokens_of (marks_of pieces) → Took pieces now next → Part x now next
part_of {x} {pieces} {now} {next} e one took = record { took = whole_took e took; one = subst (λ (y : Facts). 1 ≤ tokens_of y.marks) (sym e) one }

abbrev source_part : Source → Stream → Stream → Type 0
source_part x now next = Part (source_facts x) now next

abbrev node_tree : Node Source → List Piece
node_tree x = whole (f.begun (source_node x))

abbrev join_tree : Join → List Piece
join_tree x = whole (join_facts x)

abbrev pub from_tree : From → List Piece
from_tree x = whole (from_facts x)

some_name : (x : QualifiedName) (rest : List Piece) → 1 ≤ tokens_of (marks_of (p.qualified_name x ++ rest))
some_name x rest = one_left (p.qualified_name x) rest (one_right (p.schema_name x.schema) (p.name x.name) (omega arith))

some_words : (x : JoinKind) (rest : List Piece) → 1 ≤ tokens_of (marks_of (f.join_words x ++ rest))
some_words kind.Unsaid rest = omega arith
some_words kind.Inner rest = omega arith
some_words kind.Left rest = omega arith
some_words kind.LeftOuter rest = omega arith
some_words kind.Right rest = omega arith
some_words kind.RightOuter rest = omega arith
some_words kind.Full rest = omega arith
some_words kind.FullOuter rest = omega arith

-- the pieces of the condition of a join
abbrev condition_pieces : Matched Expr → List Piece
condition_pieces (matched.On x) = word s.On ∷ Piece.part 0 (tree_facts x) ∷ []
condition_pieces (matched.Using xs) = f.join_condition (matched.Using xs)

matched_facts : (place : Place) (words : JoinKind) (x : Node Source) (by : Matched Expr) → join_facts (join_kind.Matched place words x by) ≡ f.whole_facts (at place ∷ f.join_words words ++ p.whole (f.begun (source_node x)) ∷ condition_pieces by)
matched_facts place words x (matched.On by) = on_facts place words x by
matched_facts place words x (matched.Using by) = using_facts place words x by

joins_again : (xs : List Join) → map p.whole (map join_facts xs) ≡ flat_map join_tree xs
joins_again [] = refl
joins_again (x ∷ xs) = ap (λ ps. Piece.part 0 (join_facts x) ∷ ps) (joins_again xs)

module _ (expr : Parser Expr) (inner : Parser Query) (n : Spells (tree 0) expr) (i : Spells query_tree inner) where
  -- ---- sources

  table_took : (now next : Stream) (x : Source) → table expr inner now ≡ Some (x, next) → source_part x now next
  unfolding table
  table_took now next x h =
      let one = behind h in
      let two = behind one.second in
      let made = part_of (table_facts one.value two.value) (some_name one.value (f.optional_alias two.value)) (qualified_name_took now one.mid one.value one.first then optional_alias_took one.mid two.mid two.value two.first) in
      kept (λ y u. source_part y now u) two.second made

  derived_took : (now next : Stream) (x : Source) → derived expr inner now ≡ Some (x, next) → source_part x now next
  unfolding derived
  derived_took now next x h =
      let one = behind h in
      let two = behind one.second in
      let three = behind two.second in
      let four = behind three.second in
      let all : Took (word s.Open ∷ p.whole (query_facts two.value) ∷ word s.Close ∷ f.alias four.value) now four.mid =
      expected one.first then i one.mid two.mid two.value two.first then expected three.first then alias_took three.mid four.mid four.value four.first in
      kept (λ y u. source_part y now u) four.second (part_of (derived_facts two.value four.value) (omega arith) all)

  grouped_took : (from : Parser From) → Spells from_tree from → (now next : Stream) (x : Source) → grouped expr inner from now ≡ Some (x, next) → source_part x now next
  grouped_took from r now next x h =
      let one = behind h in
      let two = behind one.second in
      let three = behind two.second in
      let all : Took (word s.Open ∷ p.whole (from_facts two.value) ∷ word s.Close ∷ []) now three.mid = expected one.first then r one.mid two.mid two.value two.first then expected three.first in
      kept (λ y u. source_part y now u) three.second (part_of (grouped_facts two.value) (omega arith) all)

  form_took : (from : Parser From) → Spells from_tree from → (now next : Stream) (x : Source) → choose (sees s.Open) (choose (λ u. holds_query u.tokens) (derived expr inner) (grouped expr inner from)) (table expr inner) now ≡ Some (x, next) → source_part x now next
  form_took from r now next x h = elim (chosen {b = sees s.Open now} h) [
    | inl (b, k) ↦ elim (chosen {b = holds_query now.tokens} k) [
      | inl (c, l) ↦ derived_took now next x l
      | inr (c, l) ↦ grouped_took from r now next x l
    ]
    | inr (b, k) ↦ table_took now next x k
  ]

  pub source_took : (from : Parser From) → Spells from_tree from → Spells node_tree (source expr inner from)
  unfolding source
  source_took from r now next x h =
      let one = behind h in
      let part = form_took from r now one.mid one.value one.first in
      let some : 1 ≤ tokens_of (marks_of (whole (source_facts one.value))) = omega (arith, part.one, marks_append (source_facts one.value).marks []) in
      given node_tree one.second (numbered_took some (at_here some part.took))

  -- ---- joins

  condition_took : Spells condition_pieces (condition expr inner)
  unfolding condition
  condition_took now next by h = elim (chosen {b = sees s.On now} h) [
    | inl (b, k) ↦
        let one = behind k in
        let two = behind one.second in
        given condition_pieces two.second (expected one.first then n one.mid two.mid two.value two.first)
    | inr (b, k) ↦
        let one = behind k in
        let two = behind one.second in
        given condition_pieces two.second (expected one.first then (in_brackets_took one.mid two.mid two.value two.first).0)
  ]

  cross_took : (from : Parser From) → Spells from_tree from → (now next : Stream) (x : Join) → cross expr inner from now now ≡ Some (x, next) → Took (join_tree x) now next
  cross_took from r now next x h =
      let one = behind h in
      let two = behind one.second in
      let three = behind two.second in
      given join_tree three.second (whole_took (cross_facts (here now) three.value) (at_here (omega arith) (expected one.first then expected two.first then source_took from r two.mid three.mid three.value three.first)))

  matching_took : (from : Parser From) → Spells from_tree from → (now next : Stream) (x : Join) → matching expr inner from now now ≡ Some (x, next) → Took (join_tree x) now next
  matching_took from r now next x h =
      let one = behind h in
      let two = behind one.second in
      let three = behind two.second in
      let rest = p.whole (f.begun (source_node two.value)) ∷ condition_pieces three.value in
      let all : Took (f.join_words one.value ++ rest) now three.mid = join_words_took now one.mid one.value one.first then source_took from r one.mid two.mid two.value two.first then condition_took two.mid three.mid three.value three.first in
      given join_tree three.second (whole_took (matched_facts (here now) one.value two.value three.value) (at_here (some_words one.value rest) all))

  join_took : (from : Parser From) → Spells from_tree from → Spells join_tree (join expr inner from)
  unfolding join
  join_took from r now next x h = elim (chosen {b = sees s.Cross now} h) [
    | inl (b, k) ↦ cross_took from r now next x k
    | inr (b, k) ↦ matching_took from r now next x k
  ]

  -- ---- items of FROM

  from_over_took : (from : Parser From) → Spells from_tree from → Spells from_tree (from_over expr inner from)
  from_over_took from r now next x h =
      let one = behind h in
      let two = behind one.second in
      let joins = items_took (λ u. begins_join u.tokens) (join expr inner from) join_tree (join_took from r) one.mid two.mid two.value two.first in
      let all : Took (node_tree one.value ++ flat_map join_tree two.value) now two.mid = source_took from r now one.mid one.value one.first then joins in
      let same = subst (λ ps. Took (p.whole (f.begun (source_node one.value)) ∷ ps) now two.mid) (sym (joins_again two.value)) all in
      given from_tree two.second (whole_took (joined_facts one.value two.value) same)

  from_at_took : (k : ℕ) → Spells from_tree (from_at expr inner k)
  unfolding from_at
  from_at_took zero now next x h = absurd (cc)
  from_at_took (suc k) now next x h = from_over_took (from_at expr inner k) (from_at_took k) now next x h

  pub from_item_took : Spells from_tree (from_item expr inner)
  from_item_took now next x h = from_at_took (length now.tokens) now next x h

  abbrev comma_from : From → List Piece
  comma_from x = word s.Comma ∷ from_tree x

  comma_from_took : Spells comma_from (next_from expr inner)
  comma_from_took now next x h = let one = behind h in expected one.first then from_item_took one.mid next x one.second

  froms_again : (x : From) (xs : List From) → f.from (map from_facts (x ∷ xs)) ≡ word s.From ∷ from_tree x ++ flat_map comma_from xs
  froms_again x xs =
      ap (λ ps. word s.From ∷ Piece.part 0 (from_facts x) ∷ flat_map (λ item. word s.Comma ∷ item) ps) (map-map (λ (y : Facts). p.whole y ∷ []) from_facts xs)
      ∙ ap (λ ps. word s.From ∷ Piece.part 0 (from_facts x) ∷ ps) (flat_map-map (λ (item : List Piece). word s.Comma ∷ item) from_tree xs)

  from_items_took : Spells (λ xs. f.from (map from_facts xs)) (from_items expr inner)
  from_items_took now next xs h =
      let one = behind h in
      let two = behind one.second in
      let three = behind two.second in
      let all : Took (word s.From ∷ from_tree two.value ++ flat_map comma_from three.value) now three.mid =
      expected one.first then from_item_took one.mid two.mid two.value two.first then items_took (sees s.Comma) (next_from expr inner) comma_from comma_from_took two.mid three.mid three.value three.first in
      given (λ ys. f.from (map from_facts ys)) three.second (subst (λ ps. Took ps now three.mid) (sym (froms_again two.value three.value)) all)

  pub from_clause_took : Spells (λ xs. f.from (map from_facts xs)) (from_clause expr inner)
  unfolding from_clause
  from_clause_took now next xs h = elim (chosen {b = sees s.From now} h) [
    | inl (b, k) ↦ from_items_took now next xs k
    | inr (b, k) ↦ given (λ ys. f.from (map from_facts ys)) k (none now)
  ]
