-- Every expression that is read is well levelled and spelled by the tokens, where what stands in its brackets is.
use Rattle.std.proofs.Common.{◌≡◌, ◌≤◌, true, List, [], ◌∷◌, length, Some, refl, ap, ◌∙◌, arith, map, inl, inr}
use Rattle.std.specs.Prelude.{if◌then◌else◌, flat_map}
use Rattle.sq_base.specs.declared.place.Place.{Place}
use Rattle.sq_syntax.specs.declared.symbol.Symbol.{Symbol}
use Rattle.sq_syntax.specs.declared.symbol.Symbol.TheVariants as s
use Rattle.sq_syntax.specs.declared.symbol.Reading.{Reading}
use Rattle.sq_syntax.specs.declared.symbol.Reading.TheVariants as reading
use Rattle.sq_syntax.specs.declared.expr.Constant.TheVariants as constant
use Rattle.sq_syntax.specs.declared.expr.Parameter.TheVariants as parameter
use Rattle.sq_syntax.specs.declared.expr.Index.{Index}
use Rattle.sq_syntax.specs.declared.expr.Expression.{out-Expression}
use Rattle.sq_syntax.specs.declared.expr.Expression.TheVariants as e
use Rattle.sq_syntax.specs.declared.query.Query.{Query}
use Rattle.sq_syntax.specs.Facts.{Mark, Stream, Piece, Sort, marks_of}
use Rattle.sq_syntax.specs.Pieces as p
use Rattle.sq_syntax.specs.Pieces.{at, sym as word}
use Rattle.sq_syntax.specs.ExpressionPieces as g
use Rattle.sq_syntax.specs.Grammar.{tree_facts}
use Rattle.sq_grammar.specs.declared.start.Start.{Start}
use Rattle.sq_grammar.specs.declared.start.Start.TheVariants as start
use Rattle.sq_grammar.specs.Reading.{Parser, sees}
use Rattle.sq_grammar.specs.Ahead.{Lexemes, types_text}
use Rattle.sq_grammar.specs.Levels.{Expr, chained, zoned, collated, signed, converted}
use Rattle.sq_grammar.specs.Tests.{ranged, related}
use Rattle.sq_grammar.specs.Primaries.{start_of, calls, begins_purpose, named, called_or, by_start, by_reading, primary_of, primary, takes_index, index, index_place, subscripted, above_tests, expression}
use Rattle.sq_grammar.proofs.Layers.{expression_out}
use Rattle.sq_grammar.proofs.Subscripts.{index_facts, index_pieces, layer_takes, pieces_again}
use Rattle.sq_grammar.proofs.Takes.{Took, Spells, tree, ◌then◌, expected, behind, chosen, given, needed, at_here, noded, tokens_of}
use Rattle.sq_grammar.proofs.TakeLists.{items_took}
use Rattle.sq_grammar.proofs.TakeChains.{marks_append, lower, at_place}
use Rattle.sq_grammar.proofs.TakeLevels.{takes_converted, takes_signed, takes_collated, takes_zoned, takes_operation, takes_negated, takes_conjunction, takes_disjunction}
use Rattle.sq_grammar.proofs.TakeTests.{takes_testing}
use Rattle.sq_grammar.proofs.TakeRanges.{takes_ranged, takes_related}
use Rattle.sq_grammar.proofs.TakeAffixes.{one_left, query_tree}
use Rattle.sq_grammar.proofs.TakeSimple.{first_reading, constant_took, parameter_took, column_took, typed_text_took, moment_took, purposed_took}
use Rattle.sq_grammar.proofs.TakeBrackets.{brackets_took, exists_took, array_took, case_took, cast_took, pooled_took, null_if_took, extract_took}
use Rattle.sq_grammar.proofs.TakeCalls.{call_took}

-- ---- the words that are constants

true_alone : (x : Symbol) → start_of x ≡ start.True → reading.Symbol x ≡ reading.Symbol s.True
true_alone s.True h = refl
true_alone _ h = absurd (cc)

false_alone : (x : Symbol) → start_of x ≡ start.False → reading.Symbol x ≡ reading.Symbol s.False
false_alone s.False h = refl
false_alone _ h = absurd (cc)

null_alone : (x : Symbol) → start_of x ≡ start.Null → reading.Symbol x ≡ reading.Symbol s.Null
null_alone s.Null h = refl
null_alone _ h = absurd (cc)

-- a subscript may stand behind what says so
indexable : (x : Expr) → takes_index x.form ≡ true → g.is_indexable (tree_facts x) ≡ true
unfolding takes_index
indexable x h = ap (λ f. g.is_indexable (f x.place)) (expression_out x.form) ∙ layer_takes (out-Expression x.form) x.place ∙ h

module _ (nested : Parser Expr) (inner : Parser Query) (n : Spells (tree 0) nested) (i : Spells query_tree inner) where
  -- ---- primaries

  named_took : Spells (tree 15) (named nested inner)
  named_took now next x h = elim (chosen {b = types_text now.tokens} h) [
    | inl (b, k) ↦ typed_text_took now next x k
    | inr (b, k) ↦ elim (chosen {b = calls now.tokens} k) [
      | inl (c, l) ↦ call_took nested inner n now next x l
      | inr (c, l) ↦ column_took now next x l
    ]
  ]

  called_or_took : (special : Parser Expr) → Spells (tree 15) special → Spells (tree 15) (called_or nested inner special)
  called_or_took special f now next x h = elim (chosen {b = calls now.tokens} h) [
    | inl (b, k) ↦ f now next x k
    | inr (b, k) ↦ named_took now next x k
  ]

  side_took : (now next : Stream) (x : Expr) → by_start nested inner start.Side now ≡ Some (x, next) → Took (tree 15 x) now next
  side_took now next x h = elim (chosen {b = calls now.tokens} h) [
    | inl (b, k) ↦ call_took nested inner n now next x k
    | inr (b, k) ↦ absurd (cc)
  ]

  sqlc_took : (now next : Stream) (x : Expr) → by_start nested inner start.Sqlc now ≡ Some (x, next) → Took (tree 15 x) now next
  sqlc_took now next x h = elim (chosen {b = begins_purpose now.tokens} h) [
    | inl (b, k) ↦ purposed_took now next x k
    | inr (b, k) ↦ named_took now next x k
  ]

  start_took : (y : Symbol) (from : Start) → start_of y ≡ from → (now next : Stream) (x : Expr) → first_reading now.tokens ≡ Some (reading.Symbol y) → by_start nested inner from now ≡ Some (x, next) → Took (tree 15 x) now next
  start_took y start.True is now next x first h = constant_took constant.True now next x (first ∙ ap (λ r. Some r) (true_alone y is)) h
  start_took y start.False is now next x first h = constant_took constant.False now next x (first ∙ ap (λ r. Some r) (false_alone y is)) h
  start_took y start.Null is now next x first h = constant_took constant.Null now next x (first ∙ ap (λ r. Some r) (null_alone y is)) h
  start_took y (start.Moment m) is now next x first h = moment_took m now next x h
  start_took y start.Brackets is now next x first h = brackets_took nested inner n i now next x h
  start_took y start.Exists is now next x first h = exists_took nested inner n i now next x h
  start_took y start.Array is now next x first h = array_took nested inner n i now next x h
  start_took y start.Case is now next x first h = case_took nested inner n i now next x h
  start_took y start.Cast is now next x first h = cast_took nested inner n i now next x h
  start_took y (start.Pooled pool) is now next x first h = called_or_took _ (pooled_took nested inner n i pool) now next x h
  start_took y start.NullIf is now next x first h = called_or_took _ (null_if_took nested inner n i) now next x h
  start_took y start.Extract is now next x first h = called_or_took _ (extract_took nested inner n i) now next x h
  start_took y start.Sqlc is now next x first h = sqlc_took now next x h
  start_took y start.Side is now next x first h = side_took now next x h
  start_took y start.Named is now next x first h = named_took now next x h
  start_took y start.Nothing is now next x first h = absurd (cc)

  reading_took : (r : Reading) (now next : Stream) (x : Expr) → first_reading now.tokens ≡ Some r → by_reading nested inner r now ≡ Some (x, next) → Took (tree 15 x) now next
  reading_took (reading.Symbol y) now next x first h = start_took y (start_of y) refl now next x first h
  reading_took (reading.Word bytes) now next x first h = named_took now next x h
  reading_took (reading.Quoted bytes) now next x first h = named_took now next x h
  reading_took (reading.Text bytes) now next x first h = constant_took (constant.Text bytes) now next x first h
  reading_took (reading.EText bytes) now next x first h = constant_took (constant.EText bytes) now next x first h
  reading_took (reading.Dollar bytes) now next x first h = constant_took (constant.Dollar bytes) now next x first h
  reading_took (reading.Number bytes) now next x first h = constant_took (constant.Number bytes) now next x first h
  reading_took (reading.Parameter bytes) now next x first h = parameter_took (parameter.Numbered bytes) (reading.Parameter bytes) refl now next x first h
  reading_took (reading.Named bytes) now next x first h = parameter_took (parameter.Named bytes) (reading.Named bytes) refl now next x first h
  reading_took (reading.Operator bytes) now next x first h = absurd (cc)
  reading_took reading.Note now next x first h = absurd (cc)

  tokens_took : (tokens : Lexemes) (now next : Stream) (x : Expr) → now.tokens ≡ tokens → primary_of nested inner tokens now ≡ Some (x, next) → Took (tree 15 x) now next
  tokens_took [] now next x is h = absurd (cc)
  tokens_took (y ∷ rest) now next x is h = reading_took y.reading now next x (ap first_reading is) h

  pub takes_primary : Spells (tree 15) (primary nested inner)
  unfolding primary
  takes_primary now next x h = tokens_took now.tokens now next x refl h

  -- ---- subscripts

  index_took : Spells index_pieces (index nested inner)
  unfolding index
  index_took now next l h =
      let one = behind h in
      let two = behind one.second in
      let three = behind two.second in
      let f : Took (word s.OpenSquare ∷ Piece.part 0 (tree_facts two.value) ∷ word s.CloseSquare ∷ []) now three.mid = expected one.first then n one.mid two.mid two.value two.first then expected three.first in
      given index_pieces three.second (at_here (omega arith) f)

  abbrev subscript_pieces : Expr → List (Index Expr) → Place → List Piece
  subscript_pieces first links spot = Piece.need (g.is_indexable (tree_facts first)) ∷ p.some (map index_facts links) ∷ Piece.part 15 (tree_facts first) ∷ at spot ∷ flat_map index_pieces links

  one_index : (first : Expr) (l : Index Expr) (links : List (Index Expr)) (spot : Place) → 1 ≤ tokens_of (marks_of (subscript_pieces first (l ∷ links) spot))
  one_index first l links spot = omega (arith, one_left (index_pieces l) (flat_map index_pieces links) (omega arith), marks_append (tree_facts first).marks (Mark.stands_at spot ∷ marks_of (flat_map index_pieces (l ∷ links))))

  subscripts_took : (begun mid now next : Stream) (first x : Expr) (links : List (Index Expr)) → takes_index first.form ≡ true → Took (tree 15 first) begun mid → Took (flat_map index_pieces links) mid now → chained begun (index_place nested inner) e.Subscript first links now ≡ Some (x, next) → Took (tree 14 x) begun next
  subscripts_took begun mid now next first x [] may f passed h = given (tree 14) h (lower 14 first (f then passed))
  subscripts_took begun mid now next first x (l ∷ links) may f passed h =
      let place = l.place in
      let placed = at_place {place = place} (λ lexed. (passed.along lexed).0) passed in
      noded begun place (e.Subscript first (l ∷ links)) Sort.plain 14 (length (l ∷ links)) 14 (subscript_pieces first (l ∷ links) place) (omega arith) (pieces_again first (l ∷ links) place) (one_index first l links place)
      (needed (indexable first may) (needed refl (f then placed))) h

  pub takes_subscripted : Spells (tree 14) (subscripted nested inner)
  unfolding subscripted
  takes_subscripted begun next x h =
      let one = behind h in
      let f = takes_primary begun one.mid one.value one.first in
      elim (chosen {b = takes_index one.value.form} one.second) [
        | inl (b, k) ↦
            let two = behind k in
            subscripts_took begun one.mid two.mid next one.value x two.value b f (items_took (sees s.OpenSquare) (index nested inner) index_pieces index_took one.mid two.mid two.value two.first) two.second
        | inr (b, k) ↦ given (tree 14) k (lower 14 one.value f)
      ]

  -- ---- all levels

  abbrev pub at_zones : Parser Expr
  at_zones = zoned (collated (signed (converted (subscripted nested inner))))

  took_zones : Spells (tree 10) at_zones
  took_zones = takes_zoned _ (takes_collated _ (takes_signed _ (takes_converted _ takes_subscripted)))

  took_above : Spells (tree 6) (above_tests nested inner)
  took_above = takes_operation 6 _ (takes_operation 7 _ (takes_operation 8 _ (takes_operation 9 _ took_zones)))

  took_relations : Spells (tree 4) (related nested inner (ranged nested inner (above_tests nested inner)))
  took_relations = takes_related nested inner n i _ (takes_ranged nested inner n i _ took_above)

  pub expression_took : Spells (tree 0) (expression nested inner)
  unfolding expression
  expression_took = takes_disjunction _ (takes_conjunction _ (takes_negated _ (takes_testing _ took_relations)))
