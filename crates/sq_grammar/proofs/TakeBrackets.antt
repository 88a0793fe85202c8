-- What stands in brackets, and CASE: what is read is spelled by the tokens.
use Rattle.std.proofs.Common.{◌≡◌, ℕ, Bool, true, false, List, [], ◌∷◌, ◌++◌, Option, Some, None, refl, sym, ap, subst, ◌∙◌, arith, map, inl, inr}
use Rattle.std.specs.Prelude.{not, if◌then◌else◌, option_map, flat_map}
use Rattle.sq_syntax.specs.declared.symbol.Symbol.TheVariants as s
use Rattle.sq_syntax.specs.declared.symbol.Reading.{Reading}
use Rattle.sq_syntax.specs.declared.symbol.Reading.TheVariants as reading
use Rattle.sq_syntax.specs.declared.expr.Pool.{Pool}
use Rattle.sq_syntax.specs.declared.expr.Expression.TheVariants as e
use Rattle.sq_syntax.specs.declared.query.Query.{Query}
use Rattle.sq_syntax.specs.Symbols.{word_reading}
use Rattle.sq_syntax.specs.Facts.{Stream, Says, Piece, Sort}
use Rattle.sq_syntax.specs.Pieces as p
use Rattle.sq_syntax.specs.Pieces.{say, sym as word}
use Rattle.sq_syntax.specs.ExpressionPieces as g
use Rattle.sq_syntax.specs.Grammar.{tree_facts, query_facts}
use Rattle.sq_syntax.proofs.Equations as q
use Rattle.sq_grammar.specs.Reading.{Parser, choose, sees, here, pure}
use Rattle.sq_grammar.specs.Ahead.{holds_query}
use Rattle.sq_grammar.specs.Levels.{Expr}
use Rattle.sq_grammar.specs.Primaries.{word_text, a_field, scalar, bracketed, brackets, exists, array_query, array_list, array, some_expression, arm, otherwise, case, cast, null_if, pooled, extract}
use Rattle.sq_grammar.proofs.Complete.{same_some}
use Rattle.sq_grammar.proofs.Lists.{facts_of}
use Rattle.sq_grammar.proofs.Words.{arm_pieces, case_facts}
use Rattle.sq_grammar.proofs.Takes.{Proper, lexed_first, Took, Spells, tree, ◌then◌, none, reads, expects, expected, behind, chosen, given, needed}
use Rattle.sq_grammar.proofs.TakeLists.{items_took}
use Rattle.sq_grammar.proofs.TakeNames.{word_again}
use Rattle.sq_grammar.proofs.TakeTypes.{type_took}
use Rattle.sq_grammar.proofs.TakeAffixes.{query_tree, unscalar_took, list_took}
use Rattle.sq_grammar.proofs.TakeSimple.{primary_took}

-- ---- the word of EXTRACT

field_found : (b : Bool) (o : Option (List ℕ)) (x : List ℕ) → (if b then o else None) ≡ Some x → (b ≡ true) × (o ≡ Some x)
field_found true o x h = (refl, h)
field_found false o x h = absurd (cc)

field_spelled : (r : Reading) (x : List ℕ) → g.is_field r ≡ true → word_text r ≡ Some x → Proper r → word_reading x ≡ r
field_spelled (reading.Symbol y) x b h proper = ap word_reading (sym (same_some h)) ∙ word_again y b
field_spelled (reading.Word word) x b h proper = ap word_reading (sym (same_some h)) ∙ proper
field_spelled _ x b h proper = absurd (cc)

pub field_took : Spells (λ x. Piece.need (g.is_field (word_reading x)) ∷ say (word_reading x) ∷ []) a_field
unfolding a_field
field_took now next x h =
    let r = reads h in
    let found = field_found (g.is_field r.reading) (word_text r.reading) x r.is in
    record {
      holds = λ l. rw (field_spelled r.reading x found.0 found.1 (lexed_first r.reading now next r.says l), found.0) refl;
      along = λ l. (next, subst (λ y. Says y now next) (sym (field_spelled r.reading x found.0 found.1 (lexed_first r.reading now next r.says l))) r.says, refl);
    }

module _ (nested : Parser Expr) (inner : Parser Query) (n : Spells (tree 0) nested) (i : Spells query_tree inner) where
  -- ---- brackets

  scalar_took : Spells (tree 15) (scalar nested inner)
  unfolding scalar
  scalar_took now next x h =
      let one = behind h in
      let two = behind one.second in
      let three = behind two.second in
      primary_took (e.Scalar two.value) Sort.scalar (word s.Open ∷ Piece.part 0 (query_facts two.value) ∷ word s.Close ∷ []) (omega arith) (q.facts-scalar two.value (here now))
      (expected one.first then i one.mid two.mid two.value two.first then expected three.first) three.second

  bracketed_took : (now next : Stream) (x : Expr) → holds_query now.tokens ≡ false → bracketed nested inner now ≡ Some (x, next) → Took (tree 15 x) now next
  unfolding bracketed
  bracketed_took now next x lacks h =
      let one = behind h in
      let two = behind one.second in
      let three = behind two.second in
      let y = two.value in
      let inside = unscalar_took y now one.mid two.mid three.mid lacks (expects one.first) (n one.mid two.mid y two.first) (expects three.first) in
      primary_took (e.Bracketed y) Sort.indexable (word s.Open ∷ Piece.need (not (g.is_scalar (tree_facts y))) ∷ Piece.part 0 (tree_facts y) ∷ word s.Close ∷ []) (omega arith) (q.facts-bracketed y (here now))
      (expected one.first then inside) three.second

  pub brackets_took : Spells (tree 15) (brackets nested inner)
  brackets_took now next x h = elim (chosen {b = holds_query now.tokens} h) [
    | inl (b, k) ↦ scalar_took now next x k
    | inr (b, k) ↦ bracketed_took now next x b k
  ]

  pub exists_took : Spells (tree 15) (exists nested inner)
  unfolding exists
  exists_took now next x h =
      let one = behind h in
      let two = behind one.second in
      let three = behind two.second in
      let four = behind three.second in
      primary_took (e.Exists three.value) Sort.plain (word s.Exists ∷ word s.Open ∷ Piece.part 0 (query_facts three.value) ∷ word s.Close ∷ []) (omega arith) (q.facts-exists three.value (here now))
      (expected one.first then expected two.first then i two.mid three.mid three.value three.first then expected four.first) four.second

  array_query_took : (begun now next : Stream) (x : Expr) → Took (word s.Array ∷ []) begun now → array_query nested inner begun now ≡ Some (x, next) → Took (tree 15 x) begun next
  array_query_took begun now next x f h =
      let one = behind h in
      let two = behind one.second in
      let three = behind two.second in
      primary_took (e.ArrayQuery two.value) Sort.plain (word s.Array ∷ word s.Open ∷ Piece.part 0 (query_facts two.value) ∷ word s.Close ∷ []) (omega arith) (q.facts-array_query two.value (here begun))
      (f then expected one.first then i one.mid two.mid two.value two.first then expected three.first) three.second

  array_list_took : (begun now next : Stream) (x : Expr) → Took (word s.Array ∷ []) begun now → array_list nested inner begun now ≡ Some (x, next) → Took (tree 15 x) begun next
  array_list_took begun now next x f h =
      let one = behind h in
      let two = behind one.second in
      let three = behind two.second in
      let xs = two.value in
      let l = list_took nested inner n one.mid two.mid xs two.first in
      primary_took (e.ArrayList xs) Sort.plain (word s.Array ∷ word s.OpenSquare ∷ p.some (map facts_of xs) ∷ p.list (map facts_of xs) ++ word s.CloseSquare ∷ []) (omega arith) (q.facts-array_list xs (here begun))
      (f then expected one.first then needed l.some l.took then expected three.first) three.second

  pub array_took : Spells (tree 15) (array nested inner)
  unfolding array
  array_took now next x h =
      let one = behind h in
      let f : Took (word s.Array ∷ []) now one.mid = expected one.first in
      elim (chosen {b = sees s.Open one.mid} one.second) [
        | inl (b, k) ↦ array_query_took now one.mid next x f k
        | inr (b, k) ↦ array_list_took now one.mid next x f k
      ]

  -- ---- words before brackets

  pub cast_took : Spells (tree 15) (cast nested inner)
  unfolding cast
  cast_took now next x h =
      let one = behind h in
      let two = behind one.second in
      let three = behind two.second in
      let four = behind three.second in
      let five = behind four.second in
      let six = behind five.second in
      primary_took (e.Cast three.value five.value) Sort.plain (word s.Cast ∷ word s.Open ∷ Piece.part 0 (tree_facts three.value) ∷ word s.As ∷ p.type five.value ++ word s.Close ∷ []) (omega arith) (q.facts-cast three.value five.value (here now))
      (expected one.first then expected two.first then n two.mid three.mid three.value three.first then expected four.first then type_took four.mid five.mid five.value five.first then expected six.first) six.second

  pub pooled_took : (pool : Pool) → Spells (tree 15) (pooled nested inner pool)
  unfolding pooled
  pooled_took pool now next x h =
      let one = behind h in
      let two = behind one.second in
      let three = behind two.second in
      let four = behind three.second in
      let xs = three.value in
      let l = list_took nested inner n two.mid three.mid xs three.first in
      primary_took (e.Pooled pool xs) Sort.plain (word (g.pool_symbol pool) ∷ word s.Open ∷ p.some (map facts_of xs) ∷ p.list (map facts_of xs) ++ word s.Close ∷ []) (omega arith) (q.facts-pooled pool xs (here now))
      (expected one.first then expected two.first then needed l.some l.took then expected four.first) four.second

  pub null_if_took : Spells (tree 15) (null_if nested inner)
  unfolding null_if
  null_if_took now next x h =
      let one = behind h in
      let two = behind one.second in
      let three = behind two.second in
      let four = behind three.second in
      let five = behind four.second in
      let six = behind five.second in
      primary_took (e.NullIf three.value five.value) Sort.plain (word s.NullIf ∷ word s.Open ∷ Piece.part 0 (tree_facts three.value) ∷ word s.Comma ∷ Piece.part 0 (tree_facts five.value) ∷ word s.Close ∷ []) (omega arith) (q.facts-null_if three.value five.value (here now))
      (expected one.first then expected two.first then n two.mid three.mid three.value three.first then expected four.first then n four.mid five.mid five.value five.first then expected six.first) six.second

  pub extract_took : Spells (tree 15) (extract nested inner)
  unfolding extract
  extract_took now next x h =
      let one = behind h in
      let two = behind one.second in
      let three = behind two.second in
      let four = behind three.second in
      let five = behind four.second in
      let six = behind five.second in
      let field = three.value in
      primary_took (e.Extract field five.value) Sort.plain (word s.Extract ∷ word s.Open ∷ Piece.need (g.is_field (word_reading field)) ∷ say (word_reading field) ∷ word s.From ∷ Piece.part 0 (tree_facts five.value) ∷ word s.Close ∷ []) (omega arith) (q.facts-extract field five.value (here now))
      (expected one.first then expected two.first then field_took two.mid three.mid field three.first then expected four.first then n four.mid five.mid five.value five.first then expected six.first) six.second

  -- ---- CASE

  arm_took : Spells arm_pieces (arm nested inner)
  unfolding arm
  arm_took now next x h =
      let one = behind h in
      let two = behind one.second in
      let three = behind two.second in
      let four = behind three.second in
      given arm_pieces four.second (expected one.first then n one.mid two.mid two.value two.first then expected three.first then n three.mid four.mid four.value four.first)

  operand_took : Spells (λ x. g.case_operand (option_map facts_of x)) (choose (sees s.When) (pure None) (some_expression nested inner))
  operand_took now next x h = elim (chosen {b = sees s.When now} h) [
    | inl (b, k) ↦ given (λ y. g.case_operand (option_map facts_of y)) k (none now)
    | inr (b, k) ↦ let one = behind k in given (λ y. g.case_operand (option_map facts_of y)) one.second (n now one.mid one.value one.first)
  ]

  otherwise_took : Spells (λ x. g.otherwise (option_map facts_of x)) (otherwise nested inner)
  unfolding otherwise
  otherwise_took now next x h = elim (chosen {b = sees s.Else now} h) [
    | inl (b, k) ↦
        let one = behind k in
        let two = behind one.second in
        given (λ y. g.otherwise (option_map facts_of y)) two.second (expected one.first then n one.mid two.mid two.value two.first)
    | inr (b, k) ↦ given (λ y. g.otherwise (option_map facts_of y)) k (none now)
  ]

  pub case_took : Spells (tree 15) (case nested inner)
  unfolding case
  case_took now next x h =
      let one = behind h in
      let two = behind one.second in
      let three = behind two.second in
      let four = behind three.second in
      let five = behind four.second in
      let six = behind five.second in
      let y = two.value in
      let arms = three.value ∷ four.value in
      let last = five.value in
      let c = operand_took one.mid two.mid y two.first in
      let a : Took (flat_map arm_pieces arms) two.mid four.mid = arm_took two.mid three.mid three.value three.first then items_took (sees s.When) (arm nested inner) arm_pieces arm_took three.mid four.mid four.value four.first in
      let o = otherwise_took four.mid five.mid last five.first in
      primary_took (e.Case y arms last) Sort.plain (word s.Case ∷ Piece.need true ∷ g.case_operand (option_map facts_of y) ++ flat_map arm_pieces arms ++ g.otherwise (option_map facts_of last) ++ word s.End ∷ []) (omega arith) (case_facts y arms last (here now))
      (expected one.first then needed refl (((c then a) then o) then expected six.first)) six.second
