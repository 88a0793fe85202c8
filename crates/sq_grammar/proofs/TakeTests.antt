-- Tests of ranges, relations and IS: what is read is spelled by the tokens.
use Rattle.std.proofs.Common.{◌≡◌, Bool, true, false, [], ◌∷◌, ◌++◌, Some, refl, sym, ap, ◌∙◌, arith, inl, inr}
use Rattle.sq_base.specs.declared.place.Place.{Place}
use Rattle.sq_syntax.specs.declared.symbol.Symbol.{Symbol}
use Rattle.sq_syntax.specs.declared.symbol.Symbol.TheVariants as s
use Rattle.sq_syntax.specs.declared.symbol.Reading.{Reading}
use Rattle.sq_syntax.specs.declared.symbol.Reading.TheVariants as reading
use Rattle.sq_syntax.specs.declared.expr.Test.{Test}
use Rattle.sq_syntax.specs.declared.expr.Test.TheVariants as test
use Rattle.sq_syntax.specs.declared.expr.Expression.TheVariants as e
use Rattle.sq_syntax.specs.Facts.{Stream, Piece, built}
use Rattle.sq_syntax.specs.Pieces as p
use Rattle.sq_syntax.specs.Pieces.{at, say, sym as word}
use Rattle.sq_syntax.specs.ExpressionPieces as g
use Rattle.sq_syntax.specs.Grammar.{tree_facts}
use Rattle.sq_syntax.proofs.Equations as q
use Rattle.sq_grammar.specs.Reading.{Parser, ◌>>=◌, sees, expect, here, node}
use Rattle.sq_grammar.specs.Levels.{Expr}
use Rattle.sq_grammar.specs.Tests.{test_of, tested, distinct, is_after, null_after, testing}
use Rattle.sq_grammar.proofs.Complete.{same_some}
use Rattle.sq_grammar.proofs.Takes.{Took, Spells, tree, ◌then◌, said, reads, expected, behind, chosen, given}
use Rattle.sq_grammar.proofs.TakeChains.{lower}
use Rattle.sq_grammar.proofs.TakeAffixes.{affixed, optional_took}

-- ---- IS

test_is : (negated : Bool) (r : Reading) (place : Place) (found : Test) → test_of negated r place ≡ Some found → g.test_words found ≡ word s.Is ∷ p.when negated s.Not ++ say r ∷ []
test_is false (reading.Symbol s.Null) place found h = ap g.test_words (sym (same_some h))
test_is true (reading.Symbol s.Null) place found h = ap g.test_words (sym (same_some h))
test_is false (reading.Symbol s.True) place found h = ap g.test_words (sym (same_some h))
test_is true (reading.Symbol s.True) place found h = ap g.test_words (sym (same_some h))
test_is false (reading.Symbol s.False) place found h = ap g.test_words (sym (same_some h))
test_is true (reading.Symbol s.False) place found h = ap g.test_words (sym (same_some h))
test_is false (reading.Symbol s.Unknown) place found h = ap g.test_words (sym (same_some h))
test_is true (reading.Symbol s.Unknown) place found h = ap g.test_words (sym (same_some h))
test_is false (reading.Symbol _) place found h = absurd (cc)
test_is true (reading.Symbol _) place found h = absurd (cc)
test_is false _ place found h = absurd (cc)
test_is true _ place found h = absurd (cc)

tested_took : (start mid now next : Stream) (left x : Expr) (negated : Bool) → Took (tree 4 left) start mid → Took (word s.Is ∷ p.when negated s.Not) mid now → tested start (here mid) left negated now ≡ Some (x, next) → Took (tree 3 x) start next
tested_took start mid now next left x negated f passed h =
    let one = behind h in
    let r = reads one.first in
    let found = one.value in
    let ps = word s.Is ∷ p.when negated s.Not ++ say r.reading ∷ [] in
    let is = test_is negated r.reading r.says.place found r.is in
    affixed 3 4 (e.Tested left found) left ps (omega arith)
    (q.facts-tested left found (here mid) ∙ ap (λ qs. built 3 1 (Piece.part 4 (tree_facts left) ∷ at (here mid) ∷ qs)) is)
    f (passed then said r.reading now one.mid r.says) one.second

distinct_took : (operand : Parser Expr) → Spells (tree 4) operand → (start mid now next : Stream) (left x : Expr) (negated : Bool) → Took (tree 4 left) start mid → Took (word s.Is ∷ p.when negated s.Not) mid now → distinct operand start (here mid) left negated now ≡ Some (x, next) → Took (tree 3 x) start next
distinct_took operand r start mid now next left x negated f passed h =
    let one = behind h in
    let two = behind one.second in
    let three = behind two.second in
    let right = three.value in
    affixed 3 4 (e.Distinct left negated right) left (word s.Is ∷ p.when negated s.Not ++ word s.Distinct ∷ word s.From ∷ Piece.part 4 (tree_facts right) ∷ []) (omega arith)
    (q.facts-distinct left negated right (here mid))
    f (passed then expected one.first then expected two.first then r two.mid three.mid right three.first) three.second

is_took : (operand : Parser Expr) → Spells (tree 4) operand → (start mid next : Stream) (left x : Expr) → Took (tree 4 left) start mid → is_after operand start (here mid) left mid ≡ Some (x, next) → Took (tree 3 x) start next
is_took operand r start mid next left x f h =
    let one = behind h in
    let two = behind one.second in
    let passed : Took (word s.Is ∷ p.when two.value s.Not) mid two.mid = expected one.first then optional_took s.Not one.mid two.mid two.value two.first in
    elim (chosen {b = sees s.Distinct two.mid} two.second) [
      | inl (b, k) ↦ distinct_took operand r start mid two.mid next left x two.value f passed k
      | inr (b, k) ↦ tested_took start mid two.mid next left x two.value f passed k
    ]

word_took : (k : Symbol) (found : Test) → g.test_words found ≡ word k ∷ [] → (start mid next : Stream) (left x : Expr) → Took (tree 4 left) start mid → (expect k >>= (λ _. node start (here mid) (e.Tested left found))) mid ≡ Some (x, next) → Took (tree 3 x) start next
word_took k found is start mid next left x f h =
    let one = behind h in
    affixed 3 4 (e.Tested left found) left (word k ∷ []) (omega arith)
    (q.facts-tested left found (here mid) ∙ ap (λ qs. built 3 1 (Piece.part 4 (tree_facts left) ∷ at (here mid) ∷ qs)) is)
    f (expected one.first) one.second

null_took : (start mid next : Stream) (left x : Expr) → Took (tree 4 left) start mid → null_after start (here mid) left mid ≡ Some (x, next) → Took (tree 3 x) start next
null_took start mid next left x f h = elim (chosen {b = sees s.IsNull mid} h) [
  | inl (b, k) ↦ word_took s.IsNull test.NullWord refl start mid next left x f k
  | inr (b, k) ↦ elim (chosen {b = sees s.NotNull mid} k) [
    | inl (c, l) ↦ word_took s.NotNull test.NotNullWord refl start mid next left x f l
    | inr (c, l) ↦ lower 3 x (given (tree 4) l f)
  ]
]

pub takes_testing : (operand : Parser Expr) → Spells (tree 4) operand → Spells (tree 3) (testing operand)
unfolding testing
takes_testing operand r start next x h =
    let one = behind h in
    let f = r start one.mid one.value one.first in
    elim (chosen {b = sees s.Is one.mid} one.second) [
      | inl (b, k) ↦ is_took operand r start one.mid next one.value x f k
      | inr (b, k) ↦ null_took start one.mid next one.value x f k
    ]
