use Rattle.std.proofs.Common.{◌≡◌, ℕ, ◌≤◌, Bool, true, false, [], ◌∷◌, ◌++◌, Option, Some, refl, ap, subst, ◌∙◌, arith, inl, inr}
use Rattle.sq_base.specs.declared.place.Place.{Place}
use Rattle.sq_syntax.specs.declared.symbol.Symbol.{Symbol}
use Rattle.sq_syntax.specs.declared.symbol.Symbol.TheVariants as s
use Rattle.sq_syntax.specs.declared.symbol.Reading.{Reading}
use Rattle.sq_syntax.specs.declared.symbol.Reading.TheVariants as reading
use Rattle.sq_syntax.specs.declared.expr.Expression.{Expression}
use Rattle.sq_syntax.specs.declared.expr.Expression.TheVariants as e
use Rattle.sq_syntax.specs.Facts.{Stream, Says, Along, first_place, Piece, Sort, from}
use Rattle.sq_syntax.specs.Pieces.{Operand, Placed, at, sym as word, say, is_empty}
use Rattle.sq_syntax.specs.ExpressionPieces as g
use Rattle.sq_syntax.specs.Grammar.{tree_facts, expression_facts}
use Rattle.sq_syntax.proofs.Equations as q
use Rattle.sq_syntax.proofs.Equations.{Shape, shape}
use Rattle.sq_grammar.specs.Reading.{Outcome, Parser, ◌>>=◌, pure, sees, expect, is, same, here, token}
use Rattle.sq_grammar.proofs.Runs.{Run}
use Rattle.sq_grammar.proofs.Complete.{step, says_expect, says_token, says_begins, stands_here, Reads, Framed, framed, opened, goes_on, above}
use Rattle.sq_grammar.proofs.Homes.{at_home}
use Rattle.sq_syntax.specs.Pieces as p
use Rattle.sq_grammar.proofs.Joints.{says_goes, false_true, unsaid}
use Rattle.sq_syntax.specs.declared.expr.Test.{Test}
use Rattle.sq_syntax.specs.declared.expr.Test.TheVariants as test
use Rattle.sq_grammar.specs.Reading.{choose, optional, node}
use Rattle.sq_grammar.specs.Levels.{Expr}
use Rattle.sq_grammar.specs.Tests.{test_of, tested, distinct, is_after, null_word, not_null_word, not_null_after, null_after, test_after, testing}
use Rattle.sq_grammar.proofs.Complete.{made, stops-more}
use Rattle.sq_grammar.proofs.ReadNames.{chosen, passed}
use Rattle.sq_grammar.proofs.ReadTypes.{other_symbol, that_symbol}

pub optional_no : (k : Symbol) (now : Stream) → sees k now ≡ false → optional k now ≡ Some (false, now)
unfolding optional
optional_no k now h = rw h refl

pub optional_yes : (k : Symbol) (now next : Stream) → Says (reading.Symbol k) now next → optional k now ≡ Some (true, next)
unfolding optional
optional_yes k now next h = rw (that_symbol k now next h) (step (expect k) (λ _. pure true) now next tt (says_expect k now next h))

-- an operand, and what is read behind it
pub operand_then : (operand : Parser Expr) (behind : Stream → Place → Expr → Parser Expr) (place : Place) (left : Expr) (start now : Stream) (r : Outcome Expr)
    → operand start ≡ Some (left, now) → first_place now.tokens ≡ Some place → behind start place left now ≡ r → (operand >>= (λ x at. behind start (here at) x at)) start ≡ r
operand_then operand behind place left start now r h at e =
    step operand (λ x at. behind start (here at) x at) start now left h ∙ ap (λ q. behind start q left now) (stands_here place now.tokens at) ∙ e

module _ (operand : Parser Expr) (start : Stream) (place : Place) (left : Expr) where
  plain_test : (r : Reading) (t : Test) (now u next : Stream) → Says (reading.Symbol s.Is) now u → (h : Says r u next) → is s.Not r ≡ false → is s.Distinct r ≡ false → test_of false r h.place ≡ Some t
      → test_after operand start place left now ≡ node start place (e.Tested left t) next
  plain_test r t now u next h k plain other found =
      chosen (sees s.Is) (is_after operand start place left) (null_after start place left) now (that_symbol s.Is now u h)
      ∙ step (expect s.Is) (λ _. optional s.Not >>= (λ negated. choose (sees s.Distinct) (distinct operand start place left negated) (tested start place left negated))) now u tt (says_expect s.Is now u h)
      ∙ step (optional s.Not) (λ negated. choose (sees s.Distinct) (distinct operand start place left negated) (tested start place left negated)) u u false (optional_no s.Not u (says_begins s.Not r u next k ∙ plain))
      ∙ passed (sees s.Distinct) (distinct operand start place left false) (tested start place left false) u (says_begins s.Distinct r u next k ∙ other)
      ∙ step (token (test_of false)) (λ x. node start place (e.Tested left x)) u next t (says_token (test_of false) t r u next k found)

  not_test : (r : Reading) (t : Test) (now u v next : Stream) → Says (reading.Symbol s.Is) now u → Says (reading.Symbol s.Not) u v → (h : Says r v next) → is s.Distinct r ≡ false → test_of true r h.place ≡ Some t
      → test_after operand start place left now ≡ node start place (e.Tested left t) next
  not_test r t now u v next h n k other found =
      chosen (sees s.Is) (is_after operand start place left) (null_after start place left) now (that_symbol s.Is now u h)
      ∙ step (expect s.Is) (λ _. optional s.Not >>= (λ negated. choose (sees s.Distinct) (distinct operand start place left negated) (tested start place left negated))) now u tt (says_expect s.Is now u h)
      ∙ step (optional s.Not) (λ negated. choose (sees s.Distinct) (distinct operand start place left negated) (tested start place left negated)) u v true (optional_yes s.Not u v n)
      ∙ passed (sees s.Distinct) (distinct operand start place left true) (tested start place left true) v (says_begins s.Distinct r v next k ∙ other)
      ∙ step (token (test_of true)) (λ x. node start place (e.Tested left x)) v next t (says_token (test_of true) t r v next k found)

  words_test : (d : ℕ) (t : Test) (now next : Stream) → Run (g.test_words t) d now next → test_after operand start place left now ≡ node start place (e.Tested left t) next
  unfolding same
  words_test d test.Null now next run = plain_test (reading.Symbol s.Null) test.Null now run.0 run.3.0 run.1 run.3.1 refl refl refl ∙ ap (λ v. node start place (e.Tested left test.Null) v) run.3.3
  words_test d test.NotNull now next run = not_test (reading.Symbol s.Null) test.NotNull now run.0 run.3.0 run.3.3.0 run.1 run.3.1 run.3.3.1 refl refl ∙ ap (λ v. node start place (e.Tested left test.NotNull) v) run.3.3.3
  words_test d test.True now next run = plain_test (reading.Symbol s.True) test.True now run.0 run.3.0 run.1 run.3.1 refl refl refl ∙ ap (λ v. node start place (e.Tested left test.True) v) run.3.3
  words_test d test.NotTrue now next run = not_test (reading.Symbol s.True) test.NotTrue now run.0 run.3.0 run.3.3.0 run.1 run.3.1 run.3.3.1 refl refl ∙ ap (λ v. node start place (e.Tested left test.NotTrue) v) run.3.3.3
  words_test d test.False now next run = plain_test (reading.Symbol s.False) test.False now run.0 run.3.0 run.1 run.3.1 refl refl refl ∙ ap (λ v. node start place (e.Tested left test.False) v) run.3.3
  words_test d test.NotFalse now next run = not_test (reading.Symbol s.False) test.NotFalse now run.0 run.3.0 run.3.3.0 run.1 run.3.1 run.3.3.1 refl refl ∙ ap (λ v. node start place (e.Tested left test.NotFalse) v) run.3.3.3
  words_test d test.Unknown now next run = plain_test (reading.Symbol s.Unknown) test.Unknown now run.0 run.3.0 run.1 run.3.1 refl refl refl ∙ ap (λ v. node start place (e.Tested left test.Unknown) v) run.3.3
  words_test d test.NotUnknown now next run = not_test (reading.Symbol s.Unknown) test.NotUnknown now run.0 run.3.0 run.3.3.0 run.1 run.3.1 run.3.3.1 refl refl ∙ ap (λ v. node start place (e.Tested left test.NotUnknown) v) run.3.3.3
  words_test d test.NullWord now next run =
      passed (sees s.Is) (is_after operand start place left) (null_after start place left) now (other_symbol s.Is s.IsNull now run.0 run.1 refl)
      ∙ chosen (sees s.IsNull) (null_word start place left) (not_null_after start place left) now (that_symbol s.IsNull now run.0 run.1)
      ∙ step (expect s.IsNull) (λ _. node start place (e.Tested left test.NullWord)) now run.0 tt (says_expect s.IsNull now run.0 run.1) ∙ ap (λ v. node start place (e.Tested left test.NullWord) v) run.3
  words_test d test.NotNullWord now next run =
      passed (sees s.Is) (is_after operand start place left) (null_after start place left) now (other_symbol s.Is s.NotNull now run.0 run.1 refl)
      ∙ passed (sees s.IsNull) (null_word start place left) (not_null_after start place left) now (other_symbol s.IsNull s.NotNull now run.0 run.1 refl)
      ∙ chosen (sees s.NotNull) (not_null_word start place left) (pure left) now (that_symbol s.NotNull now run.0 run.1)
      ∙ step (expect s.NotNull) (λ _. node start place (e.Tested left test.NotNullWord)) now run.0 tt (says_expect s.NotNull now run.0 run.1) ∙ ap (λ v. node start place (e.Tested left test.NotNullWord) v) run.3

  words_stop : (d : ℕ) (t : Test) (now next : Stream) → Run (g.test_words t) d now next → goes_on 4 now ≡ false
  words_stop d test.Null now next run = says_goes 4 (reading.Symbol s.Is) now run.0 run.1
  words_stop d test.NotNull now next run = says_goes 4 (reading.Symbol s.Is) now run.0 run.1
  words_stop d test.True now next run = says_goes 4 (reading.Symbol s.Is) now run.0 run.1
  words_stop d test.NotTrue now next run = says_goes 4 (reading.Symbol s.Is) now run.0 run.1
  words_stop d test.False now next run = says_goes 4 (reading.Symbol s.Is) now run.0 run.1
  words_stop d test.NotFalse now next run = says_goes 4 (reading.Symbol s.Is) now run.0 run.1
  words_stop d test.Unknown now next run = says_goes 4 (reading.Symbol s.Is) now run.0 run.1
  words_stop d test.NotUnknown now next run = says_goes 4 (reading.Symbol s.Is) now run.0 run.1
  words_stop d test.NullWord now next run = says_goes 4 (reading.Symbol s.IsNull) now run.0 run.1
  words_stop d test.NotNullWord now next run = says_goes 4 (reading.Symbol s.NotNull) now run.0 run.1

  distinct_words : (d : ℕ) (negated : Bool) (y : Expr) (now next : Stream) → Reads d 4 operand → goes_on 3 next ≡ false
      → Run (word s.Is ∷ p.when negated s.Not ++ word s.Distinct ∷ word s.From ∷ Piece.part 4 (tree_facts y) ∷ []) d now next
      → test_after operand start place left now ≡ node start place (e.Distinct left negated y) next
  unfolding same
  distinct_words d false y now next r stop run =
      let u = run.0 in
      let v = run.3.0 in
      let w = run.3.3.0 in
      let t = run.3.3.3 in
      chosen (sees s.Is) (is_after operand start place left) (null_after start place left) now (that_symbol s.Is now u run.1)
      ∙ step (expect s.Is) (λ _. optional s.Not >>= (λ n. choose (sees s.Distinct) (distinct operand start place left n) (tested start place left n))) now u tt (says_expect s.Is now u run.1)
      ∙ step (optional s.Not) (λ n. choose (sees s.Distinct) (distinct operand start place left n) (tested start place left n)) u u false (optional_no s.Not u (other_symbol s.Not s.Distinct u v run.3.1 refl))
      ∙ chosen (sees s.Distinct) (distinct operand start place left false) (tested start place left false) u (that_symbol s.Distinct u v run.3.1)
      ∙ step (expect s.Distinct) (λ _. expect s.From >>= (λ _. operand >>= (λ z. node start place (e.Distinct left false z)))) u v tt (says_expect s.Distinct u v run.3.1)
      ∙ step (expect s.From) (λ _. operand >>= (λ z. node start place (e.Distinct left false z))) v w tt (says_expect s.From v w run.3.3.1)
      ∙ step operand (λ z. node start place (e.Distinct left false z)) w next y (r.reads y w next t.1 t.2 (subst (λ a. Along (tree_facts y).marks w a) t.4 t.3) (stops-more 3 4 next (omega arith) stop))
  distinct_words d true y now next r stop run =
      let u = run.0 in
      let n = run.3.0 in
      let v = run.3.3.0 in
      let w = run.3.3.3.0 in
      let t = run.3.3.3.3 in
      chosen (sees s.Is) (is_after operand start place left) (null_after start place left) now (that_symbol s.Is now u run.1)
      ∙ step (expect s.Is) (λ _. optional s.Not >>= (λ b. choose (sees s.Distinct) (distinct operand start place left b) (tested start place left b))) now u tt (says_expect s.Is now u run.1)
      ∙ step (optional s.Not) (λ b. choose (sees s.Distinct) (distinct operand start place left b) (tested start place left b)) u n true (optional_yes s.Not u n run.3.1)
      ∙ chosen (sees s.Distinct) (distinct operand start place left true) (tested start place left true) n (that_symbol s.Distinct n v run.3.3.1)
      ∙ step (expect s.Distinct) (λ _. expect s.From >>= (λ _. operand >>= (λ z. node start place (e.Distinct left true z)))) n v tt (says_expect s.Distinct n v run.3.3.1)
      ∙ step (expect s.From) (λ _. operand >>= (λ z. node start place (e.Distinct left true z))) v w tt (says_expect s.From v w run.3.3.3.1)
      ∙ step operand (λ z. node start place (e.Distinct left true z)) w next y (r.reads y w next t.1 t.2 (subst (λ a. Along (tree_facts y).marks w a) t.4 t.3) (stops-more 3 4 next (omega arith) stop))

pub no_test : (operand : Parser Expr) (start : Stream) (place : Place) (left : Expr) (now : Stream) → goes_on 3 now ≡ false → test_after operand start place left now ≡ Some (left, now)
no_test operand start place left now stop =
    passed (sees s.Is) (is_after operand start place left) (null_after start place left) now (unsaid 3 now s.Is (λ rest. refl) stop)
    ∙ passed (sees s.IsNull) (null_word start place left) (not_null_after start place left) now (unsaid 3 now s.IsNull (λ rest. refl) stop)
    ∙ passed (sees s.NotNull) (not_null_word start place left) (pure left) now (unsaid 3 now s.NotNull (λ rest. refl) stop)

pub from_level : {n : ℕ} {found : Option ℕ} → found ≡ Some n → from n found ≡ true
from_level {n = n} h = ap (λ o. from n o) h ∙ Rattle.sq_grammar.proofs.Joints.from_self n

-- what stands at the level of tests
module _ (d : ℕ) (operand : Parser Expr) (r : Reads d 4 operand) where
  tested_here : (form : Expression) (k : Shape form) (x : Expr) (now next : Stream) → x.form ≡ form → (expression_facts form x.place).level ≡ Some 3 → (expression_facts form x.place).depth ≤ d → Along (expression_facts form x.place).marks now next → Framed x now next
      → goes_on 3 next ≡ false → testing operand now ≡ Some (x, next)
  unfolding testing
  tested_here _ (Shape.tested left t) x now next is st de a f stop =
      let run = opened Sort.plain 3 1 3 d (Piece.part 4 (tree_facts left) ∷ at x.place ∷ g.test_words t) (expression_facts (e.Tested left t) x.place) now next (q.facts-tested left t x.place) (from_level st) de a in
      let u = run.0 in
      operand_then operand (test_after operand) x.place left now u (Some (x, next)) (r.reads left now u run.1 run.2 run.3 (words_stop operand now x.place left d t u next run.4.1)) run.4.0
      (words_test operand now x.place left d t u next run.4.1 ∙ made x now next x.place (e.Tested left t) f refl is)
  tested_here _ (Shape.distinct left negated y) x now next is st de a f stop =
      let run = opened Sort.plain 3 1 3 d (Piece.part 4 (tree_facts left) ∷ at x.place ∷ word s.Is ∷ p.when negated s.Not ++ word s.Distinct ∷ word s.From ∷ Piece.part 4 (tree_facts y) ∷ []) (expression_facts (e.Distinct left negated y) x.place) now next (q.facts-distinct left negated y x.place) (from_level st) de a in
      let u = run.0 in
      operand_then operand (test_after operand) x.place left now u (Some (x, next)) (r.reads left now u run.1 run.2 run.3 (says_goes 4 (reading.Symbol s.Is) u run.4.1.0 run.4.1.1)) run.4.0
      (distinct_words operand now x.place left d negated y u next r stop run.4.1 ∙ made x now next x.place (e.Distinct left negated y) f refl is)
  tested_here _ (Shape.operation y links) x now next is st de a f stop = let bad = at_home _ (Shape.operation y links) x.place 3 st in absurd (omega (arith, bad.0))
  tested_here form k x now next is st de a f stop = let bad = at_home form k x.place 3 st in absurd (first_of (omega arith, cc))

  tested_lift : (x : Expr) (now next : Stream) → from 4 (tree_facts x).level ≡ true → (tree_facts x).depth ≤ d → Along (tree_facts x).marks now next → goes_on 3 next ≡ false → testing operand now ≡ Some (x, next)
  unfolding testing
  tested_lift x now next st de a stop =
      step operand (λ left at. test_after operand now (here at) left at) now next x (r.reads x now next st de a (stops-more 3 4 next (omega arith) stop)) ∙ no_test operand now (here next) x next stop

  pub reads_testing : Reads d 3 (testing operand)
  reads_testing = record {
    reads = λ x now next st de a stop. elim (above 3 (tree_facts x).level st) [
      | inl here ↦ let f = framed x now next a in tested_here x.form (shape x.form) x now next refl here de f.along f stop
      | inr up ↦ tested_lift x now next up de a stop
    ];
  }
