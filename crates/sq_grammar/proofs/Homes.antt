-- At which level each kind of expression stands.
use Rattle.std.proofs.Common.{◌≡◌, ℕ, ◌≤◌, true, false, [], ◌∷◌, Some, None, sym, ap, ◌∙◌, arith}
use Rattle.sq_base.specs.declared.place.Place.{Place}
use Rattle.sq_syntax.specs.declared.expr.Operator.{Operator}
use Rattle.sq_syntax.specs.declared.expr.Operator.TheVariants as operator
use Rattle.sq_syntax.specs.declared.expr.Expression.{Expression}
use Rattle.sq_syntax.specs.Facts.{Facts}
use Rattle.sq_syntax.specs.ExpressionPieces.{chain_level, is_level, or_none}
use Rattle.sq_syntax.specs.Grammar.{expression_facts}
use Rattle.sq_syntax.proofs.Equations as q
use Rattle.sq_syntax.proofs.Equations.{Shape, shape}
use Rattle.sq_grammar.proofs.Runs.{both}
use Rattle.sq_grammar.proofs.Complete.{only_if-some}

-- the levels of operators
abbrev pub Operates : ℕ → Type 0
Operates n = (6 ≤ n) × (n ≤ 9)

abbrev pub is_home : {form : Expression} → Shape form → ℕ → Type 0
is_home (Shape.constant x) n = 15 ≡ n
is_home (Shape.parameter x) n = 15 ≡ n
is_home (Shape.column x) n = 15 ≡ n
is_home (Shape.bracketed x) n = 15 ≡ n
is_home (Shape.scalar x) n = 15 ≡ n
is_home (Shape.exists x) n = 15 ≡ n
is_home (Shape.array_list xs) n = 15 ≡ n
is_home (Shape.array_query x) n = 15 ≡ n
is_home (Shape.case x arms last) n = 15 ≡ n
is_home (Shape.cast x to) n = 15 ≡ n
is_home (Shape.typed_text to text) n = 15 ≡ n
is_home (Shape.pooled word xs) n = 15 ≡ n
is_home (Shape.null_if x y) n = 15 ≡ n
is_home (Shape.extract word x) n = 15 ≡ n
is_home (Shape.moment x) n = 15 ≡ n
is_home (Shape.call x within last) n = 15 ≡ n
is_home (Shape.subscript x links) n = 14 ≡ n
is_home (Shape.converted x links) n = 13 ≡ n
is_home (Shape.signed signs x) n = 12 ≡ n
is_home (Shape.collated x links) n = 11 ≡ n
is_home (Shape.at_time_zone x links) n = 10 ≡ n
is_home (Shape.operation x links) n = Operates n
is_home (Shape.between x negated symmetric low high) n = 5 ≡ n
is_home (Shape.in_list x negated xs) n = 5 ≡ n
is_home (Shape.in_query x negated query) n = 5 ≡ n
is_home (Shape.like x negated word y) n = 5 ≡ n
is_home (Shape.compared x by y) n = 4 ≡ n
is_home (Shape.any_array x by word y) n = 4 ≡ n
is_home (Shape.any_query x by word query) n = 4 ≡ n
is_home (Shape.tested x test) n = 3 ≡ n
is_home (Shape.distinct x negated y) n = 3 ≡ n
is_home (Shape.not places x) n = 2 ≡ n
is_home (Shape.and x links) n = 1 ≡ n
is_home (Shape.or x links) n = 0 ≡ n

comparison_level : (n : ℕ) → is_level n None ≡ true → ⊥
comparison_level n h = absurd (cc)

operates : (x : Operator) (n : ℕ) → is_level (or_none (chain_level x)) (chain_level x) ≡ true → or_none (chain_level x) ≡ n → Operates n
operates operator.Power n h e = (omega (arith, e), omega (arith, e))
operates operator.Times n h e = (omega (arith, e), omega (arith, e))
operates operator.Divide n h e = (omega (arith, e), omega (arith, e))
operates operator.Modulo n h e = (omega (arith, e), omega (arith, e))
operates operator.Plus n h e = (omega (arith, e), omega (arith, e))
operates operator.Minus n h e = (omega (arith, e), omega (arith, e))
operates (operator.Comparison x) n h e = absurd (comparison_level 0 h)
operates (operator.Other bytes) n h e = (omega (arith, e), omega (arith, e))

only_some : {m n : ℕ} → Some m ≡ Some n → m ≡ n
only_some h = cc

false_true : false ≡ true → ⊥
false_true h = cc

pub at_home : (form : Expression) (k : Shape form) (p : Place) (n : ℕ) → (expression_facts form p).level ≡ Some n → is_home k n
at_home _ (Shape.constant x) p n h = only_some (sym (ap (λ (f : Facts). f.level) (q.facts-constant x p)) ∙ h)
at_home _ (Shape.parameter x) p n h = (only_if-some _ 15 n (sym (ap (λ (f : Facts). f.level) (q.facts-parameter x p)) ∙ h)).1
at_home _ (Shape.column x) p n h = (only_if-some _ 15 n (sym (ap (λ (f : Facts). f.level) (q.facts-column x p)) ∙ h)).1
at_home _ (Shape.bracketed x) p n h = (only_if-some _ 15 n (sym (ap (λ (f : Facts). f.level) (q.facts-bracketed x p)) ∙ h)).1
at_home _ (Shape.scalar x) p n h = (only_if-some _ 15 n (sym (ap (λ (f : Facts). f.level) (q.facts-scalar x p)) ∙ h)).1
at_home _ (Shape.exists x) p n h = (only_if-some _ 15 n (sym (ap (λ (f : Facts). f.level) (q.facts-exists x p)) ∙ h)).1
at_home _ (Shape.array_list xs) p n h = (only_if-some _ 15 n (sym (ap (λ (f : Facts). f.level) (q.facts-array_list xs p)) ∙ h)).1
at_home _ (Shape.array_query x) p n h = (only_if-some _ 15 n (sym (ap (λ (f : Facts). f.level) (q.facts-array_query x p)) ∙ h)).1
at_home _ (Shape.case x arms last) p n h = (only_if-some _ 15 n (sym (ap (λ (f : Facts). f.level) (q.facts-case x arms last p)) ∙ h)).1
at_home _ (Shape.cast x to) p n h = (only_if-some _ 15 n (sym (ap (λ (f : Facts). f.level) (q.facts-cast x to p)) ∙ h)).1
at_home _ (Shape.typed_text to text) p n h = (only_if-some _ 15 n (sym (ap (λ (f : Facts). f.level) (q.facts-typed_text to text p)) ∙ h)).1
at_home _ (Shape.pooled word xs) p n h = (only_if-some _ 15 n (sym (ap (λ (f : Facts). f.level) (q.facts-pooled word xs p)) ∙ h)).1
at_home _ (Shape.null_if x y) p n h = (only_if-some _ 15 n (sym (ap (λ (f : Facts). f.level) (q.facts-null_if x y p)) ∙ h)).1
at_home _ (Shape.extract word x) p n h = (only_if-some _ 15 n (sym (ap (λ (f : Facts). f.level) (q.facts-extract word x p)) ∙ h)).1
at_home _ (Shape.moment x) p n h = only_some (sym (ap (λ (f : Facts). f.level) (q.facts-moment x p)) ∙ h)
at_home _ (Shape.call x within last) p n h = (only_if-some _ 15 n (sym (ap (λ (f : Facts). f.level) (q.facts-call x within last p)) ∙ h)).1
at_home _ (Shape.subscript x links) p n h = (only_if-some _ 14 n (sym (ap (λ (f : Facts). f.level) (q.facts-subscript x links p)) ∙ h)).1
at_home _ (Shape.converted x links) p n h = (only_if-some _ 13 n (sym (ap (λ (f : Facts). f.level) (q.facts-converted x links p)) ∙ h)).1
at_home _ (Shape.signed signs x) p n h = (only_if-some _ 12 n (sym (ap (λ (f : Facts). f.level) (q.facts-signed signs x p)) ∙ h)).1
at_home _ (Shape.collated x links) p n h = (only_if-some _ 11 n (sym (ap (λ (f : Facts). f.level) (q.facts-collated x links p)) ∙ h)).1
at_home _ (Shape.at_time_zone x links) p n h = (only_if-some _ 10 n (sym (ap (λ (f : Facts). f.level) (q.facts-at_time_zone x links p)) ∙ h)).1
at_home _ (Shape.operation x []) p n h = absurd (false_true (only_if-some _ 0 n (sym (ap (λ (f : Facts). f.level) (q.facts-operation x [] p)) ∙ h)).0)
at_home _ (Shape.operation x (l ∷ links)) p n h =
    let g = only_if-some _ (or_none (chain_level l.operator)) n (sym (ap (λ (f : Facts). f.level) (q.facts-operation x (l ∷ links) p)) ∙ h) in
    operates l.operator n (both _ _ (both _ _ g.0).1).0 g.1
at_home _ (Shape.between x negated symmetric low high) p n h = (only_if-some _ 5 n (sym (ap (λ (f : Facts). f.level) (q.facts-between x negated symmetric low high p)) ∙ h)).1
at_home _ (Shape.in_list x negated xs) p n h = (only_if-some _ 5 n (sym (ap (λ (f : Facts). f.level) (q.facts-in_list x negated xs p)) ∙ h)).1
at_home _ (Shape.in_query x negated query) p n h = (only_if-some _ 5 n (sym (ap (λ (f : Facts). f.level) (q.facts-in_query x negated query p)) ∙ h)).1
at_home _ (Shape.like x negated word y) p n h = (only_if-some _ 5 n (sym (ap (λ (f : Facts). f.level) (q.facts-like x negated word y p)) ∙ h)).1
at_home _ (Shape.compared x by y) p n h = (only_if-some _ 4 n (sym (ap (λ (f : Facts). f.level) (q.facts-compared x by y p)) ∙ h)).1
at_home _ (Shape.any_array x by word y) p n h = (only_if-some _ 4 n (sym (ap (λ (f : Facts). f.level) (q.facts-any_array x by word y p)) ∙ h)).1
at_home _ (Shape.any_query x by word query) p n h = (only_if-some _ 4 n (sym (ap (λ (f : Facts). f.level) (q.facts-any_query x by word query p)) ∙ h)).1
at_home _ (Shape.tested x test) p n h = (only_if-some _ 3 n (sym (ap (λ (f : Facts). f.level) (q.facts-tested x test p)) ∙ h)).1
at_home _ (Shape.distinct x negated y) p n h = (only_if-some _ 3 n (sym (ap (λ (f : Facts). f.level) (q.facts-distinct x negated y p)) ∙ h)).1
at_home _ (Shape.not places x) p n h = (only_if-some _ 2 n (sym (ap (λ (f : Facts). f.level) (q.facts-not places x p)) ∙ h)).1
at_home _ (Shape.and x links) p n h = (only_if-some _ 1 n (sym (ap (λ (f : Facts). f.level) (q.facts-and x links p)) ∙ h)).1
at_home _ (Shape.or x links) p n h = (only_if-some _ 0 n (sym (ap (λ (f : Facts). f.level) (q.facts-or x links p)) ∙ h)).1
