-- Every well-levelled expression has a token.
use Rattle.std.proofs.Common.{◌≡◌, ◌≤◌, true, false, List, [], ◌∷◌, ◌++◌, sym, ap, subst, arith}
use Rattle.std.specs.Prelude.{◌&&◌}
use Rattle.sq_base.specs.declared.place.Place.{Place}
use Rattle.sq_syntax.specs.declared.symbol.Reading.TheVariants as reading
use Rattle.sq_syntax.specs.declared.name.ColumnName.TheVariants as column_name
use Rattle.sq_syntax.specs.declared.expr.Parameter.TheVariants as parameter
use Rattle.sq_syntax.specs.declared.expr.Test.{Test}
use Rattle.sq_syntax.specs.declared.expr.Test.TheVariants as test
use Rattle.sq_syntax.specs.declared.expr.Expression.{out-Expression}
use Rattle.sq_syntax.specs.declared.expr.Expression.TheOpen.{Expression-F}
use Rattle.sq_syntax.specs.Facts.{Mark, Facts, from, marks_of}
use Rattle.sq_syntax.specs.ExpressionPieces as g
use Rattle.sq_syntax.specs.ExpressionPieces.{expression_layer}
use Rattle.sq_syntax.specs.Pieces as p
use Rattle.sq_syntax.specs.Grammar.{tree_facts, expression_facts}
use Rattle.sq_grammar.specs.Levels.{Expr}
use Rattle.sq_grammar.proofs.Runs.{both}
use Rattle.sq_grammar.proofs.Complete.{only_if-from}
use Rattle.sq_grammar.proofs.Joints.{false_true}
use Rattle.sq_grammar.proofs.Layers.{ExpressionLayer, expression_parts, expression_out}
use Rattle.sq_grammar.proofs.Takes.{tokens_of}
use Rattle.sq_grammar.proofs.TakeChains.{marks_append}
use Rattle.sq_grammar.proofs.TakeAffixes.{one_right}

-- behind a part stands a token
right : (a b : List Mark) → 1 ≤ tokens_of b → 1 ≤ tokens_of (a ++ b)
right a b le = omega (arith, le, marks_append a b)

some_test : (x : Test) → 1 ≤ tokens_of (marks_of (g.test_words x))
some_test test.Null = omega arith
some_test test.NotNull = omega arith
some_test test.True = omega arith
some_test test.NotTrue = omega arith
some_test test.False = omega arith
some_test test.NotFalse = omega arith
some_test test.Unknown = omega arith
some_test test.NotUnknown = omega arith
some_test test.NullWord = omega arith
some_test test.NotNullWord = omega arith

layer_one : (l : ExpressionLayer) (place : Place) → from 0 (expression_layer (expression_parts l) place).level ≡ true → 1 ≤ tokens_of (expression_layer (expression_parts l) place).marks
layer_one (Expression-F.Constant x) place ok = omega arith
layer_one (Expression-F.Parameter (parameter.Numbered x)) place ok = omega arith
layer_one (Expression-F.Parameter (parameter.Named x)) place ok = omega arith
layer_one (Expression-F.Parameter (parameter.Called x y)) place ok = omega arith
layer_one (Expression-F.Column (column_name.Bare x)) place ok = omega arith
layer_one (Expression-F.Column (column_name.OfRange x y)) place ok = omega arith
layer_one (Expression-F.Column (column_name.OfTable x y z)) place ok = omega arith
layer_one (Expression-F.Bracketed y) place ok = omega arith
layer_one (Expression-F.Scalar x) place ok = omega arith
layer_one (Expression-F.Exists x) place ok = omega arith
layer_one (Expression-F.ArrayList xs) place ok = omega arith
layer_one (Expression-F.ArrayQuery x) place ok = omega arith
layer_one (Expression-F.Case x arms last) place ok = omega arith
layer_one (Expression-F.Cast x to) place ok = omega arith
layer_one (Expression-F.TypedText to text) place ok = one_right (p.type to) (p.say (reading.Text text) ∷ []) (omega arith)
layer_one (Expression-F.Pooled word xs) place ok = omega arith
layer_one (Expression-F.NullIf x y) place ok = omega arith
layer_one (Expression-F.Extract field x) place ok = omega arith
layer_one (Expression-F.Moment x) place ok = omega arith
layer_one (Expression-F.Call x inside last) place ok = omega arith
layer_one (Expression-F.Subscript y []) place ok = absurd (false_true (both (g.is_indexable (tree_facts y)) false (only_if-from (g.is_indexable (tree_facts y) && false) 14 0 ok)).1)
layer_one (Expression-F.Subscript y (l ∷ links)) place ok = right (tree_facts y).marks _ (omega arith)
layer_one (Expression-F.Converted y []) place ok = absurd (false_true ok)
layer_one (Expression-F.Converted y (l ∷ links)) place ok = right (tree_facts y).marks _ (omega arith)
layer_one (Expression-F.Collated y []) place ok = absurd (false_true ok)
layer_one (Expression-F.Collated y (l ∷ links)) place ok = right (tree_facts y).marks _ (omega arith)
layer_one (Expression-F.AtTimeZone y []) place ok = absurd (false_true ok)
layer_one (Expression-F.AtTimeZone y (l ∷ links)) place ok = right (tree_facts y).marks _ (omega arith)
layer_one (Expression-F.And y []) place ok = absurd (false_true ok)
layer_one (Expression-F.And y (l ∷ links)) place ok = right (tree_facts y).marks _ (omega arith)
layer_one (Expression-F.Or y []) place ok = absurd (false_true ok)
layer_one (Expression-F.Or y (l ∷ links)) place ok = right (tree_facts y).marks _ (omega arith)
layer_one (Expression-F.Signed [] y) place ok = absurd (false_true ok)
layer_one (Expression-F.Signed (l ∷ marks) y) place ok = omega arith
layer_one (Expression-F.Not [] y) place ok = absurd (false_true ok)
layer_one (Expression-F.Not (l ∷ marks) y) place ok = omega arith
layer_one (Expression-F.Operation y []) place ok = absurd (false_true ok)
layer_one (Expression-F.Operation y (l ∷ links)) place ok = right (tree_facts y).marks _ (omega arith)
layer_one (Expression-F.Between y true symmetric low high) place ok = right (tree_facts y).marks _ (omega arith)
layer_one (Expression-F.Between y false symmetric low high) place ok = right (tree_facts y).marks _ (omega arith)
layer_one (Expression-F.InList y true xs) place ok = right (tree_facts y).marks _ (omega arith)
layer_one (Expression-F.InList y false xs) place ok = right (tree_facts y).marks _ (omega arith)
layer_one (Expression-F.InQuery y true query) place ok = right (tree_facts y).marks _ (omega arith)
layer_one (Expression-F.InQuery y false query) place ok = right (tree_facts y).marks _ (omega arith)
layer_one (Expression-F.Like y true word z) place ok = right (tree_facts y).marks _ (omega arith)
layer_one (Expression-F.Like y false word z) place ok = right (tree_facts y).marks _ (omega arith)
layer_one (Expression-F.Compared y by z) place ok = right (tree_facts y).marks _ (omega arith)
layer_one (Expression-F.AnyArray y by word z) place ok = right (tree_facts y).marks _ (omega arith)
layer_one (Expression-F.AnyQuery y by word query) place ok = right (tree_facts y).marks _ (omega arith)
layer_one (Expression-F.Tested y found) place ok = right (tree_facts y).marks _ (some_test found)
layer_one (Expression-F.Distinct y negated z) place ok = right (tree_facts y).marks _ (omega arith)

pub tree_one : (x : Expr) → from 0 (tree_facts x).level ≡ true → 1 ≤ tokens_of (tree_facts x).marks
tree_one x ok =
    let e = ap (λ f. f x.place) (expression_out x.form) in
    let one = layer_one (out-Expression x.form) x.place (subst (λ (y : Facts). from 0 y.level ≡ true) e ok) in
    let here = subst (λ (y : Facts). 1 ≤ tokens_of y.marks) (sym e) one in
    omega (arith, here, marks_append (expression_facts x.form x.place).marks (Mark.ends x.last ∷ []))
