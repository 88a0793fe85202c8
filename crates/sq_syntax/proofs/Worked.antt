-- Worked rows of the grammar.
use Rattle.std.proofs.Common.{◌≡◌, ℕ, true, false, List, [], ◌∷◌, refl, ap}
use Rattle.std.specs.Prelude.{codes}
use Rattle.sq_base.specs.declared.place.Place.{Place}
use Rattle.sq_syntax.specs.declared.symbol.Symbol.TheVariants as s
use Rattle.sq_syntax.specs.declared.symbol.Reading.TheVariants as reading
use Rattle.sq_syntax.specs.declared.name.Identifier.{Identifier}
use Rattle.sq_syntax.specs.declared.name.ColumnName.TheVariants as column
use Rattle.sq_syntax.specs.declared.expr.Node.{Node}
use Rattle.sq_syntax.specs.declared.expr.Comparison.TheVariants as comparison
use Rattle.sq_syntax.specs.declared.expr.Operator.TheVariants as operator
use Rattle.sq_syntax.specs.declared.expr.Expression.{Expression}
use Rattle.sq_syntax.specs.declared.expr.Expression.TheVariants as e
use Rattle.sq_syntax.specs.Symbols.{word_reading}
use Rattle.sq_syntax.specs.Grammar.{spelled, well_levelled, tree_facts, expression_facts}
use Rattle.sq_syntax.specs.ExpressionPieces.{expression_layer}
use Rattle.sq_syntax.specs.declared.expr.Expression.TheOpen.{Expression-F}
use Rattle.sq_syntax.proofs.Equations.{layer_facts, facts-column, facts-operation, facts-compared}

abbrev here : Place
here = record { file = 0; line = 0; column = 0 }

abbrev node : Expression → Node Expression
node x = record { place = here; first = 0; last = 0; form = x }

abbrev name_of : List ℕ → Identifier
name_of word = record { name = word; is_quoted = false; place = here }

abbrev named : List ℕ → Node Expression
named word = node (e.Column (column.Bare (name_of word)))

abbrev a : Node Expression
a = named (codes "a")

abbrev b : Node Expression
b = named (codes "b")

abbrev c : Node Expression
c = named (codes "c")

facts_of_name : (word : List ℕ) → expression_facts (named word).form here ≡ expression_layer (layer_facts (Expression-F.Column (column.Bare (name_of word)))) here
facts_of_name word = facts-column (column.Bare (name_of word)) here

abbrev difference : Node Expression
difference = node (e.Operation a (record { place = here; operator = operator.Minus; operand = b } ∷ record { place = here; operator = operator.Minus; operand = c } ∷ []))

difference_is_spelled : spelled difference ≡ reading.Word (codes "a") ∷ reading.Symbol s.Minus ∷ reading.Word (codes "b") ∷ reading.Symbol s.Minus ∷ reading.Word (codes "c") ∷ []
unfolding word_reading
difference_is_spelled =
    rw (facts-operation a (record { place = here; operator = operator.Minus; operand = b } ∷ record { place = here; operator = operator.Minus; operand = c } ∷ []) here) (
    rw (facts_of_name (codes "a"), facts_of_name (codes "b"), facts_of_name (codes "c")) refl)

less : Node Expression → Node Expression → Node Expression
less x y = node (e.Compared x comparison.Less y)

level_of_less : (x y : Node Expression) → (tree_facts (less x y)).level ≡ (expression_layer (layer_facts (Expression-F.Compared x comparison.Less y)) here).level
unfolding less
level_of_less x y = ap (λ f. f.level) (facts-compared x comparison.Less y here)

one_comparison_is_well_levelled : well_levelled (less a b) ≡ true
unfolding word_reading
one_comparison_is_well_levelled = rw (level_of_less a b) (rw (facts_of_name (codes "a"), facts_of_name (codes "b")) refl)

chained_comparison_is_refused : well_levelled (less (less a b) c) ≡ false
unfolding word_reading
chained_comparison_is_refused = rw (level_of_less (less a b) c) (rw (level_of_less a b) (rw (facts_of_name (codes "a"), facts_of_name (codes "b")) refl))
