-- The parsers of a depth, level by level.
use Rattle.std.specs.Prelude.{ℕ, ◌==◌, if◌then◌else◌}
use Rattle.sq_grammar.specs.Reading.{Parser}
use Rattle.sq_grammar.specs.Levels.{Expr, zoned, operation, conjunction, disjunction, collated, converted, signed, negated}
use Rattle.sq_grammar.specs.Tests.{ranged, related, testing}
use Rattle.sq_grammar.specs.Primaries.{subscripted, expression}
pub use Rattle.sq_grammar.specs.Whole.{expressions, queries}

abbrev pub outer : ℕ → Parser Expr
outer depth = expression (expressions depth) (queries depth)

abbrev pub subscripted_at : ℕ → Parser Expr
subscripted_at depth = subscripted (expressions depth) (queries depth)

abbrev pub converted_at : ℕ → Parser Expr
converted_at depth = converted (subscripted_at depth)

abbrev pub signed_at : ℕ → Parser Expr
signed_at depth = signed (converted_at depth)

abbrev pub collated_at : ℕ → Parser Expr
collated_at depth = collated (signed_at depth)

abbrev pub zoned_at : ℕ → Parser Expr
zoned_at depth = zoned (collated_at depth)

-- the operands of a chain of operators of this level
abbrev pub operand_of : ℕ → ℕ → Parser Expr
operand_of level depth =
    if level == 9 then zoned_at depth
    else (if level == 8 then operation 9 (zoned_at depth)
    else (if level == 7 then operation 8 (operation 9 (zoned_at depth))
    else operation 7 (operation 8 (operation 9 (zoned_at depth)))))

abbrev pub above_tests_at : ℕ → Parser Expr
above_tests_at depth = operation 6 (operation 7 (operation 8 (operation 9 (zoned_at depth))))

abbrev pub ranged_at : ℕ → Parser Expr
ranged_at depth = ranged (expressions depth) (queries depth) (above_tests_at depth)

abbrev pub related_at : ℕ → Parser Expr
related_at depth = related (expressions depth) (queries depth) (ranged_at depth)

abbrev pub testing_at : ℕ → Parser Expr
testing_at depth = testing (related_at depth)

abbrev pub negated_at : ℕ → Parser Expr
negated_at depth = negated (testing_at depth)

abbrev pub conjunction_at : ℕ → Parser Expr
conjunction_at depth = conjunction (negated_at depth)
