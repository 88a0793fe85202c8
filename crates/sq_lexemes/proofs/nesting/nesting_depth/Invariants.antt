use Rattle.std.proofs.Common.{◌≡◌, ◌≤◌, ◌-◌, drop, length, map}
use Rattle.sq_syntax.specs.declared.symbol.Lexeme.{Lexeme}
use Rattle.sq_syntax.specs.Facts as facts
use Rattle.sq_lexemes.proofs.nesting.nesting_depth.Given as goal

abbrev pub invariant-loop-left : goal.invariant-loop-left
invariant-loop-left l = (l.depth ≡ facts.depth_before (map (λ (x : Lexeme). x.reading) (drop l.left l.lexemes)) 0) × (l.depth ≤ length l.lexemes - l.left) × (l.left ≤ length l.lexemes)

abbrev pub decreases-loop-left : goal.decreases-loop-left
decreases-loop-left l = l.left
