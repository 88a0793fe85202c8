use Rattle.std.proofs.Common.{◌≡◌, ◌-◌, ◌^◌, min, take}
use Rattle.sq_statements.specs.Heights.{greatest, row_height}
use Rattle.sq_statements.proofs.height.rows_height.Given as goal

abbrev pub invariant-loop-row : goal.invariant-loop-row
invariant-loop-row l = l.most ≡ min (greatest row_height (take l.row-index l.rows)) (2 ^ 32 - 1)
