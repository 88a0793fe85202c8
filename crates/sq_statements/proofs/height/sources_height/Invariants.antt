use Rattle.std.proofs.Common.{◌≡◌, ◌-◌, ◌^◌, min, take}
use Rattle.sq_syntax.specs.Grammar.{from_height}
use Rattle.sq_statements.specs.Heights.{greatest}
use Rattle.sq_statements.proofs.height.sources_height.Given as goal

abbrev pub invariant-loop-source : goal.invariant-loop-source
invariant-loop-source l = l.most ≡ min (greatest from_height (take l.source-index l.sources)) (2 ^ 32 - 1)
