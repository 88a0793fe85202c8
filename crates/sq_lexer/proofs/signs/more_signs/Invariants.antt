use Rattle.std.proofs.Common.{◌≡◌, ◌+◌, drop}
use Rattle.std.specs.Option.{option_map}
use Rattle.sq_lexer.specs.Reading.{more_signs}
use Rattle.sq_lexer.proofs.signs.more_signs.Given as goal

abbrev pub invariant-loop-index : goal.invariant-loop-index
invariant-loop-index l = option_map (λ n. n + l.index) (more_signs l.last (drop l.index l.bytes)) ≡ more_signs l.fn.last l.bytes
