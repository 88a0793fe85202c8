use Rattle.std.proofs.Common.{◌≡◌, ◌-◌, ◌^◌, min, take}
use Rattle.sq_base.specs.Constants.{value}
use Rattle.sq_base.proofs.constant.value.Given as goal

-- what the digits so far say, or the greatest number
abbrev pub invariant-loop-digit : goal.invariant-loop-digit
invariant-loop-digit l = l.value ≡ min (value (take l.digit-index l.digits)) (2 ^ 64 - 1)
