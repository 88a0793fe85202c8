use Rattle.std.proofs.Common.{◌≡◌, drop}
use Rattle.std.specs.List.{list_all}
use Rattle.sq_overload.specs.Converts.{is_one_type}
use Rattle.sq_overload.proofs.agreement.are_one_type.Given as goal

-- every type so far is the first
abbrev pub invariant-loop-of : goal.invariant-loop-of
invariant-loop-of l = list_all (is_one_type l.first) (drop l.of-index l.types) ≡ list_all (is_one_type l.first) l.types
