use Rattle.std.proofs.Common.{◌≡◌, ◌||◌, not, drop}
use Rattle.std.specs.List.{list_all}
use Rattle.sq_base.specs.declared.types.PgType.{PgType}
use Rattle.sq_overload.specs.Converts.{is_known, is_one_type}
use Rattle.sq_overload.proofs.picking.assumed_from.Given as goal

-- every known argument so far is of the type
abbrev pub invariant-loop-of : goal.invariant-loop-of
invariant-loop-of l = list_all (λ (of : PgType). not (is_known of) || is_one_type l.first of) (drop l.of-index l.args) ≡ list_all (λ (of : PgType). not (is_known of) || is_one_type l.first of) l.args
