-- Chains and prefixes, by their first link or mark.
use Rattle.std.proofs.Common.{◌≡◌, ◌-◌, List, [], ◌∷◌, Option, None, Some, refl, slice_get}
use Rattle.std.specs.Prelude.{option_map}
use Rattle.sq_base.specs.declared.place.Place.{Place}
use Rattle.sq_syntax.specs.declared.expr.Expression.{Expression}
use Rattle.sq_syntax.specs.Facts.{Stream}
use Rattle.sq_grammar.specs.Levels.{Expr, chained, prefixed}

abbrev headed : Stream → Stream → Option Place → Expression → Expr → Expr
headed start now None form x = x
headed start now (Some place) form x = record { place = place; first = start.at; last = now.at - 1; form = form }

pub chained_is : {L : Type 0} (start : Stream) (place : L → Place) (make : Expr → List L → Expression) (first : Expr) (links : List L) (now : Stream) →
    chained start place make first links now ≡ Some (headed start now (option_map place (slice_get links 0)) (make first links) first, now)
chained_is start place make first [] now = refl
chained_is start place make first (l ∷ links) now = refl

pub prefixed_is : {L : Type 0} (start : Stream) (place : L → Place) (make : List L → Expr → Expression) (marks : List L) (operand : Expr) (now : Stream) →
    prefixed start place make marks operand now ≡ Some (headed start now (option_map place (slice_get marks 0)) (make marks operand) operand, now)
prefixed_is start place make [] operand now = refl
prefixed_is start place make (l ∷ marks) operand now = refl
