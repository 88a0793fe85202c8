use Rattle.std.proofs.Common.{◌≡◌, map, drop}
use Rattle.sq_shown.specs.Identifiers.{ends_with_any}
use Rattle.sq_shown.proofs.identifier.ends_with_any.Given as goal

-- the text has no end so far
abbrev pub invariant-loop-end : goal.invariant-loop-end
invariant-loop-end l = ends_with_any (map (λ end. end.now) (drop l.end-index l.ends)) l.text ≡ ends_with_any (map (λ end. end.now) l.ends) l.text
