use Rattle.std.proofs.Common.{◌≡◌, drop, map}
use Rattle.sq_migrate.specs.Types.{is_one}
use Rattle.sq_migrate.proofs.names.is_one.Given as goal

abbrev pub invariant-loop-word : goal.invariant-loop-word
invariant-loop-word l = is_one l.name (map (λ w. w.now) (drop l.word-index l.words)) ≡ is_one l.name (map (λ w. w.now) l.words)
