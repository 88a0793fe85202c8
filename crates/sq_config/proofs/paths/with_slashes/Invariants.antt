use Rattle.std.proofs.Common.{◌≡◌, ◌++◌, ◌∷◌, drop, map, string_bytes}
use Rattle.std.specs.List.{join_with_byte}
use Rattle.sq_config.proofs.Folders.{slashed}
use Rattle.sq_config.proofs.paths.with_slashes.Given as goal

abbrev pub invariant-loop-part : goal.invariant-loop-part
invariant-loop-part l = string_bytes l.path ++ slashed (map (λ p. p.now) (drop l.part-index l.rest)) ≡ l.folder ++ join_with_byte 47 (l.first ∷ map (λ p. p.now) l.rest)
