use Rattle.std.proofs.Common.{◌∙◌, ◌∷◌, [], ap, ℕ, true, false, refl, take, length, ◌-◌, ◌≤◌, arith}
use Rattle.std.proofs.lemmas.Str.Pattern.{ends_text}
use Rattle.sq_config.proofs.paths.without_slash.Goals as goal

pub returns-in-Some : goal.returns-in-Some
returns-in-Some c =
    let s = c.in-Some.ensures.cases in
    let within : s.0 ≤ length c.args.folder.now = omega (arith, s.3) in
    rw (← ends_text true (47 ∷ []) c.args.folder.now (s.0, s.1, within, rw s.1.0 s.1.2)) (s.2 ∙ ap (λ (n : ℕ). take (length c.args.folder.now - n) c.args.folder.now) s.1.0)

pub returns-in-None : goal.returns-in-None
returns-in-None c = rw (← ends_text false (47 ∷ []) c.args.folder.now c.in-None.ensures.cases) refl
