-- A schema that nothing keeps goes.
use Rattle.std.proofs.Common.{◌≡◌, ℕ, Bool, true, false, not, ◌&&◌, cond, List, Result, Ok, Err, refl, sym, ap, subst, ◌∙◌}
use Rattle.sq_catalog.specs.Answers.{Answers}
use Rattle.sq_catalog.specs.Contents.{Contents}
use Rattle.sq_catalog.specs.Dropping.{holds, without_held, held_dropped}
use Rattle.sq_catalog.specs.declared.change.Cause.{Cause}
use Rattle.sq_catalog.specs.declared.change.ChangeFault.{ChangeFault}
use Rattle.sq_catalog.specs.declared.change.Cause.TheVariants.{InUse}

by_way : (way : Bool) (schema : List ℕ) (gone : Contents) (dropped : Result Contents Cause) → dropped ≡ cond way (Err (InUse schema)) (Ok gone) → way ≡ false → dropped ≡ Ok gone
by_way false schema gone dropped is free = is
by_way true schema gone dropped is free = absurd (cc free)

pub held_goes : (c new : Contents) (schema own other : List ℕ) (cascade : Bool) (result : Result (Unit {0}) ChangeFault)
    → own ≡ schema → other ≡ schema → (not cascade && holds c own) ≡ false → Answers c (Ok (without_held c other)) new result → Answers c (held_dropped c schema cascade) new result
held_goes c new schema own other cascade result same same_other free answers =
    let none : (not cascade && holds c schema) ≡ false = subst (λ (s : List ℕ). (not cascade && holds c s) ≡ false) same free in
    let so : held_dropped c schema cascade ≡ Ok (without_held c schema) = by_way (not cascade && holds c schema) schema (without_held c schema) (held_dropped c schema cascade) refl none in
    let too : held_dropped c schema cascade ≡ Ok (without_held c other) = so ∙ ap (λ (s : List ℕ). Ok (without_held c s)) (sym same_other) in
    subst (λ (stepped : Result Contents Cause). Answers c stepped new result) (sym too) answers
