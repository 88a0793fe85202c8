-- One more parameter of those that are settled.
use Rattle.std.proofs.Common.{◌≡◌, ℕ, ◌+◌, List, [], ◌∷◌, ◌++◌, Result, Ok, Err, ap, sym, ◌∙◌}
use Rattle.sq_base.specs.declared.place.Place.{Place}
use Rattle.sq_base.specs.declared.refusal.Refusal.{Refusal}
use Rattle.sq_catalog.specs.Contents.{Contents}
use Rattle.sq_core.specs.declared.weak.Weak.{Weak}
use Rattle.sq_shown.specs.declared.signature.Param.{Param}
use Rattle.sq_scope.specs.declared.demands.Demand.{Demand}
use Rattle.sq_scope.specs.Answers.{◌>>=◌, with_front}
use Rattle.sq_scope.specs.Demands.{settled_one, settled_from}
use Rattle.sq_scope.proofs.AnswersLemmas.{gives_err, front-step}

module _ (c : Contents) (weak : Weak) (first : Place) where
  -- the next parameter moves to the front
  pub settled-front : (number : ℕ) (front : List Param) (group : List Demand) (groups : List (List Demand)) (param : Param) → settled_one c weak first number group ≡ Ok param
      → with_front (front ++ param ∷ []) (settled_from c weak first (number + 1) groups) ≡ with_front front (settled_from c weak first number (group ∷ groups))
  settled-front number front group groups param known =
      front-step front param (settled_from c weak first (number + 1) groups)
      ∙ sym (ap (λ r. with_front front (r >>= (λ param. settled_from c weak first (number + 1) groups >>= (λ params. Ok (param ∷ params))))) known)

  -- a refusal of one is a refusal of all
  pub settled-refused : (number : ℕ) (front : List Param) (group : List Demand) (groups : List (List Demand)) (refusal : Refusal) → settled_one c weak first number group ≡ Err refusal
      → with_front front (settled_from c weak first number (group ∷ groups)) ≡ Err refusal
  settled-refused number front group groups refusal known =
      ap (λ r. with_front front (r >>= (λ param. settled_from c weak first (number + 1) groups >>= (λ params. Ok (param ∷ params))))) known

pub ruleset settle_steps = (settled-front, settled-refused, gives_err)
