-- Steps that refuse.
use Rattle.std.proofs.Common.{◌≡◌, List, [], ◌∷◌, ◌++◌, Result, Ok, Err, refl, ap, append_assoc}
use Rattle.sq_base.specs.Answers.{Gives}
use Rattle.sq_base.specs.declared.refusal.Refusal.{Refusal}
use Rattle.sq_base.specs.declared.refusal.Fault.{Fault}
use Rattle.sq_base.specs.declared.refusal.Fault.TheVariants.{Refused, Memory}
use Rattle.sq_scope.specs.Answers.{◌>>=◌, with_front}

-- A refusal of the first part is one of the whole.
pub gives_err : {A B : Type 0} (fault : Fault) (first : Result A Refusal) (next : A → Result B Refusal)
    → Gives first (Err fault) → Gives {A = B} (first >>= next) (Err fault)
gives_err (Refused refusal) first next gives = rw gives
gives_err Memory first next gives = tt

-- One more item of those that are made.
pub front-step : {A : Type 0} (front : List A) (one : A) (rest : Result (List A) Refusal)
    → with_front (front ++ one ∷ []) rest ≡ with_front front (rest >>= (λ xs. Ok (one ∷ xs)))
front-step front one (Ok xs) = ap Ok (append_assoc front (one ∷ []) xs)
front-step front one (Err refusal) = refl
