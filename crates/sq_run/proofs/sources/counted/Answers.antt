use Rattle.std.proofs.Common.{◌≡◌, ◌≤◌, ℕ, zero, suc, List, [], ◌∷◌, length, drop, Some, None, Result, Err, sym, ◌∙◌, ap, arith, slice_get}
use Rattle.sq_base.specs.declared.code.Code.TheVariants as code
use Rattle.std.proofs.Math.ListN.{drop_of_length-le}
use Rattle.std.proofs.lemmas.Option.{same_Some}
use Rattle.sq_plan.specs.declared.halt.Finding.{Finding}
use Rattle.sq_plan.specs.declared.halt.Halt.{Halt}
use Rattle.sq_plan.specs.declared.halt.Halt.TheVariants.{Refused, Missing, Failed, Memory}
use Rattle.sq_plan.specs.declared.read.Role.TheVariants.{Source}
use Rattle.sq_base.specs.declared.limits.TheConstants.{MOST_FILES}
use Rattle.sq_plan.specs.Asked.{Judges}
use Rattle.sq_plan.specs.Halts.{IsRefusalOf}
use Rattle.sq_plan.specs.Reading.{refused_file}
use Rattle.sq_run.specs.Project.{unless_more, counted}
use Rattle.sq_run.proofs.sources.counted.Goals as goal

-- where an item has this number, it is the first of those from there on
one_more : {A : Type 0} (xs : List A) (n : ℕ) (x : A) → slice_get xs n ≡ Some x → (rest : List A) × (drop n xs ≡ x ∷ rest)
one_more [] n x is = absurd (cc is)
one_more (y ∷ xs) zero x is = (xs, ap (λ h. h ∷ xs) (same_Some _ _ is))
one_more (y ∷ xs) (suc n) x is = one_more xs n x is

no_more : {A : Type 0} (xs : List A) (n : ℕ) → slice_get xs n ≡ None → length xs ≤ n
no_more [] n is = omega arith
no_more (x ∷ xs) zero is = absurd (cc is)
no_more (x ∷ xs) (suc n) is = omega (arith, no_more xs n is)

refused : {A : Type 0} (judged : Result A (List Finding)) (wanted : List Finding) (halt : Halt) → judged ≡ Err wanted → IsRefusalOf wanted halt → Judges judged (Err halt)
refused judged wanted (Refused findings) is halts = is ∙ ap Err (sym halts)
refused judged wanted (Missing path) is halts = absurd halts
refused judged wanted (Failed path) is halts = absurd halts
refused judged wanted Memory is halts = tt

pub returns-in-Some-clause-judges : goal.returns-in-Some-clause-judges
returns-in-Some-clause-judges c =
    let found : slice_get c.args.paths MOST_FILES ≡ Some c.as_str.result.now = sym c.in-Some.ensures.value ∙ ap Some (sym c.as_str.ensures) in
    let left = one_more c.args.paths MOST_FILES c.as_str.result.now found in
    refused (counted c.args.paths) (refused_file Source code.TooManyFiles c.as_str.result.now ∷ []) c.refuse_file.result (ap (unless_more c.args.paths) left.1) c.refuse_file.ensures

pub returns-in-None-clause-few : goal.returns-in-None-clause-few
returns-in-None-clause-few c = no_more c.args.paths MOST_FILES (sym c.in-None.ensures.value)

pub returns-in-None-clause-judges : goal.returns-in-None-clause-judges
returns-in-None-clause-judges c = ap (unless_more c.args.paths) (drop_of_length-le c.args.paths (no_more c.args.paths MOST_FILES (sym c.in-None.ensures.value)))
