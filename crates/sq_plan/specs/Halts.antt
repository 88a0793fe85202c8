-- What a fault or a refusal at a path is to the run, where memory is there for the path.
use Rattle.std.specs.Prelude.{◌≡◌, ⊤, ℕ, List}
use Rattle.sq_base.specs.declared.tree.TreeFault.{TreeFault}
use Rattle.sq_base.specs.declared.tree.TreeFault.TheVariants.{Missing as IsMissing, Failed as HasFailed}
use Rattle.sq_plan.specs.declared.halt.Finding.{Finding}
use Rattle.sq_plan.specs.declared.halt.Halt.{Halt}
use Rattle.sq_plan.specs.declared.halt.Halt.TheVariants.{Refused, Missing, Failed, Memory}

abbrev pub IsHaltOf : TreeFault → List ℕ → Halt → Type 0
IsHaltOf fault path (Refused findings) = ⊥
IsHaltOf fault path (Missing name) = (fault ≡ IsMissing) × (name ≡ path)
IsHaltOf fault path (Failed name) = (fault ≡ HasFailed) × (name ≡ path)
IsHaltOf fault path Memory = ⊤

abbrev pub IsRefusalOf : List Finding → Halt → Type 0
IsRefusalOf findings (Refused told) = told ≡ findings
IsRefusalOf findings (Missing name) = ⊥
IsRefusalOf findings (Failed name) = ⊥
IsRefusalOf findings Memory = ⊤
