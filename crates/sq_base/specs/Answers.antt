-- What a call answers, where want of memory is the one answer that needs no cause.
use Rattle.std.specs.Prelude.{◌≡◌, ⊤, Option, Some, None, Result, Ok, Err}
use Rattle.sq_base.specs.declared.no_form.NoForm.{NoForm}
use Rattle.sq_base.specs.declared.no_form.NoForm.TheVariants as no_form
use Rattle.sq_base.specs.declared.refusal.Fault.{Fault}
use Rattle.sq_base.specs.declared.refusal.Fault.TheVariants.{Refused, Memory}
use Rattle.sq_base.specs.declared.refusal.Refusal.{Refusal}

-- the value that is meant, or its refusal, unless memory was wanting
abbrev pub Gives : {A : Type 0} → Result A Refusal → Result A Fault → Type 0
Gives meant (Ok value) = meant ≡ Ok value
Gives meant (Err (Refused refusal)) = meant ≡ Err refusal
Gives meant (Err Memory) = ⊤

-- the fault is this refusal, unless memory was wanting
abbrev pub IsFaultOf : Refusal → Fault → Type 0
IsFaultOf meant (Refused refusal) = refusal ≡ meant
IsFaultOf meant Memory = ⊤

-- the form that stands here, seen so, or that there is none, unless memory was wanting
abbrev pub Finds : {X Y : Type 0} → (X → Y) → Result X NoForm → Option Y → Type 0
Finds view (Ok x) form = form ≡ Some (view x)
Finds view (Err no_form.Absent) form = form ≡ None
Finds view (Err no_form.Memory) form = ⊤
