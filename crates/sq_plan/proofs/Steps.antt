-- How one call of the tree, and parts after one another, follow what they ask.
use Rattle.std.proofs.Common.{◌≡◌, ℕ, ◌+◌, List, [], ◌∷◌, ◌++◌, length, Option, None, Some, Result, Ok, Err, refl, sym, ◌∙◌, ap, subst, arith, append_assoc, length-append}
use Rattle.std.specs.Prelude.{IfSome}
use Rattle.std.specs.Option.{option_map}
use Rattle.std.proofs.lemmas.Option.{IfSome_then}
use Rattle.sq_base.specs.Counts.{raised_by}
use Rattle.sq_base.specs.Tree.{TreeState, IsTreeCall}
use Rattle.sq_base.specs.declared.file.File.{File}
use Rattle.sq_base.specs.declared.tree.TreeFault.{TreeFault}
use Rattle.sq_base.specs.declared.tree.TreeFault.TheVariants.{Missing as IsMissing, Failed as HasFailed, Memory as NoMemory}
use Rattle.sq_plan.specs.declared.halt.Finding.{Finding}
use Rattle.sq_plan.specs.declared.halt.Halt.{Halt}
use Rattle.sq_plan.specs.declared.halt.Halt.TheVariants.{Refused, Missing, Failed, Memory}
use Rattle.sq_plan.specs.Asked.{Asked, nothing_asked, and_then, Judges, Follows, Answered, Ends, CountsFault, CountsMissing}
use Rattle.sq_plan.specs.Halts.{IsHaltOf, IsRefusalOf}

-- what holds whatever files are told
pub if_told : {X : Type 0} (told : Option X) {Q : X → Type 0} → ((x : X) → Q x) → IfSome told Q
if_told None all = tt
if_told (Some x) all = all x

-- a part that makes one call, of this path
abbrev pub one_call : {A : Type 0} → List ℕ → (List File → Option (Result A (List Finding))) → List File → Asked A
one_call path answer files = record { paths = path ∷ []; answer = answer files }

module _ {A B : Type 0} (path : List ℕ) (answer : List File → Option (Result B (List Finding))) (old new : TreeState) where
  pub called_ok : (value : A) (out : B) → IsTreeCall {A = A} old new (Ok value) → IfSome old.files (λ files. answer files ≡ Some (Ok out)) → Follows (one_call path answer) old new (Ok out)
  called_ok value out call found = record {
    files = call.files;
    faults = call.faults;
    missings = call.missings;
    asked = IfSome_then old.files found (λ files is. record { made = path ∷ []; ends = (is, refl); calls = call.calls });
  }

  pub called_refused : (value : A) (wanted : List Finding) (halt : Halt) → IsTreeCall {A = A} old new (Ok value) → IsRefusalOf wanted halt
      → IfSome old.files (λ files. answer files ≡ Some (Err wanted)) → Follows (one_call path answer) old new (Err halt)
  called_refused value wanted (Refused findings) call halted found = record {
    files = call.files;
    faults = call.faults;
    missings = call.missings;
    asked = IfSome_then old.files found (λ files is. record { made = path ∷ []; ends = (is ∙ ap (λ (fs : List Finding). Some (Err fs)) (sym halted), refl); calls = call.calls });
  }
  called_refused value wanted (Missing name) call halted found = absurd halted
  called_refused value wanted (Failed name) call halted found = absurd halted
  called_refused value wanted Memory call halted found = record {
    files = call.files;
    faults = omega (arith, call.faults);
    missings = omega (arith, call.missings);
    asked = IfSome_then old.files found (λ files is. record { made = path ∷ []; ends = ([], refl); calls = call.calls });
  }

  pub called_halt : (fault : TreeFault) (halt : Halt) → IsTreeCall {A = A} old new (Err fault) → IsHaltOf fault path halt
      → IfSome old.files (λ files. fault ≡ IsMissing → answer files ≡ None) → Follows (one_call path answer) old new (Err halt)
  called_halt fault (Refused findings) call halted none = absurd halted
  called_halt IsMissing (Missing name) call halted none = record {
    files = call.files;
    faults = call.faults;
    missings = call.missings;
    asked = IfSome_then old.files none (λ files is. record { made = path ∷ []; ends = (is refl, refl, ([], ap (λ (p : List ℕ). p ∷ []) (sym halted.1))); calls = call.calls });
  }
  called_halt HasFailed (Missing name) call halted none = absurd (cc halted.0)
  called_halt NoMemory (Missing name) call halted none = absurd (cc halted.0)
  called_halt IsMissing (Failed name) call halted none = absurd (cc halted.0)
  called_halt HasFailed (Failed name) call halted none = record {
    files = call.files;
    faults = call.faults;
    missings = call.missings;
    asked = if_told old.files (λ files. record { made = path ∷ []; ends = (([], refl), ([], ap (λ (p : List ℕ). p ∷ []) (sym halted.1))); calls = call.calls });
  }
  called_halt NoMemory (Failed name) call halted none = absurd (cc halted.0)
  called_halt IsMissing Memory call halted none = record {
    files = call.files;
    faults = omega (arith, call.faults);
    missings = omega (arith, call.missings);
    asked = if_told old.files (λ files. record { made = path ∷ []; ends = ([], refl); calls = call.calls });
  }
  called_halt HasFailed Memory call halted none = record {
    files = call.files;
    faults = omega (arith, call.faults);
    missings = omega (arith, call.missings);
    asked = if_told old.files (λ files. record { made = path ∷ []; ends = ([], refl); calls = call.calls });
  }
  called_halt NoMemory Memory call halted none = record {
    files = call.files;
    faults = omega (arith, call.faults);
    missings = omega (arith, call.missings);
    asked = if_told old.files (λ files. record { made = path ∷ []; ends = ([], refl); calls = call.calls });
  }

-- what holds together of the files told
pub if_told_both : {X : Type 0} (told : Option X) {P Q R : X → Type 0} → IfSome told P → IfSome told Q → ((x : X) → P x → Q x → R x) → IfSome told R
if_told_both None p q both = tt
if_told_both (Some x) p q both = both x p q

pub calls_none : (calls : Option ℕ) → option_map (raised_by 0) calls ≡ calls
calls_none None = refl
calls_none (Some count) = ap Some (omega arith)

-- what is made of values in hand follows a part that asks nothing
pub judged_follows : {A : Type 0} (answer : Result A (List Finding)) (state : TreeState) (r : Result A Halt) → Judges answer r → Follows (λ _. nothing_asked answer) state state r
judged_follows answer state (Ok value) is = record {
  files = refl;
  faults = refl;
  missings = refl;
  asked = if_told state.files (λ files. record { made = []; ends = (ap Some is, refl); calls = sym (calls_none state.calls) });
}
judged_follows answer state (Err (Refused findings)) is = record {
  files = refl;
  faults = refl;
  missings = refl;
  asked = if_told state.files (λ files. record { made = []; ends = (ap Some is, refl); calls = sym (calls_none state.calls) });
}
judged_follows answer state (Err (Missing path)) is = absurd is
judged_follows answer state (Err (Failed path)) is = absurd is
judged_follows answer state (Err Memory) is = record {
  files = refl;
  faults = omega arith;
  missings = omega arith;
  asked = if_told state.files (λ files. record { made = []; ends = ([], refl); calls = sym (calls_none state.calls) });
}

-- the calls of a second part come after those of the first
pub ends_later : {B : Type 0} (first : List (List ℕ)) (more : Asked B) (made : List (List ℕ)) (r : Result B Halt) → Ends more made r → Ends (record { paths = first ++ more.paths; answer = more.answer }) (first ++ made) r
ends_later first more made (Ok value) ends = (ends.0, ap (λ (ps : List (List ℕ)). first ++ ps) ends.1)
ends_later first more made (Err (Refused findings)) ends = (ends.0, ap (λ (ps : List (List ℕ)). first ++ ps) ends.1)
ends_later first more made (Err (Missing path)) ends =
    (ends.0, ap (λ (ps : List (List ℕ)). first ++ ps) ends.1, (first ++ ends.2.0, ap (λ (ps : List (List ℕ)). first ++ ps) ends.2.1 ∙ sym (append_assoc first ends.2.0 (path ∷ []))))
ends_later first more made (Err (Failed path)) ends = (
  (ends.0.0, ap (λ (ps : List (List ℕ)). first ++ ps) ends.0.1 ∙ sym (append_assoc first made ends.0.0)),
  (first ++ ends.1.0, ap (λ (ps : List (List ℕ)). first ++ ps) ends.1.1 ∙ sym (append_assoc first ends.1.0 (path ∷ []))),
)
ends_later first more made (Err Memory) ends = (ends.0, ap (λ (ps : List (List ℕ)). first ++ ps) ends.1 ∙ sym (append_assoc first made ends.0))

-- where the first part has answered Ok, the whole ends as the second does
ends_joined : {A B : Type 0} (paths : List (List ℕ)) (answer : Option (Result A (List Finding))) (more : A → Asked B) (value : A) (made_first made : List (List ℕ)) (r : Result B Halt)
    → answer ≡ Some (Ok value) → made_first ≡ paths → Ends (more value) made r → Ends (and_then (record { paths = paths; answer = answer }) more) (made_first ++ made) r
ends_joined paths answer more value made_first made r is all ends =
    rw (is, all) (ends_later paths (more value) made r ends)

-- and else as the first did
ends_stopped : {A B : Type 0} (paths : List (List ℕ)) (answer : Option (Result A (List Finding))) (more : A → Asked B) (made : List (List ℕ)) (halt : Halt)
    → Ends (record { paths = paths; answer = answer }) made (Err halt) → Ends (and_then (record { paths = paths; answer = answer }) more) made (Err halt)
ends_stopped paths answer more made (Refused findings) ends = rw ends.0 (refl, ends.1)
ends_stopped paths answer more made (Missing path) ends = rw ends.0 (refl, ends.1, ends.2)
ends_stopped paths None more made (Failed path) ends = ends
ends_stopped paths (Some (Err findings)) more made (Failed path) ends = ends
ends_stopped paths (Some (Ok value)) more made (Failed path) ends =
    ((ends.0.0 ++ (more value).paths, ap (λ (ps : List (List ℕ)). ps ++ (more value).paths) ends.0.1 ∙ append_assoc made ends.0.0 (more value).paths), ends.1)
ends_stopped paths None more made Memory ends = ends
ends_stopped paths (Some (Err findings)) more made Memory ends = ends
ends_stopped paths (Some (Ok value)) more made Memory ends =
    (ends.0 ++ (more value).paths, ap (λ (ps : List (List ℕ)). ps ++ (more value).paths) ends.1 ∙ append_assoc made ends.0 (more value).paths)

pub calls_joined : (m n : ℕ) (calls : Option ℕ) → option_map (raised_by n) (option_map (raised_by m) calls) ≡ option_map (raised_by (m + n)) calls
calls_joined m n None = refl
calls_joined m n (Some count) = ap Some (omega arith)

-- a part that ended with Ok, and what comes after it
pub followed : {A B : Type 0} (part : List File → Asked A) (more : A → List File → Asked B) (old mid new : TreeState) (value : A) (r : Result B Halt)
    → Follows part old mid (Ok value) → Follows (more value) mid new r → Follows (λ files. and_then (part files) (λ v. more v files)) old new r
followed part more old mid new value r first second = record {
  files = second.files ∙ first.files;
  faults = rw (← first.faults) second.faults;
  missings = rw (← first.missings) second.missings;
  asked = if_told_both old.files first.asked (subst (λ (told : Option (List File)). IfSome told (λ files. Answered (more value files) mid new r)) first.files second.asked) (λ files one two. record {
    made = one.made ++ two.made;
    ends = ends_joined (part files).paths (part files).answer (λ v. more v files) value one.made two.made r one.ends.0 one.ends.1 two.ends;
    calls = two.calls ∙ ap (option_map (raised_by (length two.made))) one.calls ∙ calls_joined (length one.made) (length two.made) old.calls
        ∙ ap (λ (n : ℕ). option_map (raised_by n) old.calls) (sym (length-append one.made two.made));
  });
}

-- what the counts say of a halt doesn't speak of the value that was wanted
halted_fault : (A B : Type 0) (halt : Halt) (before now : ℕ) → CountsFault {A = A} (Err halt) before now → CountsFault {A = B} (Err halt) before now
halted_fault A B (Refused findings) before now h = h
halted_fault A B (Missing path) before now h = h
halted_fault A B (Failed path) before now h = h
halted_fault A B Memory before now h = h

halted_missing : (A B : Type 0) (halt : Halt) (before now : ℕ) → CountsMissing {A = A} (Err halt) before now → CountsMissing {A = B} (Err halt) before now
halted_missing A B (Refused findings) before now h = h
halted_missing A B (Missing path) before now h = h
halted_missing A B (Failed path) before now h = h
halted_missing A B Memory before now h = h

-- a part that halted halts the whole
pub stopped : {A B : Type 0} (part : List File → Asked A) (more : A → List File → Asked B) (old new : TreeState) (halt : Halt)
    → Follows part old new (Err halt) → Follows (λ files. and_then (part files) (λ v. more v files)) old new (Err halt)
stopped {A = A} {B = B} part more old new halt first = record {
  files = first.files;
  faults = halted_fault A B halt _ _ first.faults;
  missings = halted_missing A B halt _ _ first.missings;
  asked = IfSome_then old.files first.asked (λ files one. record {
    made = one.made;
    ends = ends_stopped (part files).paths (part files).answer (λ v. more v files) one.made halt one.ends;
    calls = one.calls;
  });
}
