-- Laws of the fold, and how what is made while files are read follows the plan.
use Rattle.std.proofs.Common.{◌≡◌, ◌≤◌, ◌<◌, ℕ, ◌+◌, drop, get_or, List, [], ◌∷◌, ◌++◌, length, Result, Ok, Err, refl, sym, ◌∙◌, ap, subst, arith}
use Rattle.std.proofs.lemmas.List.{append-nil}
use Rattle.sq_base.specs.Tree.{TreeState}
use Rattle.sq_base.specs.declared.file.File.{File}
use Rattle.sq_plan.specs.declared.halt.Finding.{Finding}
use Rattle.sq_plan.specs.declared.halt.Halt.{Halt}
use Rattle.sq_plan.specs.declared.halt.Halt.TheVariants.{Refused, Missing, Failed, Memory}
use Rattle.sq_plan.specs.Asked.{Asked, nothing_asked, and_then, gathered, joined, ended_with, Judges, Follows}
use Rattle.sq_plan.specs.Folds.{folded, made_of, Makes, going_on, GoesOn, ended_so}
use Rattle.sq_plan.proofs.Steps.{if_told, calls_none, followed, stopped, judged_follows}
use Rattle.sq_plan.proofs.Together.{one_more, halted, none_left}

-- what each step keeps, the whole keeps
pub folded_keeps : {S A : Type 0} (P : S → Type 0) (step : S → A → S) → ((s : S) (x : A) → P s → P (step s x)) → (start : S) (xs : List A) → P start → P (folded step start xs)
folded_keeps P step keeps start [] holds = holds
folded_keeps P step keeps start (x ∷ xs) holds = folded_keeps P step keeps (step start x) xs (keeps start x holds)

-- two lists are taken one after the other
pub folded_both : {S A : Type 0} (step : S → A → S) (start : S) (xs ys : List A) → folded step start (xs ++ ys) ≡ folded step (folded step start xs) ys
folded_both step start [] ys = refl
folded_both step start (x ∷ xs) ys = folded_both step (step start x) xs ys

-- what goes on twice goes on with both
going_both : {S A : Type 0} (step : S → A → S) (start : S) (before answer : Result (List A) (List Finding)) → going_on step (going_on step (Ok start) before) answer ≡ going_on step (Ok start) (joined before answer)
going_both step start (Ok xs) (Ok ys) = ap (λ s. Ok s) (sym (folded_both step start xs ys))
going_both step start (Ok xs) (Err more) = refl
going_both step start (Err findings) (Ok ys) = refl
going_both step start (Err findings) (Err more) = refl

-- how what goes on ends
going_ends : {S A : Type 0} (step : S → A → S) (start : S) (items : Result (List A) (List Finding)) → ended_so (going_on step (Ok start) items) ≡ made_of step start (ended_with items (Ok []))
going_ends step start (Ok xs) = ap (λ ys. Ok (folded step start ys)) (sym (append-nil xs))
going_ends step start (Err findings) = refl

nothing_before : {A : Type 0} (r : Result (List A) Halt) → ended_with (Ok []) r ≡ r
nothing_before (Ok xs) = refl
nothing_before (Err (Refused findings)) = refl
nothing_before (Err (Missing path)) = refl
nothing_before (Err (Failed path)) = refl
nothing_before (Err Memory) = refl

module _ {A B S : Type 0} (part : ℕ → A → List File → Asked (List B)) (xs : List A) (step : S → B → S) (start : S) (old : TreeState) where
  -- what was made before this place of the list, and how the whole goes on from there
  pub record Reading (at : ℕ) (state : TreeState) (made : Result S (List Finding)) : Type 0 where
    pub items : Result (List B) (List Finding)
    pub is : made ≡ going_on step (Ok start) items
    pub goes_on : (new : TreeState) (r : Result (List B) Halt) → Follows (gathered part at (drop at xs)) state new r → Follows (gathered part 0 xs) old new (ended_with items r)

  pub begun : Reading 0 old (Ok start)
  begun = record {
    items = Ok [];
    is = refl;
    goes_on = λ new r follows. subst (Follows (gathered part 0 xs) old new) (sym (nothing_before r)) follows;
  }

  module _ (at : ℕ) (x : A) (within : at < length xs) (is : x ≡ get_or xs at x) (state mid : TreeState) (made : Result S (List Finding)) (first : Result (List B) Halt) where
    pub read_more : (both : Result S (List Finding)) → Reading at state made → Follows (part at x) state mid first → GoesOn step made first (Ok both) → Reading (at + 1) mid both
    read_more both reading follows goes = record {
      items = joined reading.items goes.0;
      is = goes.2 ∙ ap (λ before. going_on step before goes.0) reading.is ∙ going_both step start reading.items goes.0;
      goes_on = one_more part xs at x within is old state mid reading.items first (joined reading.items goes.0) reading.goes_on follows (goes.0, goes.1, refl);
    }

    pub read_halted : (halt : Halt) → Reading at state made → Follows (part at x) state mid first → GoesOn step made first (Err halt) → Makes step start (gathered part 0 xs) old mid (Err halt)
    read_halted halt reading follows halts = record {
      items = Err halt;
      follows = halted part xs at x within is old state mid reading.items first halt reading.goes_on follows halts;
      made = refl;
    }

  pub read_all : (at : ℕ) (state : TreeState) (made : Result S (List Finding)) (result : Result S Halt) → length xs ≤ at → Reading at state made → result ≡ ended_so made → Makes step start (gathered part 0 xs) old state result
  read_all at state made result past reading ends = record {
    items = ended_with reading.items (Ok []);
    follows = reading.goes_on state (Ok []) (none_left part xs at state past);
    made = ends ∙ ap ended_so reading.is ∙ going_ends step start reading.items;
  }

-- what is made behind a part that has answered Ok, or has halted
pub makes_after : {A B S : Type 0} (first : List File → Asked A) (more : A → List File → Asked (List B)) (step : S → B → S) (start : S) (old mid new : TreeState) (value : A) (r : Result S Halt)
    → Follows first old mid (Ok value) → Makes step start (more value) mid new r → Makes step start (λ files. and_then (first files) (λ v. more v files)) old new r
makes_after first more step start old mid new value r follows makes = record {
  items = makes.items;
  follows = followed first more old mid new value makes.items follows makes.follows;
  made = makes.made;
}

pub makes_stopped : {A B S : Type 0} (first : List File → Asked A) (more : A → List File → Asked (List B)) (step : S → B → S) (start : S) (old new : TreeState) (halt : Halt)
    → Follows first old new (Err halt) → Makes step start (λ files. and_then (first files) (λ v. more v files)) old new (Err halt)
makes_stopped first more step start old new halt follows = record { items = Err halt; follows = stopped first more old new halt follows; made = refl }

-- what is judged of what was made
pub made_then : {A B S : Type 0} (step : S → A → S) (start : S) (part : List File → Asked (List A)) (old new : TreeState) (made : S) (answer : S → Result B (List Finding)) (r : Result B Halt)
    → Makes step start part old new (Ok made) → Judges (answer made) r → Follows (λ files. and_then (part files) (λ items. nothing_asked (answer (folded step start items)))) old new r
made_then {A} {B} {S} step start part old new made answer r makes judges = by_items makes.items makes.follows makes.made
  where
    by_items : (items : Result (List A) Halt) → Follows part old new items → Ok made ≡ made_of step start items → Follows (λ files. and_then (part files) (λ items. nothing_asked (answer (folded step start items)))) old new r
    by_items (Ok xs) follows is =
        let same : made ≡ folded step start xs = cc is in
        followed part (λ items _. nothing_asked (answer (folded step start items))) old new new xs r follows (judged_follows (answer (folded step start xs)) new r (subst (λ (s : S). Judges (answer s) r) same judges))
    by_items (Err halt) follows is = absurd (cc is)

pub made_stopped : {A B S : Type 0} (step : S → A → S) (start : S) (part : List File → Asked (List A)) (more : List A → List File → Asked B) (old new : TreeState) (halt : Halt)
    → Makes step start part old new (Err halt) → Follows (λ files. and_then (part files) (λ items. more items files)) old new (Err halt)
made_stopped {A} {B} {S} step start part more old new halt makes = by_items makes.items makes.follows makes.made
  where
    by_items : (items : Result (List A) Halt) → Follows part old new items → ◌≡◌ {A = Result S Halt} (Err halt) (made_of step start items) → Follows (λ files. and_then (part files) (λ items. more items files)) old new (Err halt)
    by_items (Ok xs) follows is = absurd (cc is)
    by_items (Err other) follows is =
        let same : halt ≡ other = cc is in
        stopped part more old new halt (subst (λ (h : Halt). Follows part old new (Err h)) (sym same) follows)

-- a part that makes no call, since memory was wanting before
pub wanting : {A : Type 0} (part : List File → Asked A) (state : TreeState) → Follows part state state (Err Memory)
wanting part state = record {
  files = refl;
  faults = omega arith;
  missings = omega arith;
  asked = if_told state.files (λ files. record { made = []; ends = ((part files).paths, refl); calls = sym (calls_none state.calls) });
}
