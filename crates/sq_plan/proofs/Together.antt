-- How parts that all are asked follow together.
use Rattle.std.proofs.Common.{◌≡◌, ◌≤◌, ◌<◌, ℕ, ◌+◌, drop, get_or, List, [], ◌∷◌, ◌++◌, length, Option, None, Some, Result, Ok, Err, refl, sym, ◌∙◌, ap, subst, arith, append_assoc, length-append}
use Rattle.std.specs.Prelude.{IfSome}
use Rattle.std.specs.Option.{option_map}
use Rattle.std.proofs.Common.{add-one}
use Rattle.std.proofs.Math.ListN.{drop_of_length-le}
use Rattle.std.proofs.Math.Seq.{drop-cons}
use Rattle.std.proofs.lemmas.List.{append-nil}
use Rattle.std.proofs.lemmas.Option.{IfSome_then}
use Rattle.sq_base.specs.Counts.{raised_by}
use Rattle.sq_base.specs.Tree.{TreeState}
use Rattle.sq_base.specs.declared.file.File.{File}
use Rattle.sq_plan.specs.declared.halt.Finding.{Finding}
use Rattle.sq_plan.specs.declared.halt.Halt.{Halt}
use Rattle.sq_plan.specs.declared.halt.Halt.TheVariants.{Refused, Missing, Failed, Memory}
use Rattle.sq_plan.specs.Asked.{Asked, and_also, gathered, joined, ended_with, ComesTo, HaltsRun, Follows, Answered, Ends, IsFront, CountsFault, CountsMissing}
use Rattle.sq_plan.specs.Asked.{Joins}
use Rattle.sq_plan.proofs.Steps.{calls_joined, ends_later, if_told_both, judged_follows}

-- what was joined before comes first
pub ended_together : {A : Type 0} (before answer : Result (List A) (List Finding)) (r : Result (List A) Halt) → ended_with (joined before answer) r ≡ ended_with before (ended_with answer r)
ended_together (Ok a) (Ok b) (Ok c) = ap (λ xs. Ok xs) (append_assoc a b c)
ended_together (Ok a) (Err f) (Ok c) = refl
ended_together (Err e) (Ok b) (Ok c) = refl
ended_together (Err e) (Err f) (Ok c) = refl
ended_together (Ok a) (Ok b) (Err (Refused g)) = refl
ended_together (Ok a) (Err f) (Err (Refused g)) = refl
ended_together (Err e) (Ok b) (Err (Refused g)) = refl
ended_together (Err e) (Err f) (Err (Refused g)) = ap (λ fs. Err (Refused fs)) (append_assoc e f g)
ended_together (Ok a) (Ok b) (Err (Missing p)) = refl
ended_together (Ok a) (Err f) (Err (Missing p)) = refl
ended_together (Err e) (Ok b) (Err (Missing p)) = refl
ended_together (Err e) (Err f) (Err (Missing p)) = refl
ended_together (Ok a) (Ok b) (Err (Failed p)) = refl
ended_together (Ok a) (Err f) (Err (Failed p)) = refl
ended_together (Err e) (Ok b) (Err (Failed p)) = refl
ended_together (Err e) (Err f) (Err (Failed p)) = refl
ended_together (Ok a) (Ok b) (Err Memory) = refl
ended_together (Ok a) (Err f) (Err Memory) = refl
ended_together (Err e) (Ok b) (Err Memory) = refl
ended_together (Err e) (Err f) (Err Memory) = refl

-- the calls that a part has made are the first of those asked
front_of : {A : Type 0} (asked : Asked A) (made : List (List ℕ)) (r : Result A Halt) → Ends asked made r → IsFront made asked.paths
front_of asked made (Ok value) ends = ([], sym ends.1 ∙ sym (append-nil made))
front_of asked made (Err (Refused findings)) ends = ([], sym ends.1 ∙ sym (append-nil made))
front_of asked made (Err (Missing path)) ends = ([], sym ends.1 ∙ sym (append-nil made))
front_of asked made (Err (Failed path)) ends = ends.0
front_of asked made (Err Memory) ends = ends

-- the answer of a later part is joined with that of a first
ends_mapped : {A : Type 0} (first : Result (List A) (List Finding)) (paths : List (List ℕ)) (answer : Option (Result (List A) (List Finding))) (made : List (List ℕ)) (r : Result (List A) Halt)
    → Ends (record { paths = paths; answer = answer }) made r → Ends (record { paths = paths; answer = option_map (joined first) answer }) made (ended_with first r)
ends_mapped (Ok a) paths answer made (Ok value) ends = rw ends.0 (refl, ends.1)
ends_mapped (Err e) paths answer made (Ok value) ends = rw ends.0 (refl, ends.1)
ends_mapped (Ok a) paths answer made (Err (Refused f)) ends = rw ends.0 (refl, ends.1)
ends_mapped (Err e) paths answer made (Err (Refused f)) ends = rw ends.0 (refl, ends.1)
ends_mapped (Ok a) paths answer made (Err (Missing path)) ends = rw ends.0 (refl, ends.1, ends.2)
ends_mapped (Err e) paths answer made (Err (Missing path)) ends = rw ends.0 (refl, ends.1, ends.2)
ends_mapped (Ok a) paths answer made (Err (Failed path)) ends = ends
ends_mapped (Err e) paths answer made (Err (Failed path)) ends = ends
ends_mapped (Ok a) paths answer made (Err Memory) ends = ends
ends_mapped (Err e) paths answer made (Err Memory) ends = ends

fault_ended : {A : Type 0} (first : Result (List A) (List Finding)) (r : Result (List A) Halt) (before now : ℕ) → CountsFault r before now → CountsFault (ended_with first r) before now
fault_ended (Ok a) (Ok value) before now counts = counts
fault_ended (Err e) (Ok value) before now counts = counts
fault_ended (Ok a) (Err (Refused f)) before now counts = counts
fault_ended (Err e) (Err (Refused f)) before now counts = counts
fault_ended (Ok a) (Err (Missing path)) before now counts = counts
fault_ended (Err e) (Err (Missing path)) before now counts = counts
fault_ended (Ok a) (Err (Failed path)) before now counts = counts
fault_ended (Err e) (Err (Failed path)) before now counts = counts
fault_ended (Ok a) (Err Memory) before now counts = counts
fault_ended (Err e) (Err Memory) before now counts = counts

missing_ended : {A : Type 0} (first : Result (List A) (List Finding)) (r : Result (List A) Halt) (before now : ℕ) → CountsMissing r before now → CountsMissing (ended_with first r) before now
missing_ended (Ok a) (Ok value) before now counts = counts
missing_ended (Err e) (Ok value) before now counts = counts
missing_ended (Ok a) (Err (Refused f)) before now counts = counts
missing_ended (Err e) (Err (Refused f)) before now counts = counts
missing_ended (Ok a) (Err (Missing path)) before now counts = counts
missing_ended (Err e) (Err (Missing path)) before now counts = counts
missing_ended (Ok a) (Err (Failed path)) before now counts = counts
missing_ended (Err e) (Err (Failed path)) before now counts = counts
missing_ended (Ok a) (Err Memory) before now counts = counts
missing_ended (Err e) (Err Memory) before now counts = counts

-- what a part that came to an answer says of its counts and its calls
record Goes {A : Type 0} (part : List File → Asked (List A)) (old new : TreeState) (answer : Result (List A) (List Finding)) : Type 0 where
  files : new.files ≡ old.files
  faults : new.faults ≡ old.faults
  missings : new.missings ≡ old.missings
  asked : IfSome old.files (λ files. (made : List (List ℕ)) × ((part files).answer ≡ Some answer) × (made ≡ (part files).paths) × (new.calls ≡ option_map (raised_by (length made)) old.calls))

goes : {A : Type 0} (part : List File → Asked (List A)) (old new : TreeState) (r : Result (List A) Halt) (answer : Result (List A) (List Finding)) → Follows part old new r → ComesTo r answer → Goes part old new answer
goes part old new (Ok value) answer follows comes = record {
  files = follows.files;
  faults = follows.faults;
  missings = follows.missings;
  asked = IfSome_then old.files follows.asked (λ files one. (one.made, one.ends.0 ∙ ap (λ a. Some a) (sym comes), one.ends.1, one.calls));
}
goes part old new (Err (Refused findings)) answer follows comes = record {
  files = follows.files;
  faults = follows.faults;
  missings = follows.missings;
  asked = IfSome_then old.files follows.asked (λ files one. (one.made, one.ends.0 ∙ ap (λ a. Some a) (sym comes), one.ends.1, one.calls));
}
goes part old new (Err (Missing path)) answer follows comes = absurd comes
goes part old new (Err (Failed path)) answer follows comes = absurd comes
goes part old new (Err Memory) answer follows comes = absurd comes

ends_also : {A : Type 0} (first more : Asked (List A)) (answer : Result (List A) (List Finding)) (made_first made : List (List ℕ)) (r : Result (List A) Halt)
    → first.answer ≡ Some answer → made_first ≡ first.paths → Ends more made r → Ends (and_also first more) (made_first ++ made) (ended_with answer r)
ends_also first more answer made_first made r is all ends =
    rw (is, all) (ends_mapped answer (first.paths ++ more.paths) more.answer (first.paths ++ made) r (ends_later first.paths more made r ends))

-- a part that came to an answer, and what comes after it
pub also_followed : {A : Type 0} (part more : List File → Asked (List A)) (old mid new : TreeState) (first : Result (List A) Halt) (answer : Result (List A) (List Finding)) (r : Result (List A) Halt)
    → Follows part old mid first → ComesTo first answer → Follows more mid new r → Follows (λ files. and_also (part files) (more files)) old new (ended_with answer r)
also_followed part more old mid new first answer r follows comes second =
    let one = goes part old mid first answer follows comes in
    record {
      files = second.files ∙ one.files;
      faults = fault_ended answer r old.faults new.faults (rw (← one.faults) second.faults);
      missings = missing_ended answer r old.missings new.missings (rw (← one.missings) second.missings);
      asked = if_told_both old.files one.asked (subst (λ (told : Option (List File)). IfSome told (λ files. Answered (more files) mid new r)) one.files second.asked) (λ files a b. record {
        made = a.0 ++ b.made;
        ends = ends_also (part files) (more files) answer a.0 b.made r a.1 a.2 b.ends;
        calls = b.calls ∙ ap (option_map (raised_by (length b.made))) a.3 ∙ calls_joined (length a.0) (length b.made) old.calls
            ∙ ap (λ (n : ℕ). option_map (raised_by n) old.calls) (sym (length-append a.0 b.made));
      });
    }

-- a front stays one where more is asked
more_asked : {A : Type 0} (first more : Asked (List A)) (made : List (List ℕ)) → IsFront made first.paths → IsFront made (and_also first more).paths
more_asked first more made front = by_answer first.answer
  where
    by_answer : (answer : Option (Result (List _) (List Finding))) → IsFront made (and_also (record { paths = first.paths; answer = answer }) more).paths
    by_answer None = front
    by_answer (Some answer) = (front.0 ++ more.paths, ap (λ (ps : List (List ℕ)). ps ++ more.paths) front.1 ∙ append_assoc made front.0 more.paths)

-- no count is fewer after a part
no_fewer_faults : {A : Type 0} (r : Result A Halt) (before now : ℕ) → CountsFault r before now → before ≤ now
no_fewer_faults (Ok value) before now counts = omega (arith, counts)
no_fewer_faults (Err (Refused findings)) before now counts = omega (arith, counts)
no_fewer_faults (Err (Missing path)) before now counts = omega (arith, counts)
no_fewer_faults (Err (Failed path)) before now counts = omega (arith, counts)
no_fewer_faults (Err Memory) before now counts = counts

no_fewer_missings : {A : Type 0} (r : Result A Halt) (before now : ℕ) → CountsMissing r before now → before ≤ now
no_fewer_missings (Ok value) before now counts = omega (arith, counts)
no_fewer_missings (Err (Refused findings)) before now counts = omega (arith, counts)
no_fewer_missings (Err (Missing path)) before now counts = omega (arith, counts)
no_fewer_missings (Err (Failed path)) before now counts = omega (arith, counts)
no_fewer_missings (Err Memory) before now counts = counts

-- a part that halts the run halts the whole
pub also_stopped : {A : Type 0} (part more : List File → Asked (List A)) (old new : TreeState) (first : Result (List A) Halt) (halt : Halt)
    → Follows part old new first → HaltsRun first halt → Follows (λ files. and_also (part files) (more files)) old new (Err halt)
also_stopped part more old new first (Refused findings) follows halts = absurd halts
also_stopped {A} part more old new first (Missing path) follows halts =
    let here = subst (Follows part old new) halts follows in
    record {
      files = here.files;
      faults = here.faults;
      missings = here.missings;
      asked = IfSome_then old.files here.asked (λ files one. record { made = one.made; ends = rw one.ends.0 (refl, one.ends.1, one.ends.2); calls = one.calls });
    }
also_stopped part more old new first (Failed path) follows halts =
    let here = subst (Follows part old new) halts follows in
    record {
      files = here.files;
      faults = here.faults;
      missings = here.missings;
      asked = IfSome_then old.files here.asked (λ files one. record { made = one.made; ends = (more_asked (part files) (more files) one.made one.ends.0, one.ends.1); calls = one.calls });
    }
also_stopped part more old new first Memory follows halts = record {
  files = follows.files;
  faults = no_fewer_faults first old.faults new.faults follows.faults;
  missings = no_fewer_missings first old.missings new.missings follows.missings;
  asked = IfSome_then old.files follows.asked (λ files one. record { made = one.made; ends = more_asked (part files) (more files) one.made (front_of (part files) one.made first one.ends); calls = one.calls });
}

-- what is left of a list begins with the next item
pub next_item : {A : Type 0} (xs : List A) (at : ℕ) (x : A) → at < length xs → x ≡ get_or xs at x → drop at xs ≡ x ∷ drop (at + 1) xs
next_item xs at x within is = drop-cons xs at x within ∙ (λ i. sym is i ∷ drop (sym (add-one at) i) xs)

module _ {A B : Type 0} (part : ℕ → A → List File → Asked (List B)) (xs : List A) (at : ℕ) (x : A) (within : at < length xs) (is : x ≡ get_or xs at x) (start old mid : TreeState) (before : Result (List B) (List Finding)) where
  -- what is judged before the next item, and the items from it on, are all items
  abbrev Continues : TreeState → ℕ → Result (List B) (List Finding) → Type 0
  Continues state i judged = (new : TreeState) (r : Result (List B) Halt) → Follows (gathered part i (drop i xs)) state new r → Follows (gathered part 0 xs) start new (ended_with judged r)

  pub one_more : (first : Result (List B) Halt) (both : Result (List B) (List Finding)) → Continues old at before → Follows (part at x) old mid first → Joins before first (Ok both) → Continues mid (at + 1) both
  one_more first both goes_on follows joins new r rest =
      let whole = also_followed (part at x) (gathered part (at + 1) (drop (at + 1) xs)) old mid new first joins.0 r follows joins.1 rest in
      let here = subst (λ (left : List A). Follows (gathered part at left) old new (ended_with joins.0 r)) (sym (next_item xs at x within is)) whole in
      rw (joins.2, ended_together before joins.0 r) (goes_on new (ended_with joins.0 r) here)

  pub halted : (first : Result (List B) Halt) (halt : Halt) → Continues old at before → Follows (part at x) old mid first → Joins before first (Err halt) → Follows (gathered part 0 xs) start mid (Err halt)
  halted first halt goes_on follows joins =
      let whole = also_stopped (part at x) (gathered part (at + 1) (drop (at + 1) xs)) old mid first halt follows joins in
      let here = subst (λ (left : List A). Follows (gathered part at left) old mid (Err halt)) (sym (next_item xs at x within is)) whole in
      by_halt halt joins (goes_on mid (Err halt) here)
    where
      by_halt : (h : Halt) → HaltsRun first h → Follows (gathered part 0 xs) start mid (ended_with before (Err h)) → Follows (gathered part 0 xs) start mid (Err h)
      by_halt (Refused findings) halts f = absurd halts
      by_halt (Missing p) halts f = by_before before f
        where
          by_before : (b : Result (List B) (List Finding)) → Follows (gathered part 0 xs) start mid (ended_with b (Err (Missing p))) → Follows (gathered part 0 xs) start mid (Err (Missing p))
          by_before (Ok items) f = f
          by_before (Err findings) f = f
      by_halt (Failed p) halts f = by_before before f
        where
          by_before : (b : Result (List B) (List Finding)) → Follows (gathered part 0 xs) start mid (ended_with b (Err (Failed p))) → Follows (gathered part 0 xs) start mid (Err (Failed p))
          by_before (Ok items) f = f
          by_before (Err findings) f = f
      by_halt Memory halts f = by_before before f
        where
          by_before : (b : Result (List B) (List Finding)) → Follows (gathered part 0 xs) start mid (ended_with b (Err Memory)) → Follows (gathered part 0 xs) start mid (Err Memory)
          by_before (Ok items) f = f
          by_before (Err findings) f = f

-- no item is left
pub none_left : {A B : Type 0} (part : ℕ → A → List File → Asked (List B)) (xs : List A) (at : ℕ) (state : TreeState) → length xs ≤ at → Follows (gathered part at (drop at xs)) state state (Ok [])
none_left part xs at state past = rw (drop_of_length-le xs past) (judged_follows (Ok []) state (Ok []) refl)
