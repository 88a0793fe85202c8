-- What the output holds after a run.
use Rattle.std.proofs.Common.{◌≡◌, ℕ, List, [], ◌∷◌, Option, None, Some, Result, Ok, Err, refl, sym, ◌∙◌, ap, subst, true, cond}
use Rattle.std.specs.Str.{bytes_eq}
use Rattle.std.proofs.Common.{inl, inr}
use Rattle.std.proofs.lemmas.Bool.{cases_Bool}
use Rattle.std.proofs.lemmas.List.{append-nil}
use Rattle.std.proofs.lemmas.Slice.Eq.{bytes_eq-Decides}
use Rattle.std.proofs.lemmas.Option.{IfSome_then}
use Rattle.sq_base.specs.Counts.{Told}
use Rattle.sq_base.specs.Files.{bytes_at}
use Rattle.sq_base.specs.Out.{OutState, SameBut}
use Rattle.sq_base.specs.declared.file.File.{File}
use Rattle.sq_base.specs.declared.out.OutFault.{OutFault}
use Rattle.sq_base.specs.declared.out.OutFault.TheVariants.{Failed as PutFailed, Memory as PutMemory}
use Rattle.sq_plan.specs.declared.halt.Halt.{Halt}
use Rattle.sq_plan.specs.declared.halt.Ending.TheVariants.{Judged}
use Rattle.sq_plan.specs.declared.halt.Halt.TheVariants.{Refused as IsRefused, Missing as HaltMissing, Failed as HaltFailed, Memory as HaltMemory}
use Rattle.sq_plan.specs.declared.status.Status.{Status}
use Rattle.sq_plan.specs.declared.status.Status.TheVariants.{WriteFault}
use Rattle.sq_plan.specs.declared.deliver.PutFault.{PutFault}
use Rattle.sq_plan.specs.Asked.{Follows}
use Rattle.sq_plan.specs.Each.{Each, StopsAt}
use Rattle.sq_plan.specs.Deliver.{Put, PutFails, PutsAll, files_of, report_of}
use Rattle.sq_run.specs.Project.{is_command, asked_by}
use Rattle.sq_run.specs.Run.{Outside, IsRun, files_asked, held_after, HoldsAll, HoldsFront, Kept}
use Rattle.sq_plan.proofs.Steps.{if_told}
use Rattle.sq_run.proofs.Causes.{Reached, by_status, by_words, commanded_reached, uncommanded_reached, nothing_put, put_status, intended, lines_of, asked_is}

module _ {A : Type 0} where
  pub told_joined : (P Q R : A → A → Type 0) → ((x y z : A) → P x y → Q y z → R x z) → (old mid new : Option A) → Told P old mid → Told Q mid new → Told R old new
  told_joined P Q R join None None None p q = refl
  told_joined P Q R join None None (Some z) p q = absurd (cc q)
  told_joined P Q R join None (Some y) new p q = absurd (cc p)
  told_joined P Q R join (Some x) None new p q = absurd p
  told_joined P Q R join (Some x) (Some y) None p q = absurd q
  told_joined P Q R join (Some x) (Some y) (Some z) p q = join x y z p q

  pub told_both : (P Q R : A → A → Type 0) → ((x y : A) → P x y → Q x y → R x y) → (old new : Option A) → Told P old new → Told Q old new → Told R old new
  told_both P Q R both None new p q = p
  told_both P Q R both (Some x) None p q = absurd p
  told_both P Q R both (Some x) (Some y) p q = both x y p q

  pub told_then : (P R : A → A → Type 0) → ((x y : A) → P x y → R x y) → (old new : Option A) → Told P old new → Told R old new
  told_then P R then_ None new p = p
  told_then P R then_ (Some x) None p = absurd p
  told_then P R then_ (Some x) (Some y) p = then_ x y p

  pub told_same : (P : A → A → Type 0) → ((x : A) → P x x) → (old : Option A) → Told P old old
  told_same P same None = refl
  told_same P same (Some x) = same x

-- what one put does to what a path holds
put_holds : (path bytes : List ℕ) (before after : List File) → SameBut path before after → bytes_at after path ≡ Some bytes → (other : List ℕ) → bytes_at after other ≡ cond (bytes_eq path other) (Some bytes) (bytes_at before other)
put_holds path bytes before after others here other = elim (cases_Bool (bytes_eq path other)) [
  | inl found ↦ rw found (ap (bytes_at after) (sym ((bytes_eq-Decides path other).0 found)) ∙ here)
  | inr not ↦ rw not (others other (λ same. cc (sym not ∙ (bytes_eq-Decides path other).1 (sym same))))
]

pub puts_hold : (files : List File) (old new : OutState) → Each Put files old new → Told (HoldsAll files) old.files new.files
puts_hold [] old new same = rw same (told_same (HoldsAll []) (λ x path. refl) old.files)
puts_hold (file ∷ files) old new steps =
    let put = steps.1 in
    told_joined (λ x y. (other : List ℕ) → bytes_at y other ≡ cond (bytes_eq file.path other) (Some file.bytes) (bytes_at x other)) (HoldsAll files) (HoldsAll (file ∷ files))
    (λ x y z one rest path. rest path ∙ ap (λ (held : Option (List ℕ)). held_after files held path) (one path))
    old.files steps.0.files new.files
    (told_both (SameBut file.path) (λ x y. bytes_at y file.path ≡ Some file.bytes) _ (λ x y others here. put_holds file.path file.bytes x y others here) old.files steps.0.files put.others put.file)
    (puts_hold files steps.0 new steps.2)

stop_holds : (fault : OutFault) (files : List File) (at : ℕ) (old new : OutState) → StopsAt Put (PutFails fault) files at old new → Told (HoldsFront files) old.files new.files
stop_holds fault files at old new stops =
    told_joined (HoldsAll stops.before) (SameBut stops.item.path) (HoldsFront files)
    (λ x y z all others. record { put = stops.before; left = stops.item ∷ stops.left; split = stops.split; held = λ path apart. others path apart ∙ all path })
    old.files stops.mid.files new.files (puts_hold stops.before old stops.mid stops.steps) stops.last.others

-- nothing put is a front, too
none_holds : (files : List File) (old new : OutState) → new ≡ old → Told (HoldsFront files) old.files new.files
none_holds files old new same = rw same (told_same (HoldsFront files) (λ x. record { put = []; left = files; split = refl; held = λ path apart. refl }) old.files)

all_front : (files : List File) (old new : Option (List File)) → Told (HoldsAll files) old new → Told (HoldsFront files) old new
all_front files = told_then (HoldsAll files) (HoldsFront files) (λ x y all. record { put = files; left = []; split = sym (append-nil files); held = λ path _. all path })

module _ (words : List (List ℕ)) (before after : Outside) (status : Status) where
  kept_front : (files : List File) → is_command words ≡ true → Follows (asked_by words) before.tree after.tree (Ok files) → Told (HoldsFront files) before.out.files after.out.files → Kept words before after WriteFault
  kept_front files command follows told =
      IfSome_then before.tree.files follows.asked (λ held answered. subst (λ (fs : List File). Told (HoldsFront fs) before.out.files after.out.files) (asked_is words held files command answered.ends.0) told)

  kept_none : after.out ≡ before.out → Kept words before after WriteFault
  kept_none same = if_told before.tree.files (λ held. none_holds (files_asked words held) before.out after.out same)

  kept_halt : (halt : Halt) (put : Result (Unit {0}) PutFault) (lines : List (List ℕ)) → after.out ≡ before.out → Reached (intended (Judged (Err halt)) put) lines before.screen.faults after.screen.faults status → Kept words before after status
  kept_halt (IsRefused findings) put lines same end = by_status (Kept words before after) end (λ _. same) (λ _ _. kept_none same) (kept_none same)
  kept_halt (HaltMissing path) put lines same end = by_status (Kept words before after) end (λ _. same) (λ _ _. same) (kept_none same)
  kept_halt (HaltFailed path) put lines same end = by_status (Kept words before after) end (λ _. same) (λ _ _. same) (kept_none same)
  kept_halt HaltMemory put lines same end = by_status (Kept words before after) end (λ _. kept_none same) (λ _ _. kept_none same) (kept_none same)

  kept_by : (ending : Result (List File) Halt) (put : Result (Unit {0}) PutFault) (lines : List (List ℕ)) → is_command words ≡ true → Follows (asked_by words) before.tree after.tree ending → PutsAll (files_of (Judged ending)) before.out after.out put
      → Reached (intended (Judged ending) put) lines before.screen.faults after.screen.faults status → Kept words before after status
  kept_by (Ok files) (Ok done) lines command follows puts end =
      let all = puts_hold files before.out after.out puts in
      let front = kept_front files command follows (all_front files before.out.files after.out.files all) in
      by_status (Kept words before after) end
      (λ _. IfSome_then before.tree.files follows.asked (λ held answered. subst (λ (fs : List File). Told (HoldsAll fs) before.out.files after.out.files) (asked_is words held files command answered.ends.0) all))
      (λ _ _. front) front
  kept_by (Ok files) (Err stop) lines command follows puts end = put_stopped stop.fault puts end
    where
      put_stopped : (fault : OutFault) → StopsAt Put (PutFails fault) files stop.at before.out after.out → Reached (put_status fault) lines before.screen.faults after.screen.faults status → Kept words before after status
      put_stopped PutFailed stops end =
          let front = kept_front files command follows (stop_holds PutFailed files stop.at before.out after.out stops) in
          by_status (Kept words before after) end (λ _. front) (λ _ _. front) front
      put_stopped PutMemory stops end =
          let front = kept_front files command follows (stop_holds PutMemory files stop.at before.out after.out stops) in
          by_status (Kept words before after) end (λ _. front) (λ _ _. front) front
  kept_by (Err halt) put lines command follows puts end = kept_halt halt put lines (nothing_put put before.out after.out puts) end

pub kept : {words : List (List ℕ)} {before after : Outside} {status : Status} → IsRun words before after status → Kept words before after status
kept {words = words} {before = before} {after = after} {status = status} r = by_words (Kept words before after status) r
    (λ c. kept_by words before after status c.result c.put (lines_of (report_of (Judged c.result) c.put)) c.command c.follows c.putting (commanded_reached c))
    (λ u.
    let same = nothing_put u.put before.out after.out u.putting in
    by_status (Kept words before after) (uncommanded_reached u) (λ _. same) (λ _ _. kept_none words before after status same) (kept_none words before after status same))
