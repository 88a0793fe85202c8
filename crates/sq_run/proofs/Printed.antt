-- What the screen shows of a report.
use Rattle.std.proofs.Common.{◌≡◌, ℕ, arith, List, [], ◌∷◌, ◌++◌, length, Some, Result, Ok, Err, refl, sym, ◌∙◌, ap, subst, append_assoc}
use Rattle.std.specs.Prelude.{codes}
use Rattle.std.proofs.lemmas.List.{append-nil}
use Rattle.sq_base.specs.Counts.{Told}
use Rattle.sq_base.specs.Sink.{SinkState, IsWrite, Appends, AppendsFront}
use Rattle.sq_base.specs.declared.sink.SinkFault.{SinkFault}
use Rattle.sq_base.specs.declared.sink.SinkFault.TheVariants.{Failed as WriteFailed, Memory as WriteMemory}
use Rattle.sq_plan.specs.declared.status.Status.{Status}
use Rattle.sq_plan.specs.declared.deliver.Report.{Report}
use Rattle.sq_plan.specs.Each.{Each, StopsAt}
use Rattle.sq_plan.specs.Deliver.{Print, PrintFails, PrintsAll, Shows, Concludes, TellsMemory}
use Rattle.sq_run.specs.Run.{text_of, HoldsAll}
use Rattle.sq_run.specs.Printed.{TellsAfter, ShowsText, ShowsText.whole, ShowsText.cut, ShowsText.no_memory, HoldsBut, StopsBefore}
use Rattle.sq_run.proofs.Causes.{each_keeps}
use Rattle.std.proofs.Common.{inl, inr, true}
use Rattle.std.specs.Prelude.{IfSome, Option, slice_get}
use Rattle.std.proofs.lemmas.Option.{IfSome_then, same_Some}
use Rattle.sq_base.specs.declared.file.File.{File}
use Rattle.sq_base.specs.declared.out.OutFault.{OutFault}
use Rattle.sq_base.specs.declared.out.OutFault.TheVariants.{Failed as PutFailed, Memory as PutMemory}
use Rattle.sq_plan.specs.declared.halt.Halt.{Halt}
use Rattle.sq_plan.specs.declared.halt.Ending.TheVariants.{Usage as IsUsage, Judged}
use Rattle.sq_plan.specs.declared.halt.Halt.TheVariants.{Refused as IsRefused, Missing as HaltMissing, Failed as HaltFailed, Memory as HaltMemory}
use Rattle.sq_plan.specs.declared.status.Status.TheVariants.{WriteFault, Memory}
use Rattle.sq_base.specs.Out.{OutState, SameBut}
use Rattle.sq_plan.specs.declared.deliver.PutFault.{PutFault}
use Rattle.sq_run.proofs.Calls.{shows_within, stopped_calls}
use Rattle.sq_plan.specs.Asked.{Follows, EndsAt}
use Rattle.sq_plan.specs.Deliver.{unwritten_line, report, put_failed, report_of, Put, PutFails, PutsAll, files_of}
use Rattle.sq_run.specs.Project.{is_command, asked_by}
use Rattle.sq_run.specs.Run.{Outside, IsRun, Tells, files_asked}
use Rattle.sq_run.specs.Printed.{AreLinesOf, Printed}
use Rattle.sq_run.proofs.Causes.{Commanded, Uncommanded, by_words}
use Rattle.sq_run.proofs.Causes.{asked_is}
use Rattle.sq_run.proofs.Kept.{told_joined, told_same, told_then, puts_hold}

text_of-append : (xs ys : List (List ℕ)) → text_of (xs ++ ys) ≡ text_of xs ++ text_of ys
text_of-append [] ys = refl
text_of-append (x ∷ xs) ys = ap (λ (l : List ℕ). x ++ l) (text_of-append xs ys) ∙ sym (append_assoc x (text_of xs) (text_of ys))

pub prints_text : (lines : List (List ℕ)) (old new : SinkState) → Each Print lines old new → Told (Appends (text_of lines)) old.text new.text
prints_text [] old new same = rw same (told_same (Appends []) (λ x. sym (append-nil x)) old.text)
prints_text (line ∷ lines) old new steps =
    told_joined (Appends line) (Appends (text_of lines)) (Appends (line ++ text_of lines))
    (λ x y z one rest. rest ∙ ap (λ (l : List ℕ). l ++ text_of lines) one ∙ append_assoc x line (text_of lines))
    old.text steps.0.text new.text steps.1.text (prints_text lines steps.0 new steps.2)

prints_front : (fault : SinkFault) (lines : List (List ℕ)) (at : ℕ) (old new : SinkState) → StopsAt Print (PrintFails fault) lines at old new → Told (AppendsFront (text_of lines)) old.text new.text
prints_front fault lines at old new stops =
    told_joined (Appends (text_of stops.before)) (AppendsFront stops.item) (AppendsFront (text_of lines))
    (λ x y z all part. (
      text_of stops.before ++ part.0,
      part.1 ++ text_of stops.left,
      ap text_of stops.split ∙ text_of-append stops.before (stops.item ∷ stops.left) ∙ ap (λ (l : List ℕ). text_of stops.before ++ (l ++ text_of stops.left)) part.2 ∙ simp append_assoc,
      part.3 ∙ ap (λ (l : List ℕ). l ++ part.0) all ∙ append_assoc x (text_of stops.before) part.0,
    ))
    old.text stops.mid.text new.text (prints_text stops.before old stops.mid stops.steps) stops.last.text

memory_front : (told : Result (Unit {0}) SinkFault) (old new : SinkState) → IsWrite old new told (codes "out of memory\n") → Told (AppendsFront (codes "out of memory\n")) old.text new.text
memory_front (Ok done) old new write = told_then (Appends (codes "out of memory\n")) (AppendsFront (codes "out of memory\n")) (λ x y all. (codes "out of memory\n", [], refl, all)) old.text new.text write.text
memory_front (Err fault) old new write = write.text

pub memory_text : (text : List ℕ) (old new : SinkState) → TellsMemory old new → Told (TellsAfter text) old.text new.text
memory_text text old new tells =
    told_then (AppendsFront (codes "out of memory\n")) (TellsAfter text)
    (λ x y part. record { front = []; rest = text; told = part.0; untold = part.1; text_is = refl; line_is = part.2; now_is = part.3 ∙ ap (λ (l : List ℕ). l ++ part.0) (sym (append-nil x)) })
    old.text new.text (memory_front tells.0 old new tells.1)

shows_printed : (printed : Result (Unit {0}) SinkFault) (report : Report) (old mid new : SinkState) (status : Status) → PrintsAll report.lines old mid printed → Concludes report.status printed mid new status
    → ShowsText report.status (text_of report.lines) old new status
shows_printed (Ok done) report old mid new status lines end = whole end.1 (rw end.0 (prints_text report.lines old mid lines))
shows_printed (Err WriteFailed) report old mid new status lines end =
    let kept = each_keeps (λ (s : SinkState). s.faults) Print (λ x s t step. step.faults) lines.1.before old lines.1.mid lines.1.steps in
    cut end.1 (rw (end.0, ← kept) lines.1.last.faults) (rw end.0 (prints_front WriteFailed report.lines lines.0 old mid lines.1))
shows_printed (Err WriteMemory) report old mid new status lines end =
    no_memory end.1
    (told_joined (AppendsFront (text_of report.lines)) (AppendsFront (codes "out of memory\n")) (TellsAfter (text_of report.lines))
    (λ x y z one two. record {
      front = one.0;
      rest = one.1;
      told = two.0;
      untold = two.1;
      text_is = one.2;
      line_is = two.2;
      now_is = two.3 ∙ ap (λ (l : List ℕ). l ++ two.0) one.3;
    })
    old.text mid.text new.text (prints_front WriteMemory report.lines lines.0 old mid lines.1) (memory_front end.0.0 mid new end.0.1))

pub shows_text : (report : Report) (old new : SinkState) (status : Status) → Shows report old new status → ShowsText report.status (text_of report.lines) old new status
shows_text report old new status shows = shows_printed shows.printed report old shows.mid new status shows.lines shows.conclusion

-- where a put has stopped, the files before it were put
stops_before : (fault : OutFault) (files : List File) (at : ℕ) (old new : OutState) (stops : StopsAt Put (PutFails fault) files at old new) → StopsBefore stops.item files old new
stops_before fault files at old new stops = record {
  put = stops.before;
  left = stops.left;
  split = stops.split;
  calls = stopped_calls fault files at old new stops;
  held = told_joined (HoldsAll stops.before) (SameBut stops.item.path) (HoldsBut stops.item stops.before)
      (λ x y z all others path apart. others path apart ∙ all path)
      old.files stops.mid.files new.files (puts_hold stops.before old stops.mid stops.steps) stops.last.others;
}

-- and the item is the one at its place
item_there : (files front left : List File) (item : File) (at : ℕ) → files ≡ front ++ item ∷ left → at ≡ length front → slice_get files at ≡ Some item
item_there files front left item at split place = rw (split, place) (there front)
  where
    there : (front : List File) → slice_get (front ++ item ∷ left) (length front) ≡ Some item
    there [] = refl
    there (file ∷ front) = there front

-- a report's lines are those of the status that it has
module _ (words : List (List ℕ)) (before after : Outside) where
  abbrev Belongs : Report → Type 0
  Belongs told = AreLinesOf words before after told.status told.lines

  put_lines : (files : List File) (at : ℕ) (fault : OutFault) (told : Report) → IfSome before.tree.files (λ held. files ≡ files_asked words held) → StopsAt Put (PutFails fault) files at before.out after.out
      → put_failed files at fault ≡ Some told → Belongs told
  put_lines files at PutFailed told asked stops is =
      let there = item_there files stops.before stops.left stops.item at stops.split stops.place in
      let said : put_failed files at PutFailed ≡ Some (record { status = WriteFault; lines = unwritten_line stops.item.path ∷ [] }) = rw there refl in
      subst Belongs (same_Some _ _ (sym said ∙ is)) (
        stops.item,
        refl,
        (let kept = each_keeps (λ (s : OutState). s.faults) Put (λ x s t step. step.faults) stops.before before.out stops.mid stops.steps in omega (arith, kept, stops.last.faults)),
        IfSome_then before.tree.files asked (λ held files_are. subst (λ (fs : List File). StopsBefore stops.item fs before.out after.out) files_are (stops_before PutFailed files at before.out after.out stops)),
      )
  put_lines files at PutMemory told asked stops is = absurd (cc is)

  lines_are : (ending : Result (List File) Halt) (put : Result (Unit {0}) PutFault) (told : Report) → is_command words ≡ true → Follows (asked_by words) before.tree after.tree ending → PutsAll (files_of (Judged ending)) before.out after.out put
      → report_of (Judged ending) put ≡ Some told → Belongs told
  lines_are (Ok files) (Ok done) told command follows puts is =
      subst Belongs (same_Some _ _ is) (refl, record { command = command; project = IfSome_then before.tree.files follows.asked (λ held answered. (files, answered.ends.0)) })
  lines_are (Ok files) (Err stop) told command follows puts is =
      put_lines files stop.at stop.fault told (IfSome_then before.tree.files follows.asked (λ held answered. asked_is words held files command answered.ends.0)) puts is
  lines_are (Err (IsRefused findings)) put told command follows puts is =
      subst Belongs (same_Some _ _ is) (findings, refl, record { command = command; project = IfSome_then before.tree.files follows.asked (λ held answered. answered.ends.0) })
  lines_are (Err (HaltMissing path)) put told command follows puts is =
      subst Belongs (same_Some _ _ is) (path, refl, follows.missings, IfSome_then before.tree.files follows.asked (λ held answered. subst (EndsAt path) answered.ends.1 answered.ends.2))
  lines_are (Err (HaltFailed path)) put told command follows puts is =
      subst Belongs (same_Some _ _ is)
      (path, refl, follows.faults, IfSome_then before.tree.files follows.asked (λ held answered. record { made = answered.made; first = answered.ends.0; last = answered.ends.1; calls = answered.calls }))
  lines_are (Err HaltMemory) put told command follows puts is = absurd (cc is)

-- what a run has told
told_printed : (words : List (List ℕ)) (before after : Outside) (status : Status) (said : Option Report) → ((told : Report) → said ≡ Some told → AreLinesOf words before after told.status told.lines)
    → Tells said before.screen after.screen status → Printed words before after status
told_printed words before after status said belongs (inl told) = record {
  meant = told.0.status;
  lines = told.0.lines;
  belongs = belongs told.0 told.1;
  shown = shows_text told.0 before.screen after.screen status told.2;
  writes = shows_within told.0 before.screen after.screen status told.2;
}
told_printed words before after status said belongs (inr told) = record {
  meant = Memory;
  lines = [];
  belongs = refl;
  shown = no_memory told.1 (memory_text [] before.screen after.screen told.0);
  writes = inr (told.1, (1, omega arith, told.0.1.calls));
}

pub printed : {words : List (List ℕ)} {before after : Outside} {status : Status} → IsRun words before after status → Printed words before after status
printed {words = words} {before = before} {after = after} {status = status} r = by_words (Printed words before after status) r
    (λ (c : Commanded words before after status). told_printed words before after status (report_of (Judged c.result) c.put)
    (λ told is. lines_are words before after c.result c.put told c.command c.follows c.putting is) c.telling)
    (λ (u : Uncommanded words before after status). told_printed words before after status (report_of IsUsage u.put)
    (λ told is. subst (λ (t : Report). AreLinesOf words before after t.status t.lines) (same_Some _ _ is) (refl, u.other)) u.telling)
