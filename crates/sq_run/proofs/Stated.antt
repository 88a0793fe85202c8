-- What a run does where no call has failed.
use Rattle.std.proofs.Common.{◌≡◌, ◌≢◌, ℕ, List, [], ◌∷◌, Option, None, Some, Result, Ok, Err, refl, sym, ◌∙◌, subst, arith, inl, inr, true, false, map}
use Rattle.std.specs.Prelude.{IfSome}
use Rattle.std.proofs.lemmas.Option.{IfSome_then, same_Some}
use Rattle.sq_base.specs.Counts.{Rose, Told}
use Rattle.sq_base.specs.Out.{OutState}
use Rattle.sq_base.specs.Sink.{SinkState, Appends}
use Rattle.sq_base.specs.declared.file.File.{File}
use Rattle.sq_base.specs.declared.out.OutFault.{OutFault}
use Rattle.sq_base.specs.declared.out.OutFault.TheVariants.{Failed as PutFailed, Memory as PutMemory}
use Rattle.sq_base.specs.declared.sink.SinkFault.{SinkFault}
use Rattle.sq_base.specs.declared.sink.SinkFault.TheVariants.{Failed as ScreenFailed, Memory as WriteMemory}
use Rattle.sq_plan.specs.declared.halt.Halt.{Halt}
use Rattle.sq_plan.specs.declared.halt.Ending.TheVariants.{Usage as IsUsage, Judged}
use Rattle.sq_plan.specs.declared.halt.Halt.TheVariants.{Refused as IsRefused, Missing as HaltMissing, Failed as HaltFailed, Memory as HaltMemory}
use Rattle.sq_plan.specs.declared.status.Status.{Status}
use Rattle.sq_plan.specs.declared.status.Status.TheVariants.{Done, Refused, Usage, Memory, Missing}
use Rattle.sq_plan.specs.declared.deliver.Report.{Report}
use Rattle.sq_plan.specs.declared.deliver.PutFault.{PutFault}
use Rattle.sq_plan.specs.Lines.{finding_line, usage_lines}
use Rattle.sq_plan.specs.Asked.{Follows, EndsAt}
use Rattle.sq_plan.specs.Each.{StopsAt}
use Rattle.sq_plan.specs.Deliver.{Put, PutFails, Print, PrintsAll, PutsAll, Concludes, files_of, put_failed, report_of, missing_line}
use Rattle.sq_run.specs.Project.{is_command, asked_by}
use Rattle.sq_run.specs.Run.{Outside, IsRun, Tells, IsStated, AsPlanned, Says, HoldsAll, files_asked, text_of}
use Rattle.sq_run.proofs.Causes.{each_keeps, by_words, asked_is, nothing_put}
use Rattle.sq_run.proofs.Kept.{puts_hold, told_same}
use Rattle.sq_run.proofs.Printed.{prints_text}
use Rattle.sq_plan.proofs.Steps.{if_told}

-- what the screen shows of a report where it has not failed and memory wasn't wanting
pub record Whole (report : Report) (old new : SinkState) (status : Status) : Type 0 where
  pub meant : status ≡ report.status
  pub shown : Told (Appends (text_of report.lines)) old.text new.text

whole_by : (printed : Result (Unit {0}) SinkFault) (report : Report) (old mid new : SinkState) (status : Status) → ¬ Rose old.faults new.faults → status ≢ Memory → PrintsAll report.lines old mid printed
    → Concludes report.status printed mid new status → Whole report old new status
whole_by (Ok done) report old mid new status quiet some lines end = record { meant = end.1; shown = rw end.0 (prints_text report.lines old mid lines) }
whole_by (Err ScreenFailed) report old mid new status quiet some lines end =
    let kept = each_keeps (λ (s : SinkState). s.faults) Print (λ x s t step. step.faults) lines.1.before old lines.1.mid lines.1.steps in
    absurd (quiet (rw (end.0, ← kept) lines.1.last.faults))
whole_by (Err WriteMemory) report old mid new status quiet some lines end = absurd (some end.1)

-- a run that has a report shows it
shown_whole : (said : Option Report) (report : Report) (old new : SinkState) (status : Status) → ¬ Rose old.faults new.faults → status ≢ Memory → said ≡ Some report → Tells said old new status → Whole report old new status
shown_whole said report old new status quiet some is (inl told) =
    let same : told.0 ≡ report = same_Some _ _ (sym told.1 ∙ is) in
    let shows = told.2 in
    subst (λ (r : Report). Whole r old new status) same (whole_by shows.printed told.0 old shows.mid new status quiet some shows.lines shows.conclusion)
shown_whole said report old new status quiet some is (inr told) = absurd (some told.1)

-- and one that has none has wanted memory
shown_none : (said : Option Report) (old new : SinkState) (status : Status) → status ≢ Memory → said ≡ None → Tells said old new status → ⊥
shown_none said old new status some is (inl told) = cc (told.1, is)
shown_none said old new status some is (inr told) = some told.1

module _ (words : List (List ℕ)) (before after : Outside) (status : Status) (quiet : ¬ Rose before.screen.faults after.screen.faults) (some : status ≢ Memory) where
  abbrev Plan : List File → Type 0
  Plan held = AsPlanned words held before after status

  -- where the run has this report, and its lines are those that are stated
  planned : (held : List File) (report : Report) → Says words (is_command words) held report.status report.lines → Told (HoldsAll (files_asked words held)) before.out.files after.out.files → Whole report before.screen after.screen status → Plan held
  planned held report says kept whole = record {
    lines = report.lines;
    says = rw whole.meant says;
    shown = whole.shown;
    kept = kept;
  }

  -- nothing was put, and there was nothing to put
  none_kept : (held : List File) → files_asked words held ≡ [] → after.out ≡ before.out → Told (HoldsAll (files_asked words held)) before.out.files after.out.files
  none_kept held none same = rw (none, same) (told_same (HoldsAll []) (λ x path. refl) before.out.files)

  command_plan : (ending : Result (List File) Halt) (put : Result (Unit {0}) PutFault) → is_command words ≡ true → ¬ Rose before.tree.faults after.tree.faults → ¬ Rose before.out.faults after.out.faults → Follows (asked_by words) before.tree after.tree ending
      → PutsAll (files_of (Judged ending)) before.out after.out put → Tells (report_of (Judged ending) put) before.screen after.screen status → IfSome before.tree.files Plan
  command_plan (Ok files) (Ok done) command tree out follows puts tells =
      IfSome_then before.tree.files follows.asked (λ held answered.
      planned held (record { status = Done; lines = [] }) (rw (command, answered.ends.0) (refl, refl))
      (subst (λ (fs : List File). Told (HoldsAll fs) before.out.files after.out.files) (asked_is words held files command answered.ends.0) (puts_hold files before.out after.out puts))
      (shown_whole _ _ before.screen after.screen status quiet some refl tells))
  command_plan (Ok files) (Err stop) command tree out follows puts tells = put_stopped stop.fault puts tells
    where
      put_stopped : (fault : OutFault) → StopsAt Put (PutFails fault) files stop.at before.out after.out → Tells (put_failed files stop.at fault) before.screen after.screen status → IfSome before.tree.files Plan
      put_stopped PutFailed stops tells =
          let kept = each_keeps (λ (s : OutState). s.faults) Put (λ x s t step. step.faults) stops.before before.out stops.mid stops.steps in
          absurd (out (omega (arith, kept, stops.last.faults)))
      put_stopped PutMemory stops tells = absurd (shown_none _ before.screen after.screen status some refl tells)
  command_plan (Err (IsRefused findings)) put command tree out follows puts tells =
      IfSome_then before.tree.files follows.asked (λ held answered.
      planned held (record { status = Refused; lines = map finding_line findings }) (rw (command, answered.ends.0) (refl, refl))
      (none_kept held (rw (command, answered.ends.0) refl) (nothing_put put before.out after.out puts))
      (shown_whole _ _ before.screen after.screen status quiet some refl tells))
  command_plan (Err (HaltMissing path)) put command tree out follows puts tells =
      IfSome_then before.tree.files follows.asked (λ held answered.
      planned held (record { status = Missing; lines = missing_line path ∷ [] })
      (rw (command, answered.ends.0) (refl, (path, subst (EndsAt path) answered.ends.1 answered.ends.2, refl)))
      (none_kept held (rw (command, answered.ends.0) refl) (nothing_put put before.out after.out puts))
      (shown_whole _ _ before.screen after.screen status quiet some refl tells))
  command_plan (Err (HaltFailed path)) put command tree out follows puts tells = absurd (tree follows.faults)
  command_plan (Err HaltMemory) put command tree out follows puts tells = absurd (shown_none _ before.screen after.screen status some refl tells)

  usage_plan : (put : Result (Unit {0}) PutFault) → is_command words ≡ false → PutsAll [] before.out after.out put → Tells (report_of IsUsage put) before.screen after.screen status → IfSome before.tree.files Plan
  usage_plan put none puts tells = if_told before.tree.files (λ held.
      planned held (record { status = Usage; lines = usage_lines }) (rw none (refl, refl))
      (none_kept held (rw none refl) (nothing_put put before.out after.out puts))
      (shown_whole _ _ before.screen after.screen status quiet some refl tells))

pub stated : {words : List (List ℕ)} {before after : Outside} {status : Status} → IsRun words before after status → IsStated words before after status
stated {words = words} {before = before} {after = after} {status = status} r tree out screen some =
    by_words (IfSome before.tree.files (λ held. AsPlanned words held before after status)) r
    (λ c. command_plan words before after status screen some c.result c.put c.command tree out c.follows c.putting c.telling)
    (λ u. usage_plan words before after status screen some u.put u.other u.putting u.telling)
