-- How many calls a run makes of what it meets outside.
use Rattle.std.proofs.Common.{◌≡◌, ◌≤◌, ℕ, ◌+◌, List, [], ◌∷◌, length, Option, Result, Ok, Err, sym, ◌∙◌, ap, subst, arith, inl, inr, length-append, true}
use Rattle.std.specs.Prelude.{IfSome}
use Rattle.std.specs.Option.{option_map}
use Rattle.std.proofs.lemmas.Option.{IfSome_then}
use Rattle.sq_base.specs.Counts.{raised_by, raised}
use Rattle.sq_base.specs.Out.{OutState}
use Rattle.sq_base.specs.Sink.{SinkState}
use Rattle.sq_base.specs.declared.file.File.{File}
use Rattle.sq_base.specs.declared.out.OutFault.{OutFault}
use Rattle.sq_base.specs.declared.sink.SinkFault.{SinkFault}
use Rattle.sq_base.specs.declared.sink.SinkFault.TheVariants.{Failed as ScreenFailed, Memory as WriteMemory}
use Rattle.sq_plan.specs.declared.halt.Halt.{Halt}
use Rattle.sq_plan.specs.declared.halt.Ending.TheVariants.{Judged}
use Rattle.sq_plan.specs.declared.halt.Halt.TheVariants.{Refused, Missing, Failed, Memory}
use Rattle.sq_plan.specs.declared.status.Status.{Status}
use Rattle.sq_plan.specs.declared.deliver.Report.{Report}
use Rattle.sq_plan.specs.declared.deliver.PutFault.{PutFault}
use Rattle.sq_plan.specs.Asked.{Asked, Ends, Follows}
use Rattle.sq_plan.specs.Each.{Each, StopsAt}
use Rattle.sq_plan.specs.Deliver.{Put, PutFails, PutsAll, Print, PrintFails, PrintsAll, Shows, Concludes, files_of}
use Rattle.sq_run.specs.Printed.{WithinWrites}
use Rattle.sq_run.specs.Project.{is_command, asked_by}
use Rattle.sq_run.specs.Run.{Outside, IsRun, AtMost, WithinCalls, paths_asked, files_asked}
use Rattle.sq_run.proofs.Causes.{Commanded, by_words, asked_is, nothing_put}
use Rattle.sq_plan.proofs.Steps.{if_told, calls_joined, calls_none}

-- steps that are calls are counted
module _ {S X : Type 0} (calls : S → Option ℕ) (Step : X → S → S → Type 0) (counts : (x : X) (s t : S) → Step x s t → calls t ≡ option_map raised (calls s)) where
  pub each_calls : (xs : List X) (old new : S) → Each Step xs old new → calls new ≡ option_map (raised_by (length xs)) (calls old)
  each_calls [] old new same = ap calls same ∙ sym (calls_none (calls old))
  each_calls (x ∷ xs) old new steps =
      each_calls xs steps.0 new steps.2 ∙ ap (option_map (raised_by (length xs))) (counts x old steps.0 steps.1) ∙ calls_joined 1 (length xs) (calls old) ∙ ap (λ (n : ℕ). option_map (raised_by n) (calls old)) (omega arith)

  pub each_at_most : (xs : List X) (old new : S) → Each Step xs old new → AtMost (length xs) (calls old) (calls new)
  each_at_most xs old new steps = (length xs, omega arith, each_calls xs old new steps)

  pub stops_at_most : (Last : X → S → S → Type 0) → ((x : X) (s t : S) → Last x s t → calls t ≡ option_map raised (calls s)) → (xs : List X) (at : ℕ) (old new : S) → StopsAt Step Last xs at old new → AtMost (length xs) (calls old) (calls new)
  stops_at_most Last last xs at old new stops =
      let whole : length xs ≡ length stops.before + length (stops.item ∷ stops.left) = ap length stops.split ∙ length-append stops.before (stops.item ∷ stops.left) in
      (length stops.before + 1, omega (arith, whole), last stops.item stops.mid new stops.last ∙ ap (option_map raised) (each_calls stops.before old stops.mid stops.steps) ∙ calls_joined (length stops.before) 1 (calls old))

abbrev screen_calls : SinkState → Option ℕ
screen_calls state = state.calls

abbrev out_calls : OutState → Option ℕ
out_calls state = state.calls

one_more : (most : ℕ) (before mid now : Option ℕ) → AtMost most before mid → now ≡ option_map raised mid → AtMost (most + 1) before now
one_more most before mid now some is = (some.0 + 1, omega (arith, some.1), is ∙ ap (option_map raised) some.2 ∙ calls_joined some.0 1 before)

prints_within : (printed : Result (Unit {0}) SinkFault) (report : Report) (old mid new : SinkState) (status : Status) → PrintsAll report.lines old mid printed → Concludes report.status printed mid new status
    → WithinWrites (length report.lines) status old new
prints_within (Ok done) report old mid new status lines end =
    inl (subst (λ (s : SinkState). AtMost (length report.lines) old.calls s.calls) (sym end.0) (each_at_most screen_calls Print (λ x s t step. step.calls) report.lines old mid lines))
prints_within (Err ScreenFailed) report old mid new status lines end =
    inl (subst (λ (s : SinkState). AtMost (length report.lines) old.calls s.calls) (sym end.0)
    (stops_at_most screen_calls Print (λ x s t step. step.calls) (PrintFails ScreenFailed) (λ x s t step. step.calls) report.lines lines.0 old mid lines.1))
prints_within (Err WriteMemory) report old mid new status lines end =
    inr (end.1, one_more (length report.lines) old.calls mid.calls new.calls (stops_at_most screen_calls Print (λ x s t step. step.calls) (PrintFails WriteMemory) (λ x s t step. step.calls) report.lines lines.0 old mid lines.1) end.0.1.calls)

pub shows_within : (report : Report) (old new : SinkState) (status : Status) → Shows report old new status → WithinWrites (length report.lines) status old new
shows_within report old new status shows = prints_within shows.printed report old shows.mid new status shows.lines shows.conclusion

-- the calls that a part has made are no more than it asks
made_within : {A : Type 0} (asked : Asked A) (made : List (List ℕ)) (r : Result A Halt) → Ends asked made r → length made ≤ length asked.paths
made_within asked made (Ok value) ends = omega (arith, ap length ends.1)
made_within asked made (Err (Refused findings)) ends = omega (arith, ap length ends.1)
made_within asked made (Err (Missing path)) ends = omega (arith, ap length ends.1)
made_within asked made (Err (Failed path)) ends = omega (arith, ap length ends.0.1, length-append made ends.0.0)
made_within asked made (Err Memory) ends = omega (arith, ap length ends.1, length-append made ends.0)

puts_within : (files : List File) (put : Result (Unit {0}) PutFault) (old new : OutState) → PutsAll files old new put → AtMost (length files) old.calls new.calls
puts_within files (Ok done) old new puts = each_at_most out_calls Put (λ x s t step. step.calls) files old new puts
puts_within files (Err stop) old new puts = stops_at_most out_calls Put (λ x s t step. step.calls) (PutFails stop.fault) (λ x s t step. step.calls) files stop.at old new puts

none_made : (most : ℕ) (before now : Option ℕ) → now ≡ before → AtMost most before now
none_made most before now same = (0, omega arith, same ∙ sym (calls_none before))

module _ (words : List (List ℕ)) (before after : Outside) where
  puts_asked : (ending : Result (List File) Halt) (put : Result (Unit {0}) PutFault) → is_command words ≡ true → Follows (asked_by words) before.tree after.tree ending → PutsAll (files_of (Judged ending)) before.out after.out put
      → IfSome before.tree.files (λ held. AtMost (length (files_asked words held)) before.out.calls after.out.calls)
  puts_asked (Ok files) put command follows puts =
      IfSome_then before.tree.files follows.asked (λ held answered. subst (λ (fs : List File). AtMost (length fs) before.out.calls after.out.calls) (asked_is words held files command answered.ends.0) (puts_within files put before.out after.out puts))
  puts_asked (Err halt) put command follows puts =
      if_told before.tree.files (λ held. none_made (length (files_asked words held)) before.out.calls after.out.calls (ap out_calls (nothing_put put before.out after.out puts)))

pub within : {words : List (List ℕ)} {before after : Outside} {status : Status} → IsRun words before after status → WithinCalls words before after
within {words = words} {before = before} {after = after} {status = status} r = by_words (WithinCalls words before after) r
    (λ (c : Commanded words before after status). record {
      tree = IfSome_then before.tree.files c.follows.asked (λ held answered.
          rw c.command (length answered.made, made_within (asked_by words held) answered.made c.result answered.ends, answered.calls));
      out = puts_asked words before after c.result c.put c.command c.follows c.putting;
    })
    (λ u. record {
      tree = if_told before.tree.files (λ held. none_made (length (paths_asked words held)) before.tree.calls after.tree.calls (ap (λ t. t.calls) u.same));
      out = if_told before.tree.files (λ held. none_made (length (files_asked words held)) before.out.calls after.out.calls (ap out_calls (nothing_put u.put before.out after.out u.putting)));
    })

-- a put that failed was the last call, and came after one for each file before it
pub stopped_calls : (fault : OutFault) (files : List File) (at : ℕ) (old new : OutState) (stops : StopsAt Put (PutFails fault) files at old new) → new.calls ≡ option_map (raised_by (length stops.before + 1)) old.calls
stopped_calls fault files at old new stops =
    stops.last.calls ∙ ap (option_map raised) (each_calls out_calls Put (λ x s t step. step.calls) stops.before old stops.mid stops.steps) ∙ calls_joined (length stops.before) 1 old.calls
