-- What the answer of a run says of what it met, from the run as it was.
use Rattle.std.proofs.Common.{◌≡◌, ◌≢◌, ℕ, List, [], ◌∷◌, ◌++◌, Option, None, Some, Result, Ok, Err, refl, sym, ◌∙◌, ap, subst, arith, inl, inr, Bool, true, false}
use Rattle.std.specs.Prelude.{IfSome}
use Rattle.std.specs.Prelude.{slice_get, map}
use Rattle.std.specs.Option.{option_and_then}
use Rattle.std.proofs.lemmas.Bool.{cases_Bool}
use Rattle.std.proofs.lemmas.Option.{IfSome_then, same_Some}
use Rattle.sq_base.specs.Counts.{Rose}
use Rattle.sq_base.specs.Out.{OutState}
use Rattle.sq_base.specs.Sink.{SinkState}
use Rattle.sq_base.specs.declared.file.File.{File}
use Rattle.sq_base.specs.declared.out.OutFault.{OutFault}
use Rattle.sq_base.specs.declared.out.OutFault.TheVariants.{Failed as PutFailed, Memory as PutMemory}
use Rattle.sq_base.specs.declared.sink.SinkFault.{SinkFault}
use Rattle.sq_base.specs.declared.sink.SinkFault.TheVariants.{Failed as ScreenFailed, Memory as WriteMemory}
use Rattle.sq_plan.specs.declared.halt.Finding.{Finding}
use Rattle.sq_plan.specs.declared.halt.Halt.{Halt}
use Rattle.sq_config.specs.declared.command_line.Task.TheVariants.{Compile}
use Rattle.sq_plan.specs.declared.halt.Ending.{Ending}
use Rattle.sq_plan.specs.declared.halt.Ending.TheVariants.{Usage as IsUsage, Judged}
use Rattle.sq_plan.specs.declared.halt.Halt.TheVariants.{Refused as IsRefused, Missing as HaltMissing, Failed as HaltFailed, Memory as HaltMemory}
use Rattle.sq_plan.specs.declared.status.Status.{Status}
use Rattle.sq_plan.specs.declared.status.Status.TheVariants.{Done, Refused, Usage, ReadFault, WriteFault, Memory, Missing}
use Rattle.sq_plan.specs.declared.deliver.Report.{Report}
use Rattle.sq_plan.specs.declared.deliver.PutFault.{PutFault}
use Rattle.sq_plan.specs.Asked.{Follows, Ends, CountsFault}
use Rattle.sq_plan.proofs.Steps.{if_told}
use Rattle.sq_plan.specs.Each.{Each, StopsAt}
use Rattle.sq_plan.specs.Status.{unless_screen_failed}
use Rattle.sq_plan.specs.Lines.{finding_line, usage_lines}
use Rattle.sq_plan.specs.Deliver.{Put, PutFails, Print, PutsAll, PrintsAll, Concludes, files_of, unwritten_line, report, put_failed, report_of}
use Rattle.sq_run.specs.Project.{is_command, task_asked, asked_by, Judging}
use Rattle.sq_run.specs.Run.{Outside, Tells, IsRun, Cause, HasFiles, Says, WriteFailed, files_asked, Unless, Unless.as_wanted, Unless.no_memory, Unless.screen_failed, Owes, IsOwed}

-- steps that keep a count keep it together
pub each_keeps : {S X : Type 0} (count : S → ℕ) (Step : X → S → S → Type 0) → ((x : X) (s t : S) → Step x s t → count t ≡ count s) → (xs : List X) (old new : S) → Each Step xs old new → count new ≡ count old
each_keeps count Step keeps [] old new same = ap count same
each_keeps count Step keeps (x ∷ xs) old new steps = each_keeps count Step keeps xs steps.0 new steps.2 ∙ keeps x old steps.0 steps.1

-- no list ends at an item that it has not
pub some_item : {X : Type 0} (xs front left : List X) (x : X) → xs ≡ front ++ x ∷ left → xs ≢ []
some_item xs [] left x is none = cc (is, none)
some_item xs (y ∷ front) left x is none = cc (is, none)

-- the status that was meant, whether or not the screen took its lines
pub data Reached (intended : Status) (lines : List (List ℕ)) (before now : ℕ) (status : Status) : Type 0 where
  as_meant : status ≡ intended → now ≡ before → Reached intended lines before now status
  replaced : status ≡ unless_screen_failed intended → Rose before now → lines ≢ [] → Reached intended lines before now status
  ended : status ≡ Memory → Reached intended lines before now status

reached : (printed : Result (Unit {0}) SinkFault) (report : Report) (old mid new : SinkState) (status : Status) → PrintsAll report.lines old mid printed → Concludes report.status printed mid new status
    → Reached report.status report.lines old.faults new.faults status
reached (Ok done) report old mid new status lines end =
    as_meant end.1 (ap (λ (s : SinkState). s.faults) end.0 ∙ each_keeps (λ (s : SinkState). s.faults) Print (λ x s t step. step.faults) report.lines old mid lines)
reached (Err ScreenFailed) report old mid new status lines end =
    let kept = each_keeps (λ (s : SinkState). s.faults) Print (λ x s t step. step.faults) lines.1.before old lines.1.mid lines.1.steps in
    replaced end.1 (rw (end.0, ← kept) lines.1.last.faults) (some_item report.lines lines.1.before lines.1.left lines.1.item lines.1.split)
reached (Err WriteMemory) report old mid new status lines end = ended end.1

-- what a fault of the output comes to
abbrev pub put_status : OutFault → Status
put_status PutFailed = WriteFault
put_status PutMemory = Memory

-- the status that a run is to have
abbrev pub intended : Ending → Result (Unit {0}) PutFault → Status
intended IsUsage put = Usage
intended (Judged (Ok files)) (Ok done) = Done
intended (Judged (Ok files)) (Err stop) = put_status stop.fault
intended (Judged (Err (IsRefused findings))) put = Refused
intended (Judged (Err (HaltMissing path))) put = Missing
intended (Judged (Err (HaltFailed path))) put = ReadFault
intended (Judged (Err HaltMemory)) put = Memory

-- the lines of a report, none where there is no report
abbrev pub lines_of : Option Report → List (List ℕ)
lines_of (Some told) = told.lines
lines_of None = []

-- a report has the status that the run is to have
report_status : (files : List File) (at : ℕ) (fault : OutFault) (said : Report) → put_failed files at fault ≡ Some said → said.status ≡ put_status fault
report_status files at PutFailed said is = failed_status (slice_get files at) said is
  where
    failed_status : (file : Option File) (said : Report) → option_and_then (λ (file : File). report WriteFault (unwritten_line file.path ∷ [])) file ≡ Some said → said.status ≡ WriteFault
    failed_status None said is = absurd (cc is)
    failed_status (Some file) said is = ap (λ (r : Report). r.status) (sym (same_Some _ _ is))
report_status files at PutMemory said is = absurd (cc is)

intended_is : (ending : Ending) (put : Result (Unit {0}) PutFault) (said : Report) → report_of ending put ≡ Some said → said.status ≡ intended ending put
intended_is IsUsage put said is = ap (λ (r : Report). r.status) (sym (same_Some _ _ is))
intended_is (Judged (Ok files)) (Ok done) said is = ap (λ (r : Report). r.status) (sym (same_Some _ _ is))
intended_is (Judged (Ok files)) (Err stop) said is = report_status files stop.at stop.fault said is
intended_is (Judged (Err (IsRefused findings))) put said is = ap (λ (r : Report). r.status) (sym (same_Some _ _ is))
intended_is (Judged (Err (HaltMissing path))) put said is = ap (λ (r : Report). r.status) (sym (same_Some _ _ is))
intended_is (Judged (Err (HaltFailed path))) put said is = ap (λ (r : Report). r.status) (sym (same_Some _ _ is))
intended_is (Judged (Err HaltMemory)) put said is = absurd (cc is)

pub run_reached : (ending : Ending) (put : Result (Unit {0}) PutFault) (old new : SinkState) (status : Status) → Tells (report_of ending put) old new status
    → Reached (intended ending put) (lines_of (report_of ending put)) old.faults new.faults status
run_reached ending put old new status (inl told) =
    rw (← intended_is ending put told.0 told.1, told.1) (reached told.2.printed told.0 old told.2.mid new status told.2.lines told.2.conclusion)
run_reached ending put old new status (inr told) = ended told.1

-- what holds of the status that was meant, of the one that a failing screen makes of it, and of Memory
pub by_status : {wanted : Status} {lines : List (List ℕ)} {before now : ℕ} {status : Status} (P : Status → Type 0) → Reached wanted lines before now status
    → (now ≡ before → P wanted) → (Rose before now → lines ≢ [] → P (unless_screen_failed wanted)) → P Memory → P status
by_status P (as_meant is same) here failed none = subst P (sym is) (here same)
by_status P (replaced is rose some) here failed none = subst P (sym is) (failed rose some)
by_status P (ended is) here failed none = subst P (sym is) none

-- the files of an accepted run are those asked
pub asked_is : (words : List (List ℕ)) (held files : List File) → is_command words ≡ true → (asked_by words held).answer ≡ Some (Ok files) → files ≡ files_asked words held
asked_is words held files command is = rw (command, is) refl

-- what a command says where its project is refused
refused_says : (words : List (List ℕ)) (held : List File) (findings : List Finding) → is_command words ≡ true → (asked_by words held).answer ≡ Some (Err findings) → Says words (is_command words) held Refused (map finding_line findings)
refused_says words held findings command is = rw (command, is) (refl, refl)

-- what other words say
pub usage_says : (words : List (List ℕ)) (held : List File) → is_command words ≡ false → Says words (is_command words) held Usage usage_lines
usage_says words held none = rw none (refl, refl)

module _ (words : List (List ℕ)) (before after : Outside) (status : Status) where
  -- the cause of an answer to a command
  caused_by : (ending : Result (List File) Halt) (put : Result (Unit {0}) PutFault) → is_command words ≡ true → Follows (asked_by words) before.tree after.tree ending → PutsAll (files_of (Judged ending)) before.out after.out put
      → Reached (intended (Judged ending) put) (lines_of (report_of (Judged ending) put)) before.screen.faults after.screen.faults status → Cause words before after status
  caused_by (Ok files) (Ok done) command follows puts end =
      by_status (Cause words before after) end
      (λ same. (
        record {
          tree = record { faults = omega (arith, follows.faults); missings = omega (arith, follows.missings) };
          out = omega (arith, each_keeps (λ (s : OutState). s.faults) Put (λ x s t step. step.faults) files before.out after.out puts);
          screen = omega arith;
        },
        record { command = command; project = IfSome_then before.tree.files follows.asked (λ held answered. (files, answered.ends.0)) },
      )) (λ rose some. absurd (some refl)) tt
  caused_by (Ok files) (Err stop) command follows puts end = put_stopped stop.fault (lines_of (put_failed files stop.at stop.fault)) puts end
    where
      put_stopped : (fault : OutFault) (lines : List (List ℕ)) → StopsAt Put (PutFails fault) files stop.at before.out after.out → Reached (put_status fault) lines before.screen.faults after.screen.faults status → Cause words before after status
      put_stopped PutFailed lines stops end =
          let kept = each_keeps (λ (s : OutState). s.faults) Put (λ x s t step. step.faults) stops.before before.out stops.mid stops.steps in
          let rose : Rose before.out.faults after.out.faults = omega (arith, kept, stops.last.faults) in
          let has : HasFiles words before = IfSome_then before.tree.files follows.asked (λ held answered none. some_item files stops.before stops.left stops.item stops.split (asked_is words held files command answered.ends.0 ∙ none)) in
          by_status (Cause words before after) end (λ same. inl (rose, has)) (λ failed some. inl (rose, has)) tt
      put_stopped PutMemory lines stops end = by_status (Cause words before after) end (λ same. tt) (λ failed some. tt) tt
  caused_by (Err (IsRefused findings)) put command follows puts end =
      by_status (Cause words before after) end
      (λ same. (
        record { faults = omega (arith, follows.faults); missings = omega (arith, follows.missings) },
        record { command = command; project = IfSome_then before.tree.files follows.asked (λ held answered. (findings, answered.ends.0)) },
      ))
      (λ rose some. inr (rose, IfSome_then before.tree.files follows.asked (λ held answered. (Refused, map finding_line findings, refused_says words held findings command answered.ends.0, some)))) tt
  caused_by (Err (HaltMissing path)) put command follows puts end =
      let cause : Cause words before after Missing =
      (follows.missings, omega (arith, follows.faults), record { command = command; project = IfSome_then before.tree.files follows.asked (λ held answered. answered.ends.0) }) in
      by_status (Cause words before after) end (λ same. cause) (λ failed some. cause) tt
  caused_by (Err (HaltFailed path)) put command follows puts end = by_status (Cause words before after) end (λ same. follows.faults) (λ failed some. follows.faults) tt
  caused_by (Err HaltMemory) put command follows puts end = by_status (Cause words before after) end (λ same. tt) (λ failed some. tt) tt

-- a run of a command
pub record Commanded (words : List (List ℕ)) (before after : Outside) (status : Status) : Type 0 where
  pub result : Result (List File) Halt
  pub put : Result (Unit {0}) PutFault
  pub command : is_command words ≡ true
  pub follows : Follows (asked_by words) before.tree after.tree result
  pub compiling : task_asked words ≡ Some Compile → files_of (Judged result) ≡ []
  pub putting : PutsAll (files_of (Judged result)) before.out after.out put
  pub telling : Tells (report_of (Judged result) put) before.screen after.screen status

-- a run of words that are no command
pub record Uncommanded (words : List (List ℕ)) (before after : Outside) (status : Status) : Type 0 where
  pub put : Result (Unit {0}) PutFault
  pub other : is_command words ≡ false
  pub same : after.tree ≡ before.tree
  pub putting : PutsAll [] before.out after.out put
  pub telling : Tells (report_of IsUsage put) before.screen after.screen status

-- by whether the words are a command
module _ {words : List (List ℕ)} {before after : Outside} {status : Status} (Q : Type 0) where
  by_ending : (b : Bool) → is_command words ≡ b → (ending : Ending) (put : Result (Unit {0}) PutFault) → Judging words b before.tree after.tree ending → (task_asked words ≡ Some Compile → files_of ending ≡ [])
      → PutsAll (files_of ending) before.out after.out put → Tells (report_of ending put) before.screen after.screen status
      → (Commanded words before after status → Q) → (Uncommanded words before after status → Q) → Q
  by_ending true is (Judged result) put judged compiles puts tells commanded other =
      commanded (record { result = result; put = put; command = is; follows = judged; compiling = compiles; putting = puts; telling = tells })
  by_ending true is IsUsage put judged compiles puts tells commanded other = absurd judged
  by_ending false is (Judged result) put judged compiles puts tells commanded other = absurd judged
  by_ending false is IsUsage put judged compiles puts tells commanded other = other (record { put = put; other = is; same = judged; putting = puts; telling = tells })

  pub by_words : IsRun words before after status → (Commanded words before after status → Q) → (Uncommanded words before after status → Q) → Q
  by_words r commanded other = by_ending (is_command words) refl r.ending r.put r.judging r.compiling r.putting r.telling commanded other

-- what a run of a command has reached
pub commanded_reached : {words : List (List ℕ)} {before after : Outside} {status : Status} (r : Commanded words before after status)
    → Reached (intended (Judged r.result) r.put) (lines_of (report_of (Judged r.result) r.put)) before.screen.faults after.screen.faults status
commanded_reached {before = before} {after = after} {status = status} r = run_reached (Judged r.result) r.put before.screen after.screen status r.telling

-- and one of other words
pub uncommanded_reached : {words : List (List ℕ)} {before after : Outside} {status : Status} (r : Uncommanded words before after status)
    → Reached Usage usage_lines before.screen.faults after.screen.faults status
uncommanded_reached {before = before} {after = after} {status = status} r = run_reached IsUsage r.put before.screen after.screen status r.telling

pub caused : {words : List (List ℕ)} {before after : Outside} {status : Status} → IsRun words before after status → Cause words before after status
caused {words = words} {before = before} {after = after} {status = status} r = by_words (Cause words before after status) r
    (λ c. caused_by words before after status c.result c.put c.command c.follows c.putting (commanded_reached c))
    (λ u. by_status (Cause words before after) (uncommanded_reached u) (λ same. u.other)
    (λ rose some. inr (rose, if_told before.tree.files (λ held. (Usage, usage_lines, usage_says words held u.other, some)))) tt)

-- memory may be wanting whatever is owed
memory_owed : (answer : Option (Result (List File) (List Finding))) (before after : Outside) → Owes answer before after Memory
memory_owed None before after = inr refl
memory_owed (Some (Err findings)) before after = no_memory refl
memory_owed (Some (Ok files)) before after = inl (no_memory refl)

-- what is owed for what a command comes to
owed_by : (answer : Option (Result (List File) (List Finding))) (paths made : List (List ℕ)) (before after : Outside) (status : Status) (ending : Result (List File) Halt) (put : Result (Unit {0}) PutFault)
    → Ends (record { paths = paths; answer = answer }) made ending → CountsFault ending before.tree.faults after.tree.faults → ¬ Rose before.tree.faults after.tree.faults
    → PutsAll (files_of (Judged ending)) before.out after.out put → Reached (intended (Judged ending) put) (lines_of (report_of (Judged ending) put)) before.screen.faults after.screen.faults status → Owes answer before after status
owed_by answer paths made before after status (Ok files) (Ok done) ends counts quiet puts end =
    rw ends.0 (by_status (Owes (Some (Ok files)) before after) end (λ same. inl (as_wanted refl)) (λ rose some. inl (screen_failed refl rose)) (inl (no_memory refl)))
owed_by answer paths made before after status (Ok files) (Err stop) ends counts quiet puts end = rw ends.0 (put_stopped stop.fault (lines_of (put_failed files stop.at stop.fault)) puts end)
  where
    put_stopped : (fault : OutFault) (lines : List (List ℕ)) → StopsAt Put (PutFails fault) files stop.at before.out after.out → Reached (put_status fault) lines before.screen.faults after.screen.faults status → Owes (Some (Ok files)) before after status
    put_stopped PutFailed lines stops end =
        let kept = each_keeps (λ (s : OutState). s.faults) Put (λ x s t step. step.faults) stops.before before.out stops.mid stops.steps in
        let rose : Rose before.out.faults after.out.faults = omega (arith, kept, stops.last.faults) in
        by_status (Owes (Some (Ok files)) before after) end (λ same. inr (refl, rose)) (λ failed some. inr (refl, rose)) (inl (no_memory refl))
    put_stopped PutMemory lines stops end = by_status (Owes (Some (Ok files)) before after) end (λ same. inl (no_memory refl)) (λ failed some. inl (no_memory refl)) (inl (no_memory refl))
owed_by answer paths made before after status (Err (IsRefused findings)) put ends counts quiet puts end =
    rw ends.0 (by_status (Owes (Some (Err findings)) before after) end (λ same. as_wanted refl) (λ rose some. screen_failed refl rose) (no_memory refl))
owed_by answer paths made before after status (Err (HaltMissing path)) put ends counts quiet puts end =
    rw ends.0 (by_status (Owes None before after) end (λ same. inl refl) (λ rose some. inl refl) (inr refl))
owed_by answer paths made before after status (Err (HaltFailed path)) put ends counts quiet puts end = absurd (quiet counts)
owed_by answer paths made before after status (Err HaltMemory) put ends counts quiet puts end =
    by_status (Owes answer before after) end (λ same. memory_owed answer before after) (λ rose some. memory_owed answer before after) (memory_owed answer before after)

usage_owed : (before after : Outside) (status : Status) → Reached Usage usage_lines before.screen.faults after.screen.faults status → Unless Usage before after status
usage_owed before after status end = by_status (Unless Usage before after) end (λ same. as_wanted refl) (λ rose some. screen_failed refl rose) (no_memory refl)

-- where there is no file, nothing is put
pub nothing_put : (put : Result (Unit {0}) PutFault) (old new : OutState) → PutsAll [] old new put → new ≡ old
nothing_put (Ok done) old new same = same
nothing_put (Err stop) old new stops = absurd (no_place stops.before stops.split)
  where
    no_place : (front : List File) → [] ≡ front ++ stops.item ∷ stops.left → ⊥
    no_place [] is = cc is
    no_place (file ∷ front) is = cc is

-- where a put or a write has failed, and the answer is another than those that come before it or memory's
module _ (before after : Outside) where
  abbrev Told : Status → Type 0
  Told status = WriteFailed before after → status ≢ Missing → status ≢ ReadFault → status ≢ Memory → status ≡ WriteFault

  told_put : (fault : OutFault) (lines : List (List ℕ)) (status : Status) → Reached (put_status fault) lines before.screen.faults after.screen.faults status → Told status
  told_put PutFailed lines status end = by_status Told end (λ same failed a b c. refl) (λ rose some failed a b c. refl) (λ failed a b c. absurd (c refl))
  told_put PutMemory lines status end = by_status Told end (λ same failed a b c. absurd (c refl)) (λ rose some failed a b c. absurd (c refl)) (λ failed a b c. absurd (c refl))

  -- neither count is greater
  none_greater : after.out.faults ≡ before.out.faults → after.screen.faults ≡ before.screen.faults → WriteFailed before after → ⊥
  none_greater out screen (inl greater) = omega arith
  none_greater out screen (inr greater) = omega arith

  told_halt : (halt : Halt) (put : Result (Unit {0}) PutFault) (lines : List (List ℕ)) (status : Status) → after.out ≡ before.out → Reached (intended (Judged (Err halt)) put) lines before.screen.faults after.screen.faults status → Told status
  told_halt (IsRefused findings) put lines status kept end =
      by_status Told end (λ same failed a b c. absurd (none_greater (ap (λ (s : OutState). s.faults) kept) same failed)) (λ rose some failed a b c. refl) (λ failed a b c. absurd (c refl))
  told_halt (HaltMissing path) put lines status kept end = by_status Told end (λ same failed a b c. absurd (a refl)) (λ rose some failed a b c. absurd (a refl)) (λ failed a b c. absurd (c refl))
  told_halt (HaltFailed path) put lines status kept end = by_status Told end (λ same failed a b c. absurd (b refl)) (λ rose some failed a b c. absurd (b refl)) (λ failed a b c. absurd (c refl))
  told_halt HaltMemory put lines status kept end = by_status Told end (λ same failed a b c. absurd (c refl)) (λ rose some failed a b c. absurd (c refl)) (λ failed a b c. absurd (c refl))

  told_write : (ending : Result (List File) Halt) (put : Result (Unit {0}) PutFault) (lines : List (List ℕ)) (status : Status) → PutsAll (files_of (Judged ending)) before.out after.out put
      → Reached (intended (Judged ending) put) lines before.screen.faults after.screen.faults status → Told status
  told_write (Ok files) (Ok done) lines status puts end =
      by_status Told end (λ same failed a b c. absurd (none_greater (each_keeps (λ (s : OutState). s.faults) Put (λ x s t step. step.faults) files before.out after.out puts) same failed))
      (λ rose some failed a b c. refl) (λ failed a b c. absurd (c refl))
  told_write (Ok files) (Err stop) lines status puts end = told_put stop.fault lines status end
  told_write (Err halt) put lines status puts end = told_halt halt put lines status (nothing_put put before.out after.out puts) end

  told_usage : (lines : List (List ℕ)) (status : Status) → after.out ≡ before.out → Reached Usage lines before.screen.faults after.screen.faults status → Told status
  told_usage lines status kept end =
      by_status Told end (λ same failed a b c. absurd (none_greater (ap (λ (s : OutState). s.faults) kept) same failed)) (λ rose some failed a b c. refl) (λ failed a b c. absurd (c refl))

pub owed : {words : List (List ℕ)} {before after : Outside} {status : Status} → IsRun words before after status → IsOwed words before after status
owed {words = words} {before = before} {after = after} {status = status} r = by_words (IsOwed words before after status) r
    (λ c. record {
      usage = λ none. absurd (cc (none, c.command));
      project = λ command quiet. IfSome_then before.tree.files c.follows.asked (λ files answered.
          owed_by (asked_by words files).answer (asked_by words files).paths answered.made before after status c.result c.put answered.ends c.follows.faults quiet c.putting (commanded_reached c));
      write = told_write before after c.result c.put (lines_of (report_of (Judged c.result) c.put)) status c.putting (commanded_reached c);
    })
    (λ u. record {
      usage = λ none. usage_owed before after status (uncommanded_reached u);
      project = λ command quiet. absurd (cc (command, u.other));
      write = told_usage before after usage_lines status (nothing_put u.put before.out after.out u.putting) (uncommanded_reached u);
    })

-- `compile` puts nothing
pub compiled : {words : List (List ℕ)} {before after : Outside} {status : Status} → IsRun words before after status → task_asked words ≡ Some Compile → after.out ≡ before.out
compiled {before = before} {after = after} r compiles = nothing_put r.put before.out after.out (subst (λ (fs : List File). PutsAll fs before.out after.out r.put) (r.compiling compiles) r.putting)
