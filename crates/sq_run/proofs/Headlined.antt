-- The headline of an accepted configuration.
use Rattle.std.proofs.Common.{◌≡◌, ℕ, ◌+◌, true, false, List, [], ◌∷◌, ◌++◌, map, Option, None, Some, Ok, refl, sym, ap, subst}
use Rattle.std.specs.Prelude.{IfSome}
use Rattle.std.specs.List.{AllByRecursion, AllZip}
use Rattle.std.specs.Option.{option_map}
use Rattle.std.proofs.lemmas.Option.{same_Some}
use Rattle.sq_base.specs.Files.{bytes_at}
use Rattle.sq_base.specs.declared.file.File.{File}
use Rattle.sq_shown.specs.Layout as layout
use Rattle.sq_shown.specs.Names.{clash}
use Rattle.sq_shown.specs.Words.{is_word}
use Rattle.sq_shown.specs.declared.declaration.ModelDecl.{ModelDecl}
use Rattle.sq_shown.specs.declared.declaration.QueryFile.{QueryFile}
use Rattle.sq_shown.specs.declared.signature.Shown.{Shown}
use Rattle.sq_reader.specs.Reading.{Reads}
use Rattle.sq_config.specs.declared.command_line.Request.{Request}
use Rattle.sq_config.specs.declared.command_line.Task.{Task}
use Rattle.sq_config.specs.declared.command_line.Task.TheVariants.{Generate}
use Rattle.sq_config.specs.declared.configuration.Block.{Block}
use Rattle.sq_config.specs.declared.configuration.Entry.{Entry}
use Rattle.sq_plan.specs.declared.entries.Purpose.{Purpose}
use Rattle.sq_plan.specs.declared.entries.Purpose.TheVariants.{Schema, Queries}
use Rattle.sq_plan.specs.declared.outputs.Output.{Output}
use Rattle.sq_run.specs.declared.sources.SourceFile.{SourceFile}
use Rattle.sq_plan.specs.declared.status.Status.{Status}
use Rattle.sq_plan.specs.declared.status.Status.TheVariants.{Done}
use Rattle.sq_config.specs.CommandLine.{request_of}
use Rattle.sq_run.specs.Headline.{IsSource, AreSources, IsWritten, InOrder, IsBlock, IsHeadline, Headline}
use Rattle.sq_run.specs.Project.{models_of, placed, written, block_files, asked_by, task_asked}
use Rattle.sq_run.specs.Run.{Outside, Cause, Kept, HoldsAll, files_asked}
use Rattle.sq_run.proofs.Kept.{told_then}
use Rattle.sq_run.proofs.Plans.{FromSource, FromSources, FromEntry, is_source, accepted_from, block_from, outs_apart, written_ok}
use Rattle.sq_run.proofs.Origins.{all_read, schema_from}
use Rattle.sq_run.proofs.FoldersApart.{IsHeldAt, all_held}
use Rattle.sq_run.proofs.OkSteps.{Gathered, gathered_ok, EachOk}
use Rattle.sq_run.proofs.Says.{Laws, signatures_of, says_over}
use Rattle.sq_run.proofs.BlocksApart.{blocks_apart}

-- files that are held in a folder
held_placed : (now : List File) (folder : List ℕ) (files : List File) → AllByRecursion (IsHeldAt now) (map (placed folder) files) → AllByRecursion (λ (file : File). bytes_at now (placed folder file).path ≡ Some file.bytes) files
held_placed now folder [] all = tt
held_placed now folder (file ∷ files) all = (all.0, held_placed now folder files all.1)

all_front : {X : Type 0} (P : X → Type 0) (xs ys : List X) → AllByRecursion P (xs ++ ys) → AllByRecursion P xs
all_front P [] ys all = tt
all_front P (x ∷ xs) ys all = (all.0, all_front P xs ys all.1)

all_back : {X : Type 0} (P : X → Type 0) (xs ys : List X) → AllByRecursion P (xs ++ ys) → AllByRecursion P ys
all_back P [] ys all = all
all_back P (x ∷ xs) ys all = all_back P xs ys all.1

all_held_at : (purpose : Purpose) (held : List File) (paths : List (List ℕ)) (files : List SourceFile) → AllZip (FromSource purpose held) paths files → AllZip (IsSource purpose held) paths files
all_held_at purpose held [] [] from = tt
all_held_at purpose held [] (file ∷ files) from = absurd from
all_held_at purpose held (path ∷ paths) [] from = absurd from
all_held_at purpose held (path ∷ paths) (file ∷ files) from = (is_source purpose held path file from.0, all_held_at purpose held paths files from.1)

sources_held : (purpose : Purpose) (held : List File) (paths : List (List ℕ)) (files : List SourceFile) → FromSources purpose held paths files → AreSources purpose held paths files
sources_held purpose held paths files from = record { found = from.found; stand_for = from.stand_for; all_held = all_held_at purpose held from.found files from.from }

module _ (laws : Laws) (path : List ℕ) (held now : List File) where
  -- what was put for the outputs of a block
  outputs_put : (models : List ModelDecl) (files : List QueryFile) (signatures : List Shown) → ((own_package : List ℕ) → is_word own_package ≡ true → clash models files ≡ false → Reads (layout.layout own_package models files) signatures)
      → (entries : List Entry) (outputs : List Output) (put : List File) → AllZip FromEntry entries outputs → EachOk (written path models files) outputs put → AllByRecursion (IsHeldAt now) put → InOrder (IsWritten signatures now) outputs put
  outputs_put models files signatures reads [] [] put from each all = each
  outputs_put models files signatures reads [] (output ∷ outputs) put from each all = absurd from
  outputs_put models files signatures reads (entry ∷ entries) [] put from each all = absurd from
  outputs_put models files signatures reads (entry ∷ entries) (output ∷ outputs) put from each all =
      let laid = written_ok path models files output each.0 each.2 in
      let held_all = subst (AllByRecursion (IsHeldAt now)) each.3 all in
      let own = all_front (IsHeldAt now) each.0 each.1 held_all in
      let word : is_word output.package_name ≡ true = rw from.0.named (laws.packages entry.options.out) in (
        each.0,
        each.1,
        each.3,
        record {
          files = layout.layout output.package_name models files;
          put_there = laid.1;
          holds = held_placed now output.path (layout.layout output.package_name models files) (subst (AllByRecursion (IsHeldAt now)) laid.1 own);
          reads = reads output.package_name word laid.0;
        },
        outputs_put models files signatures reads entries outputs each.1 from.1 each.4 (all_back (IsHeldAt now) each.0 each.1 held_all),
      )

  block_put : (block : Block) (put : List File) → (block_files path block held).answer ≡ Some (Ok put) → AllByRecursion (IsHeldAt now) put → IsBlock path held now block put
  block_put block put is all =
      let from = block_from path block held put is in
      let schema = schema_from laws.replays laws.begins path from.schema from.contents from.replays in
      let said = says_over laws from.contents schema from.queries from.declared (all_read Queries held from.queries_held.found from.queries from.queries_held.from) from.judges in
      record {
        outputs = from.outputs;
        schema = from.schema;
        contents = from.contents;
        queries = from.queries;
        signatures = signatures_of from.declared;
        has_outputs = from.has_outputs;
        schema_held = sources_held Schema held block.schema from.schema from.schema_held;
        replays = from.replays;
        queries_held = sources_held Queries held block.queries from.queries from.queries_held;
        says = said.says;
        written = outputs_put (models_of from.contents) from.declared (signatures_of from.declared) said.reads block.entries from.outputs put from.entries from.laid_out all;
      }

  -- what was put for all blocks
  blocks_put : (n : ℕ) (blocks : List Block) (put : List File) → Gathered (λ _ block. block_files path block) held n blocks put → AllByRecursion (IsHeldAt now) put → InOrder (IsBlock path held now) blocks put
  blocks_put n [] put each all = each
  blocks_put n (block ∷ blocks) put each all =
      let held_all = subst (AllByRecursion (IsHeldAt now)) each.3 all in
      (each.0, each.1, each.3, block_put block each.0 each.2 (all_front (IsHeldAt now) each.0 each.1 held_all), blocks_put (n + 1) blocks each.1 each.4 (all_back (IsHeldAt now) each.0 each.1 held_all))

-- what was put for an accepted configuration
headline_of : (laws : Laws) (words : List (List ℕ)) (held before now : List File) (path : List ℕ) (files : List File) → request_of words ≡ Some (record { task = Generate; path = path }) → (asked_by words held).answer ≡ Some (Ok files)
    → HoldsAll (files_asked words held) before now → IsHeadline words held now
headline_of laws words held before now path files asks answer all =
    let from = accepted_from path held files (rw asks at answer) in
    let asked : files_asked words held ≡ files = rw (asks, rw asks at answer) refl in
    let made = gathered_ok (λ _ block. block_files path block) held 0 from.blocks files from.made in
    let apart = (blocks_apart path held 0 from.blocks [] files made (outs_apart path from.configuration from.blocks from.configures)).apart in
    let each = all_held files now (λ place. bytes_at before place) apart (subst (λ (fs : List File). HoldsAll fs before now) asked all) in
    record {
      path = path;
      configuration = from.configuration;
      blocks = from.blocks;
      asks = asks;
      configuration_held = from.configuration_held;
      configures = from.configures;
      put = subst (InOrder (IsBlock path held now) from.blocks) (sym asked) (blocks_put laws path held now 0 from.blocks files made each);
    }

-- words that ask to generate do so at some path
generates : (words : List (List ℕ)) → task_asked words ≡ Some Generate → (path : List ℕ) × (request_of words ≡ Some (record { task = Generate; path = path }))
generates words is = by_request (request_of words) is
  where
    by_request : (request : Option Request) → option_map (λ (r : Request). r.task) request ≡ Some Generate → (path : List ℕ) × (request ≡ Some (record { task = Generate; path = path }))
    by_request None is = absurd (cc is)
    by_request (Some request) is = (request.path, ap (λ (task : Task). Some (record { task = task; path = request.path })) (same_Some _ _ is))

-- where the run is Done, its files are such
pub headlined : (laws : Laws) (words : List (List ℕ)) (before after : Outside) (status : Status) → Cause words before after status → Kept words before after status → Headline words before after status
headlined laws words before after status cause kept done generate =
    let why : Cause words before after Done = subst (Cause words before after) done cause in
    let holds : Kept words before after Done = subst (Kept words before after) done kept in
    let asks = generates words generate in
    both_told before.tree.files why.1.project holds (λ held accepted told.
    told_then (HoldsAll (files_asked words held)) (λ _ now. IsHeadline words held now) (λ x y all. headline_of laws words held x y asks.0 accepted.0 asks.1 accepted.1 all) before.out.files after.out.files told)
  where
    both_told : (told : Option (List File)) {P Q R : List File → Type 0} → IfSome told P → IfSome told Q → ((held : List File) → P held → Q held → R held) → IfSome told R
    both_told None p q all = tt
    both_told (Some held) p q all = all held p q
