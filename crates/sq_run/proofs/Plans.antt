-- What stands behind the files of an accepted project.
use Rattle.std.proofs.Common.{◌≡◌, ◌≤◌, ℕ, ◌+◌, false, List, [], ◌∷◌, ◌++◌, length, drop, Option, None, Some, Result, Ok, Err, refl, sym, ◌∙◌, ap, subst, inl, inr, arith, nat_le}
use Rattle.sq_base.specs.declared.code.Code.TheVariants as code
use Rattle.std.specs.List.{AllZip}
use Rattle.std.specs.Option.{option_map, option_map_or, option_or}
use Rattle.std.proofs.lemmas.Bool.{cases_Bool, leb-true}
use Rattle.std.proofs.lemmas.Option.{same_Some}
use Rattle.sq_base.specs.Files.{bytes_at}
use Rattle.sq_base.specs.declared.file.File.{File}
use Rattle.sq_base.specs.declared.refusal.Refusal.{Refusal}
use Rattle.sq_catalog.specs.Contents.{Contents}
use Rattle.sq_shown.specs.Identifiers.{package_name}
use Rattle.sq_shown.specs.Names.{clash}
use Rattle.sq_shown.specs.declared.declaration.ModelDecl.{ModelDecl}
use Rattle.sq_shown.specs.declared.declaration.QueryFile.{QueryFile}
use Rattle.sq_lexer.specs.TokenList.{token_list}
use Rattle.sq_syntax.specs.declared.token.Token.{Token}
use Rattle.sq_plan.specs.declared.halt.Finding.{Finding}
use Rattle.sq_config.specs.declared.command_line.Task.TheVariants.{Generate}
use Rattle.sq_config.specs.declared.configuration.Block.{Block}
use Rattle.sq_config.specs.declared.configuration.Configuration.{Configuration as Configured}
use Rattle.sq_config.specs.declared.configuration.Entry.{Entry}
use Rattle.sq_config.specs.declared.configuration.OptionPair.{OptionPair}
use Rattle.sq_plan.specs.declared.entries.Purpose.{Purpose}
use Rattle.sq_plan.specs.declared.entries.Purpose.TheVariants.{Schema, Queries}
use Rattle.sq_plan.specs.declared.outputs.Output.{Output}
use Rattle.sq_plan.specs.declared.read.Role.{Role}
use Rattle.sq_plan.specs.declared.read.Role.TheVariants.{Configuration, Source}
use Rattle.sq_base.specs.declared.limits.TheConstants.{MOST_FILE_BYTES}
use Rattle.sq_run.specs.declared.sources.SourceFile.{SourceFile}
use Rattle.sq_base.specs.declared.limits.TheConstants.{MOST_FILES}
use Rattle.sq_plan.specs.Asked.{nothing_asked, gathered, each_judged}
use Rattle.sq_run.specs.Headline.{IsSource}
use Rattle.serde_json.specs.Data.{Data}
use Rattle.sq_config.specs.Configuration.{refused, unless_bad, with_good_outs, read_value}
use Rattle.sq_config.specs.Json.{json_value}
use Rattle.sq_config.specs.Meaning.{meaning_of}
use Rattle.sq_config.specs.Outs.{all_entries, same_out, other_writer}
use Rattle.sq_config.specs.Shape.{bad_key}
use Rattle.sq_config.specs.Paths.{folder_of}
use Rattle.sq_plan.specs.Reading.{checked, whole_file, listed}
use Rattle.sq_plan.specs.Outputs.{output_by, output_of_entry}
use Rattle.sq_run.specs.Project.{unless_more, counted, with_tokens, source, sources, configured_by, configured, configuration_at, catalogue_of, models_of, output_files, written, schema_read, queries_read, block_files, all_files, requested}
use Rattle.sq_plan.specs.Sources.{found_at, found_for, bytes_read}
use Rattle.sq_run.proofs.Declared.{FromQuery, queries_ok}
use Rattle.sq_run.proofs.OkSteps.{and_then_ok, Gathered, gathered_ok, EachOk, each_ok}

same_answer : {A : Type 0} (r : Result A (List Finding)) (x y : A) → r ≡ Ok x → r ≡ Ok y → x ≡ y
same_answer r x y one other = cc (one, other)

checked_ok : (role : Role) (path b bytes : List ℕ) → checked role path b ≡ Ok bytes → (b ≡ bytes) × (length b ≤ MOST_FILE_BYTES)
checked_ok role path b bytes is = elim (cases_Bool (nat_le (length b) MOST_FILE_BYTES)) [
  | inl fits ↦ (same_answer _ _ _ refl (rw fits at is), leb-true (length b) MOST_FILE_BYTES fits)
  | inr not ↦ absurd (cc (rw not at is))
]

held_ok : (role : Role) (path bytes : List ℕ) (found : Option (List ℕ)) → option_map (checked role path) found ≡ Some (Ok bytes) → (found ≡ Some bytes) × (length bytes ≤ MOST_FILE_BYTES)
held_ok role path bytes None is = absurd (cc is)
held_ok role path bytes (Some b) is =
    let whole = checked_ok role path b bytes (same_Some _ _ is) in
    (ap Some whole.0, omega (arith, ap length whole.0, whole.1))

-- a source that was read is held, and not too long
pub record FromSource (purpose : Purpose) (held : List File) (path : List ℕ) (file : SourceFile) : Type 0 where
  pub bytes : List ℕ
  pub number : ℕ
  pub at_path : file.path ≡ path
  pub source_held : bytes_at held path ≡ Some bytes
  pub fits : length bytes ≤ MOST_FILE_BYTES
  pub listed : token_list number (bytes_read purpose bytes) ≡ Ok file.tokens

pub is_source : (purpose : Purpose) (held : List File) (path : List ℕ) (file : SourceFile) → FromSource purpose held path file → IsSource purpose held path file
is_source purpose held path file from = record { bytes = from.bytes; number = from.number; at_path = from.at_path; source_held = from.source_held; listed = from.listed }

-- the sources of a key are those that its paths stand for
pub record FromSources (purpose : Purpose) (held : List File) (paths : List (List ℕ)) (files : List SourceFile) : Type 0 where
  pub found : List (List ℕ)
  pub stand_for : found_for purpose paths held ≡ Some found
  pub from : AllZip (FromSource purpose held) found files

found_ok : (found : Option (List (List ℕ))) (own : List (List ℕ)) → ◌≡◌ {A = Option (Result (List (List ℕ)) (List Finding))} (option_map (λ paths. Ok paths) found) (Some (Ok own)) → found ≡ Some own
found_ok None own is = absurd (cc is)
found_ok (Some paths) own is = ap Some (same_answer _ _ _ refl (same_Some _ _ is))

-- the files that are found are those that the paths stand for
listed_are : (purpose : Purpose) (held : List File) (n : ℕ) (paths found : List (List ℕ)) → Gathered (λ _ path. listed purpose path) held n paths found → found_for purpose paths held ≡ Some found
listed_are purpose held n [] found is = ap Some (sym is)
listed_are purpose held n (path ∷ paths) found each =
    rw (found_ok (found_at purpose path held) each.0 each.2, listed_are purpose held (n + 1) paths each.1 each.4) (ap Some (sym each.3))

counted_ok : (found few : List (List ℕ)) → counted found ≡ Ok few → few ≡ found
counted_ok found few is = by_more (drop MOST_FILES found) is
  where
    by_more : (more : List (List ℕ)) → unless_more found more ≡ Ok few → few ≡ found
    by_more [] is = sym (same_answer _ _ _ refl is)
    by_more (path ∷ more) is = absurd (cc is)

source_ok : (purpose : Purpose) (n : ℕ) (path : List ℕ) (held : List File) (own : List SourceFile) → (source purpose n path held).answer ≡ Some (Ok own) → (file : SourceFile) × (own ≡ file ∷ []) × FromSource purpose held path file
source_ok purpose n path held own is =
    let read = and_then_ok (whole_file Source path held) _ own is in
    let whole = held_ok Source path read.0 (bytes_at held path) read.1 in
    by_tokens read.0 whole.0 whole.1 (token_list n (bytes_read purpose read.0)) refl (same_Some _ _ read.2)
  where
    by_tokens : (bytes : List ℕ) → bytes_at held path ≡ Some bytes → length bytes ≤ MOST_FILE_BYTES → (list : Result (List Token) Refusal) → token_list n (bytes_read purpose bytes) ≡ list → with_tokens path list ≡ Ok own
        → (file : SourceFile) × (own ≡ file ∷ []) × FromSource purpose held path file
    by_tokens bytes there fits (Err refusal) listed is = absurd (cc is)
    by_tokens bytes there fits (Ok tokens) listed is = (record { path = path; tokens = tokens }, sym (same_answer _ _ _ refl is), record { bytes = bytes; number = n; at_path = refl; source_held = there; fits = fits; listed = listed })

read_are : (purpose : Purpose) (held : List File) (n : ℕ) (paths : List (List ℕ)) (files : List SourceFile) → Gathered (source purpose) held n paths files → AllZip (FromSource purpose held) paths files
read_are purpose held n [] files is = subst (AllZip (FromSource purpose held) []) (sym is) tt
read_are purpose held n (path ∷ paths) files each =
    let first = source_ok purpose n path held each.0 each.2 in
    let all : files ≡ first.0 ∷ each.1 = each.3 ∙ ap (λ (own : List SourceFile). own ++ each.1) first.1 in
    subst (AllZip (FromSource purpose held) (path ∷ paths)) (sym all) (first.2, read_are purpose held (n + 1) paths each.1 each.4)

-- the sources of a key
pub sources_ok : (purpose : Purpose) (held : List File) (paths : List (List ℕ)) (files : List SourceFile) → (sources purpose paths held).answer ≡ Some (Ok files) → FromSources purpose held paths files
sources_ok purpose held paths files is =
    let found = and_then_ok (gathered (λ _ path. listed purpose path) 0 paths held) _ files is in
    let few = and_then_ok (nothing_asked (counted found.0)) _ files found.2 in
    let stand_for = listed_are purpose held 0 paths found.0 (gathered_ok (λ _ path. listed purpose path) held 0 paths found.0 found.1) in
    record {
      found = few.0;
      stand_for = stand_for ∙ ap Some (sym (counted_ok found.0 few.0 (same_Some _ _ few.1)));
      from = read_are purpose held 0 few.0 files (gathered_ok (source purpose) held 0 few.0 files few.2);
    }

-- the output of an entry
pub record FromEntry (entry : Entry) (output : Output) : Type 0 where
  pub at_path : output.path ≡ entry.path
  pub named : output.package_name ≡ package_name entry.options.out

entry_ok : (path : List ℕ) (entry : Entry) (pairs : List OptionPair) (own : List Output) → output_by path entry pairs ≡ Ok own → (output : Output) × (own ≡ output ∷ []) × FromEntry entry output
entry_ok path entry [] own is = (record { path = entry.path; package_name = package_name entry.options.out }, sym (same_answer _ _ _ refl is), record { at_path = refl; named = refl })
entry_ok path entry (pair ∷ pairs) own is = absurd (cc is)

pub entries_ok : (path : List ℕ) (entries : List Entry) (outputs : List Output) → EachOk (output_of_entry path) entries outputs → AllZip FromEntry entries outputs
entries_ok path [] outputs is = subst (AllZip FromEntry []) (sym is) tt
entries_ok path (entry ∷ entries) outputs each =
    let first = entry_ok path entry entry.options.pairs each.0 each.2 in
    let all : outputs ≡ first.0 ∷ each.1 = each.3 ∙ ap (λ (own : List Output). own ++ each.1) first.1 in
    subst (AllZip FromEntry (entry ∷ entries)) (sym all) (first.2, entries_ok path entries each.1 each.4)

-- what was laid out for an output
pub written_ok : (path : List ℕ) (models : List ModelDecl) (queries : List QueryFile) (output : Output) (files : List File) → written path models queries output ≡ Ok files → (clash models queries ≡ false) × (files ≡ output_files output models queries)
written_ok path models queries output files is = elim (cases_Bool (clash models queries)) [
  | inl found ↦ absurd (cc (rw found at is))
  | inr none ↦ (none, sym (same_answer _ _ _ refl (rw none at is)))
]

-- what an accepted block was made from
pub record FromBlock (path : List ℕ) (block : Block) (held files : List File) : Type 0 where
  pub outputs : List Output
  pub has_outputs : each_judged (output_of_entry path) block.entries ≡ Ok outputs
  pub entries : AllZip FromEntry block.entries outputs
  pub schema : List SourceFile
  pub schema_held : FromSources Schema held block.schema schema
  pub contents : Contents
  pub replays : catalogue_of path schema ≡ Ok contents
  pub queries : List SourceFile
  pub queries_held : FromSources Queries held block.queries queries
  pub declared : List QueryFile
  pub judges : AllZip (FromQuery contents) queries declared
  pub laid_out : EachOk (written path (models_of contents) declared) outputs files

pub block_from : (path : List ℕ) (block : Block) (held files : List File) → (block_files path block held).answer ≡ Some (Ok files) → FromBlock path block held files
block_from path block held files is =
    let a = and_then_ok (nothing_asked (each_judged (output_of_entry path) block.entries)) _ files is in
    let c = and_then_ok (schema_read path block.schema held) _ files a.2 in
    let b = and_then_ok (sources Schema block.schema held) _ c.0 c.1 in
    let e = and_then_ok (queries_read c.0 block.queries held) _ files c.2 in
    let d = and_then_ok (sources Queries block.queries held) _ e.0 e.1 in
    record {
      outputs = a.0;
      has_outputs = same_Some _ _ a.1;
      entries = entries_ok path block.entries a.0 (each_ok (output_of_entry path) block.entries a.0 (same_Some _ _ a.1));
      schema = b.0;
      schema_held = sources_ok Schema held block.schema b.0 b.1;
      contents = c.0;
      replays = same_Some _ _ b.2;
      queries = d.0;
      queries_held = sources_ok Queries held block.queries d.0 d.1;
      declared = e.0;
      judges = queries_ok c.0 d.0 e.0 (same_Some _ _ d.2);
      laid_out = each_ok (written path (models_of c.0) e.0) a.0 files (same_Some _ _ e.2);
    }

-- what an accepted run was made from
pub record FromHeld (path : List ℕ) (held files : List File) : Type 0 where
  pub configuration : List ℕ
  pub configuration_held : bytes_at held path ≡ Some configuration
  pub blocks : List Block
  pub configures : configured path configuration ≡ Ok blocks
  pub made : (all_files path blocks held).answer ≡ Some (Ok files)

pub accepted_from : (path : List ℕ) (held files : List File) → (requested (record { task = Generate; path = path }) held).answer ≡ Some (Ok files) → FromHeld path held files
accepted_from path held files is =
    let a = and_then_ok (configuration_at path held) _ files is in
    let b = and_then_ok (all_files path a.0 held) _ files a.2 in
    let c = and_then_ok (whole_file Configuration path held) _ a.0 a.1 in
    let same : b.0 ≡ files = same_answer _ _ _ refl (same_Some _ _ b.2) in
    record {
      configuration = c.0;
      configuration_held = (held_ok Configuration path c.0 (bytes_at held path) c.1).0;
      blocks = a.0;
      configures = same_Some _ _ c.2;
      made = b.1 ∙ ap (λ (fs : List File). Some (Ok fs)) same;
    }

-- no two outputs of a configuration are in one folder
pub outs_apart : (path bytes : List ℕ) (blocks : List Block) → configured path bytes ≡ Ok blocks → same_out (all_entries blocks) ≡ None
outs_apart path bytes blocks is = by_read (json_value bytes) is
  where
    by_same : (found : Option (List ℕ)) (bs : List Block) → same_out (all_entries bs) ≡ found → configured_by path (unless_bad (option_or (option_map (refused code.SameOut) found) (option_map (refused code.NoWriter) (other_writer (all_entries bs)))) (Ok (record { blocks = bs }))) ≡ Ok blocks → same_out (all_entries blocks) ≡ None
    by_same (Some key) bs there is = absurd (cc is)
    by_same None bs there is = by_writer (other_writer (all_entries bs)) is
      where
        by_writer : (writer : Option (List ℕ)) → configured_by path (unless_bad (option_map (refused code.NoWriter) writer) (Ok (record { blocks = bs }))) ≡ Ok blocks → same_out (all_entries blocks) ≡ None
        by_writer (Some name) is = absurd (cc is)
        by_writer None is = let same : bs ≡ blocks = same_answer _ _ _ refl is in rw (← same) there

    by_key : (bad : Option (List ℕ)) (meaning : Configured) → configured_by path (unless_bad (option_map (refused code.BadKey) bad) (with_good_outs meaning)) ≡ Ok blocks → same_out (all_entries blocks) ≡ None
    by_key (Some key) meaning is = absurd (cc is)
    by_key None meaning is = by_same (same_out (all_entries meaning.blocks)) meaning.blocks refl is

    by_read : (value : Option Data) → configured_by path (option_map_or (read_value (folder_of path)) value (Err (refused code.BadJson []))) ≡ Ok blocks → same_out (all_entries blocks) ≡ None
    by_read None is = absurd (cc is)
    by_read (Some value) is = by_key (bad_key value) (meaning_of (folder_of path) value) is
