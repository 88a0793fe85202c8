-- The files of all blocks have different paths.
use Rattle.std.proofs.Common.{◌≡◌, ℕ, ◌+◌, false, List, [], ◌∷◌, ◌++◌, map, None, refl, sym, ◌∙◌, ap, subst, inl, inr, append_assoc}
use Rattle.std.specs.Prelude.{codes}
use Rattle.std.specs.List.{AllByRecursion, AllZip, list_any}
use Rattle.std.proofs.lemmas.List.Folds.{list_any-append}
use Rattle.std.proofs.lemmas.Bool.{cases_Bool}
use Rattle.std.specs.Str.{bytes_eq}
use Rattle.sq_base.specs.declared.file.File.{File}
use Rattle.sq_shown.specs.Layout as layout
use Rattle.sq_shown.specs.Names.{has_equal, file_names}
use Rattle.sq_shown.specs.declared.declaration.ModelDecl.{ModelDecl}
use Rattle.sq_shown.specs.declared.declaration.QueryFile.{QueryFile}
use Rattle.sq_config.specs.declared.configuration.Block.{Block}
use Rattle.sq_config.specs.declared.configuration.Entry.{Entry}
use Rattle.sq_plan.specs.declared.outputs.Output.{Output}
use Rattle.sq_run.specs.Project.{models_of, placed, output_files, written, block_files}
use Rattle.sq_config.specs.Outs.{all_entries, same_out_after}
use Rattle.sq_config.specs.Paths.{folder_of}
use Rattle.sq_run.proofs.Models.{either_none}
use Rattle.sq_run.proofs.FileNames.{is_slash, no_slash, names_differ, placed_differ}
use Rattle.sq_run.proofs.Plans.{FromEntry, block_from, written_ok}
use Rattle.sq_run.proofs.FoldersApart.{LiesIn, LiesElsewhere, folder_placed, lies_elsewhere, apart_together}
use Rattle.sq_run.proofs.OkSteps.{Gathered, EachOk, all_both}
use Rattle.sq_run.proofs.Says.{IsNamed, all_named}

-- the names of a layout's files
laid_names : (own_package : List ℕ) (models : List ModelDecl) (files : List QueryFile) → map (λ (f : File). f.path) (layout.layout own_package models files) ≡ file_names files
unfolding layout.db_file layout.models_file layout.query_file
laid_names own_package models files = ap (λ names. codes "db.go" ∷ codes "models.go" ∷ names) (query_names files)
  where
    query_names : (files : List QueryFile) → map (λ (f : File). f.path) (layout.query_files own_package models files) ≡ map (λ (file : QueryFile). layout.query_path file.source) files
    query_names [] = refl
    query_names (file ∷ files) = ap (λ names. layout.query_path file.source ∷ names) (query_names files)

-- the files of an output differ
laid_apart : (output : Output) (models : List ModelDecl) (files : List QueryFile) → has_equal (file_names files) ≡ false → has_equal (map (λ (f : File). f.path) (output_files output models files)) ≡ false
laid_apart output models files none = placed_differ output.path (layout.layout output.package_name models files) ∙ ap has_equal (laid_names output.package_name models files) ∙ none

-- and lie in its folder
laid_in : (output : Output) (models : List ModelDecl) (files : List QueryFile) → AllByRecursion IsNamed files → AllByRecursion (LiesIn output.path) (output_files output models files)
unfolding layout.db_file layout.models_file layout.query_file
laid_in output models files named = (folder_placed output.path (codes "db.go") refl, (folder_placed output.path (codes "models.go") refl, queries_in files named))
  where
    queries_in : (files : List QueryFile) → AllByRecursion IsNamed files → AllByRecursion (LiesIn output.path) (map (placed output.path) (layout.query_files output.package_name models files))
    queries_in [] named = tt
    queries_in (file ∷ files) named =
        let none : list_any is_slash file.source ≡ false = ap (list_any is_slash) named.0.1 ∙ no_slash named.0.0 in
        (folder_placed output.path (layout.query_path file.source) (list_any-append is_slash file.source (codes ".go") ∙ rw none refl), queries_in files named.1)

all_lie_elsewhere : (folders : List (List ℕ)) (folder : List ℕ) (files : List File) → AllByRecursion (LiesIn folder) files → list_any (λ path. bytes_eq path folder) folders ≡ false → AllByRecursion (LiesElsewhere folders) files
all_lie_elsewhere folders folder [] all none = tt
all_lie_elsewhere folders folder (file ∷ files) all none = (lies_elsewhere folders folder file all.0 none, all_lie_elsewhere folders folder files all.1 none)

-- not in the first of the folders, and not in the others
first_elsewhere : (folder : List ℕ) (folders : List (List ℕ)) (files : List File) → AllByRecursion (LiesElsewhere (folder ∷ folders)) files → AllByRecursion (LiesElsewhere (folder ∷ [])) files × AllByRecursion (LiesElsewhere folders) files
first_elsewhere folder folders [] all = (tt, tt)
first_elsewhere folder folders (file ∷ files) all =
    let parts = either_none (bytes_eq (folder ++ 47 ∷ []) (folder_of file.path)) (list_any (λ other. bytes_eq (other ++ 47 ∷ []) (folder_of file.path)) folders) all.0 in
    let later = first_elsewhere folder folders files all.1 in
    ((rw parts.0 refl, later.0), (parts.1, later.1))

-- the files of blocks lie in none of the folders seen before, and have different paths
pub record AreApart (seen : List (List ℕ)) (put : List File) : Type 0 where
  pub elsewhere : AllByRecursion (LiesElsewhere seen) put
  pub apart : has_equal (map (λ (f : File). f.path) put) ≡ false

-- no output is in a folder seen before
seen_none : (seen : List (List ℕ)) (entry : Entry) (entries : List Entry) → same_out_after seen (entry ∷ entries) ≡ None → (list_any (λ path. bytes_eq path entry.path) seen ≡ false) × (same_out_after (entry.path ∷ seen) entries ≡ None)
seen_none seen entry entries none = elim (cases_Bool (list_any (λ path. bytes_eq path entry.path) seen)) [
  | inl is ↦ absurd (cc (rw is at none))
  | inr not ↦ (not, rw not at none)
]

-- the files of entries, before those of later blocks
entries_apart : (path : List ℕ) (models : List ModelDecl) (files : List QueryFile) (rest : List Entry) (later : List File) → AllByRecursion IsNamed files → ((more : List (List ℕ)) → same_out_after more rest ≡ None → AreApart more later)
    → (entries : List Entry) (outputs : List Output) (own : List File) (seen : List (List ℕ)) → AllZip FromEntry entries outputs → EachOk (written path models files) outputs own → same_out_after seen (entries ++ rest) ≡ None → AreApart seen (own ++ later)
entries_apart path models files rest later named next [] [] own seen from each none = rw each (next seen none)
entries_apart path models files rest later named next [] (output ∷ outputs) own seen from each none = absurd from
entries_apart path models files rest later named next (entry ∷ entries) [] own seen from each none = absurd from
entries_apart path models files rest later named next (entry ∷ entries) (output ∷ outputs) own seen from each none =
    let seen_so = seen_none seen entry (entries ++ rest) none in
    let others = entries_apart path models files rest later named next entries outputs each.1 (entry.path ∷ seen) from.1 each.4 seen_so.1 in
    let laid = written_ok path models files output each.0 each.2 in
    let lie = subst (λ (folder : List ℕ). AllByRecursion (LiesIn folder) each.0) from.0.at_path (subst (λ (fs : List File). AllByRecursion (LiesIn output.path) fs) (sym laid.1) (laid_in output models files named)) in
    let mine = subst (λ (fs : List File). has_equal (map (λ (f : File). f.path) fs) ≡ false) (sym laid.1) (laid_apart output models files (names_differ models files laid.0)) in
    let elsewhere = first_elsewhere entry.path seen (each.1 ++ later) others.elsewhere in
    let split : own ++ later ≡ each.0 ++ (each.1 ++ later) = ap (λ fs. fs ++ later) each.3 ∙ append_assoc each.0 each.1 later in
    subst (AreApart seen) (sym split) (record {
      elsewhere = all_both (LiesElsewhere seen) each.0 (each.1 ++ later) (all_lie_elsewhere seen entry.path each.0 lie seen_so.0) elsewhere.1;
      apart = apart_together entry.path each.0 (each.1 ++ later) lie elsewhere.0 mine others.apart;
    })

pub blocks_apart : (path : List ℕ) (held : List File) (n : ℕ) (blocks : List Block) (seen : List (List ℕ)) (put : List File) → Gathered (λ _ block. block_files path block) held n blocks put → same_out_after seen (all_entries blocks) ≡ None → AreApart seen put
blocks_apart path held n [] seen put each none = subst (AreApart seen) (sym each) (record { elsewhere = tt; apart = refl })
blocks_apart path held n (block ∷ blocks) seen put each none =
    let from = block_from path block held each.0 each.2 in
    let named = all_named from.contents from.queries from.declared from.judges in
    subst (AreApart seen) (sym each.3)
    (entries_apart path (models_of from.contents) from.declared (all_entries blocks) each.1 named (λ more h. blocks_apart path held (n + 1) blocks more each.1 each.4 h) block.entries from.outputs each.0 seen from.entries from.laid_out none)
