-- The files of one output have paths that differ, and the file of the queries is none of the package's own.
use Rattle.std.proofs.Common.{◌≡◌, ◌≢◌, ℕ, ◌-◌, ◌==◌, ◌||◌, Bool, true, false, List, [], ◌∷◌, ◌++◌, length, map, take, drop, nat_eq, refl, sym, ◌∙◌, ap, inl, inr, arith}
use Rattle.std.specs.Prelude.{codes}
use Rattle.std.specs.List.{AllByRecursion, list_any, ends_with}
use Rattle.std.specs.Str.{bytes_eq}
use Rattle.std.proofs.lemmas.Bool.{cases_Bool}
use Rattle.std.proofs.lemmas.List.{take-append-drop, append_cancel_left}
use Rattle.std.proofs.lemmas.List.Folds.{list_any-append}
use Rattle.std.proofs.lemmas.Slice.Eq.{bytes_eq-Decides}
use Rattle.sq_base.specs.declared.file.File.{File}
use Rattle.sq_shown.specs.Layout.{query_path, queries_of}
use Rattle.sq_shown.specs.Names.{clash, has_equal, top_level, methods, file_names}
use Rattle.sq_shown.specs.declared.declaration.ModelDecl.{ModelDecl}
use Rattle.sq_shown.specs.declared.declaration.QueryFile.{QueryFile}
use Rattle.sq_reader.specs.Items.{is_empty, is_last_part}
use Rattle.sq_reader.specs.Parts.{same}
use Rattle.sq_run.specs.Project.{file_name, placed}
use Rattle.sq_run.proofs.Models.{either_none}

abbrev pub is_slash : ℕ → Bool
is_slash b = b == 47

-- the last part of a path has no slash
pub no_slash : (path : List ℕ) → list_any is_slash (file_name path) ≡ false
no_slash [] = refl
no_slash (b ∷ path) = elim (cases_Bool (list_any is_slash (b ∷ path))) [
  | inl some ↦ rw some (no_slash path)
  | inr none ↦ rw none none
]

pub differ : (xs ys : List ℕ) → bytes_eq xs ys ≡ false → xs ≢ ys
differ xs ys not is = let equal = (bytes_eq-Decides xs ys).1 is in cc (not, equal)

pub differs : (xs ys : List ℕ) → xs ≢ ys → bytes_eq xs ys ≡ false
differs xs ys other = elim (cases_Bool (bytes_eq xs ys)) [
  | inl is ↦ absurd (other ((bytes_eq-Decides xs ys).0 is))
  | inr not ↦ not
]

-- paths in one folder are equal where the names are
placed_equal : (folder a b : List ℕ) → bytes_eq (folder ++ 47 ∷ a) (folder ++ 47 ∷ b) ≡ bytes_eq a b
placed_equal folder a b = elim (cases_Bool (bytes_eq a b)) [
  | inl is ↦ rw is ((bytes_eq-Decides _ _).1 (ap (λ (f : List ℕ). folder ++ 47 ∷ f) ((bytes_eq-Decides a b).0 is)))
  | inr not ↦ rw not (differs _ _ (λ is. differ a b not (ap (drop 1) (append_cancel_left folder (47 ∷ a) (47 ∷ b) is))))
]

any_placed : (folder name : List ℕ) (files : List File) → list_any (bytes_eq (folder ++ 47 ∷ name)) (map (λ (f : File). f.path) (map (placed folder) files)) ≡ list_any (bytes_eq name) (map (λ (f : File). f.path) files)
any_placed folder name [] = refl
any_placed folder name (file ∷ files) = rw (placed_equal folder name file.path, any_placed folder name files) refl

-- files in one folder have paths that differ where their names do
pub placed_differ : (folder : List ℕ) (files : List File) → has_equal (map (λ (f : File). f.path) (map (placed folder) files)) ≡ has_equal (map (λ (f : File). f.path) files)
placed_differ folder [] = refl
placed_differ folder (file ∷ files) = rw (any_placed folder file.path files, placed_differ folder files) refl

-- the file of the queries has another name than the package's own
pub record IsApart (name : List ℕ) : Type 0 where
  pub database : codes "db.go" ≢ name
  pub models : codes "models.go" ≢ name

-- no file of queries has the name of one of the package's own
names_apart : (files : List QueryFile) → list_any (bytes_eq (codes "db.go")) (map (λ (file : QueryFile). query_path file.source) files) ≡ false → list_any (bytes_eq (codes "models.go")) (map (λ (file : QueryFile). query_path file.source) files) ≡ false
    → AllByRecursion (λ (file : QueryFile). IsApart (query_path file.source)) files
names_apart [] first second = tt
names_apart (file ∷ files) first second =
    let database = either_none (bytes_eq (codes "db.go") (query_path file.source)) (list_any (bytes_eq (codes "db.go")) (map (λ (file : QueryFile). query_path file.source) files)) first in
    let models = either_none (bytes_eq (codes "models.go") (query_path file.source)) (list_any (bytes_eq (codes "models.go")) (map (λ (file : QueryFile). query_path file.source) files)) second in
    (record { database = differ _ _ database.0; models = differ _ _ models.0 }, names_apart files database.1 models.1)

-- the names of a package's files differ
pub names_differ : (models : List ModelDecl) (files : List QueryFile) → clash models files ≡ false → has_equal (file_names files) ≡ false
names_differ models files none = (either_none (has_equal (top_level models (queries_of files)) || has_equal (methods (queries_of files))) (has_equal (file_names files)) none).1

pub files_apart : (models : List ModelDecl) (files : List QueryFile) → clash models files ≡ false → AllByRecursion (λ (file : QueryFile). IsApart (query_path file.source)) files
files_apart models files none =
    let names = map (λ (file : QueryFile). query_path file.source) files in
    let first = either_none (list_any (bytes_eq (codes "db.go")) (codes "models.go" ∷ names)) (has_equal (codes "models.go" ∷ names)) (names_differ models files none) in
    let second = either_none (list_any (bytes_eq (codes "models.go")) names) (has_equal names) first.1 in
    names_apart files (either_none false (list_any (bytes_eq (codes "db.go")) names) first.0).1 second.0

-- a front that ends with a slash has one
slash_last : (front : List ℕ) → ends_with nat_eq front (codes "/") ≡ true → list_any is_slash front ≡ true
slash_last front ends =
    let k = length front - 1 in
    let is : codes "/" ≡ drop k front = (bytes_eq-Decides (codes "/") (drop k front)).0 ends in
    ap (list_any is_slash) (sym (take-append-drop k front)) ∙ list_any-append is_slash (take k front) (drop k front) ∙ rw (← is) (by_first (list_any is_slash (take k front)))
  where
    by_first : (b : Bool) → (b || true) ≡ true
    by_first true = refl
    by_first false = refl

not_empty : (b : ℕ) (front : List ℕ) → is_empty (b ∷ front) ≡ false
not_empty b front = grind arith

-- the file's name is a last part only where it is the whole
pub no_last_part : (part source : List ℕ) → list_any is_slash source ≡ false → part ≢ query_path source → is_last_part part (query_path source) ≡ false
no_last_part part source none other = elim (cases_Bool (same (drop (length (query_path source) - length part) (query_path source)) part)) [
  | inr not ↦ rw not refl
  | inl is ↦ rw is (by_front (take (length (query_path source) - length part) (query_path source)) (whole ((bytes_eq-Decides _ _).0 is)))
]
  where
    path : List ℕ
    path = query_path source

    whole : drop (length path - length part) path ≡ part → path ≡ take (length path - length part) path ++ part
    whole is = sym (take-append-drop (length path - length part) path) ∙ ap (λ (rest : List ℕ). take (length path - length part) path ++ rest) is

    in_path : list_any is_slash path ≡ false
    in_path = list_any-append is_slash source (codes ".go") ∙ rw none refl

    by_front : (front : List ℕ) → path ≡ front ++ part → (is_empty front || ends_with nat_eq front (codes "/")) ≡ false
    by_front [] is = absurd (other (sym is))
    by_front (b ∷ front) is = elim (cases_Bool (ends_with nat_eq (b ∷ front) (codes "/"))) [
      | inr not ↦ rw (not_empty b front) not
      | inl ends ↦
          let all : list_any is_slash ((b ∷ front) ++ part) ≡ true = list_any-append is_slash (b ∷ front) part ∙ rw (slash_last (b ∷ front) ends) refl in
          absurd (cc (all, in_path, ap (list_any is_slash) is))
    ]
