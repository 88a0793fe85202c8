-- The files of all blocks have paths that differ: those of one output by their names, those of two by their folders.
use Rattle.std.proofs.Common.{◌≡◌, ℕ, ◌||◌, Bool, true, false, cond, List, [], ◌∷◌, ◌++◌, map, Option, Some, refl, sym, ◌∙◌, ap, subst, inl, inr}
use Rattle.std.specs.List.{AllByRecursion, list_any}
use Rattle.std.specs.Str.{bytes_eq}
use Rattle.std.proofs.lemmas.Bool.{cases_Bool}
use Rattle.std.proofs.lemmas.List.{append_cancel_right}
use Rattle.std.proofs.lemmas.List.Folds.{list_any-append}
use Rattle.std.proofs.lemmas.Slice.Eq.{bytes_eq-Decides}
use Rattle.sq_base.specs.declared.file.File.{File}
use Rattle.sq_base.specs.Files.{bytes_at}
use Rattle.sq_shown.specs.Names.{has_equal}
use Rattle.sq_config.specs.Paths.{folder_of}
use Rattle.sq_run.specs.Run.{held_after}
use Rattle.sq_run.proofs.FileNames.{is_slash, differ, differs}
use Rattle.sq_run.proofs.Models.{either_none}

-- the folder of a file in a folder
pub folder_placed : (folder name : List ℕ) → list_any is_slash name ≡ false → folder_of (folder ++ 47 ∷ name) ≡ folder ++ 47 ∷ []
folder_placed [] name none = ap (λ (f : List ℕ). 47 ∷ f) (no_folder name none)
  where
    no_folder : (bytes : List ℕ) → list_any is_slash bytes ≡ false → folder_of bytes ≡ []
    no_folder [] is = refl
    no_folder (b ∷ bytes) is = rw is refl
folder_placed (b ∷ folder) name none = rw (has_slash (b ∷ folder) name) (ap (λ (f : List ℕ). b ∷ f) (folder_placed folder name none))
  where
    or_true : (x : Bool) → (x || true) ≡ true
    or_true true = refl
    or_true false = refl

    has_slash : (front rest : List ℕ) → list_any is_slash (front ++ 47 ∷ rest) ≡ true
    has_slash front rest = list_any-append is_slash front (47 ∷ rest) ∙ or_true (list_any is_slash front)

-- a file lies in none of these folders
abbrev pub LiesElsewhere : List (List ℕ) → File → Type 0
LiesElsewhere folders file = list_any (λ folder. bytes_eq (folder ++ 47 ∷ []) (folder_of file.path)) folders ≡ false

-- a file lies in this folder
abbrev pub LiesIn : List ℕ → File → Type 0
LiesIn folder file = folder_of file.path ≡ folder ++ 47 ∷ []

-- folders with a slash differ as they do without
with_slash : (a b : List ℕ) → bytes_eq (a ++ 47 ∷ []) (b ++ 47 ∷ []) ≡ bytes_eq a b
with_slash a b = elim (cases_Bool (bytes_eq a b)) [
  | inl is ↦ rw is ((bytes_eq-Decides _ _).1 (ap (λ (f : List ℕ). f ++ 47 ∷ []) ((bytes_eq-Decides a b).0 is)))
  | inr not ↦ rw not (differs _ _ (λ is. differ a b not (append_cancel_right a b (47 ∷ []) is)))
]

pub lies_elsewhere : (folders : List (List ℕ)) (folder : List ℕ) (file : File) → LiesIn folder file → list_any (λ path. bytes_eq path folder) folders ≡ false → LiesElsewhere folders file
lies_elsewhere [] folder file here none = refl
lies_elsewhere (other ∷ folders) folder file here none =
    let parts = either_none (bytes_eq other folder) (list_any (λ path. bytes_eq path folder) folders) none in
    let first : bytes_eq (other ++ 47 ∷ []) (folder_of file.path) ≡ false = ap (bytes_eq (other ++ 47 ∷ [])) here ∙ with_slash other folder ∙ parts.0 in
    rw first (lies_elsewhere folders folder file here parts.1)

-- files that lie elsewhere have other paths
path_elsewhere : (folder : List ℕ) (file : File) → LiesIn folder file → (later : List File) → AllByRecursion (LiesElsewhere (folder ∷ [])) later → list_any (bytes_eq file.path) (map (λ (f : File). f.path) later) ≡ false
path_elsewhere folder file here [] all = refl
path_elsewhere folder file here (next ∷ later) all =
    let other = (either_none (bytes_eq (folder ++ 47 ∷ []) (folder_of next.path)) false all.0).0 in
    rw (differs file.path next.path (λ is. differ _ _ other (sym here ∙ ap folder_of is))) (path_elsewhere folder file here later all.1)

list_any-two : (p : List ℕ → Bool) (xs ys : List (List ℕ)) → list_any p xs ≡ false → list_any p ys ≡ false → list_any p (xs ++ ys) ≡ false
list_any-two p xs ys first second = list_any-append p xs ys ∙ rw (first, second) refl

map_append : (own later : List File) → map (λ (f : File). f.path) (own ++ later) ≡ map (λ (f : File). f.path) own ++ map (λ (f : File). f.path) later
map_append [] later = refl
map_append (file ∷ own) later = ap (λ ps. file.path ∷ ps) (map_append own later)

-- the files of a folder, and others that lie elsewhere
pub apart_together : (folder : List ℕ) (own later : List File) → AllByRecursion (LiesIn folder) own → AllByRecursion (LiesElsewhere (folder ∷ [])) later → has_equal (map (λ (f : File). f.path) own) ≡ false
    → has_equal (map (λ (f : File). f.path) later) ≡ false → has_equal (map (λ (f : File). f.path) (own ++ later)) ≡ false
apart_together folder [] later lie elsewhere own_apart later_apart = later_apart
apart_together folder (file ∷ own) later lie elsewhere own_apart later_apart =
    let parts = either_none (list_any (bytes_eq file.path) (map (λ (f : File). f.path) own)) (has_equal (map (λ (f : File). f.path) own)) own_apart in
    let first = list_any-two (bytes_eq file.path) (map (λ (f : File). f.path) own) (map (λ (f : File). f.path) later) parts.0 (path_elsewhere folder file lie.0 later elsewhere) in
    let rest = subst (λ (ps : List (List ℕ)). has_equal ps ≡ false) (map_append own later) (apart_together folder own later lie.1 elsewhere parts.1 later_apart) in
    rw (map_append own later, first) rest

-- what is held at a path that no later file has
held_on : (files : List File) (held : Option (List ℕ)) (path : List ℕ) → list_any (bytes_eq path) (map (λ (f : File). f.path) files) ≡ false → held_after files held path ≡ held
held_on [] held path none = refl
held_on (file ∷ files) held path none =
    let parts = either_none (bytes_eq path file.path) (list_any (bytes_eq path) (map (λ (f : File). f.path) files)) none in
    rw (differs file.path path (λ is. differ path file.path parts.0 (sym is))) (held_on files held path parts.1)

-- a file is held where it was put
abbrev pub IsHeldAt : List File → File → Type 0
IsHeldAt now file = bytes_at now file.path ≡ Some file.bytes

-- each file of a list is held, where what is held is what the list leaves
pub all_held : (files : List File) (now : List File) (before : List ℕ → Option (List ℕ)) → has_equal (map (λ (f : File). f.path) files) ≡ false → ((path : List ℕ) → bytes_at now path ≡ held_after files (before path) path) → AllByRecursion (IsHeldAt now) files
all_held [] now before apart holds = tt
all_held (file ∷ files) now before apart holds =
    let parts = either_none (list_any (bytes_eq file.path) (map (λ (f : File). f.path) files)) (has_equal (map (λ (f : File). f.path) files)) apart in
    let itself : bytes_eq file.path file.path ≡ true = (bytes_eq-Decides file.path file.path).1 refl in (
      holds file.path ∙ rw itself (held_on files (Some file.bytes) file.path parts.0),
      all_held files now (λ path. cond (bytes_eq file.path path) (Some file.bytes) (before path)) parts.1 (λ path. holds path),
    )
