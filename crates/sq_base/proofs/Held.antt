-- Files held, and where one of them is put.
use Rattle.std.proofs.Common.{◌≡◌, ◌≢◌, ◌≤◌, ℕ, suc, ◌+◌, ◌-◌, Bool, true, false, cond, List, [], ◌∷◌, ◌++◌, Option, None, Some, refl, sym, ◌∙◌, ap, subst, arith, inl, inr, slice_set}
use Rattle.std.specs.Str.{bytes_eq}
use Rattle.std.specs.List.{position, position_from}
use Rattle.std.proofs.lemmas.Bool.{cases_Bool, false_from_ne_true}
use Rattle.std.proofs.lemmas.Slice.Eq.{bytes_eq-Decides}
use Rattle.std.proofs.lemmas.Iterator.Adapters.{position_from-zero}
use Rattle.sq_base.specs.declared.file.File.{File}
use Rattle.sq_base.specs.Files.{bytes_at}
use Rattle.sq_base.specs.Memory.{put_file}

differs : (a b : List ℕ) → b ≢ a → bytes_eq a b ≡ false
differs a b apart = false_from_ne_true (bytes_eq a b) (λ e. apart (sym ((bytes_eq-Decides a b).0 e)))

module _ (path bytes : List ℕ) where
  abbrev here : File → Bool
  here file = bytes_eq file.path path

  abbrev new : File
  new = record { path = path; bytes = bytes }

  set_from : (files : List File) (i at : ℕ) → position_from here i files ≡ Some at → (i ≤ at) × (slice_set files (at - i) new ≡ put_file files path bytes)
  set_from [] i at is = absurd (cc is)
  set_from (file ∷ files) i at is = elim (cases_Bool (here file)) [
    | inl found ↦
        let same : i ≡ at = cc (rw found at is) in
        let none : at - i ≡ 0 = omega arith in
        (omega arith, rw (none, found) refl)
    | inr not ↦
        let later = set_from files (i + 1) at (rw not at is) in
        let less : at - i ≡ suc (at - (i + 1)) = omega (arith, later.0) in
        (omega (arith, later.0), rw (less, not) (ap (λ (fs : List File). file ∷ fs) later.1))
  ]

  pub set_at : (files : List File) (at : ℕ) → position here files ≡ Some at → slice_set files at new ≡ put_file files path bytes
  set_at files at is =
      let whole : at - 0 ≡ at = omega arith in
      subst (λ (n : ℕ). slice_set files n new ≡ put_file files path bytes) whole (set_from files 0 at (sym (position_from-zero here files) ∙ is)).1

  push_from : (files : List File) (i : ℕ) → position_from here i files ≡ None → files ++ new ∷ [] ≡ put_file files path bytes
  push_from [] i is = refl
  push_from (file ∷ files) i is = elim (cases_Bool (here file)) [
    | inl found ↦ absurd (cc (rw found at is))
    | inr not ↦ rw not (ap (λ (fs : List File). file ∷ fs) (push_from files (i + 1) (rw not at is)))
  ]

  pub push_at_end : (files : List File) → position here files ≡ None → files ++ new ∷ [] ≡ put_file files path bytes
  push_at_end files is = push_from files 0 (sym (position_from-zero here files) ∙ is)

  same_path : bytes_eq path path ≡ true
  same_path = (bytes_eq-Decides path path).1 refl

  -- after a put the file at the path has these bytes
  pub put_here : (files : List File) → bytes_at (put_file files path bytes) path ≡ Some bytes
  put_here [] = rw same_path refl
  put_here (file ∷ files) = elim (cases_Bool (here file)) [
    | inl found ↦ rw (found, same_path) refl
    | inr not ↦ rw (not, not) (put_here files)
  ]

  -- and every other file is as before
  pub put_elsewhere : (other : List ℕ) → other ≢ path → (files : List File) → bytes_at (put_file files path bytes) other ≡ bytes_at files other
  put_elsewhere other apart [] = rw (differs path other apart) refl
  put_elsewhere other apart (file ∷ files) = elim (cases_Bool (here file)) [
    | inl found ↦
        let same : file.path ≡ path = (bytes_eq-Decides file.path path).0 found in
        rw (found, differs path other apart, differs file.path other (λ e. apart (e ∙ same))) refl
    | inr not ↦ rw not (ap (λ (held : Option (List ℕ)). cond (bytes_eq file.path other) (Some file.bytes) held) (put_elsewhere other apart files))
  ]
