-- Files have one reading at most.
use Rattle.std.proofs.Common.{◌≡◌, ℕ, List, Result, Ok, sym, ◌∙◌}
use Rattle.sq_base.specs.declared.file.File.{File}
use Rattle.sq_shown.specs.declared.signature.Shown.{Shown}
use Rattle.sq_reader.specs.Reading.{Reads}

one_list : (a b : List Shown) → ◌≡◌ {A = Result (List Shown) (ℕ × ℕ)} (Ok a) (Ok b) → a ≡ b
one_list a b e = cc

pub at_most_one : (files : List File) → (one : List Shown) → (other : List Shown) → Reads files one → Reads files other → one ≡ other
at_most_one files one other first second = one_list one other (sym first ∙ second)
