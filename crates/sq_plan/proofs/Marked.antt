-- The bytes before a rollback mark.
use Rattle.std.proofs.Common.{◌≡◌, ◌≤◌, ℕ, Bool, true, ◌==◌, ◌&&◌, List, [], ◌∷◌, ◌++◌, length, map, take, drop, sym, ◌∙◌, ap, inl, inr, arith}
use Rattle.std.specs.Prelude.{IsTrue}
use Rattle.std.specs.Char.{to_ascii_lowercase}
use Rattle.std.specs.Cmp.{both_ways}
use Rattle.std.proofs.lemmas.Bool.{cases_Bool}
use Rattle.std.proofs.lemmas.Slice.Eq.{bytes_eq-Decides}
use Rattle.std.proofs.lemmas.List.{length-map, take-map}
use Rattle.sq_plan.specs.Rollback.{begins_with, begins_with_mark, up_to_mark, before_rollback}
use Rattle.sq_plan.specs.Sources.{bytes_read}
use Rattle.sq_plan.specs.declared.entries.Purpose.{Purpose}
use Rattle.sq_plan.specs.declared.entries.Purpose.TheVariants.{Schema, Queries}

-- whether a front is a mark, in any letter case
pub begins_same : (answer : Bool) (bytes mark : List ℕ) → (IsTrue answer → map to_ascii_lowercase (take (length mark) bytes) ≡ map to_ascii_lowercase mark) → (map to_ascii_lowercase (take (length mark) bytes) ≡ map to_ascii_lowercase mark → IsTrue answer)
    → answer ≡ begins_with bytes mark
begins_same answer bytes mark one other =
    let wanted = map to_ascii_lowercase mark in
    let front : take (length wanted) (map to_ascii_lowercase bytes) ≡ map to_ascii_lowercase (take (length mark) bytes) = ap (λ (n : ℕ). take n (map to_ascii_lowercase bytes)) (length-map mark to_ascii_lowercase) ∙ take-map to_ascii_lowercase (length mark) bytes in
    let decides = bytes_eq-Decides wanted (take (length wanted) (map to_ascii_lowercase bytes)) in
    both_ways answer (begins_with bytes mark) (λ is. decides.1 (sym (front ∙ one is))) (λ is. other (sym front ∙ sym (decides.0 is)))

-- no more is read than is there
up_to_mark_size : (line_begins : Bool) (bytes : List ℕ) → length (up_to_mark line_begins bytes) ≤ length bytes
up_to_mark_size line_begins [] = omega arith
up_to_mark_size line_begins (b ∷ bytes) = elim (cases_Bool (line_begins && begins_with_mark (b ∷ bytes))) [
  | inl marked ↦ rw marked (omega arith)
  | inr not_marked ↦ rw not_marked (omega (arith, up_to_mark_size (b == 10) bytes))
]

pub bytes_read_size : (purpose : Purpose) (bytes : List ℕ) → length (bytes_read purpose bytes) ≤ length bytes
bytes_read_size Schema bytes = up_to_mark_size true bytes
bytes_read_size Queries bytes = omega arith

-- what was read so far, and what will be read of the rest
abbrev pub IsReadTo : List ℕ → ℕ → Bool → Type 0
IsReadTo bytes at line_begins = before_rollback bytes ≡ take at bytes ++ up_to_mark line_begins (drop at bytes)
