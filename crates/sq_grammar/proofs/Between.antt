-- A part's tokens, piece by piece, however deep they nest.
use Rattle.std.proofs.Common.{◌≡◌, ℕ, suc, Bool, true, false, List, [], ◌∷◌, ◌++◌, Some, refl, sym, ap, subst, ◌∙◌, arith}
use Rattle.std.specs.Prelude.{if◌then◌else◌}
use Rattle.std.proofs.lemmas.List.{append-nil}
use Rattle.sq_syntax.specs.Facts.{Mark, Stream, Says, Along, first_place, Piece, from, marks_of, all_hold, deepest}
use Rattle.sq_grammar.specs.Reading.{Outcome, Parser, and_then}
use Rattle.sq_grammar.proofs.Runs.{Run, both, run_of, along_split}
use Rattle.sq_grammar.proofs.Takes.{along_join}

-- the tokens between have these pieces, and each condition holds
abbrev pub Between : List Piece → Stream → Stream → Type 0
Between [] now next = now ≡ next
Between (Piece.mark (Mark.says r) ∷ pieces) now next = (u : Stream) × Says r now u × Between pieces u next
Between (Piece.mark (Mark.stands_at place) ∷ pieces) now next = (first_place now.tokens ≡ Some place) × Between pieces now next
Between (Piece.mark (Mark.begins n) ∷ pieces) now next = (n ≡ now.at) × Between pieces now next
Between (Piece.mark (Mark.ends n) ∷ pieces) now next = (suc n ≡ now.at) × Between pieces now next
Between (Piece.need holds ∷ pieces) now next = (holds ≡ true) × Between pieces now next
Between (Piece.part least x ∷ pieces) now next = (u : Stream) × (from least x.level ≡ true) × Along x.marks now u × Between pieces u next

pub between_of : (pieces : List Piece) (now next : Stream) → all_hold pieces ≡ true → Along (marks_of pieces) now next → Between pieces now next
between_of [] now next h a = a
between_of (Piece.mark (Mark.says r) ∷ pieces) now next h a = (a.0, a.1, between_of pieces a.0 next h a.2)
between_of (Piece.mark (Mark.stands_at p) ∷ pieces) now next h a = (a.0, between_of pieces now next h a.1)
between_of (Piece.mark (Mark.begins n) ∷ pieces) now next h a = (a.0, between_of pieces now next h a.1)
between_of (Piece.mark (Mark.ends n) ∷ pieces) now next h a = (a.0, between_of pieces now next h a.1)
between_of (Piece.need holds ∷ pieces) now next h a = let b = both _ _ h in (b.0, between_of pieces now next b.1 a)
between_of (Piece.part least x ∷ pieces) now next h a =
    let b = both _ _ h in
    let m = along_split x.marks (marks_of pieces) now next a in
    (m.0, b.0, m.1, between_of pieces m.0 next b.1 m.2)

-- the tokens of one part of a list of pieces, and those of the rest
pub split : (a b : List Piece) (now next : Stream) → Between (a ++ b) now next → (u : Stream) × Between a now u × Between b u next
split [] b now next h = (now, refl, h)
split (Piece.mark (Mark.says r) ∷ a) b now next h = let m = split a b h.0 next h.2 in (m.0, (h.0, h.1, m.1), m.2)
split (Piece.mark (Mark.stands_at p) ∷ a) b now next h = let m = split a b now next h.1 in (m.0, (h.0, m.1), m.2)
split (Piece.mark (Mark.begins n) ∷ a) b now next h = let m = split a b now next h.1 in (m.0, (h.0, m.1), m.2)
split (Piece.mark (Mark.ends n) ∷ a) b now next h = let m = split a b now next h.1 in (m.0, (h.0, m.1), m.2)
split (Piece.need holds ∷ a) b now next h = let m = split a b now next h.1 in (m.0, (h.0, m.1), m.2)
split (Piece.part least x ∷ a) b now next h = let m = split a b h.0 next h.3 in (m.0, (h.0, h.1, h.2, m.1), m.2)

holds_of : (pieces : List Piece) (now next : Stream) → Between pieces now next → all_hold pieces ≡ true
holds_of [] now next h = refl
holds_of (Piece.mark (Mark.says r) ∷ pieces) now next h = holds_of pieces h.0 next h.2
holds_of (Piece.mark (Mark.stands_at p) ∷ pieces) now next h = holds_of pieces now next h.1
holds_of (Piece.mark (Mark.begins n) ∷ pieces) now next h = holds_of pieces now next h.1
holds_of (Piece.mark (Mark.ends n) ∷ pieces) now next h = holds_of pieces now next h.1
holds_of (Piece.need holds ∷ pieces) now next h = rw (h.0, holds_of pieces now next h.1) refl
holds_of (Piece.part least x ∷ pieces) now next h = rw (h.1, holds_of pieces h.0 next h.3) refl

along_of : (pieces : List Piece) (now next : Stream) → Between pieces now next → Along (marks_of pieces) now next
along_of [] now next h = h
along_of (Piece.mark (Mark.says r) ∷ pieces) now next h = (h.0, h.1, along_of pieces h.0 next h.2)
along_of (Piece.mark (Mark.stands_at p) ∷ pieces) now next h = (h.0, along_of pieces now next h.1)
along_of (Piece.mark (Mark.begins n) ∷ pieces) now next h = (h.0, along_of pieces now next h.1)
along_of (Piece.mark (Mark.ends n) ∷ pieces) now next h = (h.0, along_of pieces now next h.1)
along_of (Piece.need holds ∷ pieces) now next h = along_of pieces now next h.1
along_of (Piece.part least x ∷ pieces) now next h = along_join x.marks (marks_of pieces) now h.0 next h.2 (along_of pieces h.0 next h.3)

-- the same pieces to the depth that they have
abbrev pub depth_of : List Piece → ℕ
depth_of pieces = deepest pieces 0

pub run_between : (pieces : List Piece) (now next : Stream) → Between pieces now next → Run (pieces ++ []) (depth_of pieces) now next
run_between pieces now next h =
    subst (λ ps. Run ps (depth_of pieces) now next) (sym (append-nil pieces)) (run_of pieces 0 (depth_of pieces) now next (holds_of pieces now next h) (omega arith) (along_of pieces now next h))

-- what is read of the tokens of a part is read up to their end
pub given_alone : {A : Type 0} {outcome : Outcome A} {x : A} {next : Stream} → ((u : Stream) × (outcome ≡ Some (x, u)) × (u ≡ next)) → outcome ≡ Some (x, next)
given_alone {A} {outcome} {x} {next} g = g.1 ∙ ap (λ u. Some (x, u)) g.2

-- what is told of the end is told of what equals it
pub at_next : (test : Stream → Bool) (next u : Stream) → test next ≡ false → u ≡ next → test u ≡ false
at_next test next u h e = ap test e ∙ h

-- ---- steps

-- what is read first, and then the rest
pub on : {A B : Type 0} {o : Outcome A} {x : A} {next : Stream} {end : Outcome B} (f : A → Parser B) → o ≡ Some (x, next) → f x next ≡ end → and_then o f ≡ end
on {A} {B} {o} {x} {next} {end} f h k = ap (λ r. and_then r f) h ∙ k

pub if_so : {A : Type 0} {b : Bool} {x end : A} (y : A) → b ≡ true → x ≡ end → (if b then x else y) ≡ end
if_so y h k = rw h k

pub if_not : {A : Type 0} {b : Bool} {y end : A} (x : A) → b ≡ false → y ≡ end → (if b then x else y) ≡ end
if_not x h k = rw h k
