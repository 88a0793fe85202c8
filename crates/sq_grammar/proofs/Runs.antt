-- A tree's tokens, piece by piece.
use Rattle.std.proofs.Common.{◌≡◌, ℕ, suc, ◌+◌, ◌-◌, ◌≤◌, Bool, true, false, List, [], ◌∷◌, ◌++◌, length, Some, refl, ap, arith}
use Rattle.std.specs.Prelude.{◌&&◌, flat_map}
use Rattle.sq_syntax.specs.declared.symbol.Lexeme.{Lexeme}
use Rattle.sq_syntax.specs.Facts.{Mark, Stream, Says, Along, first_place, Turn, turn, Piece, from, marks_of, all_hold, deepest, opens}

-- the depth that is left after a token
abbrev pub spent : Turn → ℕ → ℕ
spent Turn.opening d = d - 1
spent Turn.closing d = d + 1
spent Turn.neither d = d

abbrev pub Affords : Turn → ℕ → Type 0
Affords Turn.opening d = 1 ≤ d
Affords _ d = Unit {0}

-- the tokens between have these pieces, and no part nests deeper than is left of this depth
abbrev pub Run : List Piece → ℕ → Stream → Stream → Type 0
Run [] d now next = now ≡ next
Run (Piece.mark (Mark.says r) ∷ pieces) d now next = (u : Stream) × Says r now u × Affords (turn r) d × Run pieces (spent (turn r) d) u next
Run (Piece.mark (Mark.stands_at place) ∷ pieces) d now next = (first_place now.tokens ≡ Some place) × Run pieces d now next
Run (Piece.mark (Mark.begins n) ∷ pieces) d now next = (n ≡ now.at) × Run pieces d now next
Run (Piece.mark (Mark.ends n) ∷ pieces) d now next = (suc n ≡ now.at) × Run pieces d now next
Run (Piece.need holds ∷ pieces) d now next = (holds ≡ true) × Run pieces d now next
Run (Piece.part least x ∷ pieces) d now next = (u : Stream) × (from least x.level ≡ true) × (x.depth ≤ d) × Along x.marks now u × Run pieces d u next

pub along_split : (a b : List Mark) (now next : Stream) → Along (a ++ b) now next → (u : Stream) × Along a now u × Along b u next
along_split [] b now next h = (now, refl, h)
along_split (Mark.says r ∷ a) b now next h = let m = along_split a b h.0 next h.2 in (m.0, (h.0, h.1, m.1), m.2)
along_split (Mark.stands_at p ∷ a) b now next h = let m = along_split a b now next h.1 in (m.0, (h.0, m.1), m.2)
along_split (Mark.begins n ∷ a) b now next h = let m = along_split a b now next h.1 in (m.0, (h.0, m.1), m.2)
along_split (Mark.ends n ∷ a) b now next h = let m = along_split a b now next h.1 in (m.0, (h.0, m.1), m.2)

pub both : (a b : Bool) → a && b ≡ true → (a ≡ true) × (b ≡ true)
both true b h = (refl, h)
both false b h = absurd (cc)

affords : (t : Turn) (n d : ℕ) → opens t n ≤ d → Affords t d
affords Turn.opening n d le = omega (arith, le)
affords Turn.closing n d le = tt
affords Turn.neither n d le = tt

left : (t : Turn) (n d : ℕ) → opens t n ≤ d → n ≤ spent t d
left Turn.opening n d le = omega (arith, le)
left Turn.closing n d le = omega (arith, le)
left Turn.neither n d le = le

pub run_of : (pieces : List Piece) (n d : ℕ) (now next : Stream) → all_hold pieces ≡ true → deepest pieces n ≤ d → Along (marks_of pieces) now next → Run pieces d now next
run_of [] n d now next h le a = a
run_of (Piece.mark (Mark.says r) ∷ pieces) n d now next h le a =
    (a.0, a.1, affords (turn r) (deepest pieces n) d le, run_of pieces n (spent (turn r) d) a.0 next h (left (turn r) (deepest pieces n) d le) a.2)
run_of (Piece.mark (Mark.stands_at p) ∷ pieces) n d now next h le a = (a.0, run_of pieces n d now next h le a.1)
run_of (Piece.mark (Mark.begins m) ∷ pieces) n d now next h le a = (a.0, run_of pieces n d now next h le a.1)
run_of (Piece.mark (Mark.ends m) ∷ pieces) n d now next h le a = (a.0, run_of pieces n d now next h le a.1)
run_of (Piece.need holds ∷ pieces) n d now next h le a = let b = both _ _ h in (b.0, run_of pieces n d now next b.1 le a)
run_of (Piece.part least x ∷ pieces) n d now next h le a =
    let b = both _ _ h in
    let m = along_split x.marks (marks_of pieces) now next a in
    (m.0, b.0, omega (arith, le), m.1, run_of pieces n d m.0 next b.1 (omega (arith, le)) m.2)

-- tokens are only taken
pub along_shorter : (marks : List Mark) (now next : Stream) → Along marks now next → length next.tokens ≤ length now.tokens
along_shorter [] now next h = omega (arith, ap (λ (s : Stream). length s.tokens) h)
along_shorter (Mark.says r ∷ marks) now next h = omega (arith, along_shorter marks h.0 next h.2, ap (λ (xs : List Lexeme). length xs) h.1.first)
along_shorter (Mark.stands_at p ∷ marks) now next h = along_shorter marks now next h.1
along_shorter (Mark.begins n ∷ marks) now next h = along_shorter marks now next h.1
along_shorter (Mark.ends n ∷ marks) now next h = along_shorter marks now next h.1

-- how many tokens the pieces have beside those of their parts
abbrev pub said : List Piece → ℕ
said [] = 0
said (Piece.mark (Mark.says r) ∷ pieces) = suc (said pieces)
said (_ ∷ pieces) = said pieces

pub said_all : (pieces : List Piece) (d : ℕ) (now next : Stream) → Run pieces d now next → said pieces ≤ length now.tokens
said_all [] d now next h = omega arith
said_all (Piece.mark (Mark.says r) ∷ pieces) d now next h = omega (arith, said_all pieces (spent (turn r) d) h.0 next h.3, ap (λ (xs : List Lexeme). length xs) h.1.first)
said_all (Piece.mark (Mark.stands_at p) ∷ pieces) d now next h = said_all pieces d now next h.1
said_all (Piece.mark (Mark.begins n) ∷ pieces) d now next h = said_all pieces d now next h.1
said_all (Piece.mark (Mark.ends n) ∷ pieces) d now next h = said_all pieces d now next h.1
said_all (Piece.need holds ∷ pieces) d now next h = said_all pieces d now next h.1
said_all (Piece.part least x ∷ pieces) d now next h = omega (arith, said_all pieces d h.0 next h.4, along_shorter x.marks now h.0 h.3)

said_append : (a b : List Piece) → said (a ++ b) ≡ said a + said b
said_append [] b = omega arith
said_append (Piece.mark (Mark.says r) ∷ a) b = omega (arith, said_append a b)
said_append (Piece.mark (Mark.stands_at p) ∷ a) b = said_append a b
said_append (Piece.mark (Mark.begins n) ∷ a) b = said_append a b
said_append (Piece.mark (Mark.ends n) ∷ a) b = said_append a b
said_append (Piece.need holds ∷ a) b = said_append a b
said_append (Piece.part least x ∷ a) b = said_append a b

-- items that each have a token of their own are no more than the tokens
pub said_items : {A : Type 0} (pieces : A → List Piece) → ((x : A) → 1 ≤ said (pieces x)) → (xs : List A) (rest : List Piece) → length xs ≤ said (flat_map pieces xs ++ rest)
said_items pieces one [] rest = omega arith
said_items pieces one (x ∷ xs) rest =
    omega (arith, one x, said_items pieces one xs rest, said_append (pieces x ++ flat_map pieces xs) rest, said_append (pieces x) (flat_map pieces xs), said_append (flat_map pieces xs) rest)
