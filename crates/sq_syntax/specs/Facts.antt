-- What is said of a tree: how it is spelled and where, at which level it stands, and how deep and how high it is.
-- A production is the list of its pieces; everything else follows from them.
use Rattle.std.specs.Prelude.{◌≡◌, ℕ, suc, ◌+◌, ◌-◌, max, Bool, true, false, ◌&&◌, if◌then◌else◌, nat_le, List, [], ◌∷◌, ◌++◌, Option, Some, None}
use Rattle.sq_base.specs.declared.place.Place.{Place}
use Rattle.sq_syntax.specs.declared.symbol.Symbol.{Symbol}
use Rattle.sq_syntax.specs.declared.symbol.Symbol.TheVariants as s
use Rattle.sq_syntax.specs.declared.symbol.Reading.{Reading}
use Rattle.sq_syntax.specs.declared.symbol.Reading.TheVariants as reading
use Rattle.sq_syntax.specs.declared.symbol.Lexeme.{Lexeme}

-- ---- the marks of a tree, in the order of its tokens

pub data Mark : Type 0 where
  -- a token of this reading
  says : Reading → Mark
  -- the next token stands at this place
  stands_at : Place → Mark
  -- the next token has this number
  begins : ℕ → Mark
  -- the last token has this number
  ends : ℕ → Mark

-- the readings of the tokens
abbrev pub readings : List Mark → List Reading
readings [] = []
readings (Mark.says r ∷ marks) = r ∷ readings marks
readings (_ ∷ marks) = readings marks

-- tokens from a number on
pub record Stream : Type 0 where
  pub at : ℕ
  pub tokens : List Lexeme

-- the first token has this reading, and these are the tokens after it
pub record Says (r : Reading) (now next : Stream) : Type 0 where
  pub place : Place
  pub first : now.tokens ≡ record { reading = r; place = place } ∷ next.tokens
  pub counted : next.at ≡ suc now.at

-- the place of the first token
abbrev pub first_place : List Lexeme → Option Place
first_place [] = None
first_place (x ∷ rest) = Some x.place

-- the tokens have these marks, and these are the tokens after them
abbrev pub Along : List Mark → Stream → Stream → Type 0
Along [] now next = now ≡ next
Along (Mark.says r ∷ marks) now next = (after : Stream) × Says r now after × Along marks after next
Along (Mark.stands_at place ∷ marks) now next = (first_place now.tokens ≡ Some place) × Along marks now next
Along (Mark.begins n ∷ marks) now next = (n ≡ now.at) × Along marks now next
Along (Mark.ends n ∷ marks) now next = (suc n ≡ now.at) × Along marks now next

-- ---- how deep tokens nest

pub data Turn : Type 0 where
  opening : Turn
  closing : Turn
  neither : Turn

abbrev pub symbol_turn : Symbol → Turn
symbol_turn s.Open = Turn.opening
symbol_turn s.OpenSquare = Turn.opening
symbol_turn s.Case = Turn.opening
symbol_turn s.Close = Turn.closing
symbol_turn s.CloseSquare = Turn.closing
symbol_turn s.End = Turn.closing
symbol_turn _ = Turn.neither

-- brackets and CASE open, and end with their partners
abbrev pub turn : Reading → Turn
turn (reading.Symbol x) = symbol_turn x
turn _ = Turn.neither

-- the greatest depth from a token on, where it is this after the token
abbrev pub opens : Turn → ℕ → ℕ
opens Turn.opening n = suc n
opens Turn.closing n = n - 1
opens Turn.neither n = n

-- The greatest difference, over the fronts of the list, between the number of opening and of closing tokens,
-- where the number is this difference for what follows the list.
abbrev pub depth_before : List Reading → ℕ → ℕ
depth_before [] n = n
depth_before (r ∷ rs) n = opens (turn r) (depth_before rs n)

-- ---- facts

-- what some places ask of an expression beside its level
pub data Sort : Type 0 where
  -- a query in brackets
  scalar : Sort
  -- a column, a parameter or an expression in brackets
  indexable : Sort
  plain : Sort

abbrev pub same_sort : Sort → Sort → Bool
same_sort Sort.scalar Sort.scalar = true
same_sort Sort.indexable Sort.indexable = true
same_sort Sort.plain Sort.plain = true
same_sort _ _ = false

pub record Facts : Type 0 where
  pub marks : List Mark
  -- the level at which it stands, and None where a part stands at a level that is not allowed there or a condition does not hold
  pub level : Option ℕ
  -- how deep brackets and CASE nest in it
  pub depth : ℕ
  pub height : ℕ
  -- more than any part has
  pub layers : ℕ
  pub sort : Sort

-- a part of a production
pub data Piece : Type 0 where
  mark : Mark → Piece
  -- a condition
  need : Bool → Piece
  -- a tree at this level or a higher one
  part : ℕ → Facts → Piece

-- stands at this level or a higher one
abbrev pub from : ℕ → Option ℕ → Bool
from least None = false
from least (Some level) = nat_le least level

abbrev pub piece_marks : Piece → List Mark
piece_marks (Piece.mark m) = m ∷ []
piece_marks (Piece.need holds) = []
piece_marks (Piece.part least x) = x.marks

abbrev pub marks_of : List Piece → List Mark
marks_of [] = []
marks_of (piece ∷ pieces) = piece_marks piece ++ marks_of pieces

abbrev pub piece_holds : Piece → Bool
piece_holds (Piece.mark m) = true
piece_holds (Piece.need holds) = holds
piece_holds (Piece.part least x) = from least x.level

-- each part stands at a level that is allowed, and each condition holds
abbrev pub all_hold : List Piece → Bool
all_hold [] = true
all_hold (piece ∷ pieces) = piece_holds piece && all_hold pieces

-- the depth from a piece on, where it is this after the piece
abbrev pub piece_opens : Piece → ℕ → ℕ
piece_opens (Piece.mark (Mark.says r)) n = opens (turn r) n
piece_opens (Piece.mark _) n = n
piece_opens (Piece.need holds) n = n
piece_opens (Piece.part least x) n = max x.depth n

abbrev pub deepest : List Piece → ℕ → ℕ
deepest [] n = n
deepest (piece ∷ pieces) n = piece_opens piece (deepest pieces n)

-- the greatest of these numbers of the parts
abbrev pub most : (Facts → ℕ) → List Piece → ℕ
most of [] = 0
most of (Piece.part least x ∷ pieces) = max (of x) (most of pieces)
most of (_ ∷ pieces) = most of pieces

abbrev pub highest : List Piece → ℕ
highest pieces = most (λ x. x.height) pieces

abbrev pub most_layers : List Piece → ℕ
most_layers pieces = most (λ x. x.layers) pieces

abbrev pub only_if : Bool → ℕ → Option ℕ
only_if holds level = if holds then Some level else None

-- the facts of a production that stands at this level and is this much higher than its highest part
abbrev pub built : ℕ → ℕ → List Piece → Facts
built level steps pieces = record {
  marks = marks_of pieces;
  level = only_if (all_hold pieces) level;
  depth = deepest pieces 0;
  height = highest pieces + steps;
  layers = suc (most_layers pieces);
  sort = Sort.plain;
}

-- the same of this sort
abbrev pub sorted : Sort → Facts → Facts
sorted sort x = record { marks = x.marks; level = x.level; depth = x.depth; height = x.height; layers = x.layers; sort = sort }

-- the facts of a tree whose first and last token have these numbers
abbrev pub numbered : ℕ → ℕ → Facts → Facts
numbered first last x = record {
  marks = Mark.begins first ∷ x.marks ++ Mark.ends last ∷ [];
  level = x.level;
  depth = x.depth;
  height = x.height;
  layers = x.layers;
  sort = x.sort;
}
