-- What is read is spelled by the tree that is found, which is well levelled: the steps.
use Rattle.std.proofs.Common.{◌≡◌, ℕ, suc, ◌+◌, ◌-◌, ◌≤◌, Bool, true, false, List, [], ◌∷◌, ◌++◌, length, Option, Some, None, refl, sym, ap, subst, ◌∙◌, arith, ◌⊎◌, inl, inr}
use Rattle.std.specs.Prelude.{if◌then◌else◌}
use Rattle.std.proofs.lemmas.Bool.{le-leb}
use Rattle.std.proofs.lemmas.Option.{some_pair_parts}
use Rattle.sq_base.specs.declared.place.Place.{Place}
use Rattle.sq_syntax.specs.declared.symbol.Symbol.{Symbol}
use Rattle.sq_syntax.specs.declared.symbol.Reading.{Reading}
use Rattle.sq_syntax.specs.declared.symbol.Reading.TheVariants as reading
use Rattle.sq_syntax.specs.declared.symbol.Lexeme.{Lexeme}
use Rattle.sq_syntax.specs.declared.expr.Expression.{Expression}
use Rattle.sq_syntax.specs.Symbols.{word_reading}
use Rattle.sq_syntax.specs.Facts.{Mark, Stream, Says, Along, first_place, Facts, Piece, from, marks_of, piece_marks, piece_holds, all_hold, readings, only_if, built, sorted, Sort}
use Rattle.sq_syntax.specs.Pieces.{say, sym as word, at}
use Rattle.sq_syntax.specs.Grammar.{tree_facts, expression_facts}
use Rattle.sq_grammar.specs.Reading.{Outcome, Parser, and_then, node, is, take_symbol, expect, take_as, and_rest, token, here}
use Rattle.sq_grammar.specs.Levels.{Expr}
use Rattle.sq_grammar.proofs.Runs.{along_split, both}
use Rattle.sq_grammar.proofs.Joints.{same_is}

-- ---- tokens as a file has them

-- a word is none of the grammar's own
abbrev pub Proper : Reading → Type 0
Proper (reading.Word word) = word_reading word ≡ reading.Word word
Proper _ = Unit {0}

abbrev pub Lexed : List Lexeme → Type 0
Lexed [] = Unit {0}
Lexed (x ∷ rest) = Proper x.reading × Lexed rest

pub lexed_first : (r : Reading) (now next : Stream) → Says r now next → Lexed now.tokens → Proper r
lexed_first r now next h l = (subst Lexed h.first l).0

pub lexed_after : (marks : List Mark) (now next : Stream) → Along marks now next → Lexed now.tokens → Lexed next.tokens
lexed_after [] now next h l = subst (λ (u : Stream). Lexed u.tokens) h l
lexed_after (Mark.says r ∷ marks) now next h l = lexed_after marks h.0 next h.2 (subst Lexed h.1.first l).1
lexed_after (Mark.stands_at place ∷ marks) now next h l = lexed_after marks now next h.1 l
lexed_after (Mark.begins n ∷ marks) now next h l = lexed_after marks now next h.1 l
lexed_after (Mark.ends n ∷ marks) now next h l = lexed_after marks now next h.1 l

-- ---- pieces

-- the tokens between, where they are lexed, have these pieces, whose conditions hold
pub record Took (pieces : List Piece) (now next : Stream) : Type 0 where
  pub holds : Lexed now.tokens → all_hold pieces ≡ true
  pub along : Lexed now.tokens → Along (marks_of pieces) now next

-- what a parser of parts takes
abbrev pub Spells : {A : Type 0} → (A → List Piece) → Parser A → Type 0
Spells {A} pieces p = (now next : Stream) (x : A) → p now ≡ Some (x, next) → Took (pieces x) now next

-- what a parser of trees takes
pub record Takes (least : ℕ) (p : Parser Expr) : Type 0 where
  pub takes : (now next : Stream) (x : Expr) → Lexed now.tokens → p now ≡ Some (x, next) → (from least (tree_facts x).level ≡ true) × Along (tree_facts x).marks now next

pub holds_append : (a b : List Piece) → all_hold a ≡ true → all_hold b ≡ true → all_hold (a ++ b) ≡ true
holds_append [] b h k = k
holds_append (x ∷ a) b h k = let s = both (piece_holds x) (all_hold a) h in rw (s.0, holds_append a b s.1 k) refl

pub along_join : (a b : List Mark) (now mid next : Stream) → Along a now mid → Along b mid next → Along (a ++ b) now next
along_join [] b now mid next h k = subst (λ u. Along b u next) (sym h) k
along_join (Mark.says r ∷ a) b now mid next h k = (h.0, h.1, along_join a b h.0 mid next h.2 k)
along_join (Mark.stands_at place ∷ a) b now mid next h k = (h.0, along_join a b now mid next h.1 k)
along_join (Mark.begins n ∷ a) b now mid next h k = (h.0, along_join a b now mid next h.1 k)
along_join (Mark.ends n ∷ a) b now mid next h k = (h.0, along_join a b now mid next h.1 k)

pub pieces_join : (a b : List Piece) (now mid next : Stream) → Along (marks_of a) now mid → Along (marks_of b) mid next → Along (marks_of (a ++ b)) now next
pieces_join [] b now mid next h k = subst (λ u. Along (marks_of b) u next) (sym h) k
pieces_join (x ∷ a) b now mid next h k =
    let t = along_split (piece_marks x) (marks_of a) now mid h in
    along_join (piece_marks x) (marks_of (a ++ b)) now t.0 next t.1 (pieces_join a b t.0 mid next t.2 k)

infixr 6 ◌then◌
pub ◌then◌ : {a b : List Piece} {now mid next : Stream} → Took a now mid → Took b mid next → Took (a ++ b) now next
◌then◌ {a} {b} {now} {mid} {next} f g = record {
  holds = λ l. holds_append a b (f.holds l) (g.holds (lexed_after (marks_of a) now mid (f.along l) l));
  along = λ l. pieces_join a b now mid next (f.along l) (g.along (lexed_after (marks_of a) now mid (f.along l) l));
}

pub none : (now : Stream) → Took [] now now
none now = record { holds = λ l. refl; along = λ l. refl }

pub said : (r : Reading) (now next : Stream) → Says r now next → Took (say r ∷ []) now next
said r now next h = record { holds = λ l. refl; along = λ l. (next, h, refl) }

-- ---- the steps of a parser

pub record Then {A B : Type 0} (o : Outcome A) (f : A → Parser B) (y : B) (next : Stream) : Type 0 where
  pub value : A
  pub mid : Stream
  pub first : o ≡ Some (value, mid)
  pub second : f value mid ≡ Some (y, next)

behind_at : {A B : Type 0} (o : Outcome A) (f : A → Parser B) (y : B) (next : Stream) → and_then o f ≡ Some (y, next) → Then o f y next
behind_at None f y next h = absurd (cc)
behind_at (Some (x, mid)) f y next h = record { value = x; mid = mid; first = refl; second = h }

pub behind : {A B : Type 0} {o : Outcome A} {f : A → Parser B} {y : B} {next : Stream} → and_then o f ≡ Some (y, next) → Then o f y next
behind {A} {B} {o} {f} {y} {next} h = behind_at o f y next h

chosen_at : {A : Type 0} (b : Bool) (o p : Outcome A) (y : A × Stream) → (if b then o else p) ≡ Some y → ((b ≡ true) × (o ≡ Some y)) ⊎ ((b ≡ false) × (p ≡ Some y))
chosen_at true o p y h = inl (refl, h)
chosen_at false o p y h = inr (refl, h)

-- what was read where it is seen, and where it is not
pub chosen : {A : Type 0} {b : Bool} {o p : Outcome A} {y : A × Stream} → (if b then o else p) ≡ Some y → ((b ≡ true) × (o ≡ Some y)) ⊎ ((b ≡ false) × (p ≡ Some y))
chosen {A} {b} {o} {p} {y} h = chosen_at b o p y h

abbrev pub found : {A : Type 0} → A → Stream → Outcome A
found x next = Some (x, next)

-- what is known of what was given is known of what was found
pub kept : {A : Type 0} (P : A → Stream → Type 0) {u v : Stream} {a b : A} → found a u ≡ found b v → P a u → P b v
kept P {u} {v} {a} {b} h k = let e = some_pair_parts a b u v h in subst (λ w. P b w) e.1 (subst (λ c. P c u) e.0 k)

pub given : {A : Type 0} (pieces : A → List Piece) {now u v : Stream} {a b : A} → found a u ≡ found b v → Took (pieces a) now u → Took (pieces b) now v
given pieces {now} h f = kept (λ x w. Took (pieces x) now w) h f

-- ---- single tokens

is_symbol : (x : Symbol) (r : Reading) → is x r ≡ true → r ≡ reading.Symbol x
is_symbol x (reading.Symbol y) h = ap (λ z. reading.Symbol z) (same_is y x h)
is_symbol x _ h = absurd (cc)

expect_says : (x : Symbol) (n : ℕ) (tokens : List Lexeme) (next : Stream) (u : Unit {0}) → take_symbol x n tokens ≡ Some (u, next) → Says (reading.Symbol x) (record { at = n; tokens = tokens }) next
expect_says x n [] next u h = absurd (cc)
expect_says x n (y ∷ rest) next u h = elim (chosen {b = is x y.reading} h) [
  | inl (b, e) ↦
      let parts = some_pair_parts tt u _ next e in
      record { place = y.place; first = ap (λ r. record { reading = r; place = y.place } ∷ rest) (is_symbol x y.reading b) ∙ ap (λ (s : Stream). record { reading = reading.Symbol x; place = y.place } ∷ s.tokens) parts.1; counted = ap (λ (s : Stream). s.at) (sym parts.1) }
  | inr (b, e) ↦ absurd (cc)
]

pub expects : {x : Symbol} {now next : Stream} {u : Unit {0}} → expect x now ≡ Some (u, next) → Says (reading.Symbol x) now next
unfolding expect
expects {x} {now} {next} {u} h = expect_says x now.at now.tokens next u h

pub expected : {x : Symbol} {now next : Stream} {u : Unit {0}} → expect x now ≡ Some (u, next) → Took (word x ∷ []) now next
expected {x} {now} {next} {u} h = said (reading.Symbol x) now next (expects h)

-- a token that was read as something
pub record Read {A : Type 0} (f : Reading → Place → Option A) (x : A) (now next : Stream) : Type 0 where
  pub reading : Reading
  pub says : Says reading now next
  pub is : f reading says.place ≡ Some x

token_at : {A : Type 0} (f : Reading → Place → Option A) (n : ℕ) (y : Lexeme) (rest : List Lexeme) (next : Stream) (x : A) (o : Option A) → f y.reading y.place ≡ o → and_rest o (record { at = suc n; tokens = rest }) ≡ Some (x, next) → Read f x (record { at = n; tokens = y ∷ rest }) next
token_at f n y rest next x None e h = absurd (cc)
token_at f n y rest next x (Some z) e h =
    let parts = some_pair_parts z x _ next h in
    record { reading = y.reading; says = record { place = y.place; first = ap (λ (s : Stream). y ∷ s.tokens) parts.1; counted = ap (λ (s : Stream). s.at) (sym parts.1) }; is = e ∙ ap (λ a. Some a) parts.0 }

token_read : {A : Type 0} (f : Reading → Place → Option A) (n : ℕ) (tokens : List Lexeme) (next : Stream) (x : A) → take_as f n tokens ≡ Some (x, next) → Read f x (record { at = n; tokens = tokens }) next
token_read f n [] next x h = absurd (cc)
token_read f n (y ∷ rest) next x h = token_at f n y rest next x (f y.reading y.place) refl h

pub reads : {A : Type 0} {f : Reading → Place → Option A} {x : A} {now next : Stream} → token f now ≡ Some (x, next) → Read f x now next
reads {A} {f} {x} {now} {next} h = token_read f now.at now.tokens next x h

-- ---- places

abbrev pub tokens_of : List Mark → ℕ
tokens_of marks = length (readings marks)

pub along_counts : (marks : List Mark) (now next : Stream) → Along marks now next → next.at ≡ tokens_of marks + now.at
along_counts [] now next h = omega (arith, ap (λ (u : Stream). u.at) (sym h))
along_counts (Mark.says r ∷ marks) now next h = omega (arith, along_counts marks h.0 next h.2, h.1.counted)
along_counts (Mark.stands_at place ∷ marks) now next h = along_counts marks now next h.1
along_counts (Mark.begins n ∷ marks) now next h = along_counts marks now next h.1
along_counts (Mark.ends n ∷ marks) now next h = along_counts marks now next h.1

says_first : (r : Reading) (now next : Stream) → Says r now next → first_place now.tokens ≡ Some (here now)
says_first r now next h = rw h.first refl

pub along_first : (marks : List Mark) (now next : Stream) → Along marks now next → 1 ≤ tokens_of marks → first_place now.tokens ≡ Some (here now)
along_first [] now next h le = absurd (omega (arith, le))
along_first (Mark.says r ∷ marks) now next h le = says_first r now h.0 h.1
along_first (Mark.stands_at place ∷ marks) now next h le = along_first marks now next h.1 le
along_first (Mark.begins n ∷ marks) now next h le = along_first marks now next h.1 le
along_first (Mark.ends n ∷ marks) now next h le = along_first marks now next h.1 le

pub at_here : {pieces : List Piece} {now next : Stream} → 1 ≤ tokens_of (marks_of pieces) → Took pieces now next → Took (at (here now) ∷ pieces) now next
at_here {pieces} {now} {next} le f = record {
  holds = λ l. f.holds l;
  along = λ l. (along_first (marks_of pieces) now next (f.along l) le, f.along l);
}

-- ---- trees

-- the pieces of a tree at this level or a higher one
abbrev pub tree : ℕ → Expr → List Piece
tree least x = Piece.part least (tree_facts x) ∷ []

pub tree_parts : (least : ℕ) (x : Expr) (now next : Stream) → Lexed now.tokens → Took (tree least x) now next → (from least (tree_facts x).level ≡ true) × Along (tree_facts x).marks now next
tree_parts least x now next l f =
    let t = along_split (tree_facts x).marks [] now next (f.along l) in
    ((both (from least (tree_facts x).level) true (f.holds l)).0, subst (λ u. Along (tree_facts x).marks now u) t.2 t.1)

pub part_took : (least : ℕ) (y : Facts) (now next : Stream) → (Lexed now.tokens → (from least y.level ≡ true) × Along y.marks now next) → Took (Piece.part least y ∷ []) now next
part_took least y now next f = record { holds = λ l. rw (f l).0 refl; along = λ l. along_join y.marks [] now next next (f l).1 refl }

pub spells : (least : ℕ) (p : Parser Expr) → Takes least p → Spells (tree least) p
spells least p t now next x h = part_took least (tree_facts x) now next (λ l. t.takes now next x l h)

pub takes_of : (least : ℕ) (p : Parser Expr) → Spells (tree least) p → Takes least p
takes_of least p f = record { takes = λ now next x l h. tree_parts least x now next l (f now next x h) }

pub from_level : (least level : ℕ) (b : Bool) → least ≤ level → b ≡ true → from least (only_if b level) ≡ true
from_level least level true le h = le-leb least level le
from_level least level false le h = absurd (cc)

module _ (start : Stream) (place : Place) (form : Expression) (sort : Sort) (level steps least : ℕ) (pieces : List Piece) (le : least ≤ level) (e : expression_facts form place ≡ sorted sort (built level steps pieces)) (one : 1 ≤ tokens_of (marks_of pieces)) where
  made : (now : Stream) → Took pieces start now → Took (tree least (record { place = place; first = start.at; last = now.at - 1; form = form })) start now
  made now f = part_took least (tree_facts (record { place = place; first = start.at; last = now.at - 1; form = form })) start now (λ l.
      let a = f.along l in
      let last : suc (now.at - 1) ≡ now.at = omega (arith, along_counts (marks_of pieces) start now a, one) in (
        subst (λ (y : Facts). from least y.level ≡ true) (sym e) (from_level least level (all_hold pieces) le (f.holds l)),
        (refl, along_join (expression_facts form place).marks (Mark.ends (now.at - 1) ∷ []) start now now (subst (λ (y : Facts). Along y.marks start now) (sym e) a) (last, refl)),
      ))

  pub noded : {now next : Stream} {x : Expr} → Took pieces start now → node start place form now ≡ Some (x, next) → Took (tree least x) start next
  noded {now} {next} {x} f h = given (tree least) h (made now f)

-- a condition that holds
pub needed : {b : Bool} {pieces : List Piece} {now next : Stream} → b ≡ true → Took pieces now next → Took (Piece.need b ∷ pieces) now next
needed {b} {pieces} {now} {next} h f = record { holds = λ l. rw (h, f.holds l) refl; along = λ l. f.along l }
