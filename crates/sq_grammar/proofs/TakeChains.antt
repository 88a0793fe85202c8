-- The chains and prefixes that are read are spelled by the tokens.
use Rattle.std.proofs.Common.{◌≡◌, ℕ, ◌+◌, ◌≤◌, Bool, true, List, [], ◌∷◌, ◌++◌, Option, Some, None, refl, arith}
use Rattle.std.specs.Prelude.{flat_map}
use Rattle.std.proofs.lemmas.Grind.{common_steps}
use Rattle.sq_base.specs.declared.place.Place.{Place}
use Rattle.sq_syntax.specs.declared.expr.Expression.{Expression}
use Rattle.sq_syntax.specs.Facts.{Mark, Stream, Along, first_place, Piece, Sort, from, built, sorted, marks_of}
use Rattle.sq_syntax.specs.Pieces.{at}
use Rattle.sq_syntax.specs.Grammar.{tree_facts, expression_facts}
use Rattle.sq_grammar.specs.Reading.{Parser}
use Rattle.sq_grammar.specs.Levels.{Expr, chain, chained, prefix, prefixed}
use Rattle.sq_grammar.proofs.Takes.{Lexed, Took, Spells, tree, ◌then◌, behind, given, needed, noded, tokens_of, part_took, tree_parts}
use Rattle.sq_grammar.proofs.TakeLists.{Each, many_took}

-- ---- tokens

pub marks_append : (a b : List Mark) → tokens_of (a ++ b) ≡ tokens_of a + tokens_of b
marks_append [] b = omega arith
marks_append (Mark.says r ∷ a) b = omega (arith, marks_append a b)
marks_append (Mark.stands_at place ∷ a) b = marks_append a b
marks_append (Mark.begins n ∷ a) b = marks_append a b
marks_append (Mark.ends n ∷ a) b = marks_append a b

pub tokens_append : (a b : List Piece) → tokens_of (marks_of (a ++ b)) ≡ tokens_of (marks_of a) + tokens_of (marks_of b)
tokens_append [] b = omega arith
tokens_append (Piece.mark m ∷ a) b = omega (arith, tokens_append a b, marks_append (m ∷ []) (marks_of a), marks_append (m ∷ []) (marks_of (a ++ b)))
tokens_append (Piece.need h ∷ a) b = tokens_append a b
tokens_append (Piece.part least x ∷ a) b = omega (arith, tokens_append a b, marks_append x.marks (marks_of a), marks_append x.marks (marks_of (a ++ b)))

-- ---- levels

from_lower : (n : ℕ) (found : Option ℕ) → from (n + 1) found ≡ true → from n found ≡ true
from_lower n None h = absurd (cc)
from_lower n (Some m) h = grind (arith, common_steps)

pub lower : (n : ℕ) (x : Expr) {now next : Stream} → Took (tree (n + 1) x) now next → Took (tree n x) now next
lower n x {now} {next} f = part_took n (tree_facts x) now next (λ l. let t = tree_parts (n + 1) x now next l f in (from_lower n (tree_facts x).level t.0, t.1))

-- what stands at a place
pub at_place : {place : Place} {pieces : List Piece} {now next : Stream} → (Lexed now.tokens → first_place now.tokens ≡ Some place) → Took pieces now next → Took (at place ∷ pieces) now next
at_place {place} {pieces} {now} {next} first f = record { holds = λ l. f.holds l; along = λ l. (first l, f.along l) }

module _ {L : Type 0} (n : ℕ) (place : L → Place) (pieces : L → List Piece) (P : L → Type 0) where
  -- the links of a chain, or the marks of a prefix
  pub record Linked (more : Stream → Bool) (link : Parser L) : Type 0 where
    pub takes : (now next : Stream) (l : L) → more now ≡ true → link now ≡ Some (l, next) → Took (pieces l) now next × P l
    pub placed : (l : L) (rest : List Piece) (now next : Stream) → Along (marks_of (pieces l ++ rest)) now next → first_place now.tokens ≡ Some (place l)
    pub one : (l : L) → 1 ≤ tokens_of (marks_of (pieces l))

  abbrev chain_pieces : Expr → Place → List L → List Piece
  chain_pieces first spot links = Piece.need true ∷ Piece.part (n + 1) (tree_facts first) ∷ at spot ∷ flat_map pieces links

  abbrev prefix_pieces : Expr → Place → List L → List Piece
  prefix_pieces operand spot marks = Piece.need true ∷ at spot ∷ flat_map pieces marks ++ Piece.part (n + 1) (tree_facts operand) ∷ []

  -- what the grammar says of a chain
  pub record Chains (make : Expr → List L → Expression) : Type 0 where
    pub steps : Expr → L → List L → Place → ℕ
    pub facts : (first : Expr) (l : L) (links : List L) (spot : Place) → P l → expression_facts (make first (l ∷ links)) spot ≡ sorted Sort.plain (built n (steps first l links spot) (chain_pieces first spot (l ∷ links)))

  pub record Prefixes (make : List L → Expr → Expression) : Type 0 where
    pub steps : Expr → L → List L → Place → ℕ
    pub facts : (operand : Expr) (l : L) (marks : List L) (spot : Place) → P l → expression_facts (make (l ∷ marks) operand) spot ≡ sorted Sort.plain (built n (steps operand l marks spot) (prefix_pieces operand spot (l ∷ marks)))

  module _ (more : Stream → Bool) (link : Parser L) (ls : Linked more link) where
    one_token : (l : L) (links : List L) → 1 ≤ tokens_of (marks_of (flat_map pieces (l ∷ links)))
    one_token l links = omega (arith, ls.one l, tokens_append (pieces l) (flat_map pieces links))

    one_chain : (first : Expr) (spot : Place) (l : L) (links : List L) → 1 ≤ tokens_of (marks_of (chain_pieces first spot (l ∷ links)))
    one_chain first spot l links = omega (arith, one_token l links, marks_append (tree_facts first).marks (Mark.stands_at spot ∷ marks_of (flat_map pieces (l ∷ links))))

    one_prefix : (operand : Expr) (spot : Place) (l : L) (marks : List L) → 1 ≤ tokens_of (marks_of (prefix_pieces operand spot (l ∷ marks)))
    one_prefix operand spot l marks = omega (arith, one_token l marks, tokens_append (flat_map pieces (l ∷ marks)) (Piece.part (n + 1) (tree_facts operand) ∷ []))

    joined : (make : Expr → List L → Expression) → Chains make → (first : Expr) (links : List L) (start mid now next : Stream) (x : Expr) → Took (tree (n + 1) first) start mid → Took (flat_map pieces links) mid now → Each P links
        → chained start place make first links now ≡ Some (x, next) → Took (tree n x) start next
    joined make c first [] start mid now next x f g each h = given (tree n) h (lower n first (f then g))
    joined make c first (l ∷ links) start mid now next x f g each h =
        let p = place l in
        let placed = at_place {place = p} (λ lexed. ls.placed l (flat_map pieces links) mid now (g.along lexed)) g in
        noded start p (make first (l ∷ links)) Sort.plain n (c.steps first l links p) n (chain_pieces first p (l ∷ links)) (omega arith) (c.facts first l links p each.0) (one_chain first p l links) (needed refl (f then placed)) h

    pub takes_chain : (make : Expr → List L → Expression) → Chains make → (operand : Parser Expr) → Spells (tree (n + 1)) operand → Spells (tree n) (chain more link place make operand)
    takes_chain make c operand r start next x h =
        let one = behind h in
        let two = behind one.second in
        let links = many_took more link pieces P ls.takes one.mid two.mid two.value two.first in
        joined make c one.value two.value start one.mid two.mid next x (r start one.mid one.value one.first) links.0 links.1 two.second

    prefixed_took : (make : List L → Expr → Expression) → Prefixes make → (marks : List L) (operand : Expr) (start mid now next : Stream) (x : Expr) → Took (flat_map pieces marks) start mid → Each P marks → Took (tree (n + 1) operand) mid now
        → prefixed start place make marks operand now ≡ Some (x, next) → Took (tree n x) start next
    prefixed_took make c [] operand start mid now next x f each g h = given (tree n) h (lower n operand (f then g))
    prefixed_took make c (l ∷ marks) operand start mid now next x f each g h =
        let p = place l in
        let placed = at_place {place = p} (λ lexed. ls.placed l (flat_map pieces marks) start mid (f.along lexed)) (f then g) in
        noded start p (make (l ∷ marks) operand) Sort.plain n (c.steps operand l marks p) n (prefix_pieces operand p (l ∷ marks)) (omega arith) (c.facts operand l marks p each.0) (one_prefix operand p l marks) (needed refl placed) h

    pub takes_prefix : (make : List L → Expr → Expression) → Prefixes make → (operand : Parser Expr) → Spells (tree (n + 1)) operand → Spells (tree n) (prefix more link place make operand)
    takes_prefix make c operand r start next x h =
        let one = behind h in
        let two = behind one.second in
        let marks = many_took more link pieces P ls.takes start one.mid one.value one.first in
        prefixed_took make c one.value two.value start one.mid two.mid next x marks.0 marks.1 (r one.mid two.mid two.value two.first) two.second
