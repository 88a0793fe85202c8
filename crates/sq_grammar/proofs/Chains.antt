-- Lists, chains and prefixes are read as they are spelled.
use Rattle.std.proofs.Common.{◌≡◌, ℕ, zero, suc, ◌+◌, ◌≤◌, Bool, true, false, List, [], ◌∷◌, ◌++◌, length, Some, refl, sym, ap, subst, ◌∙◌, arith, append_assoc, inl, inr}
use Rattle.std.specs.Prelude.{flat_map}
use Rattle.std.proofs.lemmas.List.{append-nil}
use Rattle.sq_base.specs.declared.place.Place.{Place}
use Rattle.sq_syntax.specs.declared.expr.Expression.{Expression}
use Rattle.sq_syntax.specs.Facts.{Stream, Along, first_place, Piece, Sort, from, built, sorted}
use Rattle.sq_syntax.specs.Pieces.{at}
use Rattle.sq_syntax.specs.Grammar.{tree_facts, expression_facts}
use Rattle.sq_grammar.specs.Reading.{Outcome, Parser, ◌>>=◌, pure, many, many_from}
use Rattle.sq_grammar.specs.Levels.{Expr, chain, chained, prefix, prefixed}
use Rattle.sq_grammar.proofs.Runs.{Run, said_all, said_items}
use Rattle.sq_grammar.proofs.Complete.{step, Reads, Item, Framed, framed, opened, above, made, goes_on, stops-more, same_some}

-- what a list gives: itself, and the tokens of what stands behind it
abbrev pub Gives : {A : Type 0} → Outcome A → A → List Piece → ℕ → Stream → Type 0
Gives outcome x tail d next = (u : Stream) × (outcome ≡ Some (x, u)) × Run tail d u next

module _ {A : Type 0} (d : ℕ) (more : Stream → Bool) (item : Parser A) (pieces : A → List Piece) (stop : Stream → Bool) (it : Item d more item pieces stop) where
  regroup : (x : A) (xs : List A) (tail : List Piece) (now next : Stream) → Run (flat_map pieces (x ∷ xs) ++ tail) d now next → Run (pieces x ++ (flat_map pieces xs ++ tail)) d now next
  regroup x xs tail now next h = subst (λ ps. Run ps d now next) (append_assoc (pieces x) (flat_map pieces xs) tail) h

  pub next_stops : (xs : List A) (tail : List Piece) (now next : Stream) → Run (flat_map pieces xs ++ tail) d now next → ((u : Stream) → Run tail d u next → stop u ≡ false) → stop now ≡ false
  next_stops [] tail now next h end = end now h
  next_stops (x ∷ xs) tail now next h end = it.stops x (flat_map pieces xs ++ tail) now next (regroup x xs tail now next h)

  pub many_none : (k : ℕ) (now : Stream) → more now ≡ false → many_from more item k now ≡ Some ([], now)
  unfolding many_from
  many_none zero now h = refl
  many_none (suc k) now h = rw h refl

  many_some : (xs : List A) (tail : List Piece) (k : ℕ) (now next : Stream) → Run (flat_map pieces xs ++ tail) d now next → ((u : Stream) → Run tail d u next → (more u ≡ false) × (stop u ≡ false))
      → length xs ≤ k → Gives (many_from more item k now) xs tail d next
  unfolding many_from
  many_some [] tail k now next h end long = (now, many_none k now (end now h).0, h)
  many_some (x ∷ xs) tail zero now next h end long = absurd (omega (arith, long))
  many_some (x ∷ xs) tail (suc k) now next h end long =
      let run = regroup x xs tail now next h in
      let first = it.reads x (flat_map pieces xs ++ tail) now next run (λ u r. next_stops xs tail u next r (λ v t. (end v t).1)) in
      let others = many_some xs tail k first.0 next first.2 end (omega (arith, long)) in (
        others.0,
        rw (it.begun x (flat_map pieces xs ++ tail) now next run (λ u r. next_stops xs tail u next r (λ v t. (end v t).1))) (
            step item (λ y. many_from more item k >>= (λ ys. pure (y ∷ ys))) now first.0 x first.1
            ∙ step (many_from more item k) (λ ys. pure (x ∷ ys)) first.0 others.0 xs others.1),
        others.2,
      )

  pub many_reads : (xs : List A) (tail : List Piece) (now next : Stream) → Run (flat_map pieces xs ++ tail) d now next → ((u : Stream) → Run tail d u next → (more u ≡ false) × (stop u ≡ false))
      → Gives (many more item now) xs tail d next
  many_reads xs tail now next h end =
      many_some xs tail (length now.tokens) now next h end
      (omega (arith, said_all (flat_map pieces xs ++ tail) d now next h, said_items pieces it.some xs tail))

-- ---- chains

module _ {L : Type 0} (d n : ℕ) (more : Stream → Bool) (link : Parser L) (place : L → Place) (make : Expr → List L → Expression) (pieces : L → List Piece) where
  -- the links of a chain
  pub record Links : Type 0 where
    pub item : Item d more link pieces (goes_on (n + 1))
    pub placed : (l : L) (rest : List Piece) (now next : Stream) → Run (pieces l ++ rest) d now next → first_place now.tokens ≡ Some (place l)
    pub ends : (now : Stream) → goes_on n now ≡ false → more now ≡ false

  -- the links of a chain whose first operand was read
  pub links_read : Links → (x first : Expr) (l : L) (links : List L) (start now next : Stream) → x.form ≡ make first (l ∷ links) → Framed x start next
      → first_place now.tokens ≡ Some x.place → Run (flat_map pieces (l ∷ links)) d now next → goes_on n next ≡ false
      → (many more link >>= (λ ls. chained start place make first ls)) now ≡ Some (x, next)
  links_read ls x first l links start now next form f at run stop =
      let whole = subst (λ ps. Run ps d now next) (sym (append-nil (flat_map pieces (l ∷ links)))) run in
      let g = many_reads d more link pieces (goes_on (n + 1)) ls.item (l ∷ links) [] now next whole
      (λ u r. (ls.ends u (subst (λ v. goes_on n v ≡ false) (sym r) stop), stops-more n (n + 1) u (omega arith) (subst (λ v. goes_on n v ≡ false) (sym r) stop))) in
      let here = ls.placed l (flat_map pieces links) now next run in
      step (many more link) (λ ms. chained start place make first ms) now next (l ∷ links) (g.1 ∙ ap (λ u. Some (l ∷ links, u)) g.2)
      ∙ made x start next (place l) (make first (l ∷ links)) f (same_some (sym at ∙ here)) form

  pub chain_here : Links → (operand : Parser Expr) → Reads d (n + 1) operand → (x first : Expr) (l : L) (links : List L) (now next : Stream) → x.form ≡ make first (l ∷ links) → Framed x now next
      → Run (Piece.part (n + 1) (tree_facts first) ∷ at x.place ∷ flat_map pieces (l ∷ links)) d now next → goes_on n next ≡ false → chain more link place make operand now ≡ Some (x, next)
  chain_here ls operand r x first l links now next form f run stop =
      let u = run.0 in
      step operand (λ y. many more link >>= (λ ms. chained now place make y ms)) now u first
      (r.reads first now u run.1 run.2 run.3 (ls.item.stops l (flat_map pieces links) u next run.4.1))
      ∙ links_read ls x first l links now u next form f run.4.0 run.4.1 stop

  pub chain_lift : Links → (operand : Parser Expr) → Reads d (n + 1) operand → (x : Expr) (now next : Stream) → from (n + 1) (tree_facts x).level ≡ true → (tree_facts x).depth ≤ d
      → Along (tree_facts x).marks now next → goes_on n next ≡ false → chain more link place make operand now ≡ Some (x, next)
  chain_lift ls operand r x now next st de a stop =
      step operand (λ y. many more link >>= (λ ms. chained now place make y ms)) now next x (r.reads x now next st de a (stops-more n (n + 1) next (omega arith) stop))
      ∙ step (many more link) (λ ms. chained now place make x ms) next next [] (many_none d more link pieces (goes_on (n + 1)) ls.item (length next.tokens) next (ls.ends next stop))

-- ---- prefixes

module _ {L : Type 0} (d n : ℕ) (more : Stream → Bool) (mark : Parser L) (place : L → Place) (make : List L → Expr → Expression) (pieces : L → List Piece) where
  -- the marks of a prefix
  pub record Prefixes (operand : Parser Expr) : Type 0 where
    pub item : Item d more mark pieces (λ now. false)
    pub placed : (l : L) (rest : List Piece) (now next : Stream) → Run (pieces l ++ rest) d now next → first_place now.tokens ≡ Some (place l)
    -- what an operand is read from does not begin with such a mark
    pub refuses : (now next : Stream) (x : Expr) → operand now ≡ Some (x, next) → more now ≡ false

  pub prefix_here : (operand : Parser Expr) → Prefixes operand → Reads d (n + 1) operand → (x y : Expr) (l : L) (marks : List L) (now next : Stream) → x.form ≡ make (l ∷ marks) y → Framed x now next
      → Run (at x.place ∷ flat_map pieces (l ∷ marks) ++ Piece.part (n + 1) (tree_facts y) ∷ []) d now next → goes_on n next ≡ false → prefix more mark place make operand now ≡ Some (x, next)
  prefix_here operand ps r x y l marks now next form f run stop =
      let tail = Piece.part (n + 1) (tree_facts y) ∷ [] in
      let read = λ (u : Stream) (t : Run tail d u next). r.reads y u next (subst (λ v. from (n + 1) (tree_facts y).level ≡ true) t.4 t.1) t.2 (subst (λ v. Along (tree_facts y).marks u v) t.4 t.3) (stops-more n (n + 1) next (omega arith) stop) in
      let g = many_reads d more mark pieces (λ v. false) ps.item (l ∷ marks) tail now next run.1 (λ u t. (ps.refuses u next y (read u t), refl)) in
      let here = ps.placed l (flat_map pieces marks ++ tail) now next (subst (λ qs. Run qs d now next) (append_assoc (pieces l) (flat_map pieces marks) tail) run.1) in
      step (many more mark) (λ ms. operand >>= (λ z. prefixed now place make ms z)) now g.0 (l ∷ marks) g.1
      ∙ step operand (λ z. prefixed now place make (l ∷ marks) z) g.0 next y (read g.0 g.2)
      ∙ made x now next (place l) (make (l ∷ marks) y) f (same_some (sym run.0 ∙ here)) form

  pub prefix_lift : (operand : Parser Expr) → Prefixes operand → Reads d (n + 1) operand → (x : Expr) (now next : Stream) → from (n + 1) (tree_facts x).level ≡ true → (tree_facts x).depth ≤ d
      → Along (tree_facts x).marks now next → goes_on n next ≡ false → prefix more mark place make operand now ≡ Some (x, next)
  prefix_lift operand ps r x now next st de a stop =
      let read = r.reads x now next st de a (stops-more n (n + 1) next (omega arith) stop) in
      step (many more mark) (λ ms. operand >>= (λ z. prefixed now place make ms z)) now now [] (many_none d more mark pieces (λ v. false) ps.item (length now.tokens) now (ps.refuses now next x read))
      ∙ step operand (λ z. prefixed now place make [] z) now next x read

-- ---- levels of chains

-- the expression is a chain of this level
pub record Chained {L : Type 0} (n : ℕ) (make : Expr → List L → Expression) (pieces : L → List Piece) (x : Expr) : Type 0 where
  pub head : Expr
  pub link : L
  pub links : List L
  pub steps : ℕ
  pub holds : Bool
  pub is : x.form ≡ make head (link ∷ links)
  pub facts : expression_facts x.form x.place ≡ sorted Sort.plain (built n steps (Piece.need holds ∷ Piece.part (n + 1) (tree_facts head) ∷ at x.place ∷ flat_map pieces (link ∷ links)))

pub reads_chain : {L : Type 0} (d n : ℕ) (more : Stream → Bool) (link : Parser L) (place : L → Place) (make : Expr → List L → Expression) (pieces : L → List Piece) (operand : Parser Expr)
    → Links d n more link place make pieces → Reads d (n + 1) operand → ((x : Expr) → (tree_facts x).level ≡ Some n → Chained n make pieces x) → Reads d n (chain more link place make operand)
reads_chain d n more link place make pieces operand ls r kind = record {
  reads = λ x now next st de a stop. elim (above n (tree_facts x).level st) [
    | inl here ↦
        let c = kind x here in
        let f = framed x now next a in
        let run = opened Sort.plain n c.steps n d (Piece.need c.holds ∷ Piece.part (n + 1) (tree_facts c.head) ∷ at x.place ∷ flat_map pieces (c.link ∷ c.links)) (expression_facts x.form x.place) now next c.facts st de f.along in
        chain_here d n more link place make pieces ls operand r x c.head c.link c.links now next c.is f run.1 stop
    | inr up ↦ chain_lift d n more link place make pieces ls operand r x now next up de a stop
  ];
}

-- the expression is a prefix, once or more, over an operand of this level
pub record Prefixed {L : Type 0} (n : ℕ) (make : List L → Expr → Expression) (pieces : L → List Piece) (x : Expr) : Type 0 where
  pub operand : Expr
  pub mark : L
  pub marks : List L
  pub steps : ℕ
  pub holds : Bool
  pub is : x.form ≡ make (mark ∷ marks) operand
  pub facts : expression_facts x.form x.place ≡ sorted Sort.plain (built n steps (Piece.need holds ∷ at x.place ∷ flat_map pieces (mark ∷ marks) ++ Piece.part (n + 1) (tree_facts operand) ∷ []))

pub reads_prefix : {L : Type 0} (d n : ℕ) (more : Stream → Bool) (mark : Parser L) (place : L → Place) (make : List L → Expr → Expression) (pieces : L → List Piece) (operand : Parser Expr)
    → Prefixes d n more mark place make pieces operand → Reads d (n + 1) operand → ((x : Expr) → (tree_facts x).level ≡ Some n → Prefixed n make pieces x) → Reads d n (prefix more mark place make operand)
reads_prefix d n more mark place make pieces operand ps r kind = record {
  reads = λ x now next st de a stop. elim (above n (tree_facts x).level st) [
    | inl here ↦
        let c = kind x here in
        let f = framed x now next a in
        let run = opened Sort.plain n c.steps n d (Piece.need c.holds ∷ at x.place ∷ flat_map pieces (c.mark ∷ c.marks) ++ Piece.part (n + 1) (tree_facts c.operand) ∷ []) (expression_facts x.form x.place) now next c.facts st de f.along in
        prefix_here d n more mark place make pieces operand ps r x c.operand c.mark c.marks now next c.is f run.1 stop
    | inr up ↦ prefix_lift d n more mark place make pieces operand ps r x now next up de a stop
  ];
}
