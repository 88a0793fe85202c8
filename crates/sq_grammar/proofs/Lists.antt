use Rattle.std.proofs.Common.{◌≡◌, ℕ, ◌≤◌, Bool, true, false, List, [], ◌∷◌, ◌++◌, Some, None, refl, ap, subst, ◌∙◌, arith, inl, inr, map}
use Rattle.std.specs.Prelude.{flat_map, not}
use Rattle.std.proofs.lemmas.List.Folds.{flat_map-map}
use Rattle.sq_syntax.specs.declared.symbol.Symbol.{Symbol}
use Rattle.sq_syntax.specs.declared.symbol.Symbol.TheVariants as s
use Rattle.sq_syntax.specs.declared.symbol.Reading.TheVariants as reading
use Rattle.sq_syntax.specs.Facts.{Stream, Says, Along, Piece, from}
use Rattle.sq_syntax.specs.Pieces.{Operand, Placed, at, sym as word, say, is_empty}
use Rattle.sq_syntax.specs.ExpressionPieces as g
use Rattle.sq_syntax.specs.Grammar.{tree_facts, expression_facts}
use Rattle.sq_grammar.specs.Reading.{Parser, ◌>>=◌, pure, sees, expect, same}
use Rattle.sq_grammar.specs.Ahead.{Lexemes, reading_binds}
use Rattle.sq_grammar.proofs.Runs.{Run, both}
use Rattle.sq_grammar.proofs.Complete.{step, says_expect, Item, goes_on}
use Rattle.sq_syntax.specs.Facts.{Turn, turn}
use Rattle.sq_syntax.specs.Pieces as p
use Rattle.sq_grammar.proofs.Begins.{Starts, head_fits}
use Rattle.sq_grammar.proofs.Joints.{says_goes}
use Rattle.std.proofs.Common.{◌⊎◌}
use Rattle.sq_syntax.specs.declared.query.Query.{Query}
use Rattle.sq_syntax.specs.Grammar.{query_facts}
use Rattle.sq_grammar.specs.Reading.{optional}
use Rattle.sq_grammar.specs.Ahead.{holds_query, goes_on_query}
use Rattle.sq_grammar.specs.Levels.{Expr}
use Rattle.sq_grammar.proofs.Chains.{Gives}
use Rattle.sq_grammar.proofs.Begins.{starts_negated}
use Rattle.sq_grammar.proofs.ReadTypes.{other_symbol, that_symbol}
use Rattle.std.proofs.lemmas.Simd.{map-map}
use Rattle.std.specs.Prelude.{◌<◌}
use Rattle.sq_grammar.specs.Reading.{many}
use Rattle.sq_grammar.specs.Tests.{list, next_of_list}
use Rattle.sq_grammar.proofs.Complete.{Item}
use Rattle.sq_grammar.proofs.Chains.{many_reads, next_stops}
use Rattle.sq_grammar.proofs.Testing.{optional_no, optional_yes}

-- parsers that give back what stands inside brackets or CASE of this depth
pub record Inside (d : ℕ) (nested : Parser Expr) (inner : Parser Query) : Type 0 where
  pub reads : (x : Expr) (now next : Stream) → from 0 (tree_facts x).level ≡ true → (tree_facts x).depth < d → Along (tree_facts x).marks now next → goes_on 0 next ≡ false → nested now ≡ Some (x, next)
  pub starts : Starts starts_negated nested
  pub queries : (x : Query) (now next : Stream) → from 0 (query_facts x).level ≡ true → (query_facts x).depth < d → Along (query_facts x).marks now next → sees s.Close next ≡ true → inner now ≡ Some (x, next)

-- what the tokens ahead tell of brackets
pub record Looks : Type 0 where
  pub holds : (x : Query) (now u v next : Stream) → Says (reading.Symbol s.Open) now u → from 0 (query_facts x).level ≡ true → Along (query_facts x).marks u v → Says (reading.Symbol s.Close) v next → holds_query now.tokens ≡ true
  pub lacks : (x : Expr) (now u v : Stream) → Says (reading.Symbol s.Open) now u → from 0 (tree_facts x).level ≡ true → Along (tree_facts x).marks u v → head_fits starts_negated u.tokens ≡ true
      → (g.is_scalar (tree_facts x) ≡ false) ⊎ (goes_on_query v.tokens ≡ false) → holds_query now.tokens ≡ false

abbrev pub facts_of : Expr → Operand
facts_of y = record { place = y.place; first = y.first; last = y.last; form = expression_facts y.form }

abbrev pub comma_part : Expr → List Piece
comma_part y = word s.Comma ∷ Piece.part 0 (tree_facts y) ∷ []

more_pieces : (xs : List Expr) → flat_map (λ item. word s.Comma ∷ item) (map (λ x. p.part 0 x ∷ []) (map facts_of xs)) ≡ flat_map comma_part xs
more_pieces xs =
    ap (λ ps. flat_map (λ item. word s.Comma ∷ item) ps) (map-map (λ (x : Operand). p.part 0 x ∷ []) facts_of xs)
    ∙ flat_map-map (λ (item : List Piece). word s.Comma ∷ item) (λ (y : Expr). Piece.part 0 (tree_facts y) ∷ []) xs

pub list_pieces : (x : Expr) (xs : List Expr) → p.list (map facts_of (x ∷ xs)) ≡ Piece.part 0 (tree_facts x) ∷ flat_map comma_part xs
list_pieces x xs = ap (λ ps. Piece.part 0 (tree_facts x) ∷ ps) (more_pieces xs)

-- what stands behind a list ends it
abbrev pub EndsList : List Piece → ℕ → Stream → Type 0
EndsList rest k next = (u : Stream) → Run rest k u next → (goes_on 0 u ≡ false) × (sees s.Comma u ≡ false)

-- a parser gives back each expression of this depth
abbrev pub ReadsTo : ℕ → Parser Expr → Type 0
ReadsTo k nested = (x : Expr) (now next : Stream) → from 0 (tree_facts x).level ≡ true → (tree_facts x).depth ≤ k → Along (tree_facts x).marks now next → goes_on 0 next ≡ false → nested now ≡ Some (x, next)

module _ (nested : Parser Expr) (inner : Parser Query) (k : ℕ) (read : ReadsTo k nested) where
  comma_item_over : Item k (sees s.Comma) (next_of_list nested inner) comma_part (goes_on 0)
  comma_item_over = record {
    begun = λ x rest now next run stop. that_symbol s.Comma now run.0 run.1;
    stops = λ x rest now next run. says_goes 0 (reading.Symbol s.Comma) now run.0 run.1;
    some = λ x. omega arith;
    reads = λ x rest now next run stop.
        let t = run.3 in (
          t.0,
          step (expect s.Comma) (λ _. nested) now run.0 tt (says_expect s.Comma now run.0 run.1) ∙ read x run.0 t.0 t.1 t.2 t.3 (stop t.0 t.4),
          t.4,
        );
  }

  pub list_over : (x : Expr) (xs : List Expr) (rest : List Piece) (now next : Stream) → Run (p.list (map facts_of (x ∷ xs)) ++ rest) k now next → EndsList rest k next → Gives (list nested inner now) (x ∷ xs) rest k next
  unfolding list
  list_over x xs rest now next run ends =
      let r = subst (λ ps. Run (ps ++ rest) k now next) (list_pieces x xs) run in
      let u = r.0 in
      let stop = next_stops k (sees s.Comma) (next_of_list nested inner) comma_part (goes_on 0) comma_item_over xs rest u next r.4 (λ v t. (ends v t).0) in
      let first = read x now u r.1 r.2 r.3 stop in
      let more = many_reads k (sees s.Comma) (next_of_list nested inner) comma_part (goes_on 0) comma_item_over xs rest u next r.4 (λ v t. ((ends v t).1, (ends v t).0)) in (
        more.0,
        step nested (λ y. many (sees s.Comma) (next_of_list nested inner) >>= (λ ys. pure (y ∷ ys))) now u x first
            ∙ step (many (sees s.Comma) (next_of_list nested inner)) (λ ys. pure (x ∷ ys)) u more.0 xs more.1,
        more.2,
      )

module _ (d : ℕ) (nested : Parser Expr) (inner : Parser Query) (i : Inside d nested inner) (k : ℕ) (less : k < d) where
  read_inside : ReadsTo k nested
  read_inside x now next h le a stop = i.reads x now next h (omega (arith, le, less)) a stop

  comma_item : Item k (sees s.Comma) (next_of_list nested inner) comma_part (goes_on 0)
  comma_item = comma_item_over nested inner k read_inside

  -- the first of a list, and the tokens after it
  pub record First (x : Expr) (now : Stream) : Type 0 where
    pub next : Stream
    pub is : nested now ≡ Some (x, next)
    pub begun : head_fits starts_negated now.tokens ≡ true
    pub along : Along (tree_facts x).marks now next
    pub level : from 0 (tree_facts x).level ≡ true

  pub list_read : (x : Expr) (xs : List Expr) (rest : List Piece) (now next : Stream) → Run (p.list (map facts_of (x ∷ xs)) ++ rest) k now next → EndsList rest k next → Gives (list nested inner now) (x ∷ xs) rest k next
  list_read x xs rest now next run ends = list_over nested inner k read_inside x xs rest now next run ends

  pub list_first : (x : Expr) (xs : List Expr) (rest : List Piece) (now next : Stream) → Run (p.list (map facts_of (x ∷ xs)) ++ rest) k now next → EndsList rest k next → First x now
  list_first x xs rest now next run ends =
      let r = subst (λ ps. Run (ps ++ rest) k now next) (list_pieces x xs) run in
      let stop = next_stops k (sees s.Comma) (next_of_list nested inner) comma_part (goes_on 0) comma_item xs rest r.0 next r.4 (λ v t. (ends v t).0) in
      let first = i.reads x now r.0 r.1 (omega (arith, r.2, less)) r.3 stop in
      record { next = r.0; is = first; begun = i.starts now r.0 x first; along = r.3; level = r.1 }

  unfollowed : (v w : Stream) → Says (reading.Symbol s.Comma) v w → goes_on_query v.tokens ≡ false
  unfollowed v w h = ap (λ tokens. goes_on_query tokens) h.first

  not_true : (b : Bool) → not b ≡ true → b ≡ false
  not_true false h = refl
  not_true true h = absurd (cc)

  -- brackets that hold a list, and not one bracketed query alone, hold no query
  pub list_lacks : Looks → (x : Expr) (xs : List Expr) (rest : List Piece) (now u next : Stream) → Says (reading.Symbol s.Open) now u → Run (p.list (map facts_of (x ∷ xs)) ++ rest) k u next → EndsList rest k next
      → not (g.lone_scalar (map facts_of (x ∷ xs))) ≡ true → holds_query now.tokens ≡ false
  list_lacks looks x [] rest now u next bracket run ends alone =
      let f = list_first x [] rest u next run ends in
      looks.lacks x now u f.next bracket f.level f.along f.begun (inl (not_true (g.is_scalar (tree_facts x)) alone))
  list_lacks looks x (y ∷ ys) rest now u next bracket run ends alone =
      let r = subst (λ ps. Run (ps ++ rest) k u next) (list_pieces x (y ∷ ys)) run in
      let f = list_first x (y ∷ ys) rest u next run ends in
      looks.lacks x now u r.0 bracket r.1 r.3 f.begun (inr (unfollowed r.0 r.4.0 r.4.1))

pub optional_read : (k : Symbol) (b : Bool) (rest : List Piece) (d : ℕ) (now next : Stream) → turn (reading.Symbol k) ≡ Turn.neither → Run (p.when b k ++ rest) d now next → ((u : Stream) → Run rest d u next → sees k u ≡ false) → Gives (optional k now) b rest d next
optional_read k false rest d now next t run lacks = (now, optional_no k now (lacks now run), run)
optional_read k true rest d now next t run lacks = (run.0, optional_yes k now run.0 run.1, subst (λ w. Run rest (Rattle.sq_grammar.proofs.Runs.spent w d) run.0 next) t run.3)

pub close_ends : (k : Symbol) (rest : List Piece) (d : ℕ) (next : Stream) → ((tokens : Lexemes) → reading_binds (reading.Symbol k) tokens ≡ None) → same k s.Comma ≡ false → EndsList (word k ∷ rest) d next
close_ends k rest d next binds other u run = (says_goes 0 (reading.Symbol k) u run.0 run.1 ∙ ap (λ o. from 0 o) (binds run.0.tokens), other_symbol s.Comma k u run.0 run.1 other)
