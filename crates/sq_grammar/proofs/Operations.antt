use Rattle.std.proofs.Common.{◌≡◌, ℕ, ◌+◌, ◌≤◌, Bool, true, false, List, [], ◌∷◌, ◌++◌, Option, Some, None, refl, sym, ap, subst, ◌∙◌, arith, map}
use Rattle.std.specs.Prelude.{flat_map, if◌then◌else◌, ◌&&◌, ◌||◌, not, ◌==◌, length}
use Rattle.std.proofs.lemmas.Grind.{common_steps}
use Rattle.std.proofs.lemmas.List.Folds.{flat_map-map}
use Rattle.sq_base.specs.declared.place.Place.{Place}
use Rattle.sq_syntax.specs.declared.symbol.Symbol.{Symbol}
use Rattle.sq_syntax.specs.declared.symbol.Symbol.TheVariants as s
use Rattle.sq_syntax.specs.declared.symbol.Reading.{Reading}
use Rattle.sq_syntax.specs.declared.symbol.Reading.TheVariants as reading
use Rattle.sq_syntax.specs.declared.expr.Link.{Link}
use Rattle.sq_syntax.specs.declared.expr.Operator.{Operator}
use Rattle.sq_syntax.specs.declared.expr.Operator.TheVariants as operator
use Rattle.sq_syntax.specs.declared.expr.Expression.{Expression}
use Rattle.sq_syntax.specs.declared.expr.Expression.TheVariants as e
use Rattle.sq_syntax.specs.Facts.{Stream, Facts, Piece, from, built}
use Rattle.sq_syntax.specs.Pieces.{Operand, at, say}
use Rattle.sq_syntax.specs.ExpressionPieces as g
use Rattle.sq_syntax.specs.Grammar.{tree_facts, expression_facts}
use Rattle.sq_syntax.proofs.Equations as q
use Rattle.sq_syntax.proofs.Equations.{Shape, shape}
use Rattle.sq_grammar.specs.Reading.{Parser, ◌>>=◌, pure, is, same, here}
use Rattle.sq_grammar.specs.Ahead.{Lexemes, binding, reading_binds, operator_of, operator_binds, begins_quantifier}
use Rattle.sq_grammar.specs.Levels.{Expr, link, link_place, links_at, begins_link, sees_link, operator_at, an_operator, operation}
use Rattle.sq_grammar.proofs.Runs.{Run}
use Rattle.sq_grammar.proofs.Complete.{step, says_token, stands_here, Reads, only_if-some, goes_on}
use Rattle.sq_grammar.proofs.Chains.{Links, Gives, Chained, reads_chain}
use Rattle.sq_grammar.proofs.Homes.{at_home, Operates}
use Rattle.sq_syntax.specs.declared.expr.Comparison.TheVariants as comparison
use Rattle.sq_syntax.specs.Facts.{Turn, turn}
use Rattle.sq_grammar.specs.Ahead.{symbol_operator, may_bind}
use Rattle.sq_grammar.proofs.Begins.{Starts, starts_signed, head_fits}
use Rattle.sq_grammar.proofs.Joints.{says_goes, false_true}
use Rattle.sq_grammar.proofs.Runs.{spent}

-- an operand begins with no quantifier
pub unquantified : (tokens : Lexemes) → head_fits starts_signed tokens ≡ true → begins_quantifier tokens ≡ false
unfolding same
unquantified [] h = absurd (cc)
unquantified (x ∷ rest) h = by_reading x.reading h
  where
    by_reading : (r : Reading) → starts_signed r ≡ true → is s.Any r || (is s.Some r || is s.All r) ≡ false
    by_reading (reading.Symbol s.Any) e = absurd (cc)
    by_reading (reading.Symbol s.Some) e = absurd (cc)
    by_reading (reading.Symbol s.All) e = absurd (cc)
    by_reading (reading.Symbol _) e = refl
    by_reading _ e = refl

pub operator_again : (x : Operator) → operator_of (g.operator_reading x) ≡ Some x
operator_again operator.Power = refl
operator_again operator.Times = refl
operator_again operator.Divide = refl
operator_again operator.Modulo = refl
operator_again operator.Plus = refl
operator_again operator.Minus = refl
operator_again (operator.Comparison comparison.Less) = refl
operator_again (operator.Comparison comparison.Greater) = refl
operator_again (operator.Comparison comparison.Equal) = refl
operator_again (operator.Comparison comparison.LessEqual) = refl
operator_again (operator.Comparison comparison.GreaterEqual) = refl
operator_again (operator.Comparison comparison.NotEqual) = refl
operator_again (operator.Other bytes) = refl

pub operator_turn : (x : Operator) → turn (g.operator_reading x) ≡ Turn.neither
operator_turn operator.Power = refl
operator_turn operator.Times = refl
operator_turn operator.Divide = refl
operator_turn operator.Modulo = refl
operator_turn operator.Plus = refl
operator_turn operator.Minus = refl
operator_turn (operator.Comparison comparison.Less) = refl
operator_turn (operator.Comparison comparison.Greater) = refl
operator_turn (operator.Comparison comparison.Equal) = refl
operator_turn (operator.Comparison comparison.LessEqual) = refl
operator_turn (operator.Comparison comparison.GreaterEqual) = refl
operator_turn (operator.Comparison comparison.NotEqual) = refl
operator_turn (operator.Other bytes) = refl

pub operator_reads : (x : Operator) (rest : Lexemes) → reading_binds (g.operator_reading x) rest ≡ operator_binds x rest
operator_reads operator.Power rest = refl
operator_reads operator.Times rest = refl
operator_reads operator.Divide rest = refl
operator_reads operator.Modulo rest = refl
operator_reads operator.Plus rest = refl
operator_reads operator.Minus rest = refl
operator_reads (operator.Comparison comparison.Less) rest = refl
operator_reads (operator.Comparison comparison.Greater) rest = refl
operator_reads (operator.Comparison comparison.Equal) rest = refl
operator_reads (operator.Comparison comparison.LessEqual) rest = refl
operator_reads (operator.Comparison comparison.GreaterEqual) rest = refl
operator_reads (operator.Comparison comparison.NotEqual) rest = refl
operator_reads (operator.Other bytes) rest = refl

-- the tokens after an operator
pub after_operator : (x : Operator) (d : ℕ) (rest : List Piece) (u next : Stream) → Run rest (spent (turn (g.operator_reading x)) d) u next → Run rest d u next
after_operator x d rest u next h = subst (λ t. Run rest (spent t d) u next) (operator_turn x) h

abbrev pub link_facts : Link Expr → Link Operand
link_facts l = record { place = l.place; operator = l.operator; operand = record { place = l.operand.place; first = l.operand.first; last = l.operand.last; form = expression_facts l.operand.form } }

abbrev pub link_pieces : ℕ → Link Expr → List Piece
link_pieces n l = Piece.need (g.is_level n (g.chain_level l.operator)) ∷ at l.place ∷ say (g.operator_reading l.operator) ∷ Piece.part (n + 1) (tree_facts l.operand) ∷ []

above_level : (n m : ℕ) (b : Bool) → (m == n) ≡ true → 4 ≤ m → from (n + 1) (Some (if b then 4 else m)) ≡ false
above_level n m true h le = grind (arith, common_steps)
above_level n m false h le = grind (arith, common_steps)

pub operator_stops : (x : Operator) (n : ℕ) (b : Bool) → g.is_level n (g.chain_level x) ≡ true → from (n + 1) (Some (if b then 4 else Rattle.sq_grammar.specs.Ahead.level_of x)) ≡ false
operator_stops operator.Power n b h = above_level n 9 b h (omega arith)
operator_stops operator.Times n b h = above_level n 8 b h (omega arith)
operator_stops operator.Divide n b h = above_level n 8 b h (omega arith)
operator_stops operator.Modulo n b h = above_level n 8 b h (omega arith)
operator_stops operator.Plus n b h = above_level n 7 b h (omega arith)
operator_stops operator.Minus n b h = above_level n 7 b h (omega arith)
operator_stops (operator.Comparison x) n b h = absurd (false_true h)
operator_stops (operator.Other bytes) n b h = above_level n 6 b h (omega arith)

not_linked : (n m : ℕ) (b : Bool) → from n (Some (if b then 4 else m)) ≡ false → (m == n) && not b ≡ false
not_linked n m true h = unlinked (m == n)
  where
    unlinked : (c : Bool) → c && false ≡ false
    unlinked true = refl
    unlinked false = refl
not_linked n m false h = grind (arith, common_steps)

unlinked_operator : (n : ℕ) (x : Operator) (rest : Lexemes) → from n (operator_binds x rest) ≡ false → links_at n (Some x) rest ≡ false
unlinked_operator n operator.Power rest h = not_linked n 9 (begins_quantifier rest) h
unlinked_operator n operator.Times rest h = not_linked n 8 (begins_quantifier rest) h
unlinked_operator n operator.Divide rest h = not_linked n 8 (begins_quantifier rest) h
unlinked_operator n operator.Modulo rest h = not_linked n 8 (begins_quantifier rest) h
unlinked_operator n operator.Plus rest h = not_linked n 7 (begins_quantifier rest) h
unlinked_operator n operator.Minus rest h = not_linked n 7 (begins_quantifier rest) h
unlinked_operator n (operator.Comparison x) rest h = refl
unlinked_operator n (operator.Other bytes) rest h = not_linked n 6 (begins_quantifier rest) h

unlinked_may : (n : ℕ) (x : Option Operator) (rest : Lexemes) → from n (may_bind x rest) ≡ false → links_at n x rest ≡ false
unlinked_may n None rest h = refl
unlinked_may n (Some x) rest h = unlinked_operator n x rest h

unlinked_symbol : (n : ℕ) (x : Symbol) (rest : Lexemes) → from n (reading_binds (reading.Symbol x) rest) ≡ false → links_at n (symbol_operator x) rest ≡ false
unlinked_symbol n s.Power rest h = unlinked_may n (symbol_operator s.Power) rest h
unlinked_symbol n s.Times rest h = unlinked_may n (symbol_operator s.Times) rest h
unlinked_symbol n s.Divide rest h = unlinked_may n (symbol_operator s.Divide) rest h
unlinked_symbol n s.Modulo rest h = unlinked_may n (symbol_operator s.Modulo) rest h
unlinked_symbol n s.Plus rest h = unlinked_may n (symbol_operator s.Plus) rest h
unlinked_symbol n s.Minus rest h = unlinked_may n (symbol_operator s.Minus) rest h
unlinked_symbol n s.Less rest h = refl
unlinked_symbol n s.Greater rest h = refl
unlinked_symbol n s.Equal rest h = refl
unlinked_symbol n s.LessEqual rest h = refl
unlinked_symbol n s.GreaterEqual rest h = refl
unlinked_symbol n s.NotEqual rest h = refl
unlinked_symbol n _ rest h = refl

unlinked : (n : ℕ) (tokens : Lexemes) → from n (binding tokens) ≡ false → begins_link n tokens ≡ false
unlinked n [] h = refl
unlinked n (x ∷ rest) h = by_reading x.reading h
  where
    by_reading : (r : Reading) → from n (reading_binds r rest) ≡ false → links_at n (operator_of r) rest ≡ false
    by_reading (reading.Symbol y) e = unlinked_symbol n y rest e
    by_reading (reading.Operator bytes) e = unlinked_operator n (operator.Other bytes) rest e
    by_reading _ e = refl

module _ (d n : ℕ) (operand : Parser Expr) (r : Reads d (n + 1) operand) (st : Starts starts_signed operand) where
  read_link : (l : Link Expr) (rest : List Piece) (now next : Stream) → Run (link_pieces n l ++ rest) d now next → ((u : Stream) → Run rest d u next → goes_on (n + 1) u ≡ false) → Gives (link operand now) l rest d next
  unfolding an_operator
  read_link l rest now next run stop =
      let u = run.1.1.0 in
      let t = after_operator l.operator d (Piece.part (n + 1) (tree_facts l.operand) ∷ rest) u next run.1.1.3 in (
        t.0,
        step an_operator (λ x. operand >>= (λ y. pure (record { place = here now; operator = x; operand = y }))) now u l.operator (says_token operator_at l.operator (g.operator_reading l.operator) now u run.1.1.1 (operator_again l.operator))
            ∙ step operand (λ y. pure (record { place = here now; operator = l.operator; operand = y })) u t.0 l.operand (r.reads l.operand u t.0 t.1 t.2 t.3 (stop t.0 t.4))
            ∙ ap (λ p. Some (record { place = p; operator = l.operator; operand = l.operand }, t.0)) (stands_here l.place now.tokens run.1.0),
        t.4,
      )

  link_begun : (l : Link Expr) (rest : List Piece) (now next : Stream) → Run (link_pieces n l ++ rest) d now next → ((u : Stream) → Run rest d u next → goes_on (n + 1) u ≡ false) → sees_link n now ≡ true
  unfolding sees_link
  link_begun l rest now next run stop =
      let u = run.1.1.0 in
      let t = after_operator l.operator d (Piece.part (n + 1) (tree_facts l.operand) ∷ rest) u next run.1.1.3 in
      let free = unquantified u.tokens (st u t.0 l.operand (r.reads l.operand u t.0 t.1 t.2 t.3 (stop t.0 t.4))) in
      ap (λ tokens. begins_link n tokens) run.1.1.1.first ∙ ap (λ x. links_at n x u.tokens) (operator_again l.operator) ∙ rw (run.0, free) refl

  link_stops : (l : Link Expr) (rest : List Piece) (now next : Stream) → Run (link_pieces n l ++ rest) d now next → goes_on (n + 1) now ≡ false
  link_stops l rest now next run =
      let u = run.1.1.0 in
      says_goes (n + 1) (g.operator_reading l.operator) now u run.1.1.1 ∙ ap (λ b. from (n + 1) b) (operator_reads l.operator u.tokens) ∙ operator_stops l.operator n (begins_quantifier u.tokens) run.0

  operation_links : Links d n (sees_link n) (link operand) link_place e.Operation (link_pieces n)
  unfolding sees_link
  operation_links = record {
    item = record {
      begun = link_begun;
      stops = link_stops;
      some = λ l. omega arith;
      reads = read_link;
    };
    placed = λ l rest now next run. run.1.0;
    ends = λ now stop. unlinked n now.tokens stop;
  }

pub operation_facts : (x : Expr) (l : Link Expr) (links : List (Link Expr)) (p : Place) (n : ℕ) → g.or_none (g.chain_level l.operator) ≡ n
    → expression_facts (e.Operation x (l ∷ links)) p ≡ built n (length (map link_facts (l ∷ links))) (Piece.need true ∷ Piece.part (n + 1) (tree_facts x) ∷ at p ∷ flat_map (link_pieces n) (l ∷ links))
operation_facts x l links p n e =
    let m = g.or_none (g.chain_level l.operator) in
    q.facts-operation x (l ∷ links) p
    ∙ ap (λ ps. built m (length (map link_facts (l ∷ links))) (Piece.need true ∷ Piece.part (m + 1) (tree_facts x) ∷ at p ∷ ps)) (flat_map-map (g.link m) link_facts (l ∷ links))
    ∙ ap (λ k. built k (length (map link_facts (l ∷ links))) (Piece.need true ∷ Piece.part (k + 1) (tree_facts x) ∷ at p ∷ flat_map (link_pieces k) (l ∷ links))) e

operation_chained_at : (n : ℕ) → Operates n → (form : Expression) (k : Shape form) (place : Place) (first last : ℕ) → (expression_facts form place).level ≡ Some n → Chained n e.Operation (link_pieces n) (record { place = place; first = first; last = last; form = form })
operation_chained_at n o _ (Shape.operation x []) p first last h = absurd (false_true (only_if-some _ 0 n (sym (ap (λ (f : Facts). f.level) (q.facts-operation x [] p)) ∙ h)).0)
operation_chained_at n o _ (Shape.operation x (l ∷ links)) p first last h =
    let level = (only_if-some _ (g.or_none (g.chain_level l.operator)) n (sym (ap (λ (f : Facts). f.level) (q.facts-operation x (l ∷ links) p)) ∙ h)).1 in
    record { head = x; link = l; links = links; steps = length (map link_facts (l ∷ links)); holds = true; is = refl; facts = operation_facts x l links p n level }
operation_chained_at n o form k p first last h = let bad = at_home form k p n h in absurd (first_of (omega (arith, o.0, o.1, bad), cc))

pub reads_operation : (d n : ℕ) (operand : Parser Expr) → Operates n → Reads d (n + 1) operand → Starts starts_signed operand → Reads d n (operation n operand)
unfolding operation
reads_operation d n operand o r st =
    reads_chain d n (sees_link n) (link operand) link_place e.Operation (link_pieces n) operand (operation_links d n operand r st) r (λ x h. operation_chained_at n o x.form (shape x.form) x.place x.first x.last h)
