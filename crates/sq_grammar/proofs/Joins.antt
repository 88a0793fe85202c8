-- Joins, and the items of FROM that they make, are read as they are spelled.
use Rattle.std.proofs.Common.{◌≡◌, ℕ, suc, ◌+◌, ◌≤◌, true, false, List, [], ◌∷◌, ◌++◌, length, Some, refl, sym, ap, subst, ◌∙◌, arith}
use Rattle.sq_base.specs.declared.place.Place.{Place}
use Rattle.sq_syntax.specs.declared.symbol.Symbol.TheVariants as s
use Rattle.sq_syntax.specs.declared.symbol.Reading.TheVariants as reading
use Rattle.sq_syntax.specs.declared.name.Identifier.{Identifier}
use Rattle.sq_syntax.specs.declared.expr.Node.{Node}
use Rattle.sq_syntax.specs.declared.query.From.{From}
use Rattle.sq_syntax.specs.declared.query.Join.{Join}
use Rattle.sq_syntax.specs.declared.query.Join.TheVariants as join_kind
use Rattle.sq_syntax.specs.declared.query.JoinKind.{JoinKind}
use Rattle.sq_syntax.specs.declared.query.JoinKind.TheVariants as kind
use Rattle.sq_syntax.specs.declared.query.Matched.{Matched}
use Rattle.sq_syntax.specs.declared.query.Matched.TheVariants as matched
use Rattle.sq_syntax.specs.declared.query.Query.{Query}
use Rattle.sq_syntax.specs.declared.query.Source.{Source}
use Rattle.sq_syntax.specs.Facts.{Mark, Stream, Along, Piece, turn, from}
use Rattle.sq_syntax.specs.Pieces as p
use Rattle.sq_syntax.specs.Pieces.{sym as word, Operand, at}
use Rattle.sq_syntax.specs.QueryPieces as f
use Rattle.sq_syntax.specs.Grammar.{join_facts}
use Rattle.sq_grammar.specs.Reading.{Parser, ◌>>=◌, pure, sees, expect, same, here}
use Rattle.sq_grammar.specs.Levels.{Expr}
use Rattle.sq_grammar.specs.Queries.{begins_join, join_words, condition, source, join}
use Rattle.sq_grammar.proofs.Runs.{Run, spent, said, along_shorter}
use Rattle.sq_grammar.proofs.Complete.{step, says_expect, stands_here, goes_on}
use Rattle.sq_grammar.proofs.Lists.{facts_of, ReadsTo}
use Rattle.sq_grammar.proofs.ReadsBelow.{ReadsBelow}
use Rattle.sq_grammar.proofs.ReadNames.{chosen, passed}
use Rattle.sq_grammar.proofs.ReadTypes.{other_symbol, that_symbol}
use Rattle.sq_grammar.proofs.Ranks.{rank, behind_word, part_ends}
use Rattle.sq_grammar.proofs.FromFronts.{begun_split}
use Rattle.sq_grammar.proofs.FromShapes.{JoinShape, join_shape, source_node, cross_facts, on_facts, using_facts}
use Rattle.sq_grammar.proofs.JoinWords.{says_fewer, join_words_read}
use Rattle.sq_grammar.proofs.Conditions.{on_read, using_read}
use Rattle.sq_grammar.proofs.Sources.{ReadsFrom, run_by, run_end, source_read}

-- what the words of a join tell, where it is not crossed
record Words (now : Stream) : Type 0 where
  uncrossed : sees s.Cross now ≡ false
  begins : begins_join now.tokens ≡ true
  ranked : 2 ≤ rank now.tokens

words_of : (x : JoinKind) (rest : List Piece) (d : ℕ) (now next : Stream) → Run (f.join_words x ++ rest) d now next → Words now
unfolding same
words_of kind.Unsaid rest d now next run = record { uncrossed = other_symbol s.Cross s.Join now run.0 run.1 refl; begins = ap begins_join run.1.first; ranked = behind_word s.Join 2 now run.0 run.1 (omega arith) }
words_of kind.Inner rest d now next run = record { uncrossed = other_symbol s.Cross s.Inner now run.0 run.1 refl; begins = ap begins_join run.1.first; ranked = behind_word s.Inner 2 now run.0 run.1 (omega arith) }
words_of kind.Left rest d now next run = record { uncrossed = other_symbol s.Cross s.Left now run.0 run.1 refl; begins = ap begins_join run.1.first; ranked = behind_word s.Left 2 now run.0 run.1 (omega arith) }
words_of kind.LeftOuter rest d now next run = record { uncrossed = other_symbol s.Cross s.Left now run.0 run.1 refl; begins = ap begins_join run.1.first; ranked = behind_word s.Left 2 now run.0 run.1 (omega arith) }
words_of kind.Right rest d now next run = record { uncrossed = other_symbol s.Cross s.Right now run.0 run.1 refl; begins = ap begins_join run.1.first; ranked = behind_word s.Right 2 now run.0 run.1 (omega arith) }
words_of kind.RightOuter rest d now next run = record { uncrossed = other_symbol s.Cross s.Right now run.0 run.1 refl; begins = ap begins_join run.1.first; ranked = behind_word s.Right 2 now run.0 run.1 (omega arith) }
words_of kind.Full rest d now next run = record { uncrossed = other_symbol s.Cross s.Full now run.0 run.1 refl; begins = ap begins_join run.1.first; ranked = behind_word s.Full 2 now run.0 run.1 (omega arith) }
words_of kind.FullOuter rest d now next run = record { uncrossed = other_symbol s.Cross s.Full now run.0 run.1 refl; begins = ap begins_join run.1.first; ranked = behind_word s.Full 2 now run.0 run.1 (omega arith) }

words_said : (x : JoinKind) (rest : List Piece) → 1 ≤ said (f.join_words x ++ rest)
words_said kind.Unsaid rest = omega arith
words_said kind.Inner rest = omega arith
words_said kind.Left rest = omega arith
words_said kind.LeftOuter rest = omega arith
words_said kind.Right rest = omega arith
words_said kind.RightOuter rest = omega arith
words_said kind.Full rest = omega arith
words_said kind.FullOuter rest = omega arith

-- how many tokens stand between, beside those of the parts
said_between : (pieces : List Piece) (d : ℕ) (now next : Stream) → Run pieces d now next → said pieces + length next.tokens ≤ length now.tokens
said_between [] d now next h = omega (arith, ap (λ (z : Stream). length z.tokens) h)
said_between (Piece.mark (Mark.says r) ∷ pieces) d now next h = omega (arith, said_between pieces (spent (turn r) d) h.0 next h.3, says_fewer r now h.0 h.1)
said_between (Piece.mark (Mark.stands_at place) ∷ pieces) d now next h = said_between pieces d now next h.1
said_between (Piece.mark (Mark.begins m) ∷ pieces) d now next h = said_between pieces d now next h.1
said_between (Piece.mark (Mark.ends m) ∷ pieces) d now next h = said_between pieces d now next h.1
said_between (Piece.need holds ∷ pieces) d now next h = said_between pieces d now next h.1
said_between (Piece.part least x ∷ pieces) d now next h = omega (arith, said_between pieces d h.0 next h.4, along_shorter x.marks now h.0 h.3)

-- a join begins with one of its words, and has a token
pub record JoinFront (now next : Stream) : Type 0 where
  pub begins : begins_join now.tokens ≡ true
  pub ranked : 2 ≤ rank now.tokens
  pub fewer : suc (length next.tokens) ≤ length now.tokens

front_cross : (place : Place) (tail : List Piece) (d : ℕ) (now next : Stream) → Run (at place ∷ word s.Cross ∷ tail) d now next → JoinFront now next
unfolding same
front_cross place tail d now next run = record {
  begins = ap begins_join run.1.1.first;
  ranked = behind_word s.Cross 2 now run.1.0 run.1.1 (omega arith);
  fewer = omega (arith, said_between (at place ∷ word s.Cross ∷ tail) d now next run);
}

front_words : (place : Place) (x : JoinKind) (tail : List Piece) (d : ℕ) (now next : Stream) → Run (at place ∷ f.join_words x ++ tail) d now next → JoinFront now next
front_words place x tail d now next run =
    let w = words_of x tail d now next run.1 in
    record { begins = w.begins; ranked = w.ranked; fewer = omega (arith, words_said x tail, said_between (f.join_words x ++ tail) d now next run.1) }

front_by : (x : Join) → JoinShape x → (now next : Stream) → from 0 (join_facts x).level ≡ true → Along (join_facts x).marks now next → JoinFront now next
front_by _ (JoinShape.cross place x) now next h a =
    let tail = word s.Join ∷ p.whole (f.begun (source_node x)) ∷ [] in
    let d = (join_facts (join_kind.Cross place x)).depth in
    front_cross place tail d now next (run_by _ (at place ∷ word s.Cross ∷ tail) (cross_facts place x) d now next h (omega arith) a)
front_by _ (JoinShape.on place words x by) now next h a =
    let tail = p.whole (f.begun (source_node x)) ∷ f.join_condition (matched.On (facts_of by)) in
    let d = (join_facts (join_kind.Matched place words x (matched.On by))).depth in
    front_words place words tail d now next (run_by _ (at place ∷ f.join_words words ++ tail) (on_facts place words x by) d now next h (omega arith) a)
front_by _ (JoinShape.using place words x by) now next h a =
    let tail = p.whole (f.begun (source_node x)) ∷ f.join_condition (matched.Using by) in
    let d = (join_facts (join_kind.Matched place words x (matched.Using by))).depth in
    front_words place words tail d now next (run_by _ (at place ∷ f.join_words words ++ tail) (using_facts place words x by) d now next h (omega arith) a)

pub join_front : (x : Join) (now next : Stream) → from 0 (join_facts x).level ≡ true → Along (join_facts x).marks now next → JoinFront now next
join_front x now next h a = front_by x (join_shape x) now next h a

module _ (expr : Parser Expr) (inner : Parser Query) (k : ℕ) (read : ReadsTo k expr) (queries : ReadsBelow k inner) (n : ℕ) (within : Parser From) (reads : ReadsFrom k n within) where
  abbrev source_of : Parser (Node Source)
  source_of = source expr inner within

  abbrev condition_of : Parser (Matched Expr)
  condition_of = condition expr inner

  abbrev cross : Stream → Parser Join
  cross start = expect s.Cross >>= (λ _. expect s.Join >>= (λ _. source_of >>= (λ x. pure (join_kind.Cross (here start) x))))

  abbrev matching : Stream → Parser Join
  matching start = join_words >>= (λ found. source_of >>= (λ x. condition_of >>= (λ by. pure (join_kind.Matched (here start) found x by))))

  cross_read : (place : Place) (x : Node Source) (now next : Stream) → Run (at place ∷ word s.Cross ∷ word s.Join ∷ p.whole (f.begun (source_node x)) ∷ []) k now next → 2 ≤ rank next.tokens → length now.tokens ≤ suc n → join expr inner within now ≡ Some (join_kind.Cross place x, next)
  unfolding join
  cross_read place x now next run stop long =
      let u = run.1.0 in
      let v = run.1.3.0 in
      let r = run.1.3.3 in
      let w = r.0 in
      let to_next : w ≡ next = r.4 in
      let x_read = source_read expr inner k queries n within reads x v w (begun_split (source_node x) k v w r.1 r.2 r.3)
      (omega (arith, stop, ap (λ (z : Stream). rank z.tokens) to_next))
      (omega (arith, long, says_fewer (reading.Symbol s.Cross) now u run.1.1, says_fewer (reading.Symbol s.Join) u v run.1.3.1)) in
      chosen (sees s.Cross) (cross now) (matching now) now (that_symbol s.Cross now u run.1.1)
      ∙ step (expect s.Cross) (λ _. expect s.Join >>= (λ _. source_of >>= (λ y. pure (join_kind.Cross (here now) y)))) now u tt (says_expect s.Cross now u run.1.1)
      ∙ step (expect s.Join) (λ _. source_of >>= (λ y. pure (join_kind.Cross (here now) y))) u v tt (says_expect s.Join u v run.1.3.1)
      ∙ step source_of (λ y. pure (join_kind.Cross (here now) y)) v w x x_read
      ∙ ap (λ z. Some (join_kind.Cross (here now) x, z)) to_next
      ∙ ap (λ at_here. Some (join_kind.Cross at_here x, next)) (stands_here place now.tokens run.0)

  -- a condition is read to the end of its join
  abbrev EndsWith : Matched Expr → Matched Operand → Stream → Type 0
  EndsWith by shown next = (v : Stream) → Run (f.join_condition shown) k v next → (condition_of v ≡ Some (by, next)) × (1 ≤ rank v.tokens)

  matched_read : (place : Place) (words : JoinKind) (x : Node Source) (by : Matched Expr) (shown : Matched Operand) (now next : Stream) → EndsWith by shown next
      → Run (at place ∷ f.join_words words ++ p.whole (f.begun (source_node x)) ∷ f.join_condition shown) k now next → length now.tokens ≤ suc n → join expr inner within now ≡ Some (join_kind.Matched place words x by, next)
  unfolding join
  matched_read place words x by shown now next ends run long =
      let tail = p.whole (f.begun (source_node x)) ∷ f.join_condition shown in
      let w = join_words_read k words tail now next run.1 in
      let u = w.0 in
      let r = w.2 in
      let v = r.0 in
      let e = ends v r.4 in
      let x_read = source_read expr inner k queries n within reads x u v (begun_split (source_node x) k u v r.1 r.2 r.3) e.1 (omega (arith, long, w.3)) in
      passed (sees s.Cross) (cross now) (matching now) now (words_of words tail k now next run.1).uncrossed
      ∙ step join_words (λ found. source_of >>= (λ y. condition_of >>= (λ z. pure (join_kind.Matched (here now) found y z)))) now u words w.1
      ∙ step source_of (λ y. condition_of >>= (λ z. pure (join_kind.Matched (here now) words y z))) u v x x_read
      ∙ step condition_of (λ z. pure (join_kind.Matched (here now) words x z)) v next by e.0
      ∙ ap (λ at_here. Some (join_kind.Matched at_here words x by, next)) (stands_here place now.tokens run.0)

  ends_on : (x : Expr) (next : Stream) → 2 ≤ rank next.tokens → EndsWith (matched.On x) (matched.On (facts_of x)) next
  ends_on x next stop v run =
      let c = on_read expr inner k read x [] v next run (λ u r. subst (λ (z : Stream). goes_on 0 z ≡ false) (sym r) (part_ends next.tokens (omega (arith, stop))).0) in
      (c.1 ∙ ap (λ z. Some (matched.On x, z)) c.2, behind_word s.On 1 v run.0 run.1 (omega arith))

  ends_using : (xs : List Identifier) (next : Stream) → EndsWith (matched.Using xs) (matched.Using xs) next
  ends_using xs next v run =
      let c = using_read expr inner k read xs [] v next (run_end (f.join_condition (matched.Using xs)) k v next run) in
      (c.1 ∙ ap (λ z. Some (matched.Using xs, z)) c.2, behind_word s.Using 1 v run.0 run.1 (omega arith))

  join_by : (x : Join) → JoinShape x → (now next : Stream) → from 0 (join_facts x).level ≡ true → (join_facts x).depth ≤ k → Along (join_facts x).marks now next → 2 ≤ rank next.tokens → length now.tokens ≤ suc n → join expr inner within now ≡ Some (x, next)
  join_by _ (JoinShape.cross place x) now next h le a stop long =
      cross_read place x now next (run_by _ (at place ∷ word s.Cross ∷ word s.Join ∷ p.whole (f.begun (source_node x)) ∷ []) (cross_facts place x) k now next h le a) stop long
  join_by _ (JoinShape.on place words x by) now next h le a stop long =
      let shown = matched.On (facts_of by) in
      matched_read place words x (matched.On by) shown now next (ends_on by next stop)
      (run_by _ (at place ∷ f.join_words words ++ p.whole (f.begun (source_node x)) ∷ f.join_condition shown) (on_facts place words x by) k now next h le a) long
  join_by _ (JoinShape.using place words x by) now next h le a stop long =
      matched_read place words x (matched.Using by) (matched.Using by) now next (ends_using by next)
      (run_by _ (at place ∷ f.join_words words ++ p.whole (f.begun (source_node x)) ∷ f.join_condition (matched.Using by)) (using_facts place words x by) k now next h le a) long

  pub join_read : (x : Join) (now next : Stream) → from 0 (join_facts x).level ≡ true → (join_facts x).depth ≤ k → Along (join_facts x).marks now next → 2 ≤ rank next.tokens → length now.tokens ≤ suc n → join expr inner within now ≡ Some (x, next)
  join_read x now next h le a stop long = join_by x (join_shape x) now next h le a stop long
