use Rattle.std.proofs.Common.{◌≡◌, ℕ, ◌≤◌, Bool, true, false, List, [], ◌∷◌, ◌++◌, Some, refl, sym, ap, subst, ◌∙◌, arith, append_assoc, inl, inr, map}
use Rattle.std.specs.Prelude.{◌||◌, not}
use Rattle.sq_base.specs.declared.place.Place.{Place}
use Rattle.sq_syntax.specs.declared.symbol.Symbol.{Symbol}
use Rattle.sq_syntax.specs.declared.symbol.Symbol.TheVariants as s
use Rattle.sq_syntax.specs.declared.symbol.Reading.{Reading}
use Rattle.sq_syntax.specs.declared.symbol.Reading.TheVariants as reading
use Rattle.sq_syntax.specs.declared.expr.Expression.{Expression}
use Rattle.sq_syntax.specs.declared.expr.Expression.TheVariants as e
use Rattle.sq_syntax.specs.Facts.{Stream, Along, Piece, Sort, from}
use Rattle.sq_syntax.specs.Pieces.{Operand, Placed, at, sym as word, say, is_empty}
use Rattle.sq_syntax.specs.ExpressionPieces as g
use Rattle.sq_syntax.specs.Grammar.{tree_facts, expression_facts}
use Rattle.sq_syntax.proofs.Equations as q
use Rattle.sq_syntax.proofs.Equations.{Shape, shape}
use Rattle.sq_grammar.specs.Reading.{Outcome, Parser, ◌>>=◌, pure, sees, expect, begins, begins_both, is, same, here}
use Rattle.sq_grammar.specs.Ahead.{Lexemes, reading_binds}
use Rattle.sq_grammar.proofs.Runs.{Run}
use Rattle.sq_grammar.proofs.Complete.{step, says_expect, same_self, Reads, Framed, framed, opened, goes_on, above}
use Rattle.sq_grammar.proofs.Homes.{at_home}
use Rattle.sq_syntax.specs.Pieces as p
use Rattle.sq_grammar.proofs.Begins.{Starts, starts_signed, head_fits}
use Rattle.sq_grammar.proofs.Joints.{says_goes, false_true, unsaid}
use Rattle.sq_syntax.specs.declared.query.Query.{Query}
use Rattle.sq_syntax.specs.Grammar.{query_facts}
use Rattle.sq_grammar.specs.Reading.{choose, optional, node}
use Rattle.sq_grammar.specs.Ahead.{holds_query}
use Rattle.sq_grammar.specs.Levels.{Expr}
use Rattle.sq_grammar.proofs.Complete.{made, stops-more}
use Rattle.sq_grammar.proofs.ReadNames.{chosen, passed}
use Rattle.sq_grammar.proofs.ReadTypes.{other_symbol, that_symbol}
use Rattle.std.specs.Prelude.{◌<◌, ◌-◌}
use Rattle.sq_grammar.specs.Tests.{list}
use Rattle.sq_grammar.proofs.Testing.{operand_then, from_level}
use Rattle.std.proofs.Common.{inl, inr}
use Rattle.sq_syntax.specs.declared.expr.Matching.{Matching}
use Rattle.sq_syntax.specs.declared.expr.Matching.TheVariants as matching
use Rattle.sq_grammar.specs.Tests.{sees_range, between_after, like_after, in_query, in_list, in_after, ilike_or, like_or, in_or, range_after, ranged}
use Rattle.sq_grammar.proofs.Lists.{Inside, Looks, facts_of, list_read, list_lacks, optional_read, close_ends}

-- ---- the words of a range test

range_seen : (k : Symbol) (negated : Bool) (rest : List Piece) (d : ℕ) (now next : Stream) → Run (p.when negated s.Not ++ word k ∷ rest) d now next → same s.Not k ≡ false → sees_range k now ≡ true
range_seen k false rest d now next run other = rw (that_symbol k now run.0 run.1) refl
range_seen k true rest d now next run other =
    ap (λ tokens. begins k tokens || begins_both s.Not k tokens) run.1.first
    ∙ rw (other, same_self s.Not) (that_symbol k run.0 run.3.0 run.3.1)

range_unseen : (j k : Symbol) (negated : Bool) (rest : List Piece) (d : ℕ) (now next : Stream) → Run (p.when negated s.Not ++ word k ∷ rest) d now next → same k j ≡ false → same k s.Not ≡ false → same s.Not j ≡ false → sees_range j now ≡ false
range_unseen j k false rest d now next run a b c = ap (λ tokens. begins j tokens || begins_both s.Not j tokens) run.1.first ∙ rw (a, b) refl
range_unseen j k true rest d now next run a b c =
    ap (λ tokens. begins j tokens || begins_both s.Not j tokens) run.1.first ∙ rw (c, same_self s.Not) (other_symbol j k run.0 run.3.0 run.3.1 a)

range_stops : (k : Symbol) (negated : Bool) (rest : List Piece) (d : ℕ) (now next : Stream) → Run (p.when negated s.Not ++ word k ∷ rest) d now next → ((tokens : Lexemes) → reading_binds (reading.Symbol k) tokens ≡ Some 5) → goes_on 6 now ≡ false
range_stops k false rest d now next run binds = says_goes 6 (reading.Symbol k) now run.0 run.1 ∙ ap (λ o. from 6 o) (binds run.0.tokens)
range_stops k true rest d now next run binds = says_goes 6 (reading.Symbol s.Not) now run.0 run.1

no_symmetric : (tokens : Lexemes) → head_fits starts_signed tokens ≡ true → begins s.Symmetric tokens ≡ false
unfolding same
no_symmetric [] h = absurd (cc)
no_symmetric (x ∷ rest) h = by_reading x.reading h
  where
    by_reading : (r : Reading) → starts_signed r ≡ true → is s.Symmetric r ≡ false
    by_reading (reading.Symbol s.Symmetric) e = absurd (cc)
    by_reading (reading.Symbol _) e = refl
    by_reading _ e = refl

or_both : (a b : Bool) → a ≡ false → b ≡ false → a || b ≡ false
or_both false false h k = refl
or_both false true h k = k
or_both true b h k = absurd (cc)

unranged : (k : Symbol) (now : Stream) → sees k now ≡ false → sees s.Not now ≡ false → sees_range k now ≡ false
unranged k now h n = or_both (begins k now.tokens) (begins_both s.Not k now.tokens) h (by_tokens now.tokens n)
  where
    by_tokens : (tokens : Lexemes) → begins s.Not tokens ≡ false → begins_both s.Not k tokens ≡ false
    by_tokens [] m = refl
    by_tokens (x ∷ rest) m = rw m refl

like_binds : (matched : Matching) (tokens : Lexemes) → reading_binds (reading.Symbol (g.matching_symbol matched)) tokens ≡ Some 5
like_binds matching.Like tokens = refl
like_binds matching.Ilike tokens = refl

module _ (d : ℕ) (nested : Parser Expr) (inner : Parser Query) (i : Inside d nested inner) (looks : Looks) (operand : Parser Expr) (r : Reads d 6 operand) (st : Starts starts_signed operand) where
  read_between : (negated symmetric : Bool) (low high left : Expr) (start : Stream) (place : Place) (now next : Stream)
      → Run (p.when negated s.Not ++ word s.Between ∷ p.when symmetric s.Symmetric ++ Piece.part 6 (tree_facts low) ∷ word s.And ∷ Piece.part 6 (tree_facts high) ∷ []) d now next → goes_on 5 next ≡ false
      → range_after nested inner operand start place left now ≡ node start place (e.Between left negated symmetric low high) next
  unfolding same
  read_between negated symmetric low high left start place now next run stop =
      let tail = Piece.part 6 (tree_facts low) ∷ word s.And ∷ Piece.part 6 (tree_facts high) ∷ [] in
      let whole = subst (λ ps. Run ps d now next) (append_assoc (p.when negated s.Not) (word s.Between ∷ p.when symmetric s.Symmetric) tail) run in
      let n = optional_read s.Not negated (word s.Between ∷ p.when symmetric s.Symmetric ++ tail) d now next refl whole (λ u t. other_symbol s.Not s.Between u t.0 t.1 refl) in
      let b = n.2 in
      let reads_low = λ (u : Stream) (t : Run tail d u next). r.reads low u t.0 t.1 t.2 t.3 (says_goes 6 (reading.Symbol s.And) t.0 t.4.0 t.4.1) in
      let m = optional_read s.Symmetric symmetric tail d b.0 next refl b.3 (λ u t. no_symmetric u.tokens (st u t.0 low (reads_low u t))) in
      let l = m.2 in
      let a = l.4 in
      let h = a.3 in
      chosen (sees_range s.Between) (between_after operand start place left) (in_or nested inner operand start place left) now (range_seen s.Between negated (p.when symmetric s.Symmetric ++ tail) d now next whole refl)
      ∙ step (optional s.Not) (λ x. expect s.Between >>= (λ _. optional s.Symmetric >>= (λ y. operand >>= (λ z. expect s.And >>= (λ _. operand >>= (λ w. node start place (e.Between left x y z w))))))) now n.0 negated n.1
      ∙ step (expect s.Between) (λ _. optional s.Symmetric >>= (λ y. operand >>= (λ z. expect s.And >>= (λ _. operand >>= (λ w. node start place (e.Between left negated y z w)))))) n.0 b.0 tt (says_expect s.Between n.0 b.0 b.1)
      ∙ step (optional s.Symmetric) (λ y. operand >>= (λ z. expect s.And >>= (λ _. operand >>= (λ w. node start place (e.Between left negated y z w))))) b.0 m.0 symmetric m.1
      ∙ step operand (λ z. expect s.And >>= (λ _. operand >>= (λ w. node start place (e.Between left negated symmetric z w)))) m.0 l.0 low (reads_low m.0 l)
      ∙ step (expect s.And) (λ _. operand >>= (λ w. node start place (e.Between left negated symmetric low w))) l.0 a.0 tt (says_expect s.And l.0 a.0 a.1)
      ∙ step operand (λ w. node start place (e.Between left negated symmetric low w)) a.0 h.0 high (r.reads high a.0 h.0 h.1 h.2 h.3 (subst (λ u. goes_on 6 u ≡ false) (sym h.4) (stops-more 5 6 next (omega arith) stop)))
      ∙ ap (λ u. node start place (e.Between left negated symmetric low high) u) h.4

  read_like : (negated : Bool) (matched : Matching) (right left : Expr) (start : Stream) (place : Place) (now next : Stream)
      → Run (p.when negated s.Not ++ word (g.matching_symbol matched) ∷ Piece.part 6 (tree_facts right) ∷ []) d now next → goes_on 5 next ≡ false
      → range_after nested inner operand start place left now ≡ node start place (e.Like left negated matched right) next
  unfolding same
  read_like negated matching.Like right left start place now next run stop =
      let tail = Piece.part 6 (tree_facts right) ∷ [] in
      let n = optional_read s.Not negated (word s.Like ∷ tail) d now next refl run (λ u t. other_symbol s.Not s.Like u t.0 t.1 refl) in
      let b = n.2 in
      let h = b.3 in
      passed (sees_range s.Between) (between_after operand start place left) (in_or nested inner operand start place left) now (range_unseen s.Between s.Like negated tail d now next run refl refl refl)
      ∙ passed (sees_range s.In) (in_after nested inner start place left) (like_or nested inner operand start place left) now (range_unseen s.In s.Like negated tail d now next run refl refl refl)
      ∙ chosen (sees_range s.Like) (like_after s.Like matching.Like operand start place left) (ilike_or nested inner operand start place left) now (range_seen s.Like negated tail d now next run refl)
      ∙ step (optional s.Not) (λ x. expect s.Like >>= (λ _. operand >>= (λ w. node start place (e.Like left x matching.Like w)))) now n.0 negated n.1
      ∙ step (expect s.Like) (λ _. operand >>= (λ w. node start place (e.Like left negated matching.Like w))) n.0 b.0 tt (says_expect s.Like n.0 b.0 b.1)
      ∙ step operand (λ w. node start place (e.Like left negated matching.Like w)) b.0 h.0 right (r.reads right b.0 h.0 h.1 h.2 h.3 (subst (λ u. goes_on 6 u ≡ false) (sym h.4) (stops-more 5 6 next (omega arith) stop)))
      ∙ ap (λ u. node start place (e.Like left negated matching.Like right) u) h.4
  read_like negated matching.Ilike right left start place now next run stop =
      let tail = Piece.part 6 (tree_facts right) ∷ [] in
      let n = optional_read s.Not negated (word s.Ilike ∷ tail) d now next refl run (λ u t. other_symbol s.Not s.Ilike u t.0 t.1 refl) in
      let b = n.2 in
      let h = b.3 in
      passed (sees_range s.Between) (between_after operand start place left) (in_or nested inner operand start place left) now (range_unseen s.Between s.Ilike negated tail d now next run refl refl refl)
      ∙ passed (sees_range s.In) (in_after nested inner start place left) (like_or nested inner operand start place left) now (range_unseen s.In s.Ilike negated tail d now next run refl refl refl)
      ∙ passed (sees_range s.Like) (like_after s.Like matching.Like operand start place left) (ilike_or nested inner operand start place left) now (range_unseen s.Like s.Ilike negated tail d now next run refl refl refl)
      ∙ chosen (sees_range s.Ilike) (like_after s.Ilike matching.Ilike operand start place left) (pure left) now (range_seen s.Ilike negated tail d now next run refl)
      ∙ step (optional s.Not) (λ x. expect s.Ilike >>= (λ _. operand >>= (λ w. node start place (e.Like left x matching.Ilike w)))) now n.0 negated n.1
      ∙ step (expect s.Ilike) (λ _. operand >>= (λ w. node start place (e.Like left negated matching.Ilike w))) n.0 b.0 tt (says_expect s.Ilike n.0 b.0 b.1)
      ∙ step operand (λ w. node start place (e.Like left negated matching.Ilike w)) b.0 h.0 right (r.reads right b.0 h.0 h.1 h.2 h.3 (subst (λ u. goes_on 6 u ≡ false) (sym h.4) (stops-more 5 6 next (omega arith) stop)))
      ∙ ap (λ u. node start place (e.Like left negated matching.Ilike right) u) h.4

  -- a list or a query behind IN
  to_in : (negated : Bool) (rest : List Piece) (left : Expr) (start : Stream) (place : Place) (now next : Stream) (answer : Outcome Expr) → Run (p.when negated s.Not ++ word s.In ∷ rest) d now next
      → ((u : Stream) → Run rest d u next → choose (λ at. holds_query at.tokens) (in_query nested inner start place left negated) (in_list nested inner start place left negated) u ≡ answer)
      → range_after nested inner operand start place left now ≡ answer
  unfolding same
  to_in negated rest left start place now next answer run behind =
      let n = optional_read s.Not negated (word s.In ∷ rest) d now next refl run (λ u t. other_symbol s.Not s.In u t.0 t.1 refl) in
      let b = n.2 in
      passed (sees_range s.Between) (between_after operand start place left) (in_or nested inner operand start place left) now (range_unseen s.Between s.In negated rest d now next run refl refl refl)
      ∙ chosen (sees_range s.In) (in_after nested inner start place left) (like_or nested inner operand start place left) now (range_seen s.In negated rest d now next run refl)
      ∙ step (optional s.Not) (λ x. expect s.In >>= (λ _. choose (λ at. holds_query at.tokens) (in_query nested inner start place left x) (in_list nested inner start place left x))) now n.0 negated n.1
      ∙ step (expect s.In) (λ _. choose (λ at. holds_query at.tokens) (in_query nested inner start place left negated) (in_list nested inner start place left negated)) n.0 b.0 tt (says_expect s.In n.0 b.0 b.1)
      ∙ behind b.0 b.3

  read_in_query : (negated : Bool) (query : Query) (left : Expr) (start : Stream) (place : Place) (now next : Stream) → Run (p.when negated s.Not ++ word s.In ∷ word s.Open ∷ p.whole (query_facts query) ∷ word s.Close ∷ []) d now next
      → range_after nested inner operand start place left now ≡ node start place (e.InQuery left negated query) next
  read_in_query negated query left start place now next run =
      to_in negated (word s.Open ∷ p.whole (query_facts query) ∷ word s.Close ∷ []) left start place now next (node start place (e.InQuery left negated query) next) run (λ u t.
      let q = t.3 in
      let c = q.4 in
      chosen (λ at. holds_query at.tokens) (in_query nested inner start place left negated) (in_list nested inner start place left negated) u (looks.holds query u t.0 q.0 c.0 t.1 q.1 q.3 c.1)
      ∙ step (expect s.Open) (λ _. inner >>= (λ x. expect s.Close >>= (λ _. node start place (e.InQuery left negated x)))) u t.0 tt (says_expect s.Open u t.0 t.1)
      ∙ step inner (λ x. expect s.Close >>= (λ _. node start place (e.InQuery left negated x))) t.0 q.0 query (i.queries query t.0 q.0 q.1 (omega (arith, q.2, t.2)) q.3 (that_symbol s.Close q.0 c.0 c.1))
      ∙ step (expect s.Close) (λ _. node start place (e.InQuery left negated query)) q.0 c.0 tt (says_expect s.Close q.0 c.0 c.1)
      ∙ ap (λ v. node start place (e.InQuery left negated query) v) c.3)

  read_in_list : (negated : Bool) (x : Expr) (xs : List Expr) (left : Expr) (start : Stream) (place : Place) (now next : Stream)
      → Run (p.when negated s.Not ++ word s.In ∷ word s.Open ∷ p.some (map facts_of (x ∷ xs)) ∷ Piece.need (not (g.lone_scalar (map facts_of (x ∷ xs)))) ∷ p.list (map facts_of (x ∷ xs)) ++ word s.Close ∷ []) d now next
      → range_after nested inner operand start place left now ≡ node start place (e.InList left negated (x ∷ xs)) next
  unfolding same
  read_in_list negated x xs left start place now next run =
      let close = word s.Close ∷ [] in
      let within = Piece.need true ∷ Piece.need (not (g.lone_scalar (map facts_of (x ∷ xs)))) ∷ p.list (map facts_of (x ∷ xs)) in
      let whole = subst (λ ps. Run ps d now next) (append_assoc (p.when negated s.Not) (word s.In ∷ word s.Open ∷ within) close) run in
      to_in negated (word s.Open ∷ within ++ close) left start place now next (node start place (e.InList left negated (x ∷ xs)) next) whole (λ u t.
      let k = d - 1 in
      let less : k < d = omega (arith, t.2) in
      let ends = close_ends s.Close [] k next (λ tokens. refl) refl in
      let l = list_read d nested inner i k less x xs close t.0 next t.3.1.1 ends in
      let c = l.2 in
      passed (λ at. holds_query at.tokens) (in_query nested inner start place left negated) (in_list nested inner start place left negated) u
      (list_lacks d nested inner i k less looks x xs close u t.0 next t.1 t.3.1.1 ends t.3.1.0)
      ∙ step (expect s.Open) (λ _. list nested inner >>= (λ ys. expect s.Close >>= (λ _. node start place (e.InList left negated ys)))) u t.0 tt (says_expect s.Open u t.0 t.1)
      ∙ step (list nested inner) (λ ys. expect s.Close >>= (λ _. node start place (e.InList left negated ys))) t.0 l.0 (x ∷ xs) l.1
      ∙ step (expect s.Close) (λ _. node start place (e.InList left negated (x ∷ xs))) l.0 c.0 tt (says_expect s.Close l.0 c.0 c.1)
      ∙ ap (λ v. node start place (e.InList left negated (x ∷ xs)) v) c.3)

  no_range : (left : Expr) (start : Stream) (place : Place) (now : Stream) → goes_on 5 now ≡ false → range_after nested inner operand start place left now ≡ Some (left, now)
  no_range left start place now stop =
      passed (sees_range s.Between) (between_after operand start place left) (in_or nested inner operand start place left) now (unranged s.Between now (unsaid 5 now s.Between (λ rest. refl) stop) (unsaid 5 now s.Not (λ rest. refl) stop))
      ∙ passed (sees_range s.In) (in_after nested inner start place left) (like_or nested inner operand start place left) now (unranged s.In now (unsaid 5 now s.In (λ rest. refl) stop) (unsaid 5 now s.Not (λ rest. refl) stop))
      ∙ passed (sees_range s.Like) (like_after s.Like matching.Like operand start place left) (ilike_or nested inner operand start place left) now (unranged s.Like now (unsaid 5 now s.Like (λ rest. refl) stop) (unsaid 5 now s.Not (λ rest. refl) stop))
      ∙ passed (sees_range s.Ilike) (like_after s.Ilike matching.Ilike operand start place left) (pure left) now (unranged s.Ilike now (unsaid 5 now s.Ilike (λ rest. refl) stop) (unsaid 5 now s.Not (λ rest. refl) stop))

  ranged_here : (form : Expression) (k : Shape form) (x : Expr) (now next : Stream) → x.form ≡ form → (expression_facts form x.place).level ≡ Some 5 → (expression_facts form x.place).depth ≤ d → Along (expression_facts form x.place).marks now next → Framed x now next
      → goes_on 5 next ≡ false → ranged nested inner operand now ≡ Some (x, next)
  unfolding ranged same
  ranged_here _ (Shape.between left negated symmetric low high) x now next is st de a f stop =
      let tail = Piece.part 6 (tree_facts low) ∷ word s.And ∷ Piece.part 6 (tree_facts high) ∷ [] in
      let run = opened Sort.plain 5 1 5 d (Piece.part 6 (tree_facts left) ∷ at x.place ∷ p.when negated s.Not ++ word s.Between ∷ p.when symmetric s.Symmetric ++ tail) (expression_facts (e.Between left negated symmetric low high) x.place) now next (q.facts-between left negated symmetric low high x.place) (from_level st) de a in
      let u = run.0 in
      let whole = subst (λ ps. Run ps d u next) (append_assoc (p.when negated s.Not) (word s.Between ∷ p.when symmetric s.Symmetric) tail) run.4.1 in
      operand_then operand (range_after nested inner operand) x.place left now u (Some (x, next)) (r.reads left now u run.1 run.2 run.3 (range_stops s.Between negated (p.when symmetric s.Symmetric ++ tail) d u next whole (λ tokens. refl))) run.4.0
      (read_between negated symmetric low high left now x.place u next run.4.1 stop ∙ made x now next x.place (e.Between left negated symmetric low high) f refl is)
  ranged_here _ (Shape.like left negated matched right) x now next is st de a f stop =
      let tail = Piece.part 6 (tree_facts right) ∷ [] in
      let run = opened Sort.plain 5 1 5 d (Piece.part 6 (tree_facts left) ∷ at x.place ∷ p.when negated s.Not ++ word (g.matching_symbol matched) ∷ tail) (expression_facts (e.Like left negated matched right) x.place) now next (q.facts-like left negated matched right x.place) (from_level st) de a in
      let u = run.0 in
      operand_then operand (range_after nested inner operand) x.place left now u (Some (x, next)) (r.reads left now u run.1 run.2 run.3 (range_stops (g.matching_symbol matched) negated tail d u next run.4.1 (like_binds matched))) run.4.0
      (read_like negated matched right left now x.place u next run.4.1 stop ∙ made x now next x.place (e.Like left negated matched right) f refl is)
  ranged_here _ (Shape.in_query left negated query) x now next is st de a f stop =
      let tail = word s.Open ∷ p.whole (query_facts query) ∷ word s.Close ∷ [] in
      let run = opened Sort.plain 5 1 5 d (Piece.part 6 (tree_facts left) ∷ at x.place ∷ p.when negated s.Not ++ word s.In ∷ tail) (expression_facts (e.InQuery left negated query) x.place) now next (q.facts-in_query left negated query x.place) (from_level st) de a in
      let u = run.0 in
      operand_then operand (range_after nested inner operand) x.place left now u (Some (x, next)) (r.reads left now u run.1 run.2 run.3 (range_stops s.In negated tail d u next run.4.1 (λ tokens. refl))) run.4.0
      (read_in_query negated query left now x.place u next run.4.1 ∙ made x now next x.place (e.InQuery left negated query) f refl is)
  ranged_here _ (Shape.in_list left negated []) x now next is st de a f stop =
      let run = opened Sort.plain 5 1 5 d (Piece.part 6 (tree_facts left) ∷ at x.place ∷ p.when negated s.Not ++ word s.In ∷ word s.Open ∷ Piece.need false ∷ Piece.need true ∷ [] ++ word s.Close ∷ []) (expression_facts (e.InList left negated []) x.place) now next (q.facts-in_list left negated [] x.place) (from_level st) de a in
      absurd (never negated run.0 next run.4.1)
    where
      never : (b : Bool) (u v : Stream) → Run (p.when b s.Not ++ word s.In ∷ word s.Open ∷ Piece.need false ∷ Piece.need true ∷ [] ++ word s.Close ∷ []) d u v → ⊥
      never false u v t = false_true t.3.3.0
      never true u v t = false_true t.3.3.3.0
  ranged_here _ (Shape.in_list left negated (y ∷ ys)) x now next is st de a f stop =
      let within = p.some (map facts_of (y ∷ ys)) ∷ Piece.need (not (g.lone_scalar (map facts_of (y ∷ ys)))) ∷ p.list (map facts_of (y ∷ ys)) in
      let run = opened Sort.plain 5 1 5 d (Piece.part 6 (tree_facts left) ∷ at x.place ∷ p.when negated s.Not ++ word s.In ∷ word s.Open ∷ within ++ word s.Close ∷ []) (expression_facts (e.InList left negated (y ∷ ys)) x.place) now next (q.facts-in_list left negated (y ∷ ys) x.place) (from_level st) de a in
      let u = run.0 in
      let whole = subst (λ ps. Run ps d u next) (append_assoc (p.when negated s.Not) (word s.In ∷ word s.Open ∷ within) (word s.Close ∷ [])) run.4.1 in
      operand_then operand (range_after nested inner operand) x.place left now u (Some (x, next)) (r.reads left now u run.1 run.2 run.3 (range_stops s.In negated (word s.Open ∷ within ++ word s.Close ∷ []) d u next whole (λ tokens. refl))) run.4.0
      (read_in_list negated y ys left now x.place u next run.4.1 ∙ made x now next x.place (e.InList left negated (y ∷ ys)) f refl is)
  ranged_here _ (Shape.operation y links) x now next is st de a f stop = let bad = at_home _ (Shape.operation y links) x.place 5 st in absurd (omega (arith, bad.0))
  ranged_here form k x now next is st de a f stop = let bad = at_home form k x.place 5 st in absurd (first_of (omega arith, cc))

  ranged_lift : (x : Expr) (now next : Stream) → from 6 (tree_facts x).level ≡ true → (tree_facts x).depth ≤ d → Along (tree_facts x).marks now next → goes_on 5 next ≡ false → ranged nested inner operand now ≡ Some (x, next)
  unfolding ranged
  ranged_lift x now next st de a stop =
      step operand (λ left at. range_after nested inner operand now (here at) left at) now next x (r.reads x now next st de a (stops-more 5 6 next (omega arith) stop)) ∙ no_range x now (here next) next stop

  pub reads_ranged : Reads d 5 (ranged nested inner operand)
  reads_ranged = record {
    reads = λ x now next sx de a stop. elim (above 5 (tree_facts x).level sx) [
      | inl here ↦ let f = framed x now next a in ranged_here x.form (shape x.form) x now next refl here de f.along f stop
      | inr up ↦ ranged_lift x now next up de a stop
    ];
  }
