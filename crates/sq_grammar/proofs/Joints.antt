-- Chains of AND, OR, AT TIME ZONE and of operators are read as they are spelled.
use Rattle.std.proofs.Common.{◌≡◌, ℕ, ◌+◌, ◌≤◌, Bool, true, false, List, [], ◌∷◌, ◌++◌, Some, None, refl, sym, ap, subst, ◌∙◌, arith, append_assoc, map, rules}
use Rattle.std.specs.Prelude.{flat_map, if◌then◌else◌, ◌&&◌, not, length}
use Rattle.std.proofs.lemmas.Grind.{common_steps}
use Rattle.std.proofs.lemmas.List.Folds.{flat_map-map}
use denote.Enum.Bare.{same_true}
use Rattle.sq_syntax.specs.contracts.symbol.Symbol.{the_type}
use Rattle.sq_base.specs.declared.place.Place.{Place}
use Rattle.sq_syntax.specs.declared.symbol.Symbol.{Symbol}
use Rattle.sq_syntax.specs.declared.symbol.Symbol.TheVariants as s
use Rattle.sq_syntax.specs.declared.symbol.Reading.{Reading}
use Rattle.sq_syntax.specs.declared.symbol.Reading.TheVariants as reading
use Rattle.sq_syntax.specs.declared.expr.Joint.{Joint}
use Rattle.sq_syntax.specs.declared.expr.Expression.{Expression}
use Rattle.sq_syntax.specs.declared.expr.Expression.TheVariants as e
use Rattle.sq_syntax.specs.Facts.{Stream, Says, Facts, Piece, from, built}
use Rattle.sq_syntax.specs.Pieces.{Operand, at, sym as word, is_empty}
use Rattle.sq_syntax.specs.ExpressionPieces as g
use Rattle.sq_syntax.specs.Grammar.{tree_facts, expression_facts}
use Rattle.sq_syntax.proofs.Equations as q
use Rattle.sq_syntax.proofs.Equations.{Shape, shape}
use Rattle.sq_grammar.specs.Reading.{Parser, ◌>>=◌, ◌>>◌, pure, sees, expect, begins, begins_both, is, same, here}
use Rattle.sq_grammar.specs.Ahead.{Lexemes, binding, reading_binds}
use Rattle.sq_grammar.specs.Levels.{Expr, joint, joint_place, zone_words, zone_link, zoned, conjunction, disjunction}
use Rattle.sq_grammar.proofs.Runs.{Run, both}
use Rattle.sq_grammar.proofs.Complete.{step, says_expect, says_begins, same_self, stands_here, Reads, only_if-some, goes_on}
use Rattle.sq_grammar.proofs.Chains.{Links, Gives, Chained, reads_chain}
use Rattle.sq_grammar.proofs.Homes.{at_home}

pub says_goes : (least : ℕ) (r : Reading) (now next : Stream) → Says r now next → goes_on least now ≡ from least (reading_binds r next.tokens)
says_goes least r now next h = ap (λ tokens. from least (binding tokens)) h.first

pub false_true : false ≡ true → ⊥
false_true h = cc

pub same_is : (a b : Symbol) → same a b ≡ true → a ≡ b
unfolding same
same_is a b h = same_true the_type (search rules) a b h

-- ---- words and an operand

abbrev pub joint_pieces : List Piece → ℕ → Joint Expr → List Piece
joint_pieces words least l = at l.place ∷ words ++ Piece.part least (tree_facts l.operand) ∷ []

abbrev pub joint_facts : Joint Expr → Joint Operand
joint_facts l = record { place = l.place; operand = record { place = l.operand.place; first = l.operand.first; last = l.operand.last; form = expression_facts l.operand.form } }

-- the words between two operands
pub record Words (d n : ℕ) (more : Stream → Bool) (words : Parser (Unit {0})) (pieces : List Piece) : Type 0 where
  pub begun : (rest : List Piece) (now next : Stream) → Run (pieces ++ rest) d now next → more now ≡ true
  pub stops : (rest : List Piece) (now next : Stream) → Run (pieces ++ rest) d now next → goes_on (n + 1) now ≡ false
  pub reads : (rest : List Piece) (now next : Stream) → Run (pieces ++ rest) d now next → Gives (words now) tt rest d next
  pub ends : (now : Stream) → goes_on n now ≡ false → more now ≡ false
  pub some : (l : Joint Expr) → 1 ≤ Rattle.sq_grammar.proofs.Runs.said (joint_pieces pieces (n + 1) l)

module _ (d n : ℕ) (more : Stream → Bool) (words : Parser (Unit {0})) (pieces : List Piece) (ws : Words d n more words pieces) (operand : Parser Expr) (r : Reads d (n + 1) operand) where
  part_after : Joint Expr → List Piece → List Piece
  part_after l rest = Piece.part (n + 1) (tree_facts l.operand) ∷ rest

  beside : (l : Joint Expr) (rest : List Piece) (now next : Stream) → Run (joint_pieces pieces (n + 1) l ++ rest) d now next → Run (pieces ++ part_after l rest) d now next
  unfolding part_after
  beside l rest now next run = subst (λ ps. Run ps d now next) (append_assoc pieces (Piece.part (n + 1) (tree_facts l.operand) ∷ []) rest) run.1

  read_joint : (l : Joint Expr) (rest : List Piece) (now next : Stream) → Run (joint_pieces pieces (n + 1) l ++ rest) d now next → ((u : Stream) → Run rest d u next → goes_on (n + 1) u ≡ false)
      → Gives (joint words operand now) l rest d next
  unfolding part_after
  read_joint l rest now next run stop =
      let w = ws.reads (part_after l rest) now next (beside l rest now next run) in
      let t = w.2 in (
        t.0,
        step words (λ _. operand >>= (λ x. pure (record { place = here now; operand = x }))) now w.0 tt w.1
            ∙ step operand (λ x. pure (record { place = here now; operand = x })) w.0 t.0 l.operand (r.reads l.operand w.0 t.0 t.1 t.2 t.3 (stop t.0 t.4))
            ∙ ap (λ p. Some (record { place = p; operand = l.operand }, t.0)) (stands_here l.place now.tokens run.0),
        t.4,
      )

  pub joint_links : (make : Expr → List (Joint Expr) → Expression) → Links d n more (joint words operand) joint_place make (joint_pieces pieces (n + 1))
  unfolding part_after
  joint_links make = record {
    item = record {
      begun = λ l rest now next run stop. ws.begun (part_after l rest) now next (beside l rest now next run);
      stops = λ l rest now next run. ws.stops (part_after l rest) now next (beside l rest now next run);
      some = ws.some;
      reads = read_joint;
    };
    placed = λ l rest now next run. run.0;
    ends = ws.ends;
  }

-- ---- AND and OR

pub from_self : (n : ℕ) → from n (Some n) ≡ true
from_self n = grind (arith, common_steps)

unsaid_symbol : (n : ℕ) (y : Symbol) (rest : Lexemes) (x : Symbol) (b : Bool) → same y x ≡ b → ((tokens : Lexemes) → reading_binds (reading.Symbol x) tokens ≡ Some n) → from n (reading_binds (reading.Symbol y) rest) ≡ false → b ≡ false
unsaid_symbol n y rest x false h binds stop = refl
unsaid_symbol n y rest x true h binds stop =
    absurd (false_true (sym stop ∙ ap (λ z. from n (reading_binds (reading.Symbol z) rest)) (same_is y x h) ∙ ap (λ f. from n f) (binds rest) ∙ from_self n))

unsaid_reading : (n : ℕ) (r : Reading) (rest : Lexemes) (x : Symbol) → ((tokens : Lexemes) → reading_binds (reading.Symbol x) tokens ≡ Some n) → from n (reading_binds r rest) ≡ false → is x r ≡ false
unsaid_reading n (reading.Symbol y) rest x binds stop = unsaid_symbol n y rest x (same y x) refl binds stop
unsaid_reading n _ rest x binds stop = refl

unsaid_at : (n : ℕ) (tokens : Lexemes) (x : Symbol) → ((rest : Lexemes) → reading_binds (reading.Symbol x) rest ≡ Some n) → from n (binding tokens) ≡ false → begins x tokens ≡ false
unsaid_at n [] x binds stop = refl
unsaid_at n (y ∷ rest) x binds stop = unsaid_reading n y.reading rest x binds stop

pub unsaid : (n : ℕ) (now : Stream) (x : Symbol) → ((rest : Lexemes) → reading_binds (reading.Symbol x) rest ≡ Some n) → goes_on n now ≡ false → sees x now ≡ false
unsaid n now x binds stop = unsaid_at n now.tokens x binds stop

and_words : (d : ℕ) → Words d 1 (sees s.And) (expect s.And) (word s.And ∷ [])
and_words d = record {
  begun = λ rest now next run. says_begins s.And (reading.Symbol s.And) now run.0 run.1 ∙ same_self s.And;
  stops = λ rest now next run. says_goes 2 (reading.Symbol s.And) now run.0 run.1;
  reads = λ rest now next run. (run.0, says_expect s.And now run.0 run.1, run.3);
  ends = λ now stop. unsaid 1 now s.And (λ rest. refl) stop;
  some = λ l. omega arith;
}

or_words : (d : ℕ) → Words d 0 (sees s.Or) (expect s.Or) (word s.Or ∷ [])
or_words d = record {
  begun = λ rest now next run. says_begins s.Or (reading.Symbol s.Or) now run.0 run.1 ∙ same_self s.Or;
  stops = λ rest now next run. says_goes 1 (reading.Symbol s.Or) now run.0 run.1;
  reads = λ rest now next run. (run.0, says_expect s.Or now run.0 run.1, run.3);
  ends = λ now stop. unsaid 0 now s.Or (λ rest. refl) stop;
  some = λ l. omega arith;
}

pub and_facts : (x : Expr) (links : List (Joint Expr)) (p : Place)
    → expression_facts (e.And x links) p ≡ built 1 1 (Piece.need (not (is_empty (map joint_facts links))) ∷ Piece.part 2 (tree_facts x) ∷ at p ∷ flat_map (joint_pieces (word s.And ∷ []) 2) links)
and_facts x links p = q.facts-and x links p ∙ ap (λ ps. built 1 1 (Piece.need (not (is_empty (map joint_facts links))) ∷ Piece.part 2 (tree_facts x) ∷ at p ∷ ps)) (flat_map-map (g.joint (word s.And ∷ []) 2) joint_facts links)

pub or_facts : (x : Expr) (links : List (Joint Expr)) (p : Place)
    → expression_facts (e.Or x links) p ≡ built 0 1 (Piece.need (not (is_empty (map joint_facts links))) ∷ Piece.part 1 (tree_facts x) ∷ at p ∷ flat_map (joint_pieces (word s.Or ∷ []) 1) links)
or_facts x links p = q.facts-or x links p ∙ ap (λ ps. built 0 1 (Piece.need (not (is_empty (map joint_facts links))) ∷ Piece.part 1 (tree_facts x) ∷ at p ∷ ps)) (flat_map-map (g.joint (word s.Or ∷ []) 1) joint_facts links)

and_chained_at : (form : Expression) (k : Shape form) (place : Place) (first last : ℕ) → (expression_facts form place).level ≡ Some 1 → Chained 1 e.And (joint_pieces (word s.And ∷ []) 2) (record { place = place; first = first; last = last; form = form })
and_chained_at _ (Shape.and x []) p first last h = absurd (false_true (only_if-some _ 1 1 (sym (ap (λ (f : Facts). f.level) (and_facts x [] p)) ∙ h)).0)
and_chained_at _ (Shape.and x (l ∷ links)) p first last h = record { head = x; link = l; links = links; steps = 1; holds = true; is = refl; facts = and_facts x (l ∷ links) p }
and_chained_at form k p first last h = let bad = at_home form k p 1 h in absurd (first_of (omega arith, cc))

or_chained_at : (form : Expression) (k : Shape form) (place : Place) (first last : ℕ) → (expression_facts form place).level ≡ Some 0 → Chained 0 e.Or (joint_pieces (word s.Or ∷ []) 1) (record { place = place; first = first; last = last; form = form })
or_chained_at _ (Shape.or x []) p first last h = absurd (false_true (only_if-some _ 0 0 (sym (ap (λ (f : Facts). f.level) (or_facts x [] p)) ∙ h)).0)
or_chained_at _ (Shape.or x (l ∷ links)) p first last h = record { head = x; link = l; links = links; steps = 1; holds = true; is = refl; facts = or_facts x (l ∷ links) p }
or_chained_at form k p first last h = let bad = at_home form k p 0 h in absurd (first_of (omega arith, cc))

pub reads_conjunction : (d : ℕ) (operand : Parser Expr) → Reads d 2 operand → Reads d 1 (conjunction operand)
unfolding conjunction
reads_conjunction d operand r =
    reads_chain d 1 (sees s.And) (joint (expect s.And) operand) joint_place e.And (joint_pieces (word s.And ∷ []) 2) operand
    (joint_links d 1 (sees s.And) (expect s.And) (word s.And ∷ []) (and_words d) operand r e.And) r (λ x h. and_chained_at x.form (shape x.form) x.place x.first x.last h)

pub reads_disjunction : (d : ℕ) (operand : Parser Expr) → Reads d 1 operand → Reads d 0 (disjunction operand)
unfolding disjunction
reads_disjunction d operand r =
    reads_chain d 0 (sees s.Or) (joint (expect s.Or) operand) joint_place e.Or (joint_pieces (word s.Or ∷ []) 1) operand
    (joint_links d 0 (sees s.Or) (expect s.Or) (word s.Or ∷ []) (or_words d) operand r e.Or) r (λ x h. or_chained_at x.form (shape x.form) x.place x.first x.last h)

-- ---- AT TIME ZONE

abbrev pub zone_pieces : List Piece
zone_pieces = word s.At ∷ word s.Time ∷ word s.Zone ∷ []

abbrev pub sees_zone : Stream → Bool
sees_zone now = begins_both s.At s.Time now.tokens

zone_begins : (now u v : Stream) → Says (reading.Symbol s.At) now u → Says (reading.Symbol s.Time) u v → sees_zone now ≡ true
unfolding same
zone_begins now u v h k = ap (λ tokens. begins_both s.At s.Time tokens) h.first ∙ ap (λ tokens. begins s.Time tokens) k.first

zone_stops : (now u v : Stream) → Says (reading.Symbol s.At) now u → Says (reading.Symbol s.Time) u v → goes_on 11 now ≡ false
unfolding same
zone_stops now u v h k = says_goes 11 (reading.Symbol s.At) now u h ∙ ap (λ tokens. from 11 (reading_binds (reading.Symbol s.At) tokens)) k.first

zone_seen : (b : Bool) → from 10 (if b then Some 10 else None) ≡ false → b ≡ false
zone_seen false h = refl
zone_seen true h = absurd (cc)

zone_unseen_reading : (r : Reading) (rest : Lexemes) → from 10 (reading_binds r rest) ≡ false → is s.At r && begins s.Time rest ≡ false
unfolding same
zone_unseen_reading (reading.Symbol s.At) rest h = zone_seen (begins s.Time rest) h
zone_unseen_reading (reading.Symbol _) rest h = refl
zone_unseen_reading _ rest h = refl

zone_unseen : (tokens : Lexemes) → from 10 (binding tokens) ≡ false → begins_both s.At s.Time tokens ≡ false
zone_unseen [] h = refl
zone_unseen (x ∷ rest) h = zone_unseen_reading x.reading rest h

zone_read : (d : ℕ) (rest : List Piece) (now next : Stream) → Run (zone_pieces ++ rest) d now next → Gives (zone_words now) tt rest d next
zone_read d rest now next run = (
  run.3.3.0,
  step (expect s.At) (λ _. expect s.Time >> expect s.Zone) now run.0 tt (says_expect s.At now run.0 run.1)
      ∙ step (expect s.Time) (λ _. expect s.Zone) run.0 run.3.0 tt (says_expect s.Time run.0 run.3.0 run.3.1)
      ∙ says_expect s.Zone run.3.0 run.3.3.0 run.3.3.1,
  run.3.3.3,
)

zones : (d : ℕ) → Words d 10 sees_zone zone_words zone_pieces
zones d = record {
  begun = λ rest now next run. zone_begins now run.0 run.3.0 run.1 run.3.1;
  stops = λ rest now next run. zone_stops now run.0 run.3.0 run.1 run.3.1;
  reads = zone_read d;
  ends = λ now stop. zone_unseen now.tokens stop;
  some = λ l. omega arith;
}

pub zone_facts : (x : Expr) (links : List (Joint Expr)) (p : Place)
    → expression_facts (e.AtTimeZone x links) p ≡ built 10 (length (map joint_facts links)) (Piece.need (not (is_empty (map joint_facts links))) ∷ Piece.part 11 (tree_facts x) ∷ at p ∷ flat_map (joint_pieces zone_pieces 11) links)
zone_facts x links p = q.facts-at_time_zone x links p ∙ ap (λ ps. built 10 (length (map joint_facts links)) (Piece.need (not (is_empty (map joint_facts links))) ∷ Piece.part 11 (tree_facts x) ∷ at p ∷ ps)) (flat_map-map (g.joint zone_pieces 11) joint_facts links)

zone_chained_at : (form : Expression) (k : Shape form) (place : Place) (first last : ℕ) → (expression_facts form place).level ≡ Some 10 → Chained 10 e.AtTimeZone (joint_pieces zone_pieces 11) (record { place = place; first = first; last = last; form = form })
zone_chained_at _ (Shape.at_time_zone x []) p first last h = absurd (false_true (only_if-some _ 10 10 (sym (ap (λ (f : Facts). f.level) (zone_facts x [] p)) ∙ h)).0)
zone_chained_at _ (Shape.at_time_zone x (l ∷ links)) p first last h = record { head = x; link = l; links = links; steps = length (map joint_facts (l ∷ links)); holds = true; is = refl; facts = zone_facts x (l ∷ links) p }
zone_chained_at _ (Shape.operation x links) p first last h = let bad = at_home _ (Shape.operation x links) p 10 h in absurd (omega (arith, bad.1))
zone_chained_at form k p first last h = let bad = at_home form k p 10 h in absurd (first_of (omega arith, cc))

pub reads_zoned : (d : ℕ) (operand : Parser Expr) → Reads d 11 operand → Reads d 10 (zoned operand)
unfolding zoned
reads_zoned d operand r =
    reads_chain d 10 sees_zone (zone_link operand) joint_place e.AtTimeZone (joint_pieces zone_pieces 11) operand
    (joint_links d 10 sees_zone zone_words zone_pieces (zones d) operand r e.AtTimeZone) r (λ x h. zone_chained_at x.form (shape x.form) x.place x.first x.last h)
