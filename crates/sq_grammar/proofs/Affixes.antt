use Rattle.std.proofs.Common.{◌≡◌, ℕ, Bool, true, false, List, [], ◌∷◌, ◌++◌, Some, refl, sym, ap, ◌∙◌, arith}
use Rattle.std.specs.Prelude.{if◌then◌else◌, ◌||◌, length}
use Rattle.sq_base.specs.declared.place.Place.{Place}
use Rattle.sq_syntax.specs.declared.symbol.Symbol.TheVariants as s
use Rattle.sq_syntax.specs.declared.symbol.Reading.{Reading}
use Rattle.sq_syntax.specs.declared.symbol.Reading.TheVariants as reading
use Rattle.sq_syntax.specs.declared.expr.Expression.{Expression}
use Rattle.sq_syntax.specs.declared.expr.Expression.TheVariants as e
use Rattle.sq_syntax.specs.Facts.{Stream, Facts, Piece}
use Rattle.sq_syntax.specs.Pieces.{at, sym as word}
use Rattle.sq_syntax.specs.ExpressionPieces as g
use Rattle.sq_syntax.specs.Grammar.{expression_facts}
use Rattle.sq_syntax.proofs.Equations as q
use Rattle.sq_syntax.proofs.Equations.{Shape, shape}
use Rattle.sq_grammar.specs.Reading.{Parser, ◌>>=◌, pure, sees, expect, begins, is, same, here}
use Rattle.sq_grammar.specs.Ahead.{Lexemes}
use Rattle.sq_grammar.proofs.Runs.{Run}
use Rattle.sq_grammar.proofs.Complete.{step, says_expect, says_token, says_begins, same_self, stands_here, Reads, Item, Framed, framed, opened, only_if-some, goes_on, above}
use Rattle.sq_grammar.proofs.Homes.{at_home}
use Rattle.sq_syntax.specs.declared.expr.Conversion.{Conversion}
use Rattle.sq_syntax.specs.declared.expr.Collation.{Collation}
use Rattle.sq_grammar.specs.Names.{name, type}
use Rattle.sq_grammar.specs.Levels.{Expr, collation, collation_place, collated, conversion, conversion_place, converted, sees_sign, sign_of, sign, sign_place, signed, negation, negated}
use Rattle.sq_grammar.proofs.Chains.{Links, Gives, Chained, reads_chain, Prefixes, Prefixed, reads_prefix}
use Rattle.sq_grammar.proofs.Begins.{Starts, starts_primary, starts_signed, head_fits}
use Rattle.sq_grammar.proofs.Joints.{says_goes, false_true, unsaid}
use Rattle.sq_grammar.proofs.ReadNames.{name_read}
use Rattle.sq_grammar.proofs.ReadTypes.{type_read, ends_type}

-- ---- casts

conversion_read : (d : ℕ) (l : Conversion) (rest : List Piece) (now next : Stream) → Run (g.conversion l ++ rest) d now next → ((u : Stream) → Run rest d u next → goes_on 14 u ≡ false) → Gives (conversion now) l rest d next
unfolding conversion
conversion_read d l rest now next run stop =
    let t = type_read d l.to rest run.1.0 next run.1.3 (λ u r. ends_type u (stop u r)) in (
      t.0,
      step (expect s.Colons) (λ _. type >>= (λ x. pure (record { place = here now; to = x }))) now run.1.0 tt (says_expect s.Colons now run.1.0 run.1.1)
          ∙ step type (λ x. pure (record { place = here now; to = x })) run.1.0 t.0 l.to t.1
          ∙ ap (λ place. Some (record { place = place; to = l.to }, t.0)) (stands_here l.place now.tokens run.0),
      t.2,
    )

conversion_links : (d : ℕ) → Links d 13 (sees s.Colons) conversion conversion_place e.Converted g.conversion
conversion_links d = record {
  item = record {
    begun = λ l rest now next run stop. says_begins s.Colons (reading.Symbol s.Colons) now run.1.0 run.1.1 ∙ same_self s.Colons;
    stops = λ l rest now next run. says_goes 14 (reading.Symbol s.Colons) now run.1.0 run.1.1;
    some = λ l. omega arith;
    reads = conversion_read d;
  };
  placed = λ l rest now next run. run.0;
  ends = λ now stop. unsaid 13 now s.Colons (λ rest. refl) stop;
}

converted_at : (form : Expression) (k : Shape form) (place : Place) (first last : ℕ) → (expression_facts form place).level ≡ Some 13 → Chained 13 e.Converted g.conversion (record { place = place; first = first; last = last; form = form })
converted_at _ (Shape.converted x []) p first last h = absurd (false_true (only_if-some _ 13 13 (sym (ap (λ (f : Facts). f.level) (q.facts-converted x [] p)) ∙ h)).0)
converted_at _ (Shape.converted x (l ∷ links)) p first last h = record { head = x; link = l; links = links; steps = length (l ∷ links); holds = true; is = refl; facts = q.facts-converted x (l ∷ links) p }
converted_at _ (Shape.operation x links) p first last h = let bad = at_home _ (Shape.operation x links) p 13 h in absurd (omega (arith, bad.1))
converted_at form k p first last h = let bad = at_home form k p 13 h in absurd (first_of (omega arith, cc))

pub reads_converted : (d : ℕ) (operand : Parser Expr) → Reads d 14 operand → Reads d 13 (converted operand)
unfolding converted
reads_converted d operand r = reads_chain d 13 (sees s.Colons) conversion conversion_place e.Converted g.conversion operand (conversion_links d) r (λ x h. converted_at x.form (shape x.form) x.place x.first x.last h)

-- ---- COLLATE

collation_read : (d : ℕ) (l : Collation) (rest : List Piece) (now next : Stream) → Run (g.collation l ++ rest) d now next → ((u : Stream) → Run rest d u next → goes_on 12 u ≡ false) → Gives (collation now) l rest d next
unfolding collation
collation_read d l rest now next run stop =
    let t = name_read d l.name rest run.1.0 next run.1.3 in (
      t.0,
      step (expect s.Collate) (λ _. name >>= (λ x. pure (record { place = here now; name = x }))) now run.1.0 tt (says_expect s.Collate now run.1.0 run.1.1)
          ∙ step name (λ x. pure (record { place = here now; name = x })) run.1.0 t.0 l.name t.1
          ∙ ap (λ place. Some (record { place = place; name = l.name }, t.0)) (stands_here l.place now.tokens run.0),
      t.2,
    )

collation_links : (d : ℕ) → Links d 11 (sees s.Collate) collation collation_place e.Collated g.collation
collation_links d = record {
  item = record {
    begun = λ l rest now next run stop. says_begins s.Collate (reading.Symbol s.Collate) now run.1.0 run.1.1 ∙ same_self s.Collate;
    stops = λ l rest now next run. says_goes 12 (reading.Symbol s.Collate) now run.1.0 run.1.1;
    some = λ l. omega arith;
    reads = collation_read d;
  };
  placed = λ l rest now next run. run.0;
  ends = λ now stop. unsaid 11 now s.Collate (λ rest. refl) stop;
}

collated_at : (form : Expression) (k : Shape form) (place : Place) (first last : ℕ) → (expression_facts form place).level ≡ Some 11 → Chained 11 e.Collated g.collation (record { place = place; first = first; last = last; form = form })
collated_at _ (Shape.collated x []) p first last h = absurd (false_true (only_if-some _ 11 11 (sym (ap (λ (f : Facts). f.level) (q.facts-collated x [] p)) ∙ h)).0)
collated_at _ (Shape.collated x (l ∷ links)) p first last h = record { head = x; link = l; links = links; steps = length (l ∷ links); holds = true; is = refl; facts = q.facts-collated x (l ∷ links) p }
collated_at _ (Shape.operation x links) p first last h = let bad = at_home _ (Shape.operation x links) p 11 h in absurd (omega (arith, bad.1))
collated_at form k p first last h = let bad = at_home form k p 11 h in absurd (first_of (omega arith, cc))

pub reads_collated : (d : ℕ) (operand : Parser Expr) → Reads d 12 operand → Reads d 11 (collated operand)
unfolding collated
reads_collated d operand r = reads_chain d 11 (sees s.Collate) collation collation_place e.Collated g.collation operand (collation_links d) r (λ x h. collated_at x.form (shape x.form) x.place x.first x.last h)

-- ---- signs

sign_symbol : (b : Bool) (place : Place) (d : ℕ) (rest : List Piece) (now next : Stream) → Run (at place ∷ word (if b then s.Minus else s.Plus) ∷ rest) d now next → Gives (sign now) (record { place = place; is_minus = b }) rest d next
unfolding sign
sign_symbol true place d rest now next run =
    (run.1.0, says_token sign_of (record { place = place; is_minus = true }) (reading.Symbol s.Minus) now run.1.0 run.1.1 (ap (λ q. Some (record { place = q; is_minus = true })) (Rattle.sq_grammar.proofs.Complete.stood place (reading.Symbol s.Minus) now run.1.0 run.1.1 run.0)), run.1.3)
sign_symbol false place d rest now next run =
    (run.1.0, says_token sign_of (record { place = place; is_minus = false }) (reading.Symbol s.Plus) now run.1.0 run.1.1 (ap (λ q. Some (record { place = q; is_minus = false })) (Rattle.sq_grammar.proofs.Complete.stood place (reading.Symbol s.Plus) now run.1.0 run.1.1 run.0)), run.1.3)

sign_begun : (b : Bool) (place : Place) (d : ℕ) (rest : List Piece) (now next : Stream) → Run (at place ∷ word (if b then s.Minus else s.Plus) ∷ rest) d now next → sees_sign now ≡ true
unfolding same
sign_begun true place d rest now next run = ap (λ tokens. begins s.Minus tokens || begins s.Plus tokens) run.1.1.first
sign_begun false place d rest now next run = ap (λ tokens. begins s.Minus tokens || begins s.Plus tokens) run.1.1.first

no_sign : (tokens : Lexemes) → head_fits starts_primary tokens ≡ true → begins s.Minus tokens || begins s.Plus tokens ≡ false
unfolding same
no_sign [] h = absurd (cc)
no_sign (x ∷ rest) h = by_reading x.reading h
  where
    by_reading : (r : Reading) → starts_primary r ≡ true → is s.Minus r || is s.Plus r ≡ false
    by_reading (reading.Symbol s.Minus) k = absurd (cc)
    by_reading (reading.Symbol s.Plus) k = absurd (cc)
    by_reading (reading.Symbol _) k = refl
    by_reading _ k = refl

sign_prefixes : (d : ℕ) (operand : Parser Expr) → Starts starts_primary operand → Prefixes d 12 sees_sign sign sign_place e.Signed g.sign operand
sign_prefixes d operand st = record {
  item = record {
    begun = λ l rest now next run stop. sign_begun l.is_minus l.place d rest now next run;
    stops = λ l rest now next run. refl;
    some = λ l. omega arith;
    reads = λ l rest now next run stop. sign_symbol l.is_minus l.place d rest now next run;
  };
  placed = λ l rest now next run. run.0;
  refuses = λ now next x h. no_sign now.tokens (st now next x h);
}

signed_at : (form : Expression) (k : Shape form) (place : Place) (first last : ℕ) → (expression_facts form place).level ≡ Some 12 → Prefixed 12 e.Signed g.sign (record { place = place; first = first; last = last; form = form })
signed_at _ (Shape.signed [] x) p first last h = absurd (false_true (only_if-some _ 12 12 (sym (ap (λ (f : Facts). f.level) (q.facts-signed [] x p)) ∙ h)).0)
signed_at _ (Shape.signed (l ∷ marks) x) p first last h = record { operand = x; mark = l; marks = marks; steps = length (l ∷ marks); holds = true; is = refl; facts = q.facts-signed (l ∷ marks) x p }
signed_at _ (Shape.operation x links) p first last h = let bad = at_home _ (Shape.operation x links) p 12 h in absurd (omega (arith, bad.1))
signed_at form k p first last h = let bad = at_home form k p 12 h in absurd (first_of (omega arith, cc))

pub reads_signed : (d : ℕ) (operand : Parser Expr) → Reads d 13 operand → Starts starts_primary operand → Reads d 12 (signed operand)
unfolding signed
reads_signed d operand r st = reads_prefix d 12 sees_sign sign sign_place e.Signed g.sign operand (sign_prefixes d operand st) r (λ x h. signed_at x.form (shape x.form) x.place x.first x.last h)

-- ---- NOT

no_not : (tokens : Lexemes) → head_fits starts_signed tokens ≡ true → begins s.Not tokens ≡ false
unfolding same
no_not [] h = absurd (cc)
no_not (x ∷ rest) h = by_reading x.reading h
  where
    by_reading : (r : Reading) → starts_signed r ≡ true → is s.Not r ≡ false
    by_reading (reading.Symbol s.Not) k = absurd (cc)
    by_reading (reading.Symbol _) k = refl
    by_reading _ k = refl

negation_read : (d : ℕ) (l : Place) (rest : List Piece) (now next : Stream) → Run (g.negation l ++ rest) d now next → Gives (negation now) l rest d next
unfolding negation
negation_read d l rest now next run =
    (run.1.0, step (expect s.Not) (λ _. pure (here now)) now run.1.0 tt (says_expect s.Not now run.1.0 run.1.1) ∙ ap (λ place. Some (place, run.1.0)) (stands_here l now.tokens run.0), run.1.3)

negation_prefixes : (d : ℕ) (operand : Parser Expr) → Starts starts_signed operand → Prefixes d 2 (sees s.Not) negation (λ place. place) e.Not g.negation operand
negation_prefixes d operand st = record {
  item = record {
    begun = λ l rest now next run stop. says_begins s.Not (reading.Symbol s.Not) now run.1.0 run.1.1 ∙ same_self s.Not;
    stops = λ l rest now next run. refl;
    some = λ l. omega arith;
    reads = λ l rest now next run stop. negation_read d l rest now next run;
  };
  placed = λ l rest now next run. run.0;
  refuses = λ now next x h. no_not now.tokens (st now next x h);
}

negated_at : (form : Expression) (k : Shape form) (place : Place) (first last : ℕ) → (expression_facts form place).level ≡ Some 2 → Prefixed 2 e.Not g.negation (record { place = place; first = first; last = last; form = form })
negated_at _ (Shape.not [] x) p first last h = absurd (false_true (only_if-some _ 2 2 (sym (ap (λ (f : Facts). f.level) (q.facts-not [] x p)) ∙ h)).0)
negated_at _ (Shape.not (l ∷ marks) x) p first last h = record { operand = x; mark = l; marks = marks; steps = length (l ∷ marks); holds = true; is = refl; facts = q.facts-not (l ∷ marks) x p }
negated_at _ (Shape.operation x links) p first last h = let bad = at_home _ (Shape.operation x links) p 2 h in absurd (omega (arith, bad.0))
negated_at form k p first last h = let bad = at_home form k p 2 h in absurd (first_of (omega arith, cc))

pub reads_negated : (d : ℕ) (operand : Parser Expr) → Reads d 3 operand → Starts starts_signed operand → Reads d 2 (negated operand)
unfolding negated
reads_negated d operand r st = reads_prefix d 2 (sees s.Not) negation (λ place. place) e.Not g.negation operand (negation_prefixes d operand st) r (λ x h. negated_at x.form (shape x.form) x.place x.first x.last h)
