-- The levels of chains and prefixes: what is read there is spelled by the tokens.
use Rattle.std.proofs.Common.{◌≡◌, ℕ, ◌+◌, Bool, true, List, [], ◌∷◌, ◌++◌, length, Option, Some, None, sym, ap, subst, ◌∙◌, arith, map}
use Rattle.std.specs.Prelude.{not, if◌then◌else◌}
use Rattle.std.proofs.lemmas.Bool.{eqb-true}
use Rattle.sq_base.specs.declared.place.Place.{Place}
use Rattle.sq_syntax.specs.declared.symbol.Symbol.{Symbol}
use Rattle.sq_syntax.specs.declared.symbol.Symbol.TheVariants as s
use Rattle.sq_syntax.specs.declared.symbol.Reading.{Reading}
use Rattle.sq_syntax.specs.declared.symbol.Reading.TheVariants as reading
use Rattle.sq_syntax.specs.declared.expr.Sign.{Sign}
use Rattle.sq_syntax.specs.declared.expr.Link.{Link}
use Rattle.sq_syntax.specs.declared.expr.Operator.{Operator}
use Rattle.sq_syntax.specs.declared.expr.Expression.TheVariants as e
use Rattle.sq_syntax.specs.Facts.{Stream, Piece}
use Rattle.sq_syntax.specs.Pieces.{say, sym as word}
use Rattle.sq_syntax.specs.ExpressionPieces as g
use Rattle.sq_syntax.specs.Grammar.{tree_facts}
use Rattle.sq_syntax.proofs.Equations as q
use Rattle.sq_grammar.specs.Reading.{Parser, sees, expect, here}
use Rattle.sq_grammar.specs.Ahead.{Lexemes, operator_of, symbol_operator, begins_quantifier}
use Rattle.sq_grammar.specs.Levels.{Expr, joint, joint_place, zone_words, zone_link, zoned, links_at, begins_link, sees_link, an_operator, link, link_place, operation, conjunction, disjunction, collation, collation_place, collated, conversion, conversion_place, converted, sees_sign, sign_of, sign, sign_place, signed, negation, negated}
use Rattle.sq_grammar.proofs.Runs.{both}
use Rattle.sq_grammar.proofs.Complete.{same_some}
use Rattle.sq_grammar.proofs.Joints.{joint_pieces, joint_facts, zone_pieces, sees_zone, and_facts, or_facts, zone_facts}
use Rattle.sq_grammar.proofs.Operations.{link_facts, link_pieces, operation_facts}
use Rattle.sq_grammar.proofs.Takes.{Took, Spells, tree, ◌then◌, said, reads, expected, behind, given, needed, at_here}
use Rattle.sq_grammar.proofs.TakeChains.{at_place, Linked, takes_chain, takes_prefix}
use Rattle.sq_grammar.proofs.TakeNames.{name_took, placed_first}
use Rattle.sq_grammar.proofs.TakeTypes.{type_took}

-- nothing more is known of a link
abbrev Plain : {L : Type 0} → L → Type 0
Plain l = Unit {0}

-- ---- casts

conversion_took : Spells g.conversion conversion
unfolding conversion
conversion_took now next l h =
    let one = behind h in
    let two = behind one.second in
    given g.conversion two.second (at_here (omega arith) (expected one.first then type_took one.mid two.mid two.value two.first))

pub takes_converted : (operand : Parser Expr) → Spells (tree 14) operand → Spells (tree 13) (converted operand)
unfolding converted
takes_converted operand r = takes_chain 13 conversion_place g.conversion Plain (sees s.Colons) conversion (record {
  takes = λ now next l b h. (conversion_took now next l h, tt);
  placed = λ l rest now next a. a.0;
  one = λ l. omega arith;
}) e.Converted (record { steps = λ x l links place. length (l ∷ links); facts = λ x l links place k. q.facts-converted x (l ∷ links) place }) operand r

-- ---- COLLATE

collation_took : Spells g.collation collation
unfolding collation
collation_took now next l h =
    let one = behind h in
    let two = behind one.second in
    given g.collation two.second (at_here (omega arith) (expected one.first then name_took one.mid two.mid two.value two.first))

pub takes_collated : (operand : Parser Expr) → Spells (tree 12) operand → Spells (tree 11) (collated operand)
unfolding collated
takes_collated operand r = takes_chain 11 collation_place g.collation Plain (sees s.Collate) collation (record {
  takes = λ now next l b h. (collation_took now next l h, tt);
  placed = λ l rest now next a. a.0;
  one = λ l. omega arith;
}) e.Collated (record { steps = λ x l links place. length (l ∷ links); facts = λ x l links place k. q.facts-collated x (l ∷ links) place }) operand r

-- ---- words and an operand

module _ (n : ℕ) (words : Parser (Unit {0})) (first : Symbol) (rest : List Piece) (words_took : (now next : Stream) → words now ≡ Some (tt, next) → Took (word first ∷ rest) now next) where
  joint_took : (operand : Parser Expr) → Spells (tree (n + 1)) operand → Spells (joint_pieces (word first ∷ rest) (n + 1)) (joint words operand)
  joint_took operand r now next l h =
      let one = behind h in
      let two = behind one.second in
      let f : Took ((word first ∷ rest) ++ Piece.part (n + 1) (tree_facts two.value) ∷ []) now two.mid = words_took now one.mid one.first then r one.mid two.mid two.value two.first in
      given (joint_pieces (word first ∷ rest) (n + 1)) two.second (at_here (omega arith) f)

  joint_linked : (more : Stream → Bool) (operand : Parser Expr) → Spells (tree (n + 1)) operand → Linked n joint_place (joint_pieces (word first ∷ rest) (n + 1)) Plain more (joint words operand)
  joint_linked more operand r = record {
    takes = λ now next l b h. (joint_took operand r now next l h, tt);
    placed = λ l others now next a. a.0;
    one = λ l. omega arith;
  }

pub takes_conjunction : (operand : Parser Expr) → Spells (tree 2) operand → Spells (tree 1) (conjunction operand)
unfolding conjunction
takes_conjunction operand r =
    takes_chain 1 joint_place (joint_pieces (word s.And ∷ []) 2) Plain (sees s.And) (joint (expect s.And) operand) (joint_linked 1 (expect s.And) s.And [] (λ now next h. expected h) (sees s.And) operand r)
    e.And (record { steps = λ x l links place. 1; facts = λ x l links place k. and_facts x (l ∷ links) place }) operand r

pub takes_disjunction : (operand : Parser Expr) → Spells (tree 1) operand → Spells (tree 0) (disjunction operand)
unfolding disjunction
takes_disjunction operand r =
    takes_chain 0 joint_place (joint_pieces (word s.Or ∷ []) 1) Plain (sees s.Or) (joint (expect s.Or) operand) (joint_linked 0 (expect s.Or) s.Or [] (λ now next h. expected h) (sees s.Or) operand r)
    e.Or (record { steps = λ x l links place. 1; facts = λ x l links place k. or_facts x (l ∷ links) place }) operand r

zone_words_took : (now next : Stream) → zone_words now ≡ Some (tt, next) → Took zone_pieces now next
zone_words_took now next h =
    let one = behind h in
    let two = behind one.second in
    expected one.first then expected two.first then expected two.second

pub takes_zoned : (operand : Parser Expr) → Spells (tree 11) operand → Spells (tree 10) (zoned operand)
unfolding zoned
takes_zoned operand r =
    takes_chain 10 joint_place (joint_pieces zone_pieces 11) Plain sees_zone (zone_link operand) (joint_linked 10 zone_words s.At (word s.Time ∷ word s.Zone ∷ []) zone_words_took sees_zone operand r)
    e.AtTimeZone (record { steps = λ x l links place. length (map joint_facts (l ∷ links)); facts = λ x l links place k. zone_facts x (l ∷ links) place }) operand r

-- ---- operators

symbol_operator_is : (x : Symbol) (f : Operator) → symbol_operator x ≡ Some f → g.operator_reading f ≡ reading.Symbol x
symbol_operator_is s.Power f h = ap g.operator_reading (sym (same_some h))
symbol_operator_is s.Times f h = ap g.operator_reading (sym (same_some h))
symbol_operator_is s.Divide f h = ap g.operator_reading (sym (same_some h))
symbol_operator_is s.Modulo f h = ap g.operator_reading (sym (same_some h))
symbol_operator_is s.Plus f h = ap g.operator_reading (sym (same_some h))
symbol_operator_is s.Minus f h = ap g.operator_reading (sym (same_some h))
symbol_operator_is s.Less f h = ap g.operator_reading (sym (same_some h))
symbol_operator_is s.Greater f h = ap g.operator_reading (sym (same_some h))
symbol_operator_is s.Equal f h = ap g.operator_reading (sym (same_some h))
symbol_operator_is s.LessEqual f h = ap g.operator_reading (sym (same_some h))
symbol_operator_is s.GreaterEqual f h = ap g.operator_reading (sym (same_some h))
symbol_operator_is s.NotEqual f h = ap g.operator_reading (sym (same_some h))
symbol_operator_is _ f h = absurd (cc)

pub operator_is : (r : Reading) (f : Operator) → operator_of r ≡ Some f → g.operator_reading f ≡ r
operator_is (reading.Symbol x) f h = symbol_operator_is x f h
operator_is (reading.Operator bytes) f h = ap g.operator_reading (sym (same_some h))
operator_is _ f h = absurd (cc)

abbrev pub operator_pieces : Operator → List Piece
operator_pieces f = say (g.operator_reading f) ∷ []

pub operator_took : Spells operator_pieces an_operator
unfolding an_operator
operator_took now next f h =
    let r = reads h in
    subst (λ q. Took (say q ∷ []) now next) (sym (operator_is r.reading f r.is)) (said r.reading now next r.says)

linked_level : (n : ℕ) (o : Option Operator) (rest : Lexemes) (f : Operator) → links_at n o rest ≡ true → o ≡ Some f → g.is_level n (g.chain_level f) ≡ true
linked_level n None rest f h e = absurd (cc)
linked_level n (Some x) rest f h e = ap (λ y. g.is_level n (g.chain_level y)) (sym (same_some e)) ∙ (both (g.is_level n (g.chain_level x)) (not (begins_quantifier rest)) h).0

seen_level : (n : ℕ) (now next : Stream) (f : Operator) → sees_link n now ≡ true → an_operator now ≡ Some (f, next) → g.is_level n (g.chain_level f) ≡ true
unfolding sees_link an_operator
seen_level n now next f b h =
    let r = reads h in
    linked_level n (operator_of r.reading) next.tokens f (sym (ap (λ tokens. begins_link n tokens) r.says.first) ∙ b) r.is

abbrev Levelled : ℕ → Link Expr → Type 0
Levelled n l = g.is_level n (g.chain_level l.operator) ≡ true

link_took : (n : ℕ) (operand : Parser Expr) → Spells (tree (n + 1)) operand → (now next : Stream) (l : Link Expr) → sees_link n now ≡ true → link operand now ≡ Some (l, next) → Took (link_pieces n l) now next × Levelled n l
link_took n operand r now next l b h =
    let one = behind h in
    let two = behind one.second in
    let level = seen_level n now one.mid one.value b one.first in
    let made : Link Expr = record { place = here now; operator = one.value; operand = two.value } in
    let f : Took (say (g.operator_reading one.value) ∷ Piece.part (n + 1) (tree_facts two.value) ∷ []) now two.mid =
    operator_took now one.mid one.value one.first then r one.mid two.mid two.value two.first in
    (given (link_pieces n) two.second (needed level (at_here (omega arith) f)), subst (Levelled n) (ap (λ (pair : Link Expr × Stream). pair.0) (same_some two.second)) level)

level_is : (n : ℕ) (o : Option ℕ) → g.is_level n o ≡ true → g.or_none o ≡ n
level_is n None h = absurd (cc)
level_is n (Some m) h = eqb-true m n h

pub takes_operation : (n : ℕ) (operand : Parser Expr) → Spells (tree (n + 1)) operand → Spells (tree n) (operation n operand)
unfolding operation
takes_operation n operand r = takes_chain n link_place (link_pieces n) (Levelled n) (sees_link n) (link operand) (record {
  takes = link_took n operand r;
  placed = λ l rest now next a. a.0;
  one = λ l. omega arith;
}) e.Operation (record { steps = λ x l links place. length (map link_facts (l ∷ links)); facts = λ x l links place k. operation_facts x l links place n (level_is n (g.chain_level l.operator) k) }) operand r

-- ---- signs and NOT

sign_is : (r : Reading) (place : Place) (l : Sign) → sign_of r place ≡ Some l → (reading.Symbol (if l.is_minus then s.Minus else s.Plus) ≡ r) × (l.place ≡ place)
sign_is (reading.Symbol s.Minus) place l h = let e = same_some h in (ap (λ (z : Sign). reading.Symbol (if z.is_minus then s.Minus else s.Plus)) (sym e), ap (λ (z : Sign). z.place) (sym e))
sign_is (reading.Symbol s.Plus) place l h = let e = same_some h in (ap (λ (z : Sign). reading.Symbol (if z.is_minus then s.Minus else s.Plus)) (sym e), ap (λ (z : Sign). z.place) (sym e))
sign_is (reading.Symbol _) place l h = absurd (cc)
sign_is _ place l h = absurd (cc)

sign_took : Spells g.sign sign
unfolding sign
sign_took now next l h =
    let r = reads h in
    let k = sign_is r.reading r.says.place l r.is in
    at_place (λ lexed. placed_first r.reading l.place now next r.says k.1) (subst (λ y. Took (say y ∷ []) now next) (sym k.0) (said r.reading now next r.says))

pub takes_signed : (operand : Parser Expr) → Spells (tree 13) operand → Spells (tree 12) (signed operand)
unfolding signed
takes_signed operand r = takes_prefix 12 sign_place g.sign Plain sees_sign sign (record {
  takes = λ now next l b h. (sign_took now next l h, tt);
  placed = λ l rest now next a. a.0;
  one = λ l. omega arith;
}) e.Signed (record { steps = λ x l marks place. length (l ∷ marks); facts = λ x l marks place k. q.facts-signed (l ∷ marks) x place }) operand r

negation_took : Spells g.negation negation
unfolding negation
negation_took now next l h =
    let one = behind h in
    given g.negation one.second (at_here (omega arith) (expected one.first))

pub takes_negated : (operand : Parser Expr) → Spells (tree 3) operand → Spells (tree 2) (negated operand)
unfolding negated
takes_negated operand r = takes_prefix 2 (λ place. place) g.negation Plain (sees s.Not) negation (record {
  takes = λ now next l b h. (negation_took now next l h, tt);
  placed = λ l rest now next a. a.0;
  one = λ l. omega arith;
}) e.Not (record { steps = λ x l marks place. length (l ∷ marks); facts = λ x l marks place k. q.facts-not (l ∷ marks) x place }) operand r
