-- The names that are read are spelled by the tokens.
use Rattle.std.proofs.Common.{◌≡◌, Bool, true, false, [], ◌∷◌, ◌++◌, Option, Some, refl, sym, ap, subst, ◌∙◌, inl, inr}
use Rattle.std.specs.Prelude.{◌&&◌, if◌then◌else◌, not}
use Rattle.std.proofs.lemmas.Option.{some_pair_parts}
use Rattle.sq_base.specs.declared.place.Place.{Place}
use Rattle.sq_syntax.specs.declared.symbol.Symbol.{Symbol}
use Rattle.sq_syntax.specs.declared.symbol.Symbol.TheVariants as s
use Rattle.sq_syntax.specs.declared.symbol.Reading.{Reading}
use Rattle.sq_syntax.specs.declared.symbol.Reading.TheVariants as reading
use Rattle.sq_syntax.specs.declared.name.Identifier.{Identifier}
use Rattle.sq_syntax.specs.declared.name.QualifiedName.{QualifiedName}
use Rattle.sq_syntax.specs.declared.name.ColumnName.{ColumnName}
use Rattle.sq_syntax.specs.Symbols.{text, word_reading, identifier_reading, is_name, among}
use Rattle.sq_syntax.specs.Facts.{Stream, Says, first_place, Piece}
use Rattle.sq_syntax.specs.Pieces as p
use Rattle.sq_syntax.specs.Pieces.{say, at, sym as word}
use Rattle.sq_syntax.specs.ExpressionPieces as g
use Rattle.sq_grammar.specs.Reading.{sees, pure, fail}
use Rattle.sq_grammar.specs.Names.{word_of, only, name, call_name, qualified_name, in_schema, column_name, second_part, third_part}
use Rattle.sq_grammar.proofs.Complete.{same_some}
use Rattle.sq_grammar.proofs.Takes.{Proper, lexed_first, Took, Spells, ◌then◌, Read, reads, expected, behind, chosen, found, given}

-- ---- words

pub word_again : (x : Symbol) → g.is_field_symbol x ≡ true → word_reading (text x) ≡ reading.Symbol x
unfolding word_reading
word_again s.Open h = absurd (cc)
word_again s.Close h = absurd (cc)
word_again s.OpenSquare h = absurd (cc)
word_again s.CloseSquare h = absurd (cc)
word_again s.Comma h = absurd (cc)
word_again s.Semicolon h = absurd (cc)
word_again s.Dot h = absurd (cc)
word_again s.Colons h = absurd (cc)
word_again s.Power h = absurd (cc)
word_again s.Times h = absurd (cc)
word_again s.Divide h = absurd (cc)
word_again s.Modulo h = absurd (cc)
word_again s.Plus h = absurd (cc)
word_again s.Minus h = absurd (cc)
word_again s.Less h = absurd (cc)
word_again s.Greater h = absurd (cc)
word_again s.Equal h = absurd (cc)
word_again s.LessEqual h = absurd (cc)
word_again s.GreaterEqual h = absurd (cc)
word_again s.NotEqual h = absurd (cc)
word_again s.Case h = absurd (cc)
word_again s.End h = absurd (cc)
word_again _ h = refl

free_field : (x : Symbol) → g.is_call_reading (reading.Symbol x) ≡ true → g.is_field_symbol x ≡ true
free_field s.Open h = absurd (cc)
free_field s.Close h = absurd (cc)
free_field s.OpenSquare h = absurd (cc)
free_field s.CloseSquare h = absurd (cc)
free_field s.Comma h = absurd (cc)
free_field s.Semicolon h = absurd (cc)
free_field s.Dot h = absurd (cc)
free_field s.Colons h = absurd (cc)
free_field s.Power h = absurd (cc)
free_field s.Times h = absurd (cc)
free_field s.Divide h = absurd (cc)
free_field s.Modulo h = absurd (cc)
free_field s.Plus h = absurd (cc)
free_field s.Minus h = absurd (cc)
free_field s.Less h = absurd (cc)
free_field s.Greater h = absurd (cc)
free_field s.Equal h = absurd (cc)
free_field s.LessEqual h = absurd (cc)
free_field s.GreaterEqual h = absurd (cc)
free_field s.NotEqual h = absurd (cc)
free_field s.Case h = absurd (cc)
free_field s.End h = absurd (cc)
free_field _ h = refl

-- a name may stand before a bracket
pub name_calls : (r : Reading) → is_name r ≡ true → g.is_call_reading r ≡ true
name_calls (reading.Symbol s.Left) h = refl
name_calls (reading.Symbol s.Right) h = refl
name_calls (reading.Symbol _) h = h
name_calls _ h = h

-- ---- names

pub only_some : (b : Bool) (o : Option Identifier) (x : Identifier) → only b o ≡ Some x → (b ≡ true) × (o ≡ Some x)
only_some true o x h = (refl, h)
only_some false o x h = absurd (cc)

-- a name is spelled as it was read
pub word_spelled : (r : Reading) (place : Place) (x : Identifier) → g.is_call_reading r ≡ true → word_of r place ≡ Some x → Proper r → (identifier_reading x ≡ r) × (x.place ≡ place)
word_spelled (reading.Symbol y) place x b h proper =
    let e = same_some h in
    (ap (λ z. identifier_reading z) (sym e) ∙ word_again y (free_field y b), ap (λ (z : Identifier). z.place) (sym e))
word_spelled (reading.Word word) place x b h proper =
    let e = same_some h in
    (ap (λ z. identifier_reading z) (sym e) ∙ proper, ap (λ (z : Identifier). z.place) (sym e))
word_spelled (reading.Quoted word) place x b h proper =
    let e = same_some h in
    (ap (λ z. identifier_reading z) (sym e), ap (λ (z : Identifier). z.place) (sym e))
word_spelled _ place x b h proper = absurd (cc)

pub placed_first : (r : Reading) (place : Place) (now next : Stream) (h : Says r now next) → place ≡ h.place → first_place now.tokens ≡ Some place
placed_first r place now next h e = rw (h.first, e) refl

-- a token that was read as a name, under a condition
pub identified : (x : Identifier) (ok : Bool) {f : Reading → Place → Option Identifier} {now next : Stream} (r : Read f x now next)
    → (Proper r.reading → (ok ≡ true) × (identifier_reading x ≡ r.reading) × (x.place ≡ r.says.place)) → Took (Piece.need ok ∷ at x.place ∷ say (identifier_reading x) ∷ []) now next
identified x ok {f} {now} {next} r know = record {
  holds = λ l. let k = know (lexed_first r.reading now next r.says l) in rw k.0 refl;
  along = λ l.
      let k = know (lexed_first r.reading now next r.says l) in
      (placed_first r.reading x.place now next r.says k.2, (next, subst (λ q. Says q now next) (sym k.1) r.says, refl));
}

pub name_took : Spells p.name name
unfolding name
name_took now next x h =
    let r = reads h in
    identified x (is_name (identifier_reading x)) r (λ proper.
    let k = only_some (is_name r.reading) (word_of r.reading r.says.place) x r.is in
    let w = word_spelled r.reading r.says.place x (name_calls r.reading k.0) k.1 proper in
    (ap is_name w.0 ∙ k.0, w.0, w.1))

-- ---- names of several parts

in_schema_took : (x : Identifier) (start now next : Stream) (y : QualifiedName) → Took (p.name x) start now → in_schema x now ≡ Some (y, next) → Took (p.qualified_name y) start next
in_schema_took x start now next y f h =
    let one = behind h in
    let two = behind one.second in
    given p.qualified_name two.second (f then expected one.first then name_took one.mid two.mid two.value two.first)

pub qualified_name_took : Spells p.qualified_name qualified_name
unfolding qualified_name
qualified_name_took now next y h =
    let one = behind h in
    let f = name_took now one.mid one.value one.first in
    elim (chosen {b = sees s.Dot one.mid} one.second) [
      | inl (b, e) ↦ in_schema_took one.value now one.mid next y f e
      | inr (b, e) ↦ given p.qualified_name e f
    ]

third_part_took : (x y : Identifier) (start now next : Stream) (c : ColumnName) → Took (p.name x ++ word s.Dot ∷ p.name y) start now → third_part x y now ≡ Some (c, next) → Took (p.column_name c) start next
third_part_took x y start now next c f h =
    let one = behind h in
    let two = behind one.second in
    given p.column_name two.second (f then expected one.first then name_took one.mid two.mid two.value two.first)

second_part_took : (x : Identifier) (start now next : Stream) (c : ColumnName) → Took (p.name x) start now → second_part x now ≡ Some (c, next) → Took (p.column_name c) start next
second_part_took x start now next c f h =
    let one = behind h in
    let two = behind one.second in
    let front : Took (p.name x ++ word s.Dot ∷ p.name two.value) start two.mid = f then expected one.first then name_took one.mid two.mid two.value two.first in
    elim (chosen {b = sees s.Dot two.mid} two.second) [
      | inl (b, e) ↦ third_part_took x two.value start two.mid next c front e
      | inr (b, e) ↦ given p.column_name e front
    ]

pub column_name_took : Spells p.column_name column_name
unfolding column_name
column_name_took now next c h =
    let one = behind h in
    let f = name_took now one.mid one.value one.first in
    elim (chosen {b = sees s.Dot one.mid} one.second) [
      | inl (b, e) ↦ second_part_took one.value now one.mid next c f e
      | inr (b, e) ↦ given p.column_name e f
    ]

-- ---- the name of a call

if_call_took : (b : Bool) (x y : Identifier) (mid next : Stream) → (if b then fail else pure x) mid ≡ found y next → (b ≡ false) × (x ≡ y) × (mid ≡ next)
if_call_took true x y mid next h = absurd (cc)
if_call_took false x y mid next h = let e = some_pair_parts x y mid next h in (refl, e.0, e.1)

pub call_name_took : Spells g.call_name call_name
unfolding call_name
call_name_took now next y h =
    let one = behind h in
    let x = one.value in
    let r = reads one.first in
    let e = if_call_took (among g.other_calls x.name) x y one.mid next one.second in
    let f = identified x (g.is_call_reading (identifier_reading x) && not (among g.other_calls x.name)) r (λ proper.
    let k = only_some (g.is_call_reading r.reading) (word_of r.reading r.says.place) x r.is in
    let w = word_spelled r.reading r.says.place x k.0 k.1 proper in
    (rw (w.0, k.0, e.0) refl, w.0, w.1)) in
    subst (λ u. Took (g.call_name y) now u) e.2 (subst (λ z. Took (g.call_name z) now one.mid) e.1 f)
