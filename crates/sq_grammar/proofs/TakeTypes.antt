-- The types that are read are spelled by the tokens.
use Rattle.std.proofs.Common.{◌≡◌, ℕ, arith, Bool, true, false, List, [], ◌∷◌, ◌++◌, Some, refl, sym, ap, subst, inl, inr}
use Rattle.std.specs.Prelude.{◌&&◌, if◌then◌else◌, flat_map}
use Rattle.std.proofs.lemmas.Option.{some_pair_parts}
use Rattle.std.proofs.lemmas.List.Folds.{flat_map-map}
use Rattle.sq_base.specs.declared.place.Place.{Place}
use Rattle.sq_syntax.specs.declared.symbol.Symbol.{Symbol}
use Rattle.sq_syntax.specs.declared.symbol.Symbol.TheVariants as s
use Rattle.sq_syntax.specs.declared.symbol.Reading.{Reading}
use Rattle.sq_syntax.specs.declared.symbol.Reading.TheVariants as reading
use Rattle.sq_syntax.specs.declared.name.TypeWord.{TypeWord}
use Rattle.sq_syntax.specs.declared.name.TypeWord.TheVariants as type_word
use Rattle.sq_syntax.specs.declared.name.TimeZone.{TimeZone}
use Rattle.sq_syntax.specs.declared.name.TimeZone.TheVariants as zone
use Rattle.sq_syntax.specs.declared.name.TypeName.{TypeName}
use Rattle.sq_syntax.specs.Facts.{Stream, Piece}
use Rattle.sq_syntax.specs.Pieces as p
use Rattle.sq_syntax.specs.Pieces.{say, at, sym as word}
use Rattle.sq_grammar.specs.Reading.{begins_both, sees, pure, fail, here}
use Rattle.sq_grammar.specs.Names.{digits_of, digits, number_of, number, next_number, numbers, size, zone_words, time_zone, square_number, square, two_words, type_words, type}
use Rattle.sq_grammar.proofs.Complete.{same_some}
use Rattle.sq_grammar.proofs.Takes.{Took, Spells, ◌then◌, none, said, reads, expected, behind, chosen, found, given, at_here, needed}
use Rattle.sq_grammar.proofs.TakeLists.{items_took}
use Rattle.sq_grammar.proofs.TakeNames.{qualified_name_took}

-- ---- numbers in brackets

number_is : (r : Reading) (place : Place) (bytes : List ℕ) → number_of r place ≡ Some bytes → r ≡ reading.Number bytes
number_is (reading.Number bytes) place found h = ap (λ b. reading.Number b) (same_some h)
number_is _ place bytes h = absurd (cc)

abbrev pub number_pieces : List ℕ → List Piece
number_pieces n = say (reading.Number n) ∷ []

pub number_took : Spells number_pieces number
unfolding number
number_took now next n h =
    let r = reads h in
    subst (λ q. Took (say q ∷ []) now next) (number_is r.reading r.says.place n r.is) (said r.reading now next r.says)

comma_took : Spells (λ n. word s.Comma ∷ number_pieces n) next_number
unfolding next_number
comma_took now next n h = let one = behind h in expected one.first then number_took one.mid next n one.second

listed_numbers : (n : List ℕ) (ns : List (List ℕ)) → p.size (n ∷ ns) ≡ word s.Open ∷ number_pieces n ++ flat_map (λ m. word s.Comma ∷ number_pieces m) ns ++ word s.Close ∷ []
listed_numbers n ns = ap (λ ps. word s.Open ∷ number_pieces n ++ ps ++ word s.Close ∷ []) (flat_map-map (λ item. word s.Comma ∷ item) number_pieces ns)

numbers_took : Spells p.size numbers
unfolding numbers
numbers_took now next ns h =
    let one = behind h in
    let two = behind one.second in
    let three = behind two.second in
    let four = behind three.second in
    let n = two.value in
    let more = items_took (sees s.Comma) next_number (λ m. word s.Comma ∷ number_pieces m) comma_took two.mid three.mid three.value three.first in
    let f : Took (word s.Open ∷ number_pieces n ++ flat_map (λ m. word s.Comma ∷ number_pieces m) three.value ++ word s.Close ∷ []) now four.mid =
    expected one.first then (number_took one.mid two.mid n two.first then more) then expected four.first in
    given p.size four.second (subst (λ ps. Took ps now four.mid) (sym (listed_numbers n three.value)) f)

pub size_took : Spells p.size size
unfolding size
size_took now next ns h = elim (chosen {b = sees s.Open now} h) [
  | inl (b, e) ↦ numbers_took now next ns e
  | inr (b, e) ↦ given p.size e (none now)
]

-- ---- time zones

zone_words_took : (k : Symbol) (z : TimeZone) → p.time_zone z ≡ word k ∷ word s.Time ∷ word s.Zone ∷ [] → Spells p.time_zone (zone_words k z)
zone_words_took k z e now next y h =
    let one = behind h in
    let two = behind one.second in
    let three = behind two.second in
    let f : Took (word k ∷ word s.Time ∷ word s.Zone ∷ []) now three.mid = expected one.first then expected two.first then expected three.first in
    given p.time_zone three.second (subst (λ ps. Took ps now three.mid) (sym e) f)

pub time_zone_took : Spells p.time_zone time_zone
unfolding time_zone
time_zone_took now next z h = elim (chosen {b = sees s.With now} h) [
  | inl (b, e) ↦ zone_words_took s.With zone.With refl now next z e
  | inr (b, e) ↦ elim (chosen {b = sees s.Without now} e) [
    | inl (c, k) ↦ zone_words_took s.Without zone.Without refl now next z k
    | inr (c, k) ↦ given p.time_zone k (none now)
  ]
]

-- ---- arrays

digits_pieces : List ℕ → List Piece
digits_pieces n = word s.OpenSquare ∷ say (reading.Number n) ∷ word s.CloseSquare ∷ []

digits_is : (r : Reading) (place : Place) (bytes : List ℕ) → digits_of r place ≡ Some bytes → (r ≡ reading.Number bytes) × (p.array bytes ≡ word s.OpenSquare ∷ say (reading.Number bytes) ∷ word s.CloseSquare ∷ [])
digits_is (reading.Number (n ∷ ns)) place bytes h = let e = same_some h in (ap (λ b. reading.Number b) e, subst (λ b. p.array b ≡ word s.OpenSquare ∷ say (reading.Number b) ∷ word s.CloseSquare ∷ []) e refl)
digits_is (reading.Number []) place bytes h = absurd (cc)
digits_is (reading.Symbol x) place bytes h = absurd (cc)
digits_is _ place bytes h = absurd (cc)

square_number_took : (start now next : Stream) (n : List ℕ) → Took (word s.OpenSquare ∷ []) start now → square_number now ≡ Some (n, next) → Took (p.array n) start next
unfolding digits
square_number_took start now next n f h =
    let one = behind h in
    let two = behind one.second in
    let r = reads one.first in
    let m = one.value in
    let d = digits_is r.reading r.says.place m r.is in
    let number = subst (λ q. Took (say q ∷ []) now one.mid) d.0 (said r.reading now one.mid r.says) in
    let all : Took (word s.OpenSquare ∷ say (reading.Number m) ∷ word s.CloseSquare ∷ []) start two.mid = f then number then expected two.first in
    given p.array two.second (subst (λ ps. Took ps start two.mid) (sym d.1) all)

pub square_took : Spells p.array square
unfolding square
square_took now next n h =
    let one = behind h in
    let f : Took (word s.OpenSquare ∷ []) now one.mid = expected one.first in
    elim (chosen {b = sees s.CloseSquare one.mid} one.second) [
      | inl (b, e) ↦ let two = behind e in given p.array two.second (f then expected two.first)
      | inr (b, e) ↦ square_number_took now one.mid next n f e
    ]

-- ---- words

two_words_took : (a b : Symbol) (made : Place → TypeWord) → ((place : Place) → p.type_words (made place) ≡ at place ∷ word a ∷ word b ∷ []) → Spells p.type_words (two_words a b made)
two_words_took a b made e now next x h =
    let one = behind h in
    let two = behind one.second in
    let f : Took (word a ∷ word b ∷ []) now two.mid = expected one.first then expected two.first in
    given p.type_words two.second (subst (λ ps. Took ps now two.mid) (sym (e (here now))) (at_here (omega arith) f))

pub type_words_took : Spells p.type_words type_words
unfolding type_words
type_words_took now next x h = elim (chosen {b = begins_both s.Double s.Precision now.tokens} h) [
  | inl (b, e) ↦ two_words_took s.Double s.Precision type_word.DoublePrecision (λ place. refl) now next x e
  | inr (b, e) ↦ elim (chosen {b = begins_both s.Character s.Varying now.tokens} e) [
    | inl (c, k) ↦ two_words_took s.Character s.Varying type_word.CharacterVarying (λ place. refl) now next x k
    | inr (c, k) ↦ let one = behind k in given p.type_words one.second (qualified_name_took now one.mid one.value one.first)
  ]
]

-- ---- types

if_fitting : (b : Bool) (x y : TypeName) (mid next : Stream) → (if b then pure x else fail) mid ≡ found y next → (b ≡ true) × (x ≡ y) × (mid ≡ next)
if_fitting true x y mid next h = let e = some_pair_parts x y mid next h in (refl, e.0, e.1)
if_fitting false x y mid next h = absurd (cc)

pub type_took : Spells p.type type
unfolding type
type_took now next x h =
    let one = behind h in
    let two = behind one.second in
    let three = behind two.second in
    let four = behind three.second in
    let y : TypeName = record { word = one.value; size = two.value; zone = three.value; arrays = four.value } in
    let e = if_fitting (p.size_fits (p.plain_type y.word) y.size && p.zone_fits (p.plain_type y.word) y.zone) y x four.mid next four.second in
    let parts : Took (p.type_words y.word ++ p.size y.size ++ p.time_zone y.zone ++ flat_map p.array y.arrays) now four.mid =
    ((type_words_took now one.mid one.value one.first then size_took one.mid two.mid two.value two.first) then time_zone_took two.mid three.mid three.value three.first)
    then items_took (sees s.OpenSquare) square p.array square_took three.mid four.mid four.value four.first in
    subst (λ u. Took (p.type x) now u) e.2 (subst (λ z. Took (p.type z) now four.mid) e.1 (needed e.0 parts))
