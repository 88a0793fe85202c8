-- The schema statements that are read are spelled by the tokens.
use Rattle.std.proofs.Common.{List, [], ◌∷◌, None, map, inl, inr}
use Rattle.std.specs.Prelude.{codes}
use Rattle.sq_syntax.specs.declared.symbol.Symbol.TheVariants as s
use Rattle.sq_syntax.specs.declared.ddl.Dropped.{Dropped}
use Rattle.sq_syntax.specs.Facts.{Piece}
use Rattle.sq_syntax.specs.Pieces as p
use Rattle.sq_syntax.specs.Pieces.{sym as word}
use Rattle.sq_syntax.specs.Schemas as z
use Rattle.sq_syntax.specs.Schemas.{ddl_facts}
use Rattle.sq_grammar.specs.Reading.{pure, choose, sees}
use Rattle.sq_grammar.specs.Names.{name, qualified_name}
use Rattle.sq_grammar.specs.Primaries.{a_text}
use Rattle.sq_grammar.specs.Statements.{sees_word, listed}
use Rattle.sq_grammar.specs.Schemas.{some_owner, create_schema, element, create_table, create_type, create_domain, drop_schema, dropped_kind, drop_named}
use Rattle.sq_grammar.proofs.Takes.{Spells, ◌then◌, none, expected, behind, chosen, given, needed}
use Rattle.sq_grammar.proofs.TakeNames.{name_took, qualified_name_took}
use Rattle.sq_grammar.proofs.TakeTypes.{type_took}
use Rattle.sq_grammar.proofs.TakeSimple.{text_took}
use Rattle.sq_grammar.proofs.TakeAffixes.{optional_took}
use Rattle.sq_grammar.proofs.KeyWords.{word_expected}
use Rattle.sq_grammar.proofs.CommaLists.{listed_took}
use Rattle.sq_grammar.proofs.TakeSchemas.{optional_word_took, if_exists_took, if_not_exists_took, behavior_took, constraints_took}
use Rattle.sq_grammar.proofs.TakeTables.{tails_took, element_took}

-- ---- CREATE

owner_took : Spells z.owner (choose (sees_word (codes "authorization")) some_owner (pure None))
owner_took now next x h = elim (chosen {b = sees_word (codes "authorization") now} h) [
  | inl (b, k) ↦
      let one = behind k in
      let two = behind one.second in
      given z.owner two.second (word_expected one.first then name_took one.mid two.mid two.value two.first)
  | inr (b, k) ↦ given z.owner k (none now)
]

pub create_schema_took : Spells z.create_schema create_schema
unfolding create_schema
create_schema_took now next x h =
    let one = behind h in
    let two = behind one.second in
    let three = behind two.second in
    let four = behind three.second in
    let five = behind four.second in
    given z.create_schema five.second
    (((word_expected one.first then word_expected two.first then if_not_exists_took two.mid three.mid three.value three.first) then name_took three.mid four.mid four.value four.first) then owner_took four.mid five.mid five.value five.first)

elements_took : Spells (λ xs. p.listed (map z.element xs)) (choose (sees s.Close) (pure []) (listed element))
elements_took now next xs h = elim (chosen {b = sees s.Close now} h) [
  | inl (b, k) ↦ given (λ ys. p.listed (map z.element ys)) k (none now)
  | inr (b, k) ↦ (listed_took element z.element element_took now next xs k).took
]

pub create_table_took : Spells z.create_table create_table
unfolding create_table
create_table_took now next x h =
    let one = behind h in
    let two = behind one.second in
    let three = behind two.second in
    let four = behind three.second in
    let five = behind four.second in
    let six = behind five.second in
    let seven = behind six.second in
    let eight = behind seven.second in
    let nine = behind eight.second in
    let head = word_expected one.first then optional_word_took (codes "unlogged") one.mid two.mid two.value two.first in
    let words = word_expected three.first then if_not_exists_took three.mid four.mid four.value four.first in
    let inside = expected six.first then elements_took six.mid seven.mid seven.value seven.first in
    let last = expected eight.first then tails_took eight.mid nine.mid nine.value nine.first in
    given z.create_table nine.second ((((head then words) then qualified_name_took four.mid five.mid five.value five.first) then inside) then last)

labels_took : Spells (λ xs. p.listed (map z.label xs)) (choose (sees s.Close) (pure []) (listed a_text))
labels_took now next xs h = elim (chosen {b = sees s.Close now} h) [
  | inl (b, k) ↦ given (λ ys. p.listed (map z.label ys)) k (none now)
  | inr (b, k) ↦ (listed_took a_text z.label text_took now next xs k).took
]

pub create_type_took : Spells z.create_type create_type
unfolding create_type
create_type_took now next x h =
    let one = behind h in
    let two = behind one.second in
    let three = behind two.second in
    let four = behind three.second in
    let five = behind four.second in
    let six = behind five.second in
    let seven = behind six.second in
    let eight = behind seven.second in
    let head = word_expected one.first then word_expected two.first then qualified_name_took two.mid three.mid three.value three.first in
    let inside = expected four.first then word_expected five.first then expected six.first then labels_took six.mid seven.mid seven.value seven.first in
    given z.create_type eight.second ((head then inside) then expected eight.first)

pub create_domain_took : Spells z.create_domain create_domain
unfolding create_domain
create_domain_took now next x h =
    let one = behind h in
    let two = behind one.second in
    let three = behind two.second in
    let four = behind three.second in
    let five = behind four.second in
    let six = behind five.second in
    let head = word_expected one.first then word_expected two.first then qualified_name_took two.mid three.mid three.value three.first in
    given z.create_domain six.second (((head then optional_took s.As three.mid four.mid four.value four.first) then type_took four.mid five.mid five.value five.first) then constraints_took five.mid six.mid six.value six.first)

-- ---- DROP

pub drop_schema_took : Spells z.drop_schema drop_schema
unfolding drop_schema
drop_schema_took now next x h =
    let one = behind h in
    let two = behind one.second in
    let three = behind two.second in
    let four = behind three.second in
    let five = behind four.second in
    let l = listed_took name p.name name_took three.mid four.mid four.value four.first in
    let head = word_expected one.first then word_expected two.first then if_exists_took two.mid three.mid three.value three.first in
    given z.drop_schema five.second ((head then needed l.some l.took) then behavior_took four.mid five.mid five.value five.first)

abbrev kind_pieces : Dropped → List Piece
kind_pieces x = z.dropped_word x ∷ []

kind_took : Spells kind_pieces dropped_kind
unfolding dropped_kind
kind_took now next x h = elim (chosen {b = sees_word (codes "table") now} h) [
  | inl (b, k) ↦ let one = behind k in given kind_pieces one.second (word_expected one.first)
  | inr (b, k) ↦ elim (chosen {b = sees_word (codes "type") now} k) [
    | inl (c, l) ↦ let one = behind l in given kind_pieces one.second (word_expected one.first)
    | inr (c, l) ↦ let one = behind l in given kind_pieces one.second (word_expected one.first)
  ]
]

pub drop_named_took : Spells z.drop_named drop_named
unfolding drop_named
drop_named_took now next x h =
    let one = behind h in
    let two = behind one.second in
    let three = behind two.second in
    let four = behind three.second in
    let five = behind four.second in
    let l = listed_took qualified_name p.qualified_name qualified_name_took three.mid four.mid four.value four.first in
    let head = word_expected one.first then kind_took one.mid two.mid two.value two.first then if_exists_took two.mid three.mid three.value three.first in
    given z.drop_named five.second ((head then needed l.some l.took) then behavior_took four.mid five.mid five.value five.first)
