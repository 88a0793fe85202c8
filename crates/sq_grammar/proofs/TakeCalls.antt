-- Calls and the items of ORDER BY: what is read is spelled by the tokens.
use Rattle.std.proofs.Common.{◌≡◌, Bool, true, false, List, [], ◌∷◌, ◌++◌, Option, Some, refl, sym, ap, subst, arith, map, inl, inr}
use Rattle.std.specs.Prelude.{not, ◌||◌, if◌then◌else◌, option_map}
use Rattle.sq_base.specs.declared.place.Place.{Place}
use Rattle.sq_syntax.specs.declared.symbol.Symbol.TheVariants as s
use Rattle.sq_syntax.specs.declared.symbol.Reading.{Reading}
use Rattle.sq_syntax.specs.declared.symbol.Reading.TheVariants as reading
use Rattle.sq_syntax.specs.declared.name.Identifier.{Identifier}
use Rattle.sq_syntax.specs.declared.expr.Arguments.{Arguments}
use Rattle.sq_syntax.specs.declared.expr.Nulls.{Nulls}
use Rattle.sq_syntax.specs.declared.expr.Sort.{Sort as SortItem}
use Rattle.sq_syntax.specs.declared.expr.Expression.TheVariants as e
use Rattle.sq_syntax.specs.declared.query.Query.{Query}
use Rattle.sq_syntax.specs.Symbols.{among}
use Rattle.sq_syntax.specs.Facts.{Stream, Piece, Sort}
use Rattle.sq_syntax.specs.Pieces as p
use Rattle.sq_syntax.specs.Pieces.{say, sym as word}
use Rattle.sq_syntax.specs.ExpressionPieces as g
use Rattle.sq_grammar.specs.Reading.{Parser, sees, here, node, fail}
use Rattle.sq_grammar.specs.Ahead.{is_some}
use Rattle.sq_grammar.specs.Levels.{Expr}
use Rattle.sq_grammar.specs.Primaries.{direction_of, nulls_word, nulls_of, sort, next_sort, order_items, order, argument_list, within_call, filter, call}
use Rattle.sq_grammar.proofs.Complete.{same_some}
use Rattle.sq_grammar.proofs.Lists.{facts_of}
use Rattle.sq_grammar.proofs.Sorts.{sort_facts, sort_pieces, comma_sort, sorts_pieces, order_pieces, argument_facts}
use Rattle.sq_grammar.proofs.Calls.{asks_again, some_again}
use Rattle.sq_grammar.proofs.ReadPrimaries.{call_facts}
use Rattle.sq_grammar.proofs.Takes.{Took, Spells, tree, ◌then◌, none, said, reads, expected, behind, chosen, given, needed}
use Rattle.sq_grammar.proofs.TakeLists.{items_took}
use Rattle.sq_grammar.proofs.TakeNames.{call_name_took}
use Rattle.sq_grammar.proofs.TakeAffixes.{optional_took, list_took}
use Rattle.sq_grammar.proofs.TakeSimple.{primary_took}

-- what was read under a condition
pub held : {A : Type 0} (b : Bool) (p : Parser A) (now : Stream) (y : A × Stream) → (if b then p else fail) now ≡ Some y → (b ≡ true) × (p now ≡ Some y)
held true p now y h = (refl, h)
held false p now y h = absurd (cc)

-- the arguments of a call, and its pieces
abbrev pub arguments_of : Arguments Expr → List Piece
arguments_of x = g.argument_pieces (argument_facts x)

abbrev pub filter_of : Option Expr → List Piece
filter_of x = g.filter (option_map facts_of x)

abbrev pub order_of : List (SortItem Expr) → List Piece
order_of xs = g.order (map sort_facts xs)

module _ (nested : Parser Expr) (inner : Parser Query) (n : Spells (tree 0) nested) where
  -- ---- items of ORDER BY

  direction_took : Spells g.sort_direction (direction_of nested inner)
  direction_took now next x h = elim (chosen {b = sees s.Asc now} h) [
    | inl (b, k) ↦ let one = behind k in given g.sort_direction one.second (expected one.first)
    | inr (b, k) ↦ elim (chosen {b = sees s.Desc now} k) [
      | inl (c, l) ↦ let one = behind l in given g.sort_direction one.second (expected one.first)
      | inr (c, l) ↦ given g.sort_direction l (none now)
    ]
  ]

  nulls_is : (r : Reading) (place : Place) (x : Nulls) → nulls_word nested inner r place ≡ Some x → g.sort_nulls x ≡ word s.Nulls ∷ say r ∷ []
  nulls_is (reading.Symbol s.First) place x h = ap g.sort_nulls (sym (same_some h))
  nulls_is (reading.Symbol s.Last) place x h = ap g.sort_nulls (sym (same_some h))
  nulls_is (reading.Symbol _) place x h = absurd (cc)
  nulls_is _ place x h = absurd (cc)

  nulls_took : Spells g.sort_nulls (nulls_of nested inner)
  nulls_took now next x h = elim (chosen {b = sees s.Nulls now} h) [
    | inl (b, k) ↦
        let one = behind k in
        let r = reads {f = nulls_word nested inner} one.second in
        let f : Took (word s.Nulls ∷ say r.reading ∷ []) now next = expected one.first then said r.reading one.mid next r.says in
        subst (λ ps. Took ps now next) (sym (nulls_is r.reading r.says.place x r.is)) f
    | inr (b, k) ↦ given g.sort_nulls k (none now)
  ]

  pub sort_took : Spells sort_pieces (sort nested inner)
  unfolding sort
  sort_took now next x h =
      let one = behind h in
      let two = behind one.second in
      let three = behind two.second in
      given sort_pieces three.second ((n now one.mid one.value one.first then direction_took one.mid two.mid two.value two.first) then nulls_took two.mid three.mid three.value three.first)

  comma_sort_took : Spells comma_sort (next_sort nested inner)
  comma_sort_took now next x h = let one = behind h in expected one.first then sort_took one.mid next x one.second

  order_items_took : Spells order_of (order_items nested inner)
  unfolding order_items
  order_items_took now next xs h =
      let one = behind h in
      let two = behind one.second in
      let three = behind two.second in
      let four = behind three.second in
      let x = three.value in
      let f : Took (sorts_pieces x four.value) now four.mid =
      expected one.first then expected two.first then sort_took two.mid three.mid x three.first then items_took (sees s.Comma) (next_sort nested inner) comma_sort comma_sort_took three.mid four.mid four.value four.first in
      given order_of four.second (subst (λ ps. Took ps now four.mid) (sym (order_pieces x four.value)) f)

  pub order_took : Spells order_of (order nested inner)
  unfolding order
  order_took now next xs h = elim (chosen {b = sees s.Order now} h) [
    | inl (b, k) ↦ order_items_took now next xs k
    | inr (b, k) ↦ given order_of k (none now)
  ]

  -- ---- what stands in the brackets of a call

  argument_list_took : (distinct : Bool) (start now next : Stream) (x : Arguments Expr) → Took (p.when distinct s.Distinct) start now → argument_list nested inner distinct now ≡ Some (x, next) → Took (arguments_of x) start next
  argument_list_took distinct start now next x f h =
      let one = behind h in
      let two = behind one.second in
      let l = list_took nested inner n now one.mid one.value one.first in
      let items = order_took one.mid two.mid two.value two.first in
      given arguments_of two.second (needed (rw l.some refl) ((f then l.took) then items))

  pub within_took : Spells arguments_of (within_call nested inner)
  unfolding within_call
  within_took now next x h = elim (chosen {b = sees s.Times now} h) [
    | inl (b, k) ↦ let one = behind k in given arguments_of one.second (expected one.first)
    | inr (b, k) ↦ elim (chosen {b = sees s.Close now} k) [
      | inl (c, l) ↦ given arguments_of l (needed refl (none now))
      | inr (c, l) ↦ let one = behind l in argument_list_took one.value now one.mid next x (optional_took s.Distinct now one.mid one.value one.first) one.second
    ]
  ]

  pub filter_took : Spells filter_of (filter nested inner)
  unfolding filter
  filter_took now next x h = elim (chosen {b = sees s.Filter now} h) [
    | inl (b, k) ↦
        let one = behind k in
        let two = behind one.second in
        let three = behind two.second in
        let four = behind three.second in
        let five = behind four.second in
        given filter_of five.second (expected one.first then expected two.first then expected three.first then n three.mid four.mid four.value four.first then expected five.first)
    | inr (b, k) ↦ given filter_of k (none now)
  ]

  -- ---- calls

  abbrev allowed : Identifier → Arguments Expr → Option Expr → Bool
  allowed x inside last = among g.aggregates x.name || not (g.asks_aggregate (argument_facts inside) || g.is_some (option_map facts_of last))

  allowed_again : (x : Identifier) (inside : Arguments Expr) (last : Option Expr) → among g.aggregates x.name || not (g.asks_aggregate inside || is_some last) ≡ true → allowed x inside last ≡ true
  allowed_again x inside last h = rw (asks_again inside, some_again last) h

  pub call_took : Spells (tree 15) (call nested inner)
  unfolding call
  call_took now next x h =
      let one = behind h in
      let two = behind one.second in
      let three = behind two.second in
      let four = behind three.second in
      let five = behind four.second in
      let y = one.value in
      let inside = three.value in
      let last = five.value in
      let k = held (among g.aggregates y.name || not (g.asks_aggregate inside || is_some last)) (node now (here now) (e.Call y inside last)) five.mid (x, next) five.second in
      let fits = allowed_again y inside last k.0 in
      let f = call_name_took now one.mid y one.first then expected two.first then within_took two.mid three.mid inside three.first then expected four.first then filter_took four.mid five.mid last five.first in
      primary_took (e.Call y inside last) Sort.plain (Piece.need (allowed y inside last) ∷ g.call_name y ++ word s.Open ∷ arguments_of inside ++ word s.Close ∷ filter_of last) (omega arith) (call_facts y inside last (here now)) (needed fits f) k.1
