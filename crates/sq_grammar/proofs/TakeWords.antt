-- The words of joins, set operations, locks and the like that are read are spelled by the tokens.
use Rattle.std.proofs.Common.{◌≡◌, Bool, true, false, List, [], ◌∷◌, ◌++◌, Some, refl, sym, subst, inl, inr}
use Rattle.std.specs.Prelude.{if◌then◌else◌, not}
use Rattle.sq_syntax.specs.declared.symbol.Symbol.{Symbol}
use Rattle.sq_syntax.specs.declared.symbol.Symbol.TheVariants as s
use Rattle.sq_syntax.specs.declared.name.Identifier.{Identifier}
use Rattle.sq_syntax.specs.declared.query.JoinKind.{JoinKind}
use Rattle.sq_syntax.specs.declared.query.JoinKind.TheVariants as kind
use Rattle.sq_syntax.specs.Facts.{Stream}
use Rattle.sq_syntax.specs.Pieces as p
use Rattle.sq_syntax.specs.Pieces.{sym as word}
use Rattle.sq_syntax.specs.QueryPieces as f
use Rattle.sq_grammar.specs.Reading.{◌>>◌, choose, pure, sees, expect}
use Rattle.sq_grammar.specs.Queries.{outer, join_words, quantity_word, materialized_words, row_words, strength, waiting, names, lock}
use Rattle.sq_grammar.proofs.Takes.{Took, Spells, ◌then◌, none, expected, behind, chosen, given}
use Rattle.sq_grammar.proofs.TakeAffixes.{optional_took}
use Rattle.sq_grammar.proofs.TakeAliases.{names_took}

-- ---- joins

outer_is : (k : Symbol) (plain long : JoinKind) → f.join_words plain ≡ word k ∷ word s.Join ∷ [] → f.join_words long ≡ word k ∷ word s.Outer ∷ word s.Join ∷ [] → (b : Bool)
    → f.join_words (if b then long else plain) ≡ word k ∷ p.when b s.Outer ++ word s.Join ∷ []
outer_is k plain long short full true = full
outer_is k plain long short full false = short

outer_took : (k : Symbol) (plain long : JoinKind) → f.join_words plain ≡ word k ∷ word s.Join ∷ [] → f.join_words long ≡ word k ∷ word s.Outer ∷ word s.Join ∷ [] → (start now next : Stream) (x : JoinKind) → Took (word k ∷ []) start now
    → outer plain long now ≡ Some (x, next) → Took (f.join_words x) start next
outer_took k plain long short full start now next x first h =
    let one = behind h in
    let two = behind one.second in
    let all : Took (word k ∷ p.when one.value s.Outer ++ word s.Join ∷ []) start two.mid = (first then optional_took s.Outer now one.mid one.value one.first) then expected two.first in
    given f.join_words two.second (subst (λ ps. Took ps start two.mid) (sym (outer_is k plain long short full one.value)) all)

pub join_words_took : Spells f.join_words join_words
unfolding join_words
join_words_took now next x h = elim (chosen {b = sees s.Inner now} h) [
  | inl (b, k) ↦
      let one = behind k in
      let two = behind one.second in
      given f.join_words two.second (expected one.first then expected two.first)
  | inr (b, k) ↦ elim (chosen {b = sees s.Left now} k) [
    | inl (c, l) ↦ let one = behind l in outer_took s.Left kind.Left kind.LeftOuter refl refl now one.mid next x (expected one.first) one.second
    | inr (c, l) ↦ elim (chosen {b = sees s.Right now} l) [
      | inl (d, m) ↦ let one = behind m in outer_took s.Right kind.Right kind.RightOuter refl refl now one.mid next x (expected one.first) one.second
      | inr (d, m) ↦ elim (chosen {b = sees s.Full now} m) [
        | inl (e, o) ↦ let one = behind o in outer_took s.Full kind.Full kind.FullOuter refl refl now one.mid next x (expected one.first) one.second
        | inr (e, o) ↦ let one = behind o in given f.join_words one.second (expected one.first)
      ]
    ]
  ]
]

-- ---- single words

pub quantity_took : Spells f.quantity_words quantity_word
unfolding quantity_word
quantity_took now next x h = elim (chosen {b = sees s.All now} h) [
  | inl (b, k) ↦ let one = behind k in given f.quantity_words one.second (expected one.first)
  | inr (b, k) ↦ elim (chosen {b = sees s.Distinct now} k) [
    | inl (c, l) ↦ let one = behind l in given f.quantity_words one.second (expected one.first)
    | inr (c, l) ↦ given f.quantity_words l (none now)
  ]
]

pub materialized_took : Spells f.materialized_words materialized_words
unfolding materialized_words
materialized_took now next x h = elim (chosen {b = sees s.Materialized now} h) [
  | inl (b, k) ↦ let one = behind k in given f.materialized_words one.second (expected one.first)
  | inr (b, k) ↦ elim (chosen {b = sees s.Not now} k) [
    | inl (c, l) ↦
        let one = behind l in
        let two = behind one.second in
        given f.materialized_words two.second (expected one.first then expected two.first)
    | inr (c, l) ↦ given f.materialized_words l (none now)
  ]
]

pub row_words_took : Spells f.row_words row_words
unfolding row_words
row_words_took now next x h = elim (chosen {b = sees s.Row now} h) [
  | inl (b, k) ↦ let one = behind k in given f.row_words one.second (expected one.first)
  | inr (b, k) ↦ elim (chosen {b = sees s.Rows now} k) [
    | inl (c, l) ↦ let one = behind l in given f.row_words one.second (expected one.first)
    | inr (c, l) ↦ given f.row_words l (none now)
  ]
]

-- ---- locks

strength_took : Spells f.strength_words strength
unfolding strength
strength_took now next x h = elim (chosen {b = sees s.Update now} h) [
  | inl (b, k) ↦ let one = behind k in given f.strength_words one.second (expected one.first)
  | inr (b, k) ↦ elim (chosen {b = sees s.No now} k) [
    | inl (c, l) ↦
        let one = behind l in
        let two = behind one.second in
        let three = behind two.second in
        given f.strength_words three.second (expected one.first then expected two.first then expected three.first)
    | inr (c, l) ↦ elim (chosen {b = sees s.Share now} l) [
      | inl (d, m) ↦ let one = behind m in given f.strength_words one.second (expected one.first)
      | inr (d, m) ↦
          let one = behind m in
          let two = behind one.second in
          given f.strength_words two.second (expected one.first then expected two.first)
    ]
  ]
]

waiting_took : Spells f.waiting_words waiting
unfolding waiting
waiting_took now next x h = elim (chosen {b = sees s.NoWait now} h) [
  | inl (b, k) ↦ let one = behind k in given f.waiting_words one.second (expected one.first)
  | inr (b, k) ↦ elim (chosen {b = sees s.Skip now} k) [
    | inl (c, l) ↦
        let one = behind l in
        let two = behind one.second in
        given f.waiting_words two.second (expected one.first then expected two.first)
    | inr (c, l) ↦ given f.waiting_words l (none now)
  ]
]

some_locked : (xs : List Identifier) (now next : Stream) → not (p.is_empty xs) ≡ true → Took (word s.Of ∷ p.names xs) now next → Took (f.lock_names xs) now next
some_locked [] now next some took = absurd (cc)
some_locked (x ∷ xs) now next some took = took

lock_names_took : Spells f.lock_names (choose (sees s.Of) (expect s.Of >> names) (pure []))
lock_names_took now next xs h = elim (chosen {b = sees s.Of now} h) [
  | inl (b, k) ↦
      let one = behind k in
      let l = names_took one.mid next xs one.second in
      some_locked xs now next l.some (expected one.first then l.took)
  | inr (b, k) ↦ given f.lock_names k (none now)
]

pub lock_took : Spells f.lock lock
unfolding lock
lock_took now next x h =
    let one = behind h in
    let two = behind one.second in
    let three = behind two.second in
    let four = behind three.second in
    given f.lock four.second (((expected one.first then strength_took one.mid two.mid two.value two.first) then lock_names_took two.mid three.mid three.value three.first) then waiting_took three.mid four.mid four.value four.first)
